-- Steps of a mesh that is multiplied by a positive number.
use Rattle.std.proofs.Common.{◌≡◌, ℕ, ℤ, pos, ◌*ℤ◌, ◌≤ℤ◌, ◌<ℤ◌, List, map, Contains, ap, sym, subst, ◌∙◌, arith}
use Rattle.std.proofs.lemmas.Int.{ints}
use Rattle.mesh_definitions.specs.Faces.{borders, boundary}
use Rattle.mesh_definitions.specs.Field.{Field}
use Rattle.mesh_definitions.specs.Laws.{WalksBothWays}
use Rattle.mesh_definitions.specs.Mesh.{all_cells}
use Rattle.mesh_definitions.specs.Pieces.{Mesh, same_piece, whole_mesh}
use Rattle.mesh_definitions.specs.declared.Piece.{Piece}
use Rattle.mesh_definitions.specs.declared.Step.{Step}
use Rattle.mesh_laws.proofs.Closed.{outline_falls}
use Rattle.mesh_laws.proofs.Legs.{fall}
use Rattle.mesh_laws.proofs.Listed.{piece_there}
use Rattle.mesh_lines_laws.proofs.Segments.{NotLeft}
use Rattle.plane_geom.specs.Geom.{cross_of, turn_of, winding_number}
use Rattle.plane_geom.specs.declared.Point.{Point}
use Rattle.plane_laws.specs.Borders.{IsPlacement, total}
use Rattle.plane_laws.specs.SumLaws.{BoundarySum}
use Rattle.plane_laws.proofs.Algebra.{mul_nonpos, mul_pos}
use Rattle.plane_laws.proofs.Counts.{count_is}
use Rattle.plane_laws.proofs.Members.{is_in}
use Rattle.plane_laws.proofs.Sums.{total-map}
use Rattle.plane_strips.specs.Rational.{magnified, scaled}
use Rattle.plane_strips.proofs.Scaling.{cross_scaled}
use Rattle.check_laws.specs.Counts.{placed}

-- a step that is walked back lies the other way round, multiplied too
pub placed_back : WalksBothWays → (w : ℤ) (m : Mesh) → IsPlacement (borders m) (placed w m)
placed_back ways w m x c = ap (magnified w) ((ways m).1 x c)

-- what the boundary of a set counts is the sum of what its steps turn
pub count_turns : (w : ℤ) (m : Mesh) (p : Point) (xs : List Step) → winding_number (map (placed w m) xs) p ≡ total (λ s. turn_of (placed w m s) p) xs
count_turns w m p xs = count_is (map (placed w m) xs) p ∙ total-map (λ s. turn_of s p) (placed w m) xs

-- what is not left of a line is not left of it where all is multiplied
pub not_left_scaled : (w : ℤ) → pos 0 <ℤ w → (a b z : Point) → NotLeft a b z → NotLeft (scaled w a) (scaled w b) (scaled w z)
not_left_scaled w w0 a b z h =
    let k = mul_pos w w w0 w0 in
    subst (λ x. x ≤ℤ pos 0) (sym (cross_scaled w w0 a b z)) (mul_nonpos (w *ℤ w) (cross_of a b z) (omega (arith, ints, k)) h)

-- a value of points falls by nothing along the outline of a piece, also where they are multiplied
pub placed_falls : BoundarySum Step Piece → WalksBothWays → (f : Field) (block : ℕ → ℕ → ℕ) (q : Piece) → Contains (whole_mesh f block).pieces q → (w : ℤ) (g : Point → ℤ) →
    total (λ s. fall g (placed w (whole_mesh f block) s)) (boundary (whole_mesh f block) (same_piece q)) ≡ pos 0
placed_falls sum ways f block q there w g =
    let k = piece_there f (all_cells f) q (is_in (whole_mesh f block).pieces q there) in
    outline_falls sum ways f (all_cells f) block (λ z. g (scaled w z)) q k.0 k.1
