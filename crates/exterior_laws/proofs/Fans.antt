-- The area sum of the outline of a piece is twice the area of the triangles between its steps and any one point.
use Rattle.std.proofs.Common.{◌≡◌, ℕ, ℤ, pos, ◌+ℤ◌, ◌-ℤ◌, ◌*ℤ◌, neg_ℤ, map, Contains, ap, ◌∙◌, arith}
use Rattle.std.proofs.lemmas.Int.{ints}
use Rattle.mesh_definitions.specs.Faces.{boundary}
use Rattle.mesh_definitions.specs.Field.{Field}
use Rattle.mesh_definitions.specs.Laws.{WalksBothWays}
use Rattle.mesh_definitions.specs.Mesh.{all_cells}
use Rattle.mesh_definitions.specs.Pieces.{same_piece, walked, whole_mesh}
use Rattle.mesh_definitions.specs.Rings.{area_sum}
use Rattle.mesh_definitions.specs.declared.Piece.{Piece}
use Rattle.mesh_definitions.specs.declared.Step.{Step}
use Rattle.mesh_laws.proofs.Closed.{outline_falls}
use Rattle.mesh_laws.proofs.Legs.{fall}
use Rattle.mesh_laws.proofs.Listed.{piece_there}
use Rattle.plane_geom.specs.Geom.{cross_of}
use Rattle.plane_geom.specs.declared.Point.{Point}
use Rattle.plane_geom.specs.declared.Seg.{Seg}
use Rattle.plane_laws.specs.Borders.{total}
use Rattle.plane_laws.specs.SumLaws.{BoundarySum}
use Rattle.plane_laws.proofs.Algebra.{ring, Poly, V, Add, Sub, Mul, Neg}
use Rattle.plane_laws.proofs.Lines.{cross_of_poly}
use Rattle.plane_laws.proofs.Members.{is_in}
use Rattle.plane_laws.proofs.Sums.{total-add, total-map, total_same}

-- a segment's share of an area sum
abbrev pub share : Seg → ℤ
share s = (s.b.x -ℤ s.a.x) *ℤ (s.b.y +ℤ s.a.y)

-- twice the area of the triangle between a segment and a point on its right
abbrev pub slice : Point → Seg → ℤ
slice o s = neg_ℤ (cross_of s.a s.b o)

-- what the two differ by falls from the segment's beginning to its end, so it sums up to nothing all the way round
abbrev excess : Point → Point → ℤ
excess o p = (o.x *ℤ p.y -ℤ p.x *ℤ p.y) -ℤ o.y *ℤ p.x

abbrev excess_poly : Point → Point → Poly
excess_poly o p = Sub (Sub (Mul (V o.x) (V p.y)) (Mul (V p.x) (V p.y))) (Mul (V o.y) (V p.x))

share_is : (o : Point) (s : Seg) → share s ≡ slice o s +ℤ fall (excess o) s
share_is o s = ring (Mul (Sub (V s.b.x) (V s.a.x)) (Add (V s.b.y) (V s.a.y))) (Add (Neg (cross_of_poly s.a s.b o)) (Sub (excess_poly o s.a) (excess_poly o s.b))) (omega arith)

module _ (sum : BoundarySum Step Piece) (ways : WalksBothWays) (f : Field) (block : ℕ → ℕ → ℕ) (q : Piece) (there : Contains (whole_mesh f block).pieces q) (o : Point) where
  -- whatever the point
  pub area_in_slices : area_sum (map (walked (whole_mesh f block)) (boundary (whole_mesh f block) (same_piece q))) ≡ total (λ s. slice o (walked (whole_mesh f block) s)) (boundary (whole_mesh f block) (same_piece q))
  area_in_slices =
      let m = whole_mesh f block in
      let outer = boundary m (same_piece q) in
      let k = piece_there f (all_cells f) q (is_in m.pieces q there) in
      let slices : ℤ = total (λ s. slice o (walked m s)) outer in
      total-map share (walked m) outer
      ∙ (total_same (λ s. share (walked m s)) (λ s. slice o (walked m s) +ℤ fall (excess o) (walked m s)) (λ s. share_is o (walked m s)) outer
      ∙ (total-add (λ s. slice o (walked m s)) (λ s. fall (excess o) (walked m s)) outer
      ∙ (ap (λ z. slices +ℤ z) (outline_falls sum ways f (all_cells f) block (excess o) q k.0 k.1)
      ∙ nothing_more slices)))
    where
      nothing_more : (z : ℤ) → z +ℤ pos 0 ≡ z
      nothing_more z = omega (arith, ints)
