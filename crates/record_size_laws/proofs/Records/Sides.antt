-- Each edge borders a face, and no face or block has more edges or longer ones than its border has steps.
use Rattle.std.proofs.Common.{◌≡◌, ℕ, ◌+◌, ◌<◌, ◌≤◌, Bool, false, Option, Some, None, option_map, eqb, List, [], length, refl, sym, ap, ap₂, ◌∙◌, arith, eq-eqb, ne_eqb}
use Rattle.std.specs.List.{All, Contains, sum_by}
use Rattle.std.proofs.lemmas.List.Elements.{All-get_or}
use Rattle.boundary_arcs.specs.Edges.{AreArcsOf, HasSidesBelow, arc_of}
use Rattle.boundary_arcs.specs.declared.arc.Arc.{Arc}
use Rattle.boundary_arcs.specs.declared.arc.Side.TheVariants.{Face, Outside}
use Rattle.boundary_arcs.specs.declared.arc.Side.{Side}
use Rattle.mesh_definitions.specs.Faces.{borders, boundary, steps_of}
use Rattle.mesh_definitions.specs.Field.{Field}
use Rattle.mesh_definitions.specs.Mesh.{all_cells}
use Rattle.mesh_definitions.specs.Pieces.{Mesh, whole_mesh}
use Rattle.mesh_definitions.specs.declared.Piece.{Piece}
use Rattle.mesh_definitions.specs.declared.Sub.{Sub}
use Rattle.face_fill.specs.Numbered.{AreFaces, FacesView, face_in}
use Rattle.record_size_laws.specs.Records.{AreShort}
use Rattle.record_size_laws.proofs.Records.Borders.{one_sided}
use Rattle.record_size_laws.proofs.Records.Traces.{Agrees, arc_on_border, arcs_on_border, sided}
use Rattle.mesh_laws.proofs.Once.{pieces_once}
use Rattle.mesh_laws.proofs.Subs.{step_in}
use Rattle.plane_laws.proofs.Members.{contains, is_in}
use Rattle.plane_laws.specs.Borders.{HasPieces, within}
use Rattle.ring_builder.specs.Parts.{is_set, numbers, owner_on}

-- ---- an edge borders a face

-- a face that an edge borders
pub record Bordered (faces : ℕ) (a : Arc) : Type 0 where
  pub face : ℕ
  pub below : face < faces
  pub alone : sided (λ x. x) face a ≡ 1

-- an edge has different sides, so a face is on one of them alone
bordered : (faces : ℕ) (a : Arc) → HasSidesBelow faces a → Bordered faces a
bordered faces a h = by_sides a.left a.right refl refl
  where
    alone : (k : ℕ) (left right : Side) → a.left ≡ left → a.right ≡ right → one_sided (is_set k (owner_on (λ x. x) right)) (is_set k (owner_on (λ x. x) left)) ≡ 1 → sided (λ x. x) k a ≡ 1
    alone k left right is_left is_right one = ap₂ (λ (r l : Side). one_sided (is_set k (owner_on (λ x. x) r)) (is_set k (owner_on (λ x. x) l))) is_right is_left ∙ one

    not_left : (k : ℕ) (left : Side) → a.left ≡ left → a.right ≡ Face k → is_set k (owner_on (λ x. x) left) ≡ false
    not_left k Outside is_left is_right = refl
    not_left k (Face y) is_left is_right = ne_eqb y k (λ (e : y ≡ k). h.apart (is_left ∙ ap Face e ∙ sym is_right))

    by_sides : (left right : Side) → a.left ≡ left → a.right ≡ right → Bordered faces a
    by_sides left (Face k) is_left is_right = record { face = k; below = h.right k is_right; alone = alone k left (Face k) is_left is_right (ap₂ one_sided (eq-eqb k k refl) (not_left k left is_left is_right)) }
    by_sides (Face k) Outside is_left is_right = record { face = k; below = h.left k is_left; alone = alone k (Face k) Outside is_left is_right (ap (one_sided false) (eq-eqb k k refl)) }
    by_sides Outside Outside is_left is_right = absurd (h.apart (is_left ∙ sym is_right))

-- ---- which pieces a face and a block have

faces_agree : (m : Mesh) (face : Piece → ℕ) (k : ℕ) → Agrees m face (λ x. x) k (λ p. eqb (face p) k)
faces_agree m face k = λ s there. by_piece (m.right_of s)
  where
    by_piece : (o : Option Piece) → within (λ p. eqb (face p) k) o ≡ is_set k (option_map (λ x. x) (option_map face o))
    by_piece None = refl
    by_piece (Some q) = refl

-- both steps along a sub-segment of a mesh are steps of it
step_there : (m : Mesh) (s : Sub) (forward : Bool) → Contains m.subs s → Contains (steps_of m) (record { sub = s; forward = forward })
step_there m s forward h = contains (steps_of m) (record { sub = s; forward = forward }) (step_in m s forward (is_in m.subs s h))

-- where each piece has the set of its face, the pieces of a set are those of its faces
owners_agree : (m : Mesh) (face : Piece → ℕ) (owner : ℕ → ℕ) (set : Piece → ℕ) (k : ℕ) → HasPieces (borders m) m.pieces → ((q : Piece) → Contains m.pieces q → owner (face q) ≡ set q) → Agrees m face owner k (λ p. eqb (set p) k)
owners_agree m face owner set k has same = λ s there. by_piece (m.right_of s) (λ q is. has.sides s q (step_there m s.sub s.forward there) is)
  where
    by_piece : (o : Option Piece) → ((q : Piece) → o ≡ Some q → Contains m.pieces q) → within (λ p. eqb (set p) k) o ≡ is_set k (option_map owner (option_map face o))
    by_piece None inside = refl
    by_piece (Some q) inside = ap (λ x. eqb x k) (sym (same q (inside q refl)))

-- ---- short borders

module _ (f : Field) (block : ℕ → ℕ → ℕ) (blocks : ℕ) (v : FacesView) (arcs : List Arc) (short : AreShort f block blocks v) (are : AreArcsOf (whole_mesh f block) (face_in f v) arcs) where
  abbrev mesh : Mesh
  mesh = whole_mesh f block

  -- no more edges border a face than its border has steps
  pub few_border_faces : (k : ℕ) → k < length v.classes → sum_by (sided (λ face. face) k) arcs ≤ 12000
  few_border_faces k l =
      let few = arcs_on_border mesh (face_in f v) (λ face. face) k (λ p. eqb (face_in f v p) k) (faces_agree mesh (face_in f v) k) arcs are.traces are.each_once are.edges in
      omega (arith, few, short.faces k l)

  -- the same of a block
  pub few_border_blocks : AreFaces f block v → (k : ℕ) → k < blocks → sum_by (sided (numbers v.blocks) k) arcs ≤ 12000
  few_border_blocks faces k l =
      let agree = owners_agree mesh (face_in f v) (numbers v.blocks) (λ p. block p.tri.row p.tri.col) k (pieces_once f (all_cells f) block) faces.blocks in
      let few = arcs_on_border mesh (face_in f v) (numbers v.blocks) k (λ p. eqb (block p.tri.row p.tri.col) k) agree arcs are.traces are.each_once are.edges in
      omega (arith, few, short.outlines k l)

  -- each edge borders a face, so it has a point more at most than that has steps on its border
  pub arcs_short : All (HasSidesBelow (length v.classes)) arcs → (k : ℕ) → k < length arcs → length (arc_of arcs k).points ≤ 12001
  arcs_short sides k l =
      let none : Arc = record { points = []; begin = 0; end = 0; left = Outside; right = Outside } in
      let b = bordered (length v.classes) (arc_of arcs k) (All-get_or (HasSidesBelow (length v.classes)) arcs k none l sides) in
      let along = arc_on_border mesh (face_in f v) (λ face. face) b.face (λ p. eqb (face_in f v p) b.face) (faces_agree mesh (face_in f v) b.face) arcs are.traces are.each_once are.edges in
      let is_short = All-get_or (λ (a : Arc). sided (λ face. face) b.face a ≡ 1 → length a.points ≤ 1 + length (boundary mesh (λ p. eqb (face_in f v p) b.face))) arcs k none l along b.alone in
      omega (arith, is_short, short.faces b.face b.below)
