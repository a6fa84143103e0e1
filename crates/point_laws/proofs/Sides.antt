-- What is drawn of a link: all of its parts or none, whatever numbers part the cells.
use Rattle.std.proofs.Common.{◌≡◌, ℕ, Bool, true, false, cond, not, ◌&&◌, eqb, Option, Some, None, refl, sym, ap, ap₂, ◌∙◌, arith}
use Rattle.std.specs.Prelude.{option_map}
use Rattle.std.proofs.lemmas.Bool.Decides.{nat_tests}
use Rattle.std.proofs.lemmas.Bool.{and_parts}
use Rattle.mesh_definitions.specs.Faces.{is_drawn, same_class, same_kind}
use Rattle.mesh_definitions.specs.Field.{Field}
use Rattle.mesh_definitions.specs.Mesh.{all_cells, right_tri, surveyed}
use Rattle.mesh_definitions.specs.Pieces.{piece_at, whole_mesh}
use Rattle.mesh_definitions.specs.declared.Class.TheVariants.{Unsurveyed, Band}
use Rattle.mesh_definitions.specs.declared.Class.{Class}
use Rattle.mesh_definitions.specs.declared.Link.{Link}
use Rattle.mesh_definitions.specs.declared.Sub.TheVariants.{Part}
use Rattle.mesh_definitions.specs.declared.Tri.{Tri}
use Rattle.mesh_laws.proofs.Once.{right_is}
use Rattle.mesh_laws.proofs.Triangles.{IsCell, cell_has, self_num}
use Rattle.plane_geom.specs.declared.Point.{Point}
use Rattle.tri_mesh.specs.Lines.{OnDrawn, is_link_drawn}
use Rattle.tri_mesh.specs.Lines.OnDrawn.{OnLink, OnChord}
use Rattle.point_laws.specs.Lines.{AlikeDrawAlike}
use Rattle.point_laws.specs.Once.{PartAlike}

-- ---- the parts of a link

-- whether the triangles on the sides of a part of a link, seen in its band, are of one kind
abbrev same_sides : Field → (ℕ → ℕ → ℕ) → ℕ → Option Tri → Option Tri → Bool
same_sides f block k a b = same_kind (whole_mesh f block) (option_map (piece_at f k) a) (option_map (piece_at f k) b)

-- the class of a triangle's piece at a part, by whether the triangle is surveyed
abbrev class_by : Bool → ℕ → Class
class_by s k = cond s (Band (cond s k 0)) Unsurveyed

same_classes : (s r : Bool) (k : ℕ) → same_class (class_by s k) (class_by r k) ≡ same_class (class_by s 0) (class_by r 0)
same_classes true true k = self_num k ∙ sym (self_num 0)
same_classes true false k = refl
same_classes false true k = refl
same_classes false false k = refl

-- the band of a part doesn't matter
sides_of_part : (f : Field) (block : ℕ → ℕ → ℕ) (k : ℕ) (a b : Option Tri) → same_sides f block k a b ≡ same_sides f block 0 a b
sides_of_part f block k None None = refl
sides_of_part f block k None (Some u) = refl
sides_of_part f block k (Some t) None = refl
sides_of_part f block k (Some t) (Some u) = ap (λ x. x && eqb (block t.row t.col) (block u.row u.col)) (same_classes (surveyed f t) (surveyed f u) k)

-- a part of a link is drawn just where the link is
pub part_drawn : (f : Field) (block : ℕ → ℕ → ℕ) (l : Link) (k : ℕ) → is_drawn (whole_mesh f block) (Part l k) ≡ is_link_drawn f block l
part_drawn f block l k = ap not (sides_of_part f block k (right_tri (all_cells f) (record { link = l; forward = true })) (right_tri (all_cells f) (record { link = l; forward = false })))

-- ---- two numberings

eq_num : (a b : ℕ) → eqb a b ≡ true → a ≡ b
eq_num a b h = grind (arith, nat_tests)

num_eq : (a b : ℕ) → a ≡ b → eqb a b ≡ true
num_eq a b h = grind (arith, nat_tests)

module _ (f : Field) (block other : ℕ → ℕ → ℕ) (alike : PartAlike f block other) where
  -- what lies on a side is a triangle of a cell of the field, or nothing
  abbrev OfCell : Option Tri → Type 0
  OfCell a = (t : Tri) → a ≡ Some t → IsCell (all_cells f) t.row t.col

  -- triangles that are of one kind by the other numbering are so by the one
  sides_alike : (a b : Option Tri) → OfCell a → OfCell b → same_sides f other 0 a b ≡ true → same_sides f block 0 a b ≡ true
  sides_alike None None p q e = refl
  sides_alike None (Some u) p q e = e
  sides_alike (Some t) None p q e = e
  sides_alike (Some t) (Some u) p q e =
      let classes = same_class (class_by (surveyed f t) 0) (class_by (surveyed f u) 0) in
      let c = and_parts classes (eqb (other t.row t.col) (other u.row u.col)) e in
      let there = cell_has (all_cells f) t.row t.col (p t refl) in
      let beyond = cell_has (all_cells f) u.row u.col (q u refl) in
      let same = (alike t.row t.col u.row u.col there beyond).1 (eq_num (other t.row t.col) (other u.row u.col) c.1) in
      ap₂ (λ x y. x && y) c.0 (num_eq (block t.row t.col) (block u.row u.col) same)

  not_back : (x y : Bool) → (y ≡ true → x ≡ true) → not x ≡ true → not y ≡ true
  not_back x false back e = refl
  not_back x true back e = ap not (sym (back refl)) ∙ e

  of_cell : (l : Link) (forward : Bool) → OfCell (right_tri (all_cells f) (record { link = l; forward = forward }))
  of_cell l forward t e = (right_is (all_cells f) l.way l.row l.col forward t e).cell

  -- a link that the one draws the other draws
  link_alike : (l : Link) → is_link_drawn f block l ≡ true → is_link_drawn f other l ≡ true
  link_alike l e =
      let right = right_tri (all_cells f) (record { link = l; forward = true }) in
      let left = right_tri (all_cells f) (record { link = l; forward = false }) in
      not_back (same_sides f block 0 right left) (same_sides f other 0 right left) (sides_alike right left (of_cell l true) (of_cell l false)) e

  drawn_by : (p : Point) → OnDrawn f block p → OnDrawn f other p
  drawn_by p (OnLink l there d) = OnLink l there (record { drawn = link_alike l d.drawn; on = d.on })
  drawn_by p (OnChord t there on) = OnChord t there on

pub alike_draw_alike : AlikeDrawAlike
alike_draw_alike f block other alike p on = drawn_by f block other alike p on
