-- Triangles on both sides of the legs of triangles.
use Rattle.std.proofs.Common.{◌≡◌, ℕ, zero, suc, ◌+◌, ◌<◌, ◌≤◌, Bool, true, false, cond, Some, None, add-one, refl, subst, arith}
use Rattle.std.proofs.lemmas.Bool.Decides.{nat_tests}
use Rattle.mesh_definitions.specs.Mesh.{Walk, has_cell, right_tri}
use Rattle.mesh_definitions.specs.declared.Rect.{Rect}
use Rattle.mesh_definitions.specs.declared.Tri.{Tri}
use Rattle.mesh_definitions.specs.declared.Way.TheVariants.{Across, Down, Slant}
use Rattle.mesh_definitions.specs.declared.Way.{Way}
use Rattle.face_fill.specs.Items.{tri_of, walk_of, leg, turned_walk, beyond}

-- a cell of a rectangle, by its row and column
pub record InRect (r : Rect) (i j : ℕ) : Type 0 where
  pub north : r.row ≤ i
  pub south : i < r.row + r.rows
  pub west : r.col ≤ j
  pub east : j < r.col + r.cols

pub in_rect : (r : Rect) (i j : ℕ) → has_cell r i j ≡ true → InRect r i j
in_rect r i j h = record { north = grind (arith, nat_tests); south = grind (arith, nat_tests); west = grind (arith, nat_tests); east = grind (arith, nat_tests) }

pub has_it : (r : Rect) (i j : ℕ) → InRect r i j → has_cell r i j ≡ true
has_it r i j h = let n = h.north in let s = h.south in let w = h.west in let e = h.east in grind (arith, nat_tests)

-- ---- a leg is one of three

-- what holds of each of the three holds of any leg
pub each_leg : (t : Tri) (P : Walk → Type 0) → P (leg t Slant) → P (leg t Across) → P (leg t Down) → (way : Way) → P (leg t way)
each_leg t P a b c Slant = a
each_leg t P a b c Across = b
each_leg t P a b c Down = c

-- ---- a triangle lies on the right of its legs

on_right : (r : Rect) (i k : ℕ) (u : Bool) → has_cell r i k ≡ true → (j : Way) → right_tri r (leg (tri_of i k u) j) ≡ Some (tri_of i k u)
on_right r i k true h j = each_leg (tri_of i k true) (λ w. right_tri r w ≡ Some (tri_of i k true)) (rw h refl) (rw h refl) (rw h refl) j
on_right r i k false h j = each_leg (tri_of i k false) (λ w. right_tri r w ≡ Some (tri_of i k false)) (rw h refl) (rw add-one (rw h refl)) (rw add-one (rw h refl)) j

pub right_of_leg : (r : Rect) (t : Tri) → has_cell r t.row t.col ≡ true → (j : Way) → right_tri r (leg t j) ≡ Some t
right_of_leg r t h j = on_right r t.row t.col t.upper h j

-- ---- a walk with a triangle on its right is one of its legs

-- the walk is a leg of a triangle of the rectangle, the one that runs a way
pub record IsLeg (r : Rect) (w : Walk) (t : Tri) : Type 0 where
  pub inside : has_cell r t.row t.col ≡ true
  pub way : Way
  pub is : leg t way ≡ w

in_cell : (r : Rect) (i k : ℕ) (u : Bool) (t : Tri) → cond (has_cell r i k) (Some (tri_of i k u)) None ≡ Some t → (has_cell r i k ≡ true) × (tri_of i k u ≡ t)
in_cell r i k u t e = by (has_cell r i k) refl e
  where
    by : (b : Bool) → has_cell r i k ≡ b → cond b (Some (tri_of i k u)) None ≡ Some t → (has_cell r i k ≡ true) × (tri_of i k u ≡ t)
    by true h g = (h, cc)
    by false h g = cc

at_leg : (r : Rect) (i k : ℕ) (u : Bool) (w : Walk) (j : Way) (t : Tri) → leg (tri_of i k u) j ≡ w → cond (has_cell r i k) (Some (tri_of i k u)) None ≡ Some t → IsLeg r w t
at_leg r i k u w j t s e =
    let c = in_cell r i k u t e in
    subst (IsLeg r w) c.1 (record { inside = c.0; way = j; is = s })

pub leg_of_right : (r : Rect) (w : Walk) (t : Tri) → right_tri r w ≡ Some t → IsLeg r w t
leg_of_right r w t e = by w.link.way w.link.row w.link.col w.forward e
  where
    by : (way : Way) (i k : ℕ) (forward : Bool) → right_tri r (walk_of way i k forward) ≡ Some t → IsLeg r (walk_of way i k forward) t
    by Across i k true h = at_leg r i k true (walk_of Across i k true) Across t refl h
    by Across zero k false h = cc
    by Across (suc i) k false h = at_leg r i k false (walk_of Across (suc i) k false) Across t (rw add-one refl) h
    by Down i zero true h = cc
    by Down i (suc k) true h = at_leg r i k false (walk_of Down i (suc k) true) Down t (rw add-one refl) h
    by Down i k false h = at_leg r i k true (walk_of Down i k false) Down t refl h
    by Slant i k true h = at_leg r i k false (walk_of Slant i k true) Slant t refl h
    by Slant i k false h = at_leg r i k true (walk_of Slant i k false) Slant t refl h

-- the triangle beyond a leg has it as a leg too, walked back
pub beyond_is_leg : (r : Rect) (t u : Tri) (j : Way) → beyond r t j ≡ Some u → IsLeg r (turned_walk (leg t j)) u
beyond_is_leg r t u j e = leg_of_right r (turned_walk (leg t j)) u e
