-- A triangle of a field lies on the right of its legs, and never on their left too.
use Rattle.std.proofs.Common.{◌≡◌, ℕ, zero, suc, ◌+◌, Bool, true, false, cond, not, Option, Some, None, sym, ap, arith}
use Rattle.mesh_definitions.specs.Mesh.{Walk, has_cell, right_tri}
use Rattle.mesh_definitions.specs.declared.Rect.{Rect}
use Rattle.mesh_definitions.specs.declared.Tri.{Tri}
use Rattle.mesh_definitions.specs.declared.Way.TheVariants.{Across, Down, Slant}
use Rattle.mesh_definitions.specs.declared.Way.{Way}
use Rattle.mesh_laws.proofs.Triangles.{tri, walk}

-- half of a cell, if a rectangle has the cell
abbrev pub half_of : Rect → ℕ → ℕ → Bool → Option Tri
half_of r i j u = cond (has_cell r i j) (Some (tri i j u)) None

pub there : (r : Rect) (i j : ℕ) (u : Bool) → has_cell r i j ≡ true → half_of r i j u ≡ Some (tri i j u)
there r i j u e = ap (λ b. cond b (Some (tri i j u)) None) e

-- back along the southern and down the eastern side of a cell
pub south_side : (r : Rect) (x i j : ℕ) → x ≡ i + 1 → right_tri r (walk Across x j false) ≡ half_of r i j false
south_side r zero i j e = absurd (omega (arith, e))
south_side r (suc x) i j e = let k : x ≡ i = omega (arith, e) in ap (λ n. half_of r n j false) k

pub east_side : (r : Rect) (y i j : ℕ) → y ≡ j + 1 → right_tri r (walk Down i y true) ≡ half_of r i j false
east_side r zero i j e = absurd (omega (arith, e))
east_side r (suc y) i j e = let k : y ≡ j = omega (arith, e) in ap (λ n. half_of r i n false) k

-- ---- the two sides of a link

-- whether an upper half lies on the right of a walked link
abbrev is_upper : Way → Bool → Bool
is_upper Across forward = forward
is_upper Down forward = not forward
is_upper Slant forward = not forward

is_half : (r : Rect) (i j : ℕ) (u : Bool) (t : Tri) → half_of r i j u ≡ Some t → t.upper ≡ u
is_half r i j u t e = by (has_cell r i j) e
  where
    by : (b : Bool) → cond b (Some (tri i j u)) None ≡ Some t → t.upper ≡ u
    by true k = let s : tri i j u ≡ t = cc (k) in sym (ap (λ v. v.upper) s)
    by false k = absurd (cc (k))

right_half : (r : Rect) (way : Way) (i j : ℕ) (forward : Bool) (t : Tri) → right_tri r (walk way i j forward) ≡ Some t → t.upper ≡ is_upper way forward
right_half r Across i j true t e = is_half r i j true t e
right_half r Across zero j false t e = absurd (cc (e))
right_half r Across (suc i) j false t e = is_half r i j false t e
right_half r Down i zero true t e = absurd (cc (e))
right_half r Down i (suc j) true t e = is_half r i j false t e
right_half r Down i j false t e = is_half r i j true t e
right_half r Slant i j true t e = is_half r i j false t e
right_half r Slant i j false t e = is_half r i j true t e

not_both : (way : Way) (forward u : Bool) → u ≡ is_upper way forward → u ≡ is_upper way (not forward) → ⊥
not_both Across true u e k = cc (e, k)
not_both Across false u e k = cc (e, k)
not_both Down true u e k = cc (e, k)
not_both Down false u e k = cc (e, k)
not_both Slant true u e k = cc (e, k)
not_both Slant false u e k = cc (e, k)

-- no triangle lies on both sides of a link
pub one_side : (r : Rect) (w : Walk) (t : Tri) → right_tri r w ≡ Some t → right_tri r (record { link = w.link; forward = not w.forward }) ≡ Some t → ⊥
one_side r w t e k = not_both w.link.way w.forward t.upper (right_half r w.link.way w.link.row w.link.col w.forward t e) (right_half r w.link.way w.link.row w.link.col (not w.forward) t k)
