-- Area sums of steps.
use Rattle.std.proofs.Common.{◌≡◌, ℤ, pos, ◌+ℤ◌, ◌-ℤ◌, ◌*ℤ◌, neg_ℤ, Bool, cond, List, [], ◌∷◌, map, refl, ap, ap₂, arith}
use Rattle.plane_laws.proofs.Algebra.{ring}
use Rattle.plane_laws.proofs.Algebra.Poly.{V, Add, Sub, Mul, Neg}
use Rattle.mesh_definitions.specs.Rings.{area_sum}
use Rattle.plane_geom.specs.Segments.{turned}
use Rattle.plane_geom.specs.declared.Seg.{Seg}
use Rattle.plane_laws.specs.Borders.{total, part}

-- twice the area below a segment
abbrev pub below : Seg → ℤ
below s = (s.b.x -ℤ s.a.x) *ℤ (s.b.y +ℤ s.a.y)

pub below_turned : (s : Seg) → below (turned s) ≡ neg_ℤ (below s)
below_turned s = ring (Mul (Sub (V s.a.x) (V s.b.x)) (Add (V s.a.y) (V s.b.y))) (Neg (Mul (Sub (V s.b.x) (V s.a.x)) (Add (V s.b.y) (V s.a.y)))) (omega arith)

-- the area sum of steps is the sum of what lies below where they lie
pub area_total : {X : Type 0} (place : X → Seg) (xs : List X) → area_sum (map place xs) ≡ total (λ x. below (place x)) xs
area_total place [] = refl
area_total place (x ∷ xs) = ap (λ z. below (place x) +ℤ z) (area_total place xs)

-- shares of equal values are equal
pub same_part : {Q : Type 0} (f g : Q → ℤ) (F : Q → Bool) (xs : List Q) → ((q : Q) → f q ≡ g q) → part f F xs ≡ part g F xs
same_part f g F [] h = refl
same_part f g F (x ∷ xs) h = ap₂ (λ u v. u +ℤ v) (ap (λ z. cond (F x) z (pos 0)) (h x)) (same_part f g F xs h)
