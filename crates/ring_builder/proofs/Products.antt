-- Products of two numbers of 33 bits, taken at 128 bits.
use Rattle.std.proofs.Common.{◌≡◌, ◌≤◌, ◌^◌, ℤ, ◌*ℤ◌, unsigned_abs, FitsSigned, to_z, of_z, arith, lit<, subst, sym, ap₂, ◌∙◌, mul-le-mul}
use Rattle.std.proofs.lemmas.Int.{fits_signed_mul, fits_signed_from_abs, unsigned_abs-mul, to_z-of_z}
use mir.Syntax.{w128}

back : (z : ℤ) → unsigned_abs z ≤ 2 ^ 66 → to_z w128 (of_z w128 z) ≡ z
back z h = to_z-of_z w128 z (fits_signed_from_abs w128 z (omega arith))

small : (a b : ℤ) → unsigned_abs a ≤ 2 ^ 33 → unsigned_abs b ≤ 2 ^ 33 → unsigned_abs (a *ℤ b) ≤ 2 ^ 66
small a b h k = subst (λ n. n ≤ 2 ^ 66) (sym (unsigned_abs-mul a b)) (mul-le-mul h k)

factors : (a b : ℤ) → unsigned_abs a ≤ 2 ^ 33 → unsigned_abs b ≤ 2 ^ 33 → to_z w128 (of_z w128 a) *ℤ to_z w128 (of_z w128 b) ≡ a *ℤ b
factors a b h k = ap₂ ◌*ℤ◌ (back a (omega arith)) (back b (omega arith))

pub product_fits : (a b : ℤ) → unsigned_abs a ≤ 2 ^ 33 → unsigned_abs b ≤ 2 ^ 33 → FitsSigned w128 (to_z w128 (of_z w128 a) *ℤ to_z w128 (of_z w128 b))
product_fits a b h k = subst (λ z. FitsSigned w128 z) (sym (factors a b h k)) (fits_signed_mul w128 a b (2 ^ 33) (2 ^ 33) h k (lit< tt))

pub product_is : (a b : ℤ) → unsigned_abs a ≤ 2 ^ 33 → unsigned_abs b ≤ 2 ^ 33 → to_z w128 (of_z w128 (to_z w128 (of_z w128 a) *ℤ to_z w128 (of_z w128 b))) ≡ a *ℤ b
product_is a b h k = to_z-of_z w128 _ (product_fits a b h k) ∙ factors a b h k

pub product_small : (a b : ℤ) → unsigned_abs a ≤ 2 ^ 33 → unsigned_abs b ≤ 2 ^ 33 → unsigned_abs (to_z w128 (of_z w128 (to_z w128 (of_z w128 a) *ℤ to_z w128 (of_z w128 b)))) ≤ 2 ^ 66
product_small a b h k = subst (λ z. unsigned_abs z ≤ 2 ^ 66) (sym (product_is a b h k)) (small a b h k)
