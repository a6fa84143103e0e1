-- The turn of a segment by numbers alone: the heights of its ends and of the point, and the cross product.
use Rattle.std.proofs.Common.{◌≡◌, ℤ, pos, negsuc, ◌-ℤ◌, neg_ℤ, ◌≤ℤ◌, ◌<ℤ◌, int_le, int_lt, cond, ◌&&◌, arith}
use Rattle.std.proofs.lemmas.Int.{ints}

-- whether y is above the height h
abbrev pub above : ℤ → ℤ → ℤ
above h y = cond (int_lt h y) (pos 1) (pos 0)

-- the turn of a segment from the height y to z, at a point of the height h that it passes with the cross product x
abbrev pub passing : ℤ → ℤ → ℤ → ℤ → ℤ
passing h y z x = cond (int_le z h && int_lt h y && int_lt x (pos 0)) (pos 1) (cond (int_le y h && int_lt h z && int_lt (pos 0) x) (negsuc 0) (pos 0))

pub passes_back : (h y z x x' : ℤ) → x' ≡ neg_ℤ x → passing h z y x' ≡ neg_ℤ (passing h y z x)
passes_back h y z x x' e = grind (arith, ints)

pub passes_level : (h y z x : ℤ) → y ≡ z → passing h y z x ≡ pos 0
passes_level h y z x e = grind (arith, ints)

-- down, where c has the sign of x
pub passes_down : (h y z c x : ℤ) → z ≤ℤ y → (z <ℤ y → c <ℤ pos 0 → x <ℤ pos 0) → (z <ℤ y → pos 0 ≤ℤ c → pos 0 ≤ℤ x) → passing h y z x ≡ cond (int_lt c (pos 0)) (above h y -ℤ above h z) (pos 0)
passes_down h y z c x l f g = grind (arith, ints)

-- up, where c has the sign of x
pub passes_up : (h y z c x : ℤ) → y ≤ℤ z → (y <ℤ z → pos 0 <ℤ c → pos 0 <ℤ x) → (y <ℤ z → c ≤ℤ pos 0 → x ≤ℤ pos 0) → passing h y z x ≡ cond (int_lt (pos 0) c) (above h y -ℤ above h z) (pos 0)
passes_up h y z c x l f g = grind (arith, ints)

pub passes_east : (h y z x : ℤ) → (h <ℤ y → z ≤ℤ h → x <ℤ pos 0) → (h <ℤ z → y ≤ℤ h → pos 0 <ℤ x) → passing h y z x ≡ above h y -ℤ above h z
passes_east h y z x f g = grind (arith, ints)

pub passes_west : (h y z x : ℤ) → (h <ℤ y → z ≤ℤ h → pos 0 <ℤ x) → (h <ℤ z → y ≤ℤ h → x <ℤ pos 0) → passing h y z x ≡ pos 0
passes_west h y z x f g = grind (arith, ints)

pub no_rise : (h y z x : ℤ) → x ≤ℤ pos 0 → pos 0 ≤ℤ passing h y z x
no_rise h y z x l = grind (arith, ints)
