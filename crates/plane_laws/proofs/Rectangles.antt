-- The winding number of an upright rectangle.
use Rattle.std.proofs.Common.{◌≡◌, ℤ, pos, ◌+ℤ◌, ◌-ℤ◌, ◌*ℤ◌, neg_ℤ, ◌≤ℤ◌, ◌<ℤ◌, int_le, int_lt, Bool, true, false, cond, ◌&&◌, refl, ap, ◌∙◌, sym, subst, arith}
use Rattle.std.proofs.lemmas.Int.{ints, by_lt_z}
use Rattle.plane_geom.specs.Geom.{cross_of, turn_of, winding_number}
use Rattle.plane_geom.specs.declared.Point.{Point}
use Rattle.plane_laws.specs.Outlines.{seg, outline, rectangle}
use Rattle.plane_laws.proofs.Algebra.{ring, V, Sub, Mul, mul_nonneg, mul_nonpos, mul_neg, mul_pos}
use Rattle.plane_laws.proofs.Counts.{count_is}
use Rattle.plane_laws.proofs.Passing.{above, passes_level, passes_down, passes_up}

abbrev point : ℤ → ℤ → Point
point x y = record { x = x; y = y }

module _ (low high : ℤ) (p : Point) (l : low ≤ℤ high) where
  -- a side that runs north
  northwards : (x : ℤ) → turn_of (seg (point x low) (point x high)) p ≡ cond (int_lt (pos 0) (x -ℤ p.x)) (above p.y low -ℤ above p.y high) (pos 0)
  northwards x =
      let e : cross_of p (point x low) (point x high) ≡ (high -ℤ low) *ℤ (x -ℤ p.x) = ring
      (Sub (Mul (Sub (V x) (V p.x)) (Sub (V high) (V p.y))) (Mul (Sub (V low) (V p.y)) (Sub (V x) (V p.x))))
      (Mul (Sub (V high) (V low)) (Sub (V x) (V p.x))) (omega arith) in
      passes_up p.y low high (x -ℤ p.x) (cross_of p (point x low) (point x high)) l
      (λ n c. subst (λ z. pos 0 <ℤ z) (sym e) (mul_pos (high -ℤ low) (x -ℤ p.x) (omega (arith, ints)) c))
      (λ n c. subst (λ z. z ≤ℤ pos 0) (sym e) (mul_nonpos (high -ℤ low) (x -ℤ p.x) (omega (arith, ints)) c))

  -- a side that runs south
  southwards : (x : ℤ) → turn_of (seg (point x high) (point x low)) p ≡ cond (int_lt (p.x -ℤ x) (pos 0)) (above p.y high -ℤ above p.y low) (pos 0)
  southwards x =
      let e : cross_of p (point x high) (point x low) ≡ (high -ℤ low) *ℤ (p.x -ℤ x) = ring
      (Sub (Mul (Sub (V x) (V p.x)) (Sub (V low) (V p.y))) (Mul (Sub (V high) (V p.y)) (Sub (V x) (V p.x))))
      (Mul (Sub (V high) (V low)) (Sub (V p.x) (V x))) (omega arith) in
      passes_down p.y high low (p.x -ℤ x) (cross_of p (point x high) (point x low)) l
      (λ n c. subst (λ z. z <ℤ pos 0) (sym e) (mul_neg (high -ℤ low) (p.x -ℤ x) (omega (arith, ints)) c))
      (λ n c. subst (λ z. pos 0 ≤ℤ z) (sym e) (mul_nonneg (high -ℤ low) (p.x -ℤ x) (omega (arith, ints)) c))

in_height : (low high y : ℤ) → low ≤ℤ high → above y high -ℤ above y low ≡ cond (int_le low y && int_lt y high) (pos 1) (pos 0)
in_height low high y l = grind (arith, ints)

is_less : (a b : ℤ) → a <ℤ b → int_lt a b ≡ true
is_less a b h = grind (arith, ints)

not_less : (a b : ℤ) → b ≤ℤ a → int_lt a b ≡ false
not_less a b h = grind (arith, ints)

is_up_to : (a b : ℤ) → a ≤ℤ b → int_le a b ≡ true
is_up_to a b h = grind (arith, ints)

not_up_to : (a b : ℤ) → b <ℤ a → int_le a b ≡ false
not_up_to a b h = grind (arith, ints)

in_breadth : (west east x z z' : ℤ) → west ≤ℤ east → z' ≡ neg_ℤ z → cond (int_lt (x -ℤ east) (pos 0)) z (pos 0) +ℤ cond (int_lt (pos 0) (west -ℤ x)) z' (pos 0) ≡ cond (int_le west x && int_lt x east) z (pos 0)
in_breadth west east x z z' l e = by_lt_z x west
    (λ h. both (int_lt x east) (is_less (x -ℤ east) (pos 0) (omega (arith, ints))) (is_less (pos 0) (west -ℤ x) (omega (arith, ints))) (not_up_to west x h))
    (λ h. by_lt_z x east
    (λ k. one (is_less (x -ℤ east) (pos 0) (omega (arith, ints))) (not_less (pos 0) (west -ℤ x) (omega (arith, ints))) (is_up_to west x h) (is_less x east k))
    (λ k. none (not_less (x -ℤ east) (pos 0) (omega (arith, ints))) (not_less (pos 0) (west -ℤ x) (omega (arith, ints))) (is_up_to west x h) (not_less x east k)))
  where
    both : (d : Bool) {a b c : Bool} → a ≡ true → b ≡ true → c ≡ false → cond a z (pos 0) +ℤ cond b z' (pos 0) ≡ cond (c && d) z (pos 0)
    both d f g h = rw (f, g, h) (omega (arith, ints, e))

    one : {a b c d : Bool} → a ≡ true → b ≡ false → c ≡ true → d ≡ true → cond a z (pos 0) +ℤ cond b z' (pos 0) ≡ cond (c && d) z (pos 0)
    one f g h k = rw (f, g, h, k) (omega (arith, ints))

    none : {a b c d : Bool} → a ≡ false → b ≡ false → c ≡ true → d ≡ false → cond a z (pos 0) +ℤ cond b z' (pos 0) ≡ cond (c && d) z (pos 0)
    none f g h k = rw (f, g, h, k) (omega (arith, ints))

in_both : (c d : Bool) → cond c (cond d (pos 1) (pos 0)) (pos 0) ≡ cond (c && d) (pos 1) (pos 0)
in_both true d = refl
in_both false d = refl

sides : (w s e n x y : ℤ) → w ≤ℤ e → s ≤ℤ n →
    cond (int_lt (x -ℤ e) (pos 0)) (above y n -ℤ above y s) (pos 0) +ℤ cond (int_lt (pos 0) (w -ℤ x)) (above y s -ℤ above y n) (pos 0)
    ≡ cond ((int_le w x && int_lt x e) && (int_le s y && int_lt y n)) (pos 1) (pos 0)
sides w s e n x y h k =
    in_breadth w e x (above y n -ℤ above y s) (above y s -ℤ above y n) h (omega (arith, ints))
    ∙ ap (λ z. cond (int_le w x && int_lt x e) z (pos 0)) (in_height s n y k)
    ∙ in_both (int_le w x && int_lt x e) (int_le s y && int_lt y n)

pub rectangle_count : (west south east north : ℤ) (p : Point) → west ≤ℤ east → south ≤ℤ north →
    winding_number (outline (rectangle west south east north)) p ≡ cond ((int_le west p.x && int_lt p.x east) && (int_le south p.y && int_lt p.y north)) (pos 1) (pos 0)
rectangle_count west south east north p h k =
    let top = passes_level p.y north north (cross_of p (point west north) (point east north)) (omega (arith, ints)) in
    let bottom = passes_level p.y south south (cross_of p (point east south) (point west south)) (omega (arith, ints)) in
    let right = southwards south north p k east in
    let left = northwards south north p k west in
    count_is (outline (rectangle west south east north)) p ∙ four _ _ _ _ _ _ top right bottom left ∙ sides west south east north p.x p.y h k
  where
    four : (a b c d u v : ℤ) → a ≡ pos 0 → b ≡ u → c ≡ pos 0 → d ≡ v → a +ℤ (b +ℤ (c +ℤ (d +ℤ pos 0))) ≡ u +ℤ v
    four a b c d u v e f g h = omega (arith, ints)
