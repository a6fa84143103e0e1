-- The definitions on the smallest cases, by computation.
use Rattle.std.proofs.Common.{◌≡◌, ℕ, ℤ, pos, Bool, true, false, not, cond, eqb, Some, None, List, [], ◌∷◌, refl, arith}
use Rattle.std.proofs.lemmas.Int.{ints}
use Rattle.plane_geom.specs.Geom.{winding_number}
use Rattle.plane_geom.specs.declared.Point.{Point}
use Rattle.plane_laws.specs.Borders.{Borders, boundary, beside}
use Rattle.plane_laws.specs.Outlines.{Vector, outline, rectangle}
use Rattle.plane_laws.specs.Pieces.{corner_piece, middle_piece, HasMiddle}

abbrev point : ℤ → ℤ → Point
point x y = record { x = x; y = y }

abbrev step : ℤ → ℤ → Vector
step x y = record { x = x; y = y }

in_square : winding_number (outline (rectangle (pos 0) (pos 0) (pos 2) (pos 2))) (point (pos 1) (pos 1)) ≡ pos 1
in_square = refl

off_square : winding_number (outline (rectangle (pos 0) (pos 0) (pos 2) (pos 2))) (point (pos 2) (pos 1)) ≡ pos 0
off_square = refl

-- ---- a triangle of the corners (0, 0), (0, 4) and (4, 4), with a chord from slot 1 to slot 1 at the first and one from slot 2 to slot 3 at the last

middle : List Point
middle = middle_piece (point (pos 0) (pos 0)) (step (pos 0) (pos 1)) (step (pos 1) (pos 1)) (step (pos 1) (pos 0)) (pos 4) (pos 1) (pos 2) (pos 3) (pos 1)

its_legs : HasMiddle (point (pos 0) (pos 0)) (step (pos 0) (pos 1)) (step (pos 1) (pos 1)) (step (pos 1) (pos 0)) (pos 4) (pos 4) (pos 4) (pos 1) (pos 2) (pos 3) (pos 1)
its_legs = record {
  closes = refl;
  first_low = omega (arith, ints);
  first_high = omega (arith, ints);
  near_low = omega (arith, ints);
  in_order = omega (arith, ints);
  far_high = omega (arith, ints);
  second_low = omega (arith, ints);
  second_high = omega (arith, ints);
  long = omega (arith, ints);
}

its_corners : middle ≡ point (pos 0) (pos 1) ∷ point (pos 0) (pos 4) ∷ point (pos 2) (pos 4) ∷ point (pos 3) (pos 3) ∷ point (pos 1) (pos 1) ∷ []
unfolding middle
its_corners = refl

in_middle : winding_number (outline middle) (point (pos 1) (pos 3)) ≡ pos 1
unfolding middle
in_middle = refl

off_middle : winding_number (outline middle) (point (pos 0) (pos 0)) ≡ pos 0
unfolding middle
off_middle = refl

corner_uncut : corner_piece (point (pos 0) (pos 0)) (step (pos 0) (pos 1)) (step (pos 1) (pos 1)) (pos 0) (pos 1) (pos 0) (pos 1) ≡ point (pos 0) (pos 0) ∷ point (pos 0) (pos 1) ∷ point (pos 1) (pos 1) ∷ point (pos 0) (pos 0) ∷ []
corner_uncut = refl

-- ---- two pieces that meet along the second of three sub-segments

abbrev turned_round : (ℕ × Bool) → (ℕ × Bool)
turned_round s = (s.0, not s.1)

two : Borders (ℕ × Bool) ℕ
two = record { listed = (0, true) ∷ (1, true) ∷ (2, true) ∷ []; back = turned_round; right = λ s. cond (eqb s.0 0) (cond s.1 (Some 0) None) (cond s.1 (Some 1) (cond (eqb s.0 1) (Some 0) None)) }

of_first : boundary two (eqb 0) ≡ (0, true) ∷ (1, false) ∷ []
unfolding two
of_first = refl

of_both : boundary two (λ q. true) ≡ (0, true) ∷ (2, true) ∷ []
unfolding two
of_both = refl

beside_both : beside two (λ q. true) ≡ (0, true) ∷ (1, true) ∷ (2, true) ∷ (1, false) ∷ []
unfolding two
beside_both = refl
