-- The two shapes of a piece of a triangle that chords cut. A chord joins two legs of one corner; its ends are points of the legs in whole steps from the corner, the slots.
use Rattle.std.specs.Prelude.{◌≡◌, ℤ, pos, ◌≤ℤ◌, ◌<ℤ◌, List, [], ◌∷◌}
use Rattle.plane_geom.specs.declared.Point.{Point}
use Rattle.plane_laws.specs.Outlines.{Vector, at}

-- what lies between two chords of the corner w: from p to p' on the leg along e, and from s' back to s on the leg along g
abbrev pub corner_piece : Point → Vector → Vector → ℤ → ℤ → ℤ → ℤ → List Point
corner_piece w e g p p' s s' = at w e p ∷ at w e p' ∷ at w g s' ∷ at w g s ∷ []

-- what lies between a chord of each outer corner, where the middle corner is n steps of e from the corner w: from p on that leg to the middle corner, on along d to q, then from t back to s on the leg along g
abbrev pub middle_piece : Point → Vector → Vector → Vector → ℤ → ℤ → ℤ → ℤ → ℤ → List Point
middle_piece w e g d n p q t s = at w e p ∷ at w e n ∷ at (at w e n) d q ∷ at w g t ∷ at w g s ∷ []

-- a triangle of the corner w, the middle corner and the far one, which is l steps of g from w and k steps of d from the middle one, with the slots p and s of one chord and q and t of the other, or of no chord where they are a corner's
pub record HasMiddle (w : Point) (e g d : Vector) (n k l p q t s : ℤ) : Type 0 where
  pub closes : at (at w e n) d k ≡ at w g l
  pub first_low : pos 0 ≤ℤ p
  pub first_high : p ≤ℤ n
  pub near_low : pos 0 ≤ℤ s
  pub in_order : s ≤ℤ t
  pub far_high : t ≤ℤ l
  pub second_low : pos 0 ≤ℤ q
  pub second_high : q ≤ℤ k
  pub long : pos 0 <ℤ k
