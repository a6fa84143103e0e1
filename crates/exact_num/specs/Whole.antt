-- Whole parts of fractions.
use Rattle.std.specs.Prelude.{ℕ, ◌+◌, ◌*◌, ◌<◌, ◌≡◌, ◌↔◌, Bool, IsTrue}

-- q is the whole part of n / m, and `left` tells that it isn't all of it
pub record IsWholePart (n m q : ℕ) (left : Bool) : Type 0 where
  pub rest : ℕ
  pub sum : n ≡ q * m + rest
  pub small : rest < m
  pub tells : IsTrue left ↔ (0 < rest)
