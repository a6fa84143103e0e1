-- Records by their numbers.
use Rattle.std.specs.Prelude.{ℕ, Bool, eqb}

-- whether a record has this number
abbrev pub is_numbered : {X : Type 0} → (X → ℕ) → ℕ → X → Bool
is_numbered number n x = eqb (number x) n
