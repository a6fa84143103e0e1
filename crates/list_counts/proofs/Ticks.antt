-- What one number adds to a count, and how often a number stands in two lists put together.
use Rattle.std.proofs.Common.{◌≡◌, ℕ, ◌+◌, List, [], ◌∷◌, ◌++◌, Bool, cond, nat_eq, ap, arith, eq-eqb, ne_eqb}
use Rattle.list_counts.specs.Times.{times}

-- 1 for true and 0 for false
abbrev pub tick : Bool → ℕ
tick b = cond b 1 0

-- a number counts for itself
pub tick_same : (x a : ℕ) → x ≡ a → tick (nat_eq x a) ≡ 1
tick_same x a e = ap tick (eq-eqb x a e)

-- and for no other
pub tick_other : (x a : ℕ) → (x ≡ a → ⊥) → tick (nat_eq x a) ≡ 0
tick_other x a d = ap tick (ne_eqb x a d)

pub times-append : (a : ℕ) (xs ys : List ℕ) → times a (xs ++ ys) ≡ times a xs + times a ys
times-append a [] ys = omega arith
times-append a (x ∷ xs) ys = omega (arith, times-append a xs ys)
