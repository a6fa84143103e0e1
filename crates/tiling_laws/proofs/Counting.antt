-- Numbers that rise from 1 differ.
use Rattle.std.proofs.Common.{◌≢◌, ℕ, zero, suc, ◌+◌, ◌≤◌, List, get_or, AllPairs, arith, ⊎_elim}
use Rattle.std.proofs.lemmas.List.Elements.{Contains-get_or}
use Rattle.std.specs.List.{range_with_len}
use Rattle.plane_laws.proofs.Members.{In, is_in}

from_first : (a n k : ℕ) → In (range_with_len a n) k → a ≤ k
from_first a zero k h = absurd h
from_first a (suc n) k h = ⊎_elim (λ e. omega (arith, e)) (λ i. omega (arith, from_first (a + 1) n k i)) h

pub range_differs : (a n : ℕ) → AllPairs ◌≢◌ (range_with_len a n)
range_differs a zero i j d l b = absurd (omega arith)
range_differs a (suc n) i zero d l b = absurd (omega arith)
range_differs a (suc n) zero (suc j) d l b = λ e.
    let later : List ℕ = range_with_len (a + 1) n in
    let there = from_first (a + 1) n (get_or later j d) (is_in later (get_or later j d) (Contains-get_or later j d (omega arith))) in
    omega (arith, there, e)
range_differs a (suc n) (suc i) (suc j) d l b = range_differs (a + 1) n i j d (omega arith) (omega arith)
