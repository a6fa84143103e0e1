-- How many edges there are.
use Rattle.std.proofs.Common.{ℕ, ◌*◌, ◌≤◌, List, [], ◌∷◌, All, length, sum_by, arith}
use Rattle.std.proofs.lemmas.List.Sums.{sum_by-cons}
use Rattle.std.proofs.lemmas.List.Elements.{All-tail}

-- where each counts 2 or more, all count twice as much as there are of them
pub two_each : {X : Type 0} (f : X → ℕ) (xs : List X) → All (λ x. 2 ≤ f x) xs → 2 * length xs ≤ sum_by f xs
two_each f [] h = omega arith
two_each f (x ∷ xs) h =
    let rest = two_each f xs (All-tail (λ y. 2 ≤ f y) x xs h) in
    let first : 2 ≤ f x = h 0 x (omega arith) in
    let e = sum_by-cons f x xs in
    omega (arith, rest, first, e)
