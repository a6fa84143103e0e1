-- Sums of values from 0 up, and values of positive sums.
use Rattle.std.proofs.Common.{⊎_elim, inl, inr, ℤ, pos, ◌≤ℤ◌, ◌<ℤ◌, List, [], ◌∷◌, refl, sym, subst, arith}
use Rattle.std.proofs.lemmas.Int.{ints, by_lt_z}
use Rattle.plane_laws.specs.Borders.{total}
use Rattle.plane_laws.proofs.Members.{In}

total_from_zero : {X : Type 0} (g : X → ℤ) (xs : List X) → ((x : X) → In xs x → pos 0 ≤ℤ g x) → pos 0 ≤ℤ total g xs
total_from_zero g [] h = omega (arith, ints)
total_from_zero g (x ∷ xs) h =
    let one = h x (inl refl) in
    let rest = total_from_zero g xs (λ y i. h y (inr i)) in
    omega (arith, ints, one, rest)

-- where one of them is positive, their sum is
pub total_positive : {X : Type 0} (g : X → ℤ) (xs : List X) (x : X) → ((y : X) → In xs y → pos 0 ≤ℤ g y) → In xs x → pos 0 <ℤ g x → pos 0 <ℤ total g xs
total_positive g [] x h i l = absurd i
total_positive g (y ∷ xs) x h i l = ⊎_elim
    (λ e.
    let one : pos 0 <ℤ g y = subst (λ z. pos 0 <ℤ g z) (sym e) l in
    let rest = total_from_zero g xs (λ z j. h z (inr j)) in
    omega (arith, ints, one, rest))
    (λ j.
    let one = h y (inl refl) in
    let rest = total_positive g xs x (λ z k. h z (inr k)) j l in
    omega (arith, ints, one, rest))
    i

-- one of the values of a positive sum is positive
pub positive_member : {X : Type 0} (g : X → ℤ) (xs : List X) → pos 0 <ℤ total g xs → (x : X) × In xs x × (pos 0 <ℤ g x)
positive_member g [] h = absurd (omega (arith, ints, h))
positive_member g (x ∷ xs) h = by_lt_z (pos 0) (g x)
    (λ l. (x, inl refl, l))
    (λ l. let k = positive_member g xs (omega (arith, ints, h, l)) in (k.0, inr k.1, k.2))
