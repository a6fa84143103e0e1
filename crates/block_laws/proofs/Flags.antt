-- At most one element of a list without repetition passes a test that all passing elements pass alike.
use Rattle.std.proofs.Common.{◌≡◌, pos, ◌≤ℤ◌, Bool, true, false, List, [], ◌∷◌, refl, sym, ap, subst, inl, inr, arith}
use Rattle.std.proofs.lemmas.Int.{ints}
use Rattle.block_laws.proofs.Rounds.{flag}
use Rattle.plane_laws.proofs.Members.{Distinct, In}
use Rattle.plane_laws.specs.Borders.{total}

module _ {X : Type 0} (p : X → Bool) where
  no_flag : (xs : List X) → ((x : X) → In xs x → p x ≡ false) → total (λ x. flag (p x)) xs ≡ pos 0
  no_flag [] h = refl
  no_flag (x ∷ xs) h = let a = ap flag (h x (inl refl)) in let b = no_flag xs (λ y i. h y (inr i)) in omega (arith, ints, a, b)

  pub at_most_one : (xs : List X) → Distinct xs → ((x y : X) → In xs x → In xs y → p x ≡ true → p y ≡ true → x ≡ y) → total (λ x. flag (p x)) xs ≤ℤ pos 1
  at_most_one [] d h = omega (arith, ints)
  at_most_one (x ∷ xs) d h = by (p x) refl (at_most_one xs d.1 (λ y z i j. h y z (inr i) (inr j)))
    where
      other : p x ≡ true → (y : X) → In xs y → (b : Bool) → p y ≡ b → p y ≡ false
      other e y i true g = absurd (d.0 (subst (In xs) (sym (h x y (inl refl) (inr i) e g)) i))
      other e y i false g = g

      by : (b : Bool) → p x ≡ b → total (λ x. flag (p x)) xs ≤ℤ pos 1 → total (λ x. flag (p x)) (x ∷ xs) ≤ℤ pos 1
      by true e rest = let a = ap flag e in let b = no_flag xs (λ y i. other e y i (p y) refl) in omega (arith, ints, a, b)
      by false e rest = let a = ap flag e in omega (arith, ints, a, rest)
