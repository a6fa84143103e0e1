-- Values from 0 up share their sum.
use Rattle.std.proofs.Common.{◌≡◌, ℤ, pos, ◌+ℤ◌, ◌≤ℤ◌, Bool, true, false, cond, ◌&&◌, IsTrue, IsFalse, List, [], ◌∷◌, Contains, ap, refl, arith, inl, inr, ⊎_elim}
use Rattle.std.proofs.lemmas.Int.{ints, by_lt_z}
use Rattle.std.proofs.lemmas.List.Elements.{All-head, All-tail}
use Rattle.plane_laws.specs.Borders.{total, part, AreFromZero}
use Rattle.plane_laws.proofs.Members.{In, contains, is_in}

module _ {Q : Type 0} (f : Q → ℤ) where
  head : (x : Q) (xs : List Q) → AreFromZero f (x ∷ xs) → pos 0 ≤ℤ f x
  head x xs h = All-head (λ x. pos 0 ≤ℤ f x) x xs h

  tail : (x : Q) (xs : List Q) → AreFromZero f (x ∷ xs) → AreFromZero f xs
  tail x xs h = All-tail (λ x. pos 0 ≤ℤ f x) x xs h

  picked : (b : Bool) (z : ℤ) → pos 0 ≤ℤ z → (pos 0 ≤ℤ cond b z (pos 0)) × (cond b z (pos 0) ≤ℤ z)
  picked true z h = (h, omega (arith, ints))
  picked false z h = (omega (arith, ints), h)

  pub share_of_sum : (F : Q → Bool) (xs : List Q) → AreFromZero f xs → (pos 0 ≤ℤ part f F xs) × (part f F xs ≤ℤ total f xs)
  share_of_sum F [] h = (omega (arith, ints), omega (arith, ints))
  share_of_sum F (x ∷ xs) h =
      let a = picked (F x) (f x) (head x xs h) in
      let b = share_of_sum F xs (tail x xs h) in
      (omega (arith, ints, a.0, b.0), omega (arith, ints, a.1, b.1))

  one_at_most : (a b : Bool) (z : ℤ) → IsFalse (a && b) → pos 0 ≤ℤ z → (cond a z (pos 0) +ℤ cond b z (pos 0)) ≤ℤ z
  one_at_most true true z e h = absurd (cc)
  one_at_most true false z e h = omega (arith, ints)
  one_at_most false true z e h = omega (arith, ints)
  one_at_most false false z e h = omega (arith, ints, h)

  pub shares_apart : (F G : Q → Bool) (xs : List Q) → AreFromZero f xs → ((q : Q) → IsFalse (F q && G q)) → (part f F xs +ℤ part f G xs) ≤ℤ total f xs
  shares_apart F G [] h d = omega (arith, ints)
  shares_apart F G (x ∷ xs) h d = omega (arith, ints, one_at_most (F x) (G x) (f x) (d x) (head x xs h), shares_apart F G xs (tail x xs h) d)

  member_in : (F : Q → Bool) (xs : List Q) (q : Q) → AreFromZero f xs → In xs q → IsTrue (F q) → f q ≤ℤ part f F xs
  member_in F [] q h i t = absurd i
  member_in F (x ∷ xs) q h i t = ⊎_elim
      (λ e. let own = ap (λ b. cond b (f q) (pos 0)) t in let same = ap (λ z. cond (F z) (f z) (pos 0)) e in let rest = share_of_sum F xs (tail x xs h) in omega (arith, ints, own, same, rest.0))
      (λ j. let here = picked (F x) (f x) (head x xs h) in omega (arith, ints, here.0, member_in F xs q (tail x xs h) j t))
      i

  pub share_of_member : (F : Q → Bool) (xs : List Q) (q : Q) → AreFromZero f xs → Contains xs q → IsTrue (F q) → f q ≤ℤ part f F xs
  share_of_member F xs q h c t = member_in F xs q h (is_in xs q c) t

  none_below : (xs : List Q) → AreFromZero f xs → pos 0 ≤ℤ total f xs
  none_below [] h = omega (arith, ints)
  none_below (x ∷ xs) h = omega (arith, ints, head x xs h, none_below xs (tail x xs h))

  one_in : (xs : List Q) → AreFromZero f xs → total f xs ≡ pos 1 → (q : Q) × In xs q × (f q ≡ pos 1)
  one_in [] h e = absurd (omega (arith, ints, e))
  one_in (x ∷ xs) h e =
      let here = head x xs h in
      let rest = none_below xs (tail x xs h) in
      by_lt_z (pos 0) (f x)
      (λ lt. (x, inl refl, omega (arith, ints, e, lt, rest)))
      (λ le. let r = one_in xs (tail x xs h) (omega (arith, ints, e, here, le)) in (r.0, inr r.1, r.2))

  pub one_of_sum : (xs : List Q) → AreFromZero f xs → total f xs ≡ pos 1 → (q : Q) × Contains xs q × (f q ≡ pos 1)
  one_of_sum xs h e = let r = one_in xs h e in (r.0, contains xs r.0 r.1, r.2)
