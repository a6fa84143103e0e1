-- Lists that have each member once and the same members have the same sums.
use Rattle.std.proofs.Common.{◌≡◌, ⊎_elim, inl, inr, ℤ, ◌+ℤ◌, List, [], ◌∷◌, refl, sym, ap, subst, ◌∙◌, arith}
use Rattle.std.proofs.lemmas.Int.{ints}
use Rattle.plane_laws.specs.Borders.{total}
use Rattle.plane_laws.proofs.Members.{Distinct, In}

-- a list without one of its members
record Without {X : Type 0} (xs : List X) (x : X) : Type 0 where
  rest : List X
  others : (y : X) → In xs y → (x ≡ y → ⊥) → In rest y
  back : (y : X) → In rest y → In xs y
  apart : ¬ (In rest x)
  once : Distinct rest
  sum : (f : X → ℤ) → total f xs ≡ f x +ℤ total f rest

without : {X : Type 0} (xs : List X) (x : X) → Distinct xs → In xs x → Without xs x
without [] x d i = absurd i
without {X} (y ∷ xs) x d i = ⊎_elim
    (λ (e : y ≡ x). record {
      rest = xs;
      others = λ z j n. ⊎_elim (λ (k : y ≡ z). absurd (n (sym e ∙ k))) (λ k. k) j;
      back = λ z j. inr j;
      apart = subst (λ z. ¬ (In xs z)) e d.0;
      once = d.1;
      sum = λ f. ap (λ z. f z +ℤ total f xs) e;
    })
    (λ j.
    let w = without xs x d.1 j in
    record {
      rest = y ∷ w.rest;
      others = λ z k n. ⊎_elim (λ e. inl e) (λ l. inr (w.others z l n)) k;
      back = λ z k. ⊎_elim (λ e. inl e) (λ l. inr (w.back z l)) k;
      apart = λ k. ⊎_elim (λ (e : y ≡ x). d.0 (subst (In xs) (sym e) j)) (λ l. w.apart l) k;
      once = (λ k. d.0 (w.back y k), w.once);
      sum = λ f. let e = w.sum f in moved (f y) (f x) (total f xs) (total f w.rest) e;
    })
    i
  where
    moved : (a b s t : ℤ) → s ≡ b +ℤ t → a +ℤ s ≡ b +ℤ (a +ℤ t)
    moved a b s t e = omega (arith, ints, e)

pub same_total : {X : Type 0} (f : X → ℤ) (xs ys : List X) → Distinct xs → Distinct ys → ((x : X) → In xs x → In ys x) → ((y : X) → In ys y → In xs y) → total f xs ≡ total f ys
same_total f [] [] d e to from = refl
same_total f [] (y ∷ ys) d e to from = absurd (from y (inl refl))
same_total f (x ∷ xs) ys d e to from =
    let w = without ys x e (to x (inl refl)) in
    let rest = same_total f xs w.rest d.1 w.once
    (λ z i. w.others z (to z (inr i)) (λ g. d.0 (subst (In xs) (sym g) i)))
    (λ z i. ⊎_elim (λ g. absurd (w.apart (subst (In w.rest) (sym g) i))) (λ j. j) (from z (w.back z i))) in
    ap (λ z. f x +ℤ z) rest ∙ sym (w.sum f)
