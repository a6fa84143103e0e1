use Rattle.std.proofs.Common.{◌≡◌, ℕ, zero, suc, ◌+◌, ◌<◌, List, [], ◌∷◌, ◌++◌, Option, Some, None, cond, length, get_or, set, sym, ap, ◌∙◌, subst, subst₂, ◌⊎◌, inl, inr, arith, get_or-set_other, get_or-set_same, length-set, length-append, eq-eqb, ne_eqb}
use Rattle.std.proofs.lemmas.Bool.{cases_eq}
use Rattle.std.proofs.lemmas.List.{get_or_append_left, get_or_push, get_or_default}
use Rattle.ring_cutter.specs.Cutting.{those, Chain, Lists, arrivals}

-- induction in the form i + 1
pub induction_up : (P : ℕ → Type 0) → P 0 → ((i : ℕ) → P i → P (i + 1)) → (i : ℕ) → P i
induction_up P z s zero = z
induction_up P z s (suc i) = let e : i + 1 ≡ suc i = omega arith in subst P e (s i (induction_up P z s i))

-- an arc that begins at p comes first among those
pub those_suc_here : (from : ℕ → ℕ) (i p : ℕ) → from i ≡ p → those from (suc i) p ≡ i ∷ those from i p
those_suc_here from i p e = ap (λ z. cond z (i ∷ those from i p) (those from i p)) (eq-eqb (from i) p e)

-- an arc that begins elsewhere isn't among those
pub those_suc_other : (from : ℕ → ℕ) (i p : ℕ) → (from i ≡ p → ⊥) → those from (suc i) p ≡ those from i p
those_suc_other from i p d = ap (λ z. cond z (i ∷ those from i p) (those from i p)) (ne_eqb (from i) p d)

-- the same at i + 1
pub those_here : (from : ℕ → ℕ) (i p : ℕ) → from i ≡ p → those from (i + 1) p ≡ i ∷ those from i p
those_here from i p e = let h : i + 1 ≡ suc i = omega arith in ap (λ z. those from z p) h ∙ those_suc_here from i p e

-- the same at i + 1
pub those_other : (from : ℕ → ℕ) (i p : ℕ) → (from i ≡ p → ⊥) → those from (i + 1) p ≡ those from i p
those_other from i p d = let h : i + 1 ≡ suc i = omega arith in ap (λ z. those from z p) h ∙ those_suc_other from i p d

-- an arc that ends at p is one more arrival
pub arrivals_here : (to : ℕ → ℕ) (i p : ℕ) → to i ≡ p → arrivals to (i + 1) p ≡ arrivals to i p + 1
arrivals_here to i p e = let h : i + 1 ≡ suc i = omega arith in let x = ap (λ z. cond z 1 0 + arrivals to i p) (eq-eqb (to i) p e) in let y = ap (λ z. arrivals to z p) h in omega (arith, x, y)

-- an arc that ends elsewhere is none
pub arrivals_other : (to : ℕ → ℕ) (i p : ℕ) → (to i ≡ p → ⊥) → arrivals to (i + 1) p ≡ arrivals to i p
arrivals_other to i p d = let h : i + 1 ≡ suc i = omega arith in let x = ap (λ z. cond z 1 0 + arrivals to i p) (ne_eqb (to i) p d) in let y = ap (λ z. arrivals to z p) h in omega (arith, x, y)

-- links stay as they are while one is put behind them
chain_outlasts_push : (next : List (Option ℕ)) (x o : Option ℕ) (xs : List ℕ) → Chain next o xs → Chain (next ++ x ∷ []) o xs
chain_outlasts_push next x o [] h = h
chain_outlasts_push next x o (a ∷ xs) h =
    (h.0, omega (arith, h.1, length-append next (x ∷ [])), subst (λ z. Chain (next ++ x ∷ []) z xs) (sym (get_or_append_left next (x ∷ []) None a h.1)) (chain_outlasts_push next x (get_or next a None) xs h.2))

-- linking one more arc, before the others of its point
pub arc_listed : (from : ℕ → ℕ) (points i : ℕ) (first next : List (Option ℕ)) → Lists from points i first next → length next ≡ i → from i < points → Lists from points (i + 1) (set first (from i) (Some i)) (next ++ get_or first (from i) None ∷ [])
arc_listed from points i first next l e inside = record {
  wide = length-set first (from i) (Some i) ∙ l.wide;
  chains = λ p h. go p h (cases_eq p (from i));
}
  where
    go : (p : ℕ) → p < points → (p ≡ from i) ⊎ (p ≡ from i → ⊥) → Chain (next ++ get_or first (from i) None ∷ []) (get_or (set first (from i) (Some i)) p None) (those from (i + 1) p)
    go p h (inl q) =
        subst (λ z. Chain (next ++ get_or first (from i) None ∷ []) (get_or (set first (from i) (Some i)) p None) z) (sym (those_here from i p (sym q))) (
          ap (λ z. get_or (set first (from i) (Some i)) z None) q ∙ get_or-set_same first (from i) (Some i) None (omega (arith, l.wide)),
          omega (arith, e, length-append next (get_or first (from i) None ∷ [])),
          subst (λ z. Chain (next ++ get_or first (from i) None ∷ []) z (those from i p)) (sym (get_or_push next (get_or first (from i) None) None i e))
              (chain_outlasts_push next (get_or first (from i) None) (get_or first (from i) None) (those from i p) (subst (λ z. Chain next (get_or first z None) (those from i p)) q (l.chains p h))),
        )
    go p h (inr d) =
        subst₂ (λ y z. Chain (next ++ get_or first (from i) None ∷ []) y z) (sym (get_or-set_other first (from i) p (Some i) None d)) (sym (those_other from i p (λ q. d (sym q))))
        (chain_outlasts_push next (get_or first (from i) None) (get_or first p None) (those from i p) (l.chains p h))

-- the same, with the values that the code has read
pub arc_listed_as_coded : (from : ℕ → ℕ) (points i : ℕ) (first next : List (Option ℕ)) → Lists from points i first next → length next ≡ i → from i < points → (p : ℕ) → p ≡ from i → (x : Option ℕ) → x ≡ get_or first p x → (next' : List (Option ℕ)) → next' ≡ next ++ x ∷ [] → Lists from points (i + 1) (set first p (Some i)) next' × (length next' ≡ i + 1)
arc_listed_as_coded from points i first next l e inside p q x r next' n =
    let here : x ≡ get_or first (from i) None = r ∙ get_or_default first p x None (omega (arith, q, l.wide)) ∙ ap (λ z. get_or first z None) q in
    let n' : next' ≡ next ++ get_or first (from i) None ∷ [] = n ∙ ap (λ z. next ++ z ∷ []) here in (
      subst₂ (λ y z. Lists from points (i + 1) (set first y (Some i)) z) (sym q) (sym n') (arc_listed from points i first next l e inside),
      ap length n ∙ length-append next (x ∷ []) ∙ ap (λ z. z + 1) e,
    )
