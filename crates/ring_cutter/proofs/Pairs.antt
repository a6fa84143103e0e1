use Rattle.std.proofs.Common.{◌≡◌, ℕ, zero, suc, ◌+◌, ◌<◌, ◌≤◌, List, [], ◌∷◌, ◌++◌, Option, Some, None, nat_eq, length, get_or, set, take, drop, count_by, refl, sym, ap, ◌∙◌, subst, subst₂, ◌⊎◌, inl, inr, ⊎_elim, arith, get_or-set_other, get_or-set_same, length-set, length-append, eq-eqb, ne_eqb}
use Rattle.std.proofs.lemmas.Bool.{cases_eq}
use Rattle.std.proofs.lemmas.List.{get_or_append_left, get_or_push, get_or_default, take_all, drop_all, get_or_past}
use Rattle.std.proofs.lemmas.List.Sums.{count_by_more_yes, count_by_more_no}
use Rattle.std.proofs.Math.Seq.{drop-cons}
use Rattle.ring_cutter.specs.declared.Hop.{Hop}
use Rattle.ring_cutter.specs.Rings.{begins, ends, IsBalanced}
use Rattle.ring_cutter.specs.Cutting.{those, Chain, Pairs, GoesOn, IsBlank, arrivals}
use Rattle.ring_cutter.proofs.Links.{induction_up, those_here, those_other, those_suc_here, those_suc_other, arrivals_here, arrivals_other}

-- listed arcs and arrivals at a point against the counts of arcs that begin and end there
module _ (hops : List Hop) (p : ℕ) where
  -- what a read past the end gives
  abbrev none : Hop
  none = record { begin = 0; end = 0 }

  -- one more arc in the list of those that begin at p, and in the count
  out_step : (i : ℕ) → (i ≤ length hops → length (those (begins hops) i p) ≡ count_by (λ h. nat_eq h.begin p) (take i hops)) → i + 1 ≤ length hops → length (those (begins hops) (i + 1) p) ≡ count_by (λ h. nat_eq h.begin p) (take (i + 1) hops)
  out_step i ih l = ⊎_elim
      (λ e. omega (arith, ih (omega arith), ap length (those_here (begins hops) i p e), count_by_more_yes (λ h. nat_eq h.begin p) hops i none (omega arith) (eq-eqb (begins hops i) p e)))
      (λ d. omega (arith, ih (omega arith), ap length (those_other (begins hops) i p d), count_by_more_no (λ h. nat_eq h.begin p) hops i none (omega arith) (ne_eqb (begins hops i) p d)))
      (cases_eq (begins hops i) p)

  -- one more arc among the arrivals at p, and in the count
  in_step : (i : ℕ) → (i ≤ length hops → arrivals (ends hops) i p ≡ count_by (λ h. nat_eq h.end p) (take i hops)) → i + 1 ≤ length hops → arrivals (ends hops) (i + 1) p ≡ count_by (λ h. nat_eq h.end p) (take (i + 1) hops)
  in_step i ih l = ⊎_elim
      (λ e. omega (arith, ih (omega arith), arrivals_here (ends hops) i p e, count_by_more_yes (λ h. nat_eq h.end p) hops i none (omega arith) (eq-eqb (ends hops i) p e)))
      (λ d. omega (arith, ih (omega arith), arrivals_other (ends hops) i p d, count_by_more_no (λ h. nat_eq h.end p) hops i none (omega arith) (ne_eqb (ends hops i) p d)))
      (cases_eq (ends hops i) p)

  -- as many arcs are listed at p as arrive there
  pub departures_match_arrivals : count_by (λ h. nat_eq h.begin p) hops ≡ count_by (λ h. nat_eq h.end p) hops → length (those (begins hops) (length hops) p) ≡ arrivals (ends hops) (length hops) p
  departures_match_arrivals even =
      let m = length hops in
      let a = induction_up (λ i. i ≤ length hops → length (those (begins hops) i p) ≡ count_by (λ h. nat_eq h.begin p) (take i hops)) (λ _. refl) out_step m (omega arith) in
      let b = induction_up (λ i. i ≤ length hops → arrivals (ends hops) i p ≡ count_by (λ h. nat_eq h.end p) (take i hops)) (λ _. refl) in_step m (omega arith) in
      let whole = take_all m hops (omega arith) in
      a ∙ ap (count_by (λ h. nat_eq h.begin p)) whole ∙ even ∙ sym (ap (count_by (λ h. nat_eq h.end p)) whole) ∙ sym b

-- what is in one entry is one number
pub Some_is_injective : (q r : ℕ) → Some q ≡ Some r → q ≡ r
Some_is_injective q r e = grind arith

-- a number is below another or it isn't
pub below_or_not : (a b : ℕ) → (a < b) ⊎ (b ≤ a)
below_or_not a zero = inr (omega arith)
below_or_not zero (suc b) = inl (omega arith)
below_or_not (suc a) (suc b) = ⊎_elim (λ l. inl (omega (arith, l))) (λ l. inr (omega (arith, l))) (below_or_not a b)

-- what is at most another and not equal is below
pub below_unless_equal : (a b : ℕ) → a ≤ b → (a ≡ b → ⊥) → a < b
below_unless_equal a b l d = ⊎_elim (λ h. h) (λ h. absurd (d (omega (arith, h, l)))) (below_or_not a b)

-- after an arc that ends at p there are more arrivals than before it
pub arrivals_rise : (to : ℕ → ℕ) (a b p : ℕ) → a < b → to a ≡ p → arrivals to a p < arrivals to b p
arrivals_rise to a b p l e = go b l
  where
    go : (b : ℕ) → a < b → arrivals to a p < arrivals to b p
    go zero l = absurd (omega arith)
    go (suc b) l =
        let h : b + 1 ≡ suc b = omega arith in
        subst (λ z. arrivals to a p < arrivals to z p) h (⊎_elim
        (λ i. let k = subst (λ z. to z ≡ p) (sym i) e in let x = ap (λ z. arrivals to z p) i in omega (arith, arrivals_here to b p k, x))
        (λ d. let r = go b (omega arith) in ⊎_elim (λ k. omega (arith, r, arrivals_here to b p k)) (λ k. omega (arith, r, arrivals_other to b p k)) (cases_eq (to b) p))
        (cases_eq b a))

module _ (from : ℕ → ℕ) (p : ℕ) where
  -- those that are listed at p are arcs that begin there
  pub those_begin_there : (m k : ℕ) → k < length (those from m p) → (get_or (those from m p) k 0 < m) × (from (get_or (those from m p) k 0) ≡ p)
  those_begin_there zero k l = absurd (omega arith)
  those_begin_there (suc m) k l = ⊎_elim
      (λ e. subst (λ z. (get_or z k 0 < suc m) × (from (get_or z k 0) ≡ p)) (sym (those_suc_here from m p e)) (front (λ j h. those_begin_there m j h) e k (subst (λ z. k < length z) (those_suc_here from m p e) l)))
      (λ d. subst (λ z. (get_or z k 0 < suc m) × (from (get_or z k 0) ≡ p)) (sym (those_suc_other from m p d)) (let r = those_begin_there m k (subst (λ z. k < length z) (those_suc_other from m p d) l) in (omega (arith, r.0), r.1)))
      (cases_eq (from m) p)
    where
      front : ((j : ℕ) → j < length (those from m p) → (get_or (those from m p) j 0 < m) × (from (get_or (those from m p) j 0) ≡ p)) → from m ≡ p → (k : ℕ) → k < length (m ∷ those from m p) → (get_or (m ∷ those from m p) k 0 < suc m) × (from (get_or (m ∷ those from m p) k 0) ≡ p)
      front ih e zero l = (omega arith, e)
      front ih e (suc k) l = let r = ih k (omega arith) in (omega (arith, r.0), r.1)

  -- they are listed with falling numbers, so none stands twice
  pub those_fall : (m k j : ℕ) → k < j → j < length (those from m p) → get_or (those from m p) j 0 < get_or (those from m p) k 0
  those_fall zero k j h l = absurd (omega arith)
  those_fall (suc m) k j h l = ⊎_elim
      (λ e. subst (λ z. get_or z j 0 < get_or z k 0) (sym (those_suc_here from m p e)) (front (λ x y a b. those_fall m x y a b) k j h (subst (λ z. j < length z) (those_suc_here from m p e) l)))
      (λ d. subst (λ z. get_or z j 0 < get_or z k 0) (sym (those_suc_other from m p d)) (those_fall m k j h (subst (λ z. j < length z) (those_suc_other from m p d) l)))
      (cases_eq (from m) p)
    where
      front : ((x y : ℕ) → x < y → y < length (those from m p) → get_or (those from m p) y 0 < get_or (those from m p) x 0) → (k j : ℕ) → k < j → j < length (m ∷ those from m p) → get_or (m ∷ those from m p) j 0 < get_or (m ∷ those from m p) k 0
      front ih k zero h l = absurd (omega arith)
      front ih zero (suc j) h l = (those_begin_there m j (omega arith)).0
      front ih (suc k) (suc j) h l = ih k j (omega arith) (omega arith)

-- links through what is left lead to the first that is left, and go on from it
pub chain_head : (next : List (Option ℕ)) (o : Option ℕ) (xs : List ℕ) (k : ℕ) → k < length xs → Chain next o (drop k xs) → (o ≡ Some (get_or xs k 0)) × (get_or xs k 0 < length next) × Chain next (get_or next (get_or xs k 0) None) (drop (k + 1) xs)
chain_head next o xs k l h =
    let e : k + 1 ≡ suc k = omega arith in
    let c = subst (Chain next o) (drop-cons xs k 0 l) h in
    (c.0, c.1, subst (λ z. Chain next (get_or next (get_or xs k 0) None) (drop z xs)) (sym e) c.2)

-- the next arc is paired with the first that is left at its end
module _ (from to : ℕ → ℕ) (points all i : ℕ) (first next : List (Option ℕ)) (after : List ℕ) (s : Pairs from to points all i first next after) (inside : to i < points) (room : arrivals to i (to i) < length (those from all (to i))) where
  -- the arc that it gets
  abbrev pick : ℕ
  pick = get_or (those from all (to i)) (arrivals to i (to i)) 0

  -- there is one, and its entry says so
  pub departure_is_left : (get_or first (to i) None ≡ Some pick) × (pick < length next)
  departure_is_left = let h = chain_head next (get_or first (to i) None) (those from all (to i)) (arrivals to i (to i)) room (s.chains (to i) inside) in (h.0, h.1)

  -- with it one more arc is paired
  pub arc_paired : Pairs from to points all (i + 1) (set first (to i) (get_or next pick None)) next (after ++ pick ∷ [])
  arc_paired = record {
    wide = length-set first (to i) (get_or next pick None) ∙ s.wide;
    chains = λ p h. go p h (cases_eq p (to i));
    each = omega (arith, s.each, length-append after (pick ∷ []));
    picks = λ a l. choice a l (cases_eq a i);
  }
    where
      go : (p : ℕ) → p < points → (p ≡ to i) ⊎ (p ≡ to i → ⊥) → Chain next (get_or (set first (to i) (get_or next pick None)) p None) (drop (arrivals to (i + 1) p) (those from all p))
      go p h (inl e) = subst (λ q. Chain next (get_or (set first (to i) (get_or next pick None)) q None) (drop (arrivals to (i + 1) q) (those from all q))) (sym e)
          (subst₂ (λ o n. Chain next o (drop n (those from all (to i)))) (sym (get_or-set_same first (to i) (get_or next pick None) None (omega (arith, s.wide)))) (sym (arrivals_here to i (to i) refl))
          (chain_head next (get_or first (to i) None) (those from all (to i)) (arrivals to i (to i)) room (s.chains (to i) inside)).2)
      go p h (inr d) =
          subst₂ (λ o n. Chain next o (drop n (those from all p))) (sym (get_or-set_other first (to i) p (get_or next pick None) None d)) (sym (arrivals_other to i p (λ e. d (sym e)))) (s.chains p h)

      choice : (a : ℕ) → a < i + 1 → (a ≡ i) ⊎ (a ≡ i → ⊥) → (arrivals to a (to a) < length (those from all (to a))) × (get_or (after ++ pick ∷ []) a 0 ≡ get_or (those from all (to a)) (arrivals to a (to a)) 0)
      choice a l (inl e) = subst (λ z. (arrivals to z (to z) < length (those from all (to z))) × (get_or (after ++ pick ∷ []) z 0 ≡ get_or (those from all (to z)) (arrivals to z (to z)) 0)) (sym e)
          (room, get_or_push after pick 0 i s.each)
      choice a l (inr d) =
          let r = s.picks a (omega arith) in
          (r.0, get_or_append_left after (pick ∷ []) 0 a (omega (arith, s.each)) ∙ r.1)

-- once each arc is paired, each has one after it, and no two have the same
pub all_arcs_paired : (from to : ℕ → ℕ) (points all : ℕ) (first next : List (Option ℕ)) (after : List ℕ) → Pairs from to points all all first next after → GoesOn from to all after
all_arcs_paired from to points all first next after s = record {
  each = s.each;
  inside = λ a l. let r = s.picks a l in let w = those_begin_there from (to a) all (arrivals to a (to a)) r.0 in omega (arith, w.0, r.1);
  there = there;
  apart = λ a b la lb e. apart a b la lb e (cases_eq (arrivals to a (to a)) (arrivals to b (to a)));
}
  where
    there : (a : ℕ) → a < all → from (get_or after a 0) ≡ to a
    there a l = let r = s.picks a l in ap from r.1 ∙ (those_begin_there from (to a) all (arrivals to a (to a)) r.0).1

    apart : (a b : ℕ) → a < all → b < all → get_or after a 0 ≡ get_or after b 0 → (arrivals to a (to a) ≡ arrivals to b (to a)) ⊎ (arrivals to a (to a) ≡ arrivals to b (to a) → ⊥) → a ≡ b
    apart a b la lb e same =
        let t : to b ≡ to a = sym (there b lb) ∙ sym (ap from e) ∙ there a la in
        let ra = s.picks a la in
        let rb : (arrivals to b (to a) < length (those from all (to a))) × (get_or after b 0 ≡ get_or (those from all (to a)) (arrivals to b (to a)) 0) = subst (λ z. (arrivals to b z < length (those from all z)) × (get_or after b 0 ≡ get_or (those from all z) (arrivals to b z) 0)) t (s.picks b lb) in
        ⊎_elim
        (λ k. ⊎_elim (λ l. let w = arrivals_rise to a b (to a) l refl in absurd (omega (arith, w, k)))
        (λ h. ⊎_elim (λ l. let w = arrivals_rise to b a (to a) l t in absurd (omega (arith, w, k))) (λ g. omega (arith, h, g)) (below_or_not b a))
        (below_or_not a b))
        (λ d. ⊎_elim (λ l. let w = those_fall from (to a) all (arrivals to a (to a)) (arrivals to b (to a)) l rb.0 in absurd (omega (arith, w, ra.1, rb.1, e)))
        (λ h. let w = those_fall from (to a) all (arrivals to b (to a)) (arrivals to a (to a)) (below_unless_equal (arrivals to b (to a)) (arrivals to a (to a)) h (λ x. d (sym x))) ra.0 in absurd (omega (arith, w, ra.1, rb.1, e)))
        (below_or_not (arrivals to a (to a)) (arrivals to b (to a))))
        same

-- as long as an arc isn't paired, one is left at its end
pub departures_are_left : (hops : List Hop) (points i : ℕ) → IsBalanced hops points → i < length hops → arrivals (ends hops) i (ends hops i) < length (those (begins hops) (length hops) (ends hops i))
departures_are_left hops points i b l =
    let w = arrivals_rise (ends hops) i (length hops) (ends hops i) l refl in
    omega (arith, w, departures_match_arrivals hops (ends hops i) (b.even (ends hops i)))

-- the same, with the values that the code has read
pub arc_paired_as_coded : (from to : ℕ → ℕ) (points all i : ℕ) (first next : List (Option ℕ)) (after : List ℕ) → Pairs from to points all i first next after → to i < points → arrivals to i (to i) < length (those from all (to i)) → (p : ℕ) → p ≡ to i → (o : Option ℕ) → o ≡ get_or first p o → (b : ℕ) → o ≡ Some b → (n : Option ℕ) → n ≡ get_or next b n → (after' : List ℕ) → after' ≡ after ++ b ∷ [] → Pairs from to points all (i + 1) (set first p n) next after'
arc_paired_as_coded from to points all i first next after s inside room p q o r b ob n nb after' a =
    let h = departure_is_left from to points all i first next after s inside room in
    let here : o ≡ get_or first (to i) None = r ∙ get_or_default first p o None (omega (arith, q, s.wide)) ∙ ap (λ z. get_or first z None) q in
    let is : b ≡ get_or (those from all (to i)) (arrivals to i (to i)) 0 = Some_is_injective _ _ (sym ob ∙ here ∙ h.0) in
    let n' : n ≡ get_or next (get_or (those from all (to i)) (arrivals to i (to i)) 0) None = nb ∙ get_or_default next b n None (omega (arith, is, h.1)) ∙ ap (λ z. get_or next z None) is in
    subst₂ (λ y z. Pairs from to points all (i + 1) y next z) (ap (λ z. set first z n) (sym q) ∙ refl) (sym (a ∙ ap (λ z. after ++ z ∷ []) is))
    (subst (λ z. Pairs from to points all (i + 1) (set first (to i) z) next (after ++ get_or (those from all (to i)) (arrivals to i (to i)) 0 ∷ [])) (sym n') (arc_paired from to points all i first next after s inside room))

-- the entry that the code has read isn't empty
pub departure_found_as_coded : (from to : ℕ → ℕ) (points all i : ℕ) (first next : List (Option ℕ)) (after : List ℕ) → Pairs from to points all i first next after → to i < points → arrivals to i (to i) < length (those from all (to i)) → (p : ℕ) → p ≡ to i → (o : Option ℕ) → o ≡ get_or first p o → (b : ℕ) × (o ≡ Some b) × (b < length next)
departure_found_as_coded from to points all i first next after s inside room p q o r =
    let h = departure_is_left from to points all i first next after s inside room in
    let here : o ≡ get_or first (to i) None = r ∙ get_or_default first p o None (omega (arith, q, s.wide)) ∙ ap (λ z. get_or first z None) q in
    (get_or (those from all (to i)) (arrivals to i (to i)) 0, here ∙ h.0, h.1)

-- links through a list whose arcs are all given away lead from an empty entry
pub chain_is_over : (next : List (Option ℕ)) (o : Option ℕ) (xs : List ℕ) (n : ℕ) → length xs ≤ n → Chain next o (drop n xs) → o ≡ None
chain_is_over next o xs n l h = subst (Chain next o) (drop_all n xs l) h

-- once all arcs are paired the table is blank, since as many arcs begin as end at each point
pub table_is_blank : (hops : List Hop) (points : ℕ) (first next : List (Option ℕ)) (after : List ℕ) → IsBalanced hops points → Pairs (begins hops) (ends hops) points (length hops) (length hops) first next after → IsBlank points first
table_is_blank hops points first next after b s = record {
  wide = s.wide;
  clear = λ p. ⊎_elim
      (λ l. chain_is_over next (get_or first p None) (those (begins hops) (length hops) p) (arrivals (ends hops) (length hops) p) (omega (arith, departures_match_arrivals hops p (b.even p))) (s.chains p l))
      (λ l. get_or_past first p None (omega (arith, s.wide)))
      (below_or_not p points);
}
