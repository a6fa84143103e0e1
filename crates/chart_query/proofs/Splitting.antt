-- The balanced split: a run of strips stands at one node on the way up from each of its strips, and at none on the others.
use Rattle.std.proofs.Common.{◌≡◌, ◌≢◌, ℕ, ◌+◌, ◌-◌, ◌/◌, ◌%◌, ◌<◌, ◌≤◌, ltb, leb, eqb, Bool, true, false, cond, ◌&&◌, ◌||◌, List, [], ◌∷◌, ◌++◌, get_or, refl, sym, ◌∙◌, ap, ap₂, subst, ◌⊎◌, inl, inr, ⊎_elim, arith, eq-eqb}
use Rattle.std.proofs.lemmas.Bool.{and_from, and_parts, and_right, cases_Bool, cases_eq, cases_lt, eqb-true, ne_eqb, ltb-true, lt-ltb, le-ltb, le-leb, leb-true, false_from_ne_true, or_cases, or_left, or_right}
use Rattle.std.proofs.lemmas.List.Elements.{All-append, All-cons, All-nil, All-weaker}
use Rattle.std.specs.List.{All}
use Rattle.chart_query.proofs.Gathering.{gather, gather-append, gather_agree, gather_none, IsJoin, meets}
use Rattle.chart_query.specs.Split.{buckets_of, IsSplit, level_nodes, split_nodes, way_nodes}

abbrev IsWithin : ℕ → ℕ → ℕ → Type 0
IsWithin first after k = (first ≤ k) × (k < after)

pub after_first : (bases : List ℕ) (first last after : ℕ) → IsSplit bases first last after → first ≤ after
after_first [] first last after s = omega (arith, s.1)
after_first (b ∷ bases) first last after s = omega (arith, after_first bases (first + (last + 1)) (last / 2) after s.1)

-- the nodes of a level
level_within : (base low high last : ℕ) → high ≤ last → All (IsWithin base (base + (last + 1))) (level_nodes base low high)
level_within base low high last h = by_order (cases_Bool (ltb low high))
  where
    one : (b : Bool) (k : ℕ) → (b ≡ true → IsWithin base (base + (last + 1)) k) → All (IsWithin base (base + (last + 1))) (cond b (k ∷ []) [])
    one true k f = All-cons (IsWithin base (base + (last + 1))) k [] (f refl) (All-nil (IsWithin base (base + (last + 1))))
    one false k f = All-nil (IsWithin base (base + (last + 1)))

    by_order : (ltb low high ≡ true) ⊎ (ltb low high ≡ false) → All (IsWithin base (base + (last + 1))) (level_nodes base low high)
    by_order (inl e) =
        let lt : low < high = ltb-true low high e in
        subst (λ b. All (IsWithin base (base + (last + 1))) (cond b (cond (eqb (low % 2) 1) ((base + low) ∷ []) [] ++ cond (eqb (high % 2) 1) ((base + (high - 1)) ∷ []) []) [])) (sym e)
        (All-append (IsWithin base (base + (last + 1))) (cond (eqb (low % 2) 1) ((base + low) ∷ []) []) (cond (eqb (high % 2) 1) ((base + (high - 1)) ∷ []) [])
        (one (eqb (low % 2) 1) (base + low) (λ f. (omega arith, omega arith))) (one (eqb (high % 2) 1) (base + (high - 1)) (λ f. (omega arith, omega arith))))
    by_order (inr e) = subst (λ b. All (IsWithin base (base + (last + 1))) (cond b (cond (eqb (low % 2) 1) ((base + low) ∷ []) [] ++ cond (eqb (high % 2) 1) ((base + (high - 1)) ∷ []) []) [])) (sym e) (All-nil (IsWithin base (base + (last + 1))))

-- all nodes of a run are among the split's
pub split_within : (bases : List ℕ) (first last after low high : ℕ) → IsSplit bases first last after → high ≤ last → All (IsWithin first after) (split_nodes bases low high)
split_within [] first last after low high s h = All-nil (IsWithin first after)
split_within (b ∷ bases) first last after low high s h =
    All-append (IsWithin first after) (level_nodes b low high) (split_nodes bases ((low + 1) / 2) (high / 2))
    (All-weaker (IsWithin b (b + (last + 1))) (IsWithin first after) (λ k w. (omega (arith, s.0, w.0), omega (arith, s.0, w.1, after_first bases (first + (last + 1)) (last / 2) after s.1))) (level_nodes b low high) (level_within b low high last h))
    (All-weaker (IsWithin (first + (last + 1)) after) (IsWithin first after) (λ k w. (omega (arith, w.0), w.1)) (split_nodes bases ((low + 1) / 2) (high / 2)) (split_within bases (first + (last + 1)) (last / 2) after ((low + 1) / 2) (high / 2) s.1 (omega arith)))

-- and so are those on the way from a strip
pub way_within : (bases : List ℕ) (first last after k : ℕ) → IsSplit bases first last after → k ≤ last → All (IsWithin first after) (way_nodes bases k)
way_within [] first last after k s h = All-nil (IsWithin first after)
way_within (b ∷ bases) first last after k s h =
    All-cons (IsWithin first after) (b + k) (way_nodes bases (k / 2)) (omega (arith, s.0), omega (arith, s.0, after_first bases (first + (last + 1)) (last / 2) after s.1))
    (All-weaker (IsWithin (first + (last + 1)) after) (IsWithin first after) (λ k w. (omega (arith, w.0), w.1)) (way_nodes bases (k / 2)) (way_within bases (first + (last + 1)) (last / 2) after (k / 2) s.1 (omega arith)))

-- whether a strip's way has a node of a run at a level
abbrev level_hit : ℕ → ℕ → ℕ → Bool
level_hit low high k = ltb low high && ((eqb (low % 2) 1 && eqb low k) || (eqb (high % 2) 1 && eqb (high - 1) k))

-- whether it has one further up
abbrev hit_above : ℕ → ℕ → ℕ → Bool
hit_above low high k = leb ((low + 1) / 2) (k / 2) && ltb (k / 2) (high / 2)

above_parts : (low high k : ℕ) → hit_above low high k ≡ true → ((low + 1) / 2 ≤ k / 2) × (k / 2 < high / 2)
above_parts low high k e = let p = and_parts (leb ((low + 1) / 2) (k / 2)) (ltb (k / 2) (high / 2)) e in (leb-true _ _ p.0, ltb-true _ _ p.1)

level_parts : (low high k : ℕ) → level_hit low high k ≡ true → (low < high) × (((low % 2 ≡ 1) × (low ≡ k)) ⊎ ((high % 2 ≡ 1) × (high - 1 ≡ k)))
level_parts low high k e =
    let p = and_parts (ltb low high) ((eqb (low % 2) 1 && eqb low k) || (eqb (high % 2) 1 && eqb (high - 1) k)) e in (
      ltb-true low high p.0,
      ⊎_elim
          (λ (a : (eqb (low % 2) 1 && eqb low k) ≡ true). let q = and_parts (eqb (low % 2) 1) (eqb low k) a in inl (eqb-true (low % 2) 1 q.0, eqb-true low k q.1))
          (λ (a : (eqb (high % 2) 1 && eqb (high - 1) k) ≡ true). let q = and_parts (eqb (high % 2) 1) (eqb (high - 1) k) a in inr (eqb-true (high % 2) 1 q.0, eqb-true (high - 1) k q.1))
          (or_cases (eqb (low % 2) 1 && eqb low k) (eqb (high % 2) 1 && eqb (high - 1) k) p.1),
    )

run_of : (low high k : ℕ) → low ≤ k → k < high → (leb low k && ltb k high) ≡ true
run_of low high k a b = and_from (leb low k) (ltb k high) (le-leb low k a) (lt-ltb k high b)

of_hit : (low high k : ℕ) → (level_hit low high k || hit_above low high k) ≡ true → (leb low k && ltb k high) ≡ true
of_hit low high k e = ⊎_elim
    (λ (a : level_hit low high k ≡ true). let p = level_parts low high k a in ⊎_elim
    (λ (b : (low % 2 ≡ 1) × (low ≡ k)). run_of low high k (omega (arith, b.1)) (omega (arith, p.0, b.1)))
    (λ (b : (high % 2 ≡ 1) × (high - 1 ≡ k)). run_of low high k (omega (arith, p.0, b.1)) (omega (arith, p.0, b.1)))
    p.1)
    (λ (a : hit_above low high k ≡ true). let p = above_parts low high k a in run_of low high k (omega (arith, p.0)) (omega (arith, p.1)))
    (or_cases (level_hit low high k) (hit_above low high k) e)

level_of : (low high k : ℕ) → low < high → ((low % 2 ≡ 1) × (low ≡ k)) ⊎ ((high % 2 ≡ 1) × (high - 1 ≡ k)) → level_hit low high k ≡ true
level_of low high k h (inl (a, b)) = and_from (ltb low high) ((eqb (low % 2) 1 && eqb low k) || (eqb (high % 2) 1 && eqb (high - 1) k)) (lt-ltb low high h) (or_left (eqb (low % 2) 1 && eqb low k) (eqb (high % 2) 1 && eqb (high - 1) k) (and_from (eqb (low % 2) 1) (eqb low k) (eq-eqb (low % 2) 1 a) (eq-eqb low k b)))
level_of low high k h (inr (a, b)) = and_from (ltb low high) ((eqb (low % 2) 1 && eqb low k) || (eqb (high % 2) 1 && eqb (high - 1) k)) (lt-ltb low high h) (or_right (eqb (low % 2) 1 && eqb low k) (eqb (high % 2) 1 && eqb (high - 1) k) (and_from (eqb (high % 2) 1) (eqb (high - 1) k) (eq-eqb (high % 2) 1 a) (eq-eqb (high - 1) k b)))

to_hit : (low high k : ℕ) → (leb low k && ltb k high) ≡ true → (level_hit low high k || hit_above low high k) ≡ true
to_hit low high k e = ⊎_elim
    (λ (a : k / 2 < (low + 1) / 2). or_left (level_hit low high k) (hit_above low high k) (level_of low high k (omega (arith, lower, higher)) (inl (omega (arith, lower, higher), omega (arith, lower, higher)))))
    (λ (a : (low + 1) / 2 ≤ k / 2). ⊎_elim
    (λ (b : k / 2 < high / 2). or_right (level_hit low high k) (hit_above low high k) (and_from (leb ((low + 1) / 2) (k / 2)) (ltb (k / 2) (high / 2)) (le-leb _ _ a) (lt-ltb _ _ b)))
    (λ (b : high / 2 ≤ k / 2). or_left (level_hit low high k) (hit_above low high k) (level_of low high k (omega (arith, lower, higher)) (inr (omega (arith, lower, higher), omega (arith, lower, higher)))))
    (cases_lt (k / 2) (high / 2)))
    (cases_lt (k / 2) ((low + 1) / 2))
  where
    lower : low ≤ k
    lower = leb-true low k (and_parts (leb low k) (ltb k high) e).0

    higher : k < high
    higher = ltb-true k high (and_parts (leb low k) (ltb k high) e).1

same_by : (a b : Bool) → (a ≡ true → b ≡ true) → (b ≡ true → a ≡ true) → a ≡ b
same_by true b f g = sym (f refl)
same_by false true f g = g refl
same_by false false f g = refl

-- a strip of the run is one of a node that stands at this level, or of the run that is left for the next
halved : (low high k : ℕ) → (level_hit low high k || hit_above low high k) ≡ (leb low k && ltb k high)
halved low high k = same_by _ _ (of_hit low high k) (to_hit low high k)

-- and not of both
only_once : (low high k : ℕ) → level_hit low high k ≡ true → hit_above low high k ≡ false
only_once low high k e = false_from_ne_true (hit_above low high k) (λ f.
    let p = level_parts low high k e in
    let q = above_parts low high k f in
    ⊎_elim
    (λ (b : (low % 2 ≡ 1) × (low ≡ k)). absurd (omega (arith, q.0, b.0, b.1)))
    (λ (b : (high % 2 ≡ 1) × (high - 1 ≡ k)). absurd (omega (arith, p.0, q.1, b.0, b.1)))
    p.1)

module _ (op : Bool → Bool → Bool) (j : IsJoin op) where
  -- of two that don't hold both, one or the other is either
  pub either : (a b : Bool) → (a ≡ true → b ≡ false) → op a b ≡ (a || b)
  either true b h = ap (op true) (h refl) ∙ j.right true
  either false b h = j.left b

  -- a number that is none of some
  none_of : (k : ℕ) (ks : List ℕ) → All (λ n. n ≢ k) ks → gather op (eqb k) ks ≡ false
  none_of k ks h = gather_none op j (eqb k) ks (λ i d l. ne_eqb k (get_or ks i d) (λ e. h i d l (sym e)))

  shifted : (base n k : ℕ) → eqb (base + n) (base + k) ≡ eqb n k
  shifted base n k = ⊎_elim (λ (e : n ≡ k). eq-eqb (base + n) (base + k) (ap (λ m. base + m) e) ∙ sym (eq-eqb n k e)) (λ (f : n ≡ k → ⊥). ne_eqb (base + n) (base + k) (λ e. f (omega (arith, e))) ∙ sym (ne_eqb n k f)) (cases_eq n k)

  level_meets : (base low high k : ℕ) → gather op (λ n. eqb n (base + k)) (level_nodes base low high) ≡ level_hit low high k
  level_meets base low high k = by_tests (ltb low high) (eqb (low % 2) 1) (eqb (high % 2) 1) refl refl refl
    where
      by_tests : (x y z : Bool) → ltb low high ≡ x → eqb (low % 2) 1 ≡ y → eqb (high % 2) 1 ≡ z
          → gather op (λ n. eqb n (base + k)) (cond x (cond y ((base + low) ∷ []) [] ++ cond z ((base + (high - 1)) ∷ []) []) []) ≡ (x && ((y && eqb low k) || (z && eqb (high - 1) k)))
      by_tests false y z e f g = refl
      by_tests true true true e f g = ap₂ op (shifted base low k) (j.right (eqb (base + (high - 1)) (base + k)) ∙ shifted base (high - 1) k)
          ∙ either (eqb low k) (eqb (high - 1) k) (λ s. ne_eqb (high - 1) k (λ t. let lt : low < high = ltb-true low high e in let a : low % 2 ≡ 1 = eqb-true (low % 2) 1 f in let b : high % 2 ≡ 1 = eqb-true (high % 2) 1 g in let c : low ≡ k = eqb-true low k s in absurd (omega arith)))
      by_tests true true false e f g = j.right (eqb (base + low) (base + k)) ∙ shifted base low k ∙ sym (or_false (eqb low k))
        where
          or_false : (b : Bool) → (b || false) ≡ b
          or_false true = refl
          or_false false = refl
      by_tests true false true e f g = j.right (eqb (base + (high - 1)) (base + k)) ∙ shifted base (high - 1) k
      by_tests true false false e f g = refl

  -- a run stands on the way of a strip exactly if the strip is one of its own
  pub split_meets : (bases : List ℕ) (first last after low high k : ℕ) → IsSplit bases first last after → high ≤ last → k ≤ last → meets op j (way_nodes bases k) (split_nodes bases low high) ≡ (leb low k && ltb k high)
  split_meets [] first last after low high k s h l = sym (and_right (leb low k) (ltb k high) (le-ltb k high (omega (arith, s.0))))
  split_meets (b ∷ bases) first last after low high k s h l =
      gather-append op j (λ n. gather op (eqb n) ((b + k) ∷ way_nodes bases (k / 2))) (level_nodes b low high) (split_nodes bases ((low + 1) / 2) (high / 2))
      ∙ ap₂ op
      (gather_agree op j (λ n. op (eqb n (b + k)) (gather op (eqb n) (way_nodes bases (k / 2)))) (λ n. eqb n (b + k)) (level_nodes b low high) here ∙ level_meets b low high k)
      (gather_agree op j (λ n. op (eqb n (b + k)) (gather op (eqb n) (way_nodes bases (k / 2)))) (λ n. gather op (eqb n) (way_nodes bases (k / 2))) (split_nodes bases ((low + 1) / 2) (high / 2)) above
      ∙ split_meets bases (first + (last + 1)) (last / 2) after ((low + 1) / 2) (high / 2) (k / 2) s.1 (omega arith) (omega arith))
      ∙ either (level_hit low high k) (hit_above low high k) (only_once low high k)
      ∙ halved low high k
    where
      here : All (λ n. op (eqb n (b + k)) (gather op (eqb n) (way_nodes bases (k / 2))) ≡ eqb n (b + k)) (level_nodes b low high)
      here i d m = let n : ℕ = get_or (level_nodes b low high) i d in
          ap (op (eqb n (b + k))) (none_of n (way_nodes bases (k / 2)) (λ i' d' m' e.
          let w = way_within bases (first + (last + 1)) (last / 2) after (k / 2) s.1 (omega arith) i' d' m' in
          let v = level_within b low high last h i d m in
          absurd (omega (arith, s.0, e, w.0, v.1)))) ∙ j.right (eqb n (b + k))

      above : All (λ n. op (eqb n (b + k)) (gather op (eqb n) (way_nodes bases (k / 2))) ≡ gather op (eqb n) (way_nodes bases (k / 2))) (split_nodes bases ((low + 1) / 2) (high / 2))
      above i d m = let n : ℕ = get_or (split_nodes bases ((low + 1) / 2) (high / 2)) i d in
          ap (λ t. op t (gather op (eqb n) (way_nodes bases (k / 2)))) (ne_eqb n (b + k) (λ e.
          let v = split_within bases (first + (last + 1)) (last / 2) after ((low + 1) / 2) (high / 2) s.1 (omega arith) i d m in
          absurd (omega (arith, s.0, e, v.0)))) ∙ j.left (gather op (eqb n) (way_nodes bases (k / 2)))

  -- the same of all buckets of a side
  pub way_meets : (bases : List ℕ) (first last after low high k : ℕ) → IsSplit bases first last after → high ≤ last → k ≤ last → meets op j (way_nodes bases k) (buckets_of bases after low high) ≡ (leb low k && ltb k high)
  way_meets bases first last after low high k s h l =
      gather-append op j (λ n. gather op (eqb n) (way_nodes bases k)) (split_nodes bases low high) ((after + high) ∷ [])
      ∙ ap₂ op (split_meets bases first last after low high k s h l)
      (j.right (gather op (eqb (after + high)) (way_nodes bases k)) ∙ none_of (after + high) (way_nodes bases k) (λ i d m e. let w = way_within bases first last after k s l i d m in absurd (omega (arith, e, w.1))))
      ∙ j.right (leb low k && ltb k high)

  -- and the bucket of a height has a side exactly if it is its higher end's
  pub height_meets : (bases : List ℕ) (first last after low high k : ℕ) → IsSplit bases first last after → high ≤ last → meets op j ((after + k) ∷ []) (buckets_of bases after low high) ≡ eqb high k
  height_meets bases first last after low high k s h =
      gather-append op j (λ n. op (eqb n (after + k)) false) (split_nodes bases low high) ((after + high) ∷ [])
      ∙ ap₂ op
      (gather_none op j (λ n. op (eqb n (after + k)) false) (split_nodes bases low high) (λ i d m.
      let n : ℕ = get_or (split_nodes bases low high) i d in
      j.right (eqb n (after + k)) ∙ ne_eqb n (after + k) (λ e. let w = split_within bases first last after low high s h i d m in absurd (omega (arith, e, w.1)))))
      (j.right (op (eqb (after + high) (after + k)) false) ∙ j.right (eqb (after + high) (after + k)) ∙ shifted after high k)
      ∙ j.left (eqb high k)
