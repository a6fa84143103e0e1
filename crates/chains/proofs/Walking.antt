use Rattle.std.proofs.Common.{◌≡◌, ℕ, zero, suc, ◌+◌, ◌-◌, ◌<◌, ◌≤◌, List, [], ◌∷◌, ◌++◌, Bool, true, false, length, get_or, set, refl, sym, ap, ◌∙◌, subst, ◌⊎◌, inl, inr, ⊎_elim, arith, length-append}
use Rattle.std.proofs.lemmas.Bool.{cases_eq, cases_lt, false≢true}
use Rattle.std.proofs.lemmas.List.{get_or_append_left, get_or_push}
use Rattle.chains.specs.declared.Line.{Line}
use Rattle.chains.specs.declared.Half.{Half}
use Rattle.chains.specs.Nets.{begin_of, end_of, ends_at, half_at, first_point, last_point}
use Rattle.chains.specs.Tracing.{back, GoesOn, Leaves, IsUsed, IsSettled, IsTrace, MayBegin, Came, Walks}
use Rattle.chains.proofs.Halves.{half_of, same_line, back_back, back_differs, end_back}
use Rattle.chains.proofs.GoingOn.{one_goes_on, goes_back, goes_on_from_one}
use Rattle.chains.proofs.Counting.{path_takes, no_line_twice, used_on_path, unused_before, line_inside, stays_used, used_before_or_on_path, same_place}

-- a half read past the end
abbrev none : Half
none = half_of 0 true

pub zero_or_next : (i : ℕ) → (i ≡ 0) ⊎ ((m : ℕ) × (i ≡ m + 1))
zero_or_next zero = inl refl
zero_or_next (suc m) = inr (m, omega arith)

-- the walk takes one half more
module _ (lines : List Line) (used : List Bool) (path : List Half) (used' : List Bool) (start half : Half) (w : Walks lines used path used' start half) (fresh : get_or used' half.line false ≡ false) where
  not_on_path : (i : ℕ) → i < length path → half ≡ half_at path i → ⊥
  not_on_path i l e = false≢true (sym fresh ∙ ap (λ z. get_or used' z.line false) e ∙ used_on_path lines used path used' w.takes i l)

  old_place : (i : ℕ) → i < length path → half_at (path ++ half ∷ []) i ≡ half_at path i
  old_place i l = get_or_append_left path (half ∷ []) none i l

  new_place : (i : ℕ) → length path ≡ i → half_at (path ++ half ∷ []) i ≡ half
  new_place i e = get_or_push path half none i e

  goes_on_from_last : Came lines path start half → (i : ℕ) → length path ≡ i + 1 → GoesOn lines (half_at path i) half
  goes_on_from_last (inl c) i e = absurd (omega (arith, e, ap length c.0))
  goes_on_from_last (inr (k, lk, first, leaves)) i e =
      let s : k ≡ i = omega arith in
      subst (λ z. GoesOn lines (half_at path z) half) s (⊎_elim (λ g. g) (λ n. absurd (not_on_path k (omega arith) n.1)) leaves)

  begins_with_start : Came lines path start half → half_at (path ++ half ∷ []) 0 ≡ start
  begins_with_start (inl c) = new_place 0 (ap length c.0) ∙ c.1
  begins_with_start (inr (k, lk, first, leaves)) = old_place 0 (omega arith) ∙ first

  pub walk_steps : (next : Half) → Leaves lines half next → Walks lines used (path ++ half ∷ []) (set used' half.line true) start next
  walk_steps next leaves = record {
    takes = path_takes lines used path used' half w.takes w.inside fresh;
    inside = ⊎_elim (λ g. g.inside) (λ n. subst (λ z. z.line < length lines) (sym n.1) w.inside) leaves;
    goes = λ i l. go i l (cases_lt (i + 1) (length path));
    came = inr (length path, length-append path (half ∷ []), begins_with_start w.came, subst (λ z. Leaves lines z next) (sym (new_place (length path) refl)) leaves);
  }
    where
      go : (i : ℕ) → i + 1 < length (path ++ half ∷ []) → (i + 1 < length path) ⊎ (length path ≤ i + 1) → GoesOn lines (half_at (path ++ half ∷ []) i) (half_at (path ++ half ∷ []) (i + 1))
      go i l (inl k) =
          let a = sym (old_place i (omega arith)) in
          subst (λ z. GoesOn lines z (half_at (path ++ half ∷ []) (i + 1))) a (subst (λ z. GoesOn lines (half_at path i) z) (sym (old_place (i + 1) k)) (w.goes i k))
      go i l (inr k) =
          let e : length path ≡ i + 1 = omega (arith, length-append path (half ∷ [])) in
          let a = sym (old_place i (omega arith)) in
          subst (λ z. GoesOn lines z (half_at (path ++ half ∷ []) (i + 1))) a (subst (λ z. GoesOn lines (half_at path i) z) (sym (new_place (i + 1) e)) (goes_on_from_last w.came i e))

-- the walk comes to a line that was taken
module _ (lines : List Line) (used : List Bool) (settled : IsSettled lines used) (path : List Half) (used' : List Bool) (start next : Half) (fresh : get_or used start.line false ≡ false) (may : MayBegin lines used start) (w : Walks lines used path used' start next) (taken : IsUsed used' next.line) where
  on : (i : ℕ) → i < length path → IsUsed used' (half_at path i).line
  on i l = used_on_path lines used path used' w.takes i l

  inside : (i : ℕ) → i < length path → (half_at path i).line < length lines
  inside i l = line_inside lines used path used' w.takes i l

  place : (i j : ℕ) → i < length path → j < length path → (half_at path i).line ≡ (half_at path j).line → i ≡ j
  place i j li lj e = same_place path (no_line_twice lines used path used' w.takes) i j li lj e

  -- what is known of the last half of the path
  record Last : Type 0 where
    k : ℕ
    long : length path ≡ k + 1
    first : half_at path 0 ≡ start
    leaves : Leaves lines (half_at path k) next

  last : Last
  last = go w.came
    where
      go : Came lines path start next → Last
      go (inl c) =
          let u = subst (λ z. IsUsed used' z.line) c.1 taken in
          ⊎_elim (λ b. absurd (false≢true (sym fresh ∙ b))) (λ i. absurd (omega (arith, i.1, ap length c.0))) (used_before_or_on_path lines used path used' w.takes start.line u)
      go (inr (k, long, first, leaves)) = record { k = k; long = long; first = first; leaves = leaves }

  abbrev end : Half
  end = half_at path last.k

  last_inside : last.k < length path
  last_inside = omega (arith, last.long)

  -- where a half goes on it is the first
  closes : GoesOn lines end next → next ≡ start
  closes g = ⊎_elim before (λ i. on_path i.0 i.1 (same_line next (half_at path i.0) (sym i.2))) (used_before_or_on_path lines used path used' w.takes next.line taken)
    where
      before : IsUsed used next.line → next ≡ start
      before u = absurd (false≢true (sym (unused_before lines used path used' w.takes last.k last_inside) ∙ settled (back next) (back end) w.inside u (goes_back lines end next (inside last.k last_inside) g)))

      forth : (j : ℕ) → j < length path → next ≡ half_at path j → (j ≡ 0) ⊎ ((m : ℕ) × (j ≡ m + 1)) → next ≡ start
      forth j l e (inl z) = e ∙ ap (half_at path) z ∙ last.first
      forth j l e (inr (m, z)) =
          let q : next ≡ half_at path (m + 1) = e ∙ ap (half_at path) z in
          let lm : m + 1 < length path = omega arith in
          let s = goes_on_from_one lines (half_at path m) end next (inside m (omega arith)) (inside last.k last_inside) (subst (GoesOn lines (half_at path m)) (sym q) (w.goes m lm)) g in
          let p = place m last.k (omega arith) last_inside (ap (λ h. h.line) s) in
          absurd (omega (arith, p, last.long, lm))

      reversed : (j : ℕ) → j < length path → next ≡ back (half_at path j) → (j ≡ last.k) ⊎ (j ≡ last.k → ⊥) → next ≡ start
      reversed j l e (inl z) = absurd (g.turns (e ∙ ap (λ i. back (half_at path i)) z))
      reversed j l e (inr d) =
          let q : back next ≡ half_at path j = ap back e ∙ back_back (half_at path j) in
          let lj : j + 1 < length path = let n : j + 1 ≡ length path → ⊥ = λ x. d (omega (arith, x, last.long)) in omega (arith, l, n) in
          let r = subst (λ z. GoesOn lines z (back end)) q (goes_back lines end next (inside last.k last_inside) g) in
          let s = one_goes_on lines (half_at path j) (half_at path (j + 1)) (back end) (inside j l) (w.goes j lj) r in
          let p = place (j + 1) last.k lj last_inside (ap (λ h. h.line) s) in
          absurd (back_differs end (ap (half_at path) (sym p) ∙ s))

      on_path : (j : ℕ) → j < length path → (next ≡ half_at path j) ⊎ (next ≡ back (half_at path j)) → next ≡ start
      on_path j l (inl e) = forth j l e (zero_or_next j)
      on_path j l (inr e) = reversed j l e (cases_eq j last.k)

  -- where none goes on the walk began at such a point too
  opens : (ends_at lines (end_of lines end) ≡ 2 → ⊥) → ends_at lines (begin_of lines start) ≡ 2 → ⊥
  opens n = ⊎_elim (λ b. b) (λ all. absurd (n (all end (inside last.k last_inside) (unused_before lines used path used' w.takes last.k last_inside)))) may

  pub walk_is_traced : IsTrace lines path
  walk_is_traced = record { long = omega (arith, last.long); goes = w.goes; ends = ends last.leaves }
    where
      at_last : last_point lines path ≡ end_of lines end
      at_last = let e : length path - 1 ≡ last.k = omega (arith, last.long) in ap (λ z. end_of lines (half_at path z)) e

      at_first : first_point lines path ≡ begin_of lines start
      at_first = ap (begin_of lines) last.first

      ends : Leaves lines end next → (first_point lines path ≡ last_point lines path) ⊎ ((ends_at lines (first_point lines path) ≡ 2 → ⊥) × (ends_at lines (last_point lines path) ≡ 2 → ⊥))
      ends (inl g) = inl (at_first ∙ ap (begin_of lines) (sym (closes g)) ∙ g.meets ∙ sym at_last)
      ends (inr n) = inr (λ e. opens n.0 (sym (ap (ends_at lines) at_first) ∙ e), λ e. n.0 (sym (ap (ends_at lines) at_last) ∙ e))

  pub start_is_taken : IsUsed used' start.line
  start_is_taken = subst (λ z. IsUsed used' z.line) last.first (on 0 (omega (arith, last.long)))

  pub walk_is_settled : IsSettled lines used'
  walk_is_settled h t l u g = ⊎_elim
      (λ b. stays_used lines used path used' w.takes t.line (settled h t l b g))
      (λ i. on_path i.0 i.1 (same_line h (half_at path i.0) (sym i.2)))
      (used_before_or_on_path lines used path used' w.takes h.line u)
    where
      after_last : h ≡ end → Leaves lines end next → IsUsed used' t.line
      after_last e (inl n) = subst (λ z. IsUsed used' z.line) (one_goes_on lines end next t (inside last.k last_inside) n (subst (λ z. GoesOn lines z t) e g)) taken
      after_last e (inr n) = absurd (n.0 (sym (ap (λ z. ends_at lines (end_of lines z)) e) ∙ g.two))

      forth : (i : ℕ) → i < length path → h ≡ half_at path i → (i ≡ last.k) ⊎ (i ≡ last.k → ⊥) → IsUsed used' t.line
      forth i li e (inl z) = after_last (e ∙ ap (half_at path) z) last.leaves
      forth i li e (inr d) =
          let lj : i + 1 < length path = let n : i + 1 ≡ length path → ⊥ = λ x. d (omega (arith, x, last.long)) in omega (arith, li, n) in
          let s = one_goes_on lines (half_at path i) (half_at path (i + 1)) t (inside i li) (w.goes i lj) (subst (λ z. GoesOn lines z t) e g) in
          subst (λ z. IsUsed used' z.line) s (on (i + 1) lj)

      before_first : h ≡ back start → Leaves lines end next → IsUsed used' t.line
      before_first e (inl n) =
          let q : h ≡ back next = e ∙ ap back (sym (closes n)) in
          let r = goes_back lines end next (inside last.k last_inside) n in
          let s = one_goes_on lines (back next) (back end) t w.inside r (subst (λ z. GoesOn lines z t) q g) in
          subst (λ z. IsUsed used' z.line) s (on last.k last_inside)
      before_first e (inr n) = absurd (opens n.0 (ap (ends_at lines) (sym (end_back lines start)) ∙ ap (λ z. ends_at lines (end_of lines z)) (sym e) ∙ g.two))

      reversed : (i : ℕ) → i < length path → h ≡ back (half_at path i) → (i ≡ 0) ⊎ ((m : ℕ) × (i ≡ m + 1)) → IsUsed used' t.line
      reversed i li e (inl z) = before_first (e ∙ ap (λ j. back (half_at path j)) z ∙ ap back last.first) last.leaves
      reversed i li e (inr (m, z)) =
          let lm : m + 1 < length path = omega arith in
          let q : h ≡ back (half_at path (m + 1)) = e ∙ ap (λ j. back (half_at path j)) z in
          let r = goes_back lines (half_at path m) (half_at path (m + 1)) (inside m (omega arith)) (w.goes m lm) in
          let s = one_goes_on lines (back (half_at path (m + 1))) (back (half_at path m)) t (inside (m + 1) lm) r (subst (λ z. GoesOn lines z t) q g) in
          subst (λ z. IsUsed used' z.line) s (on m (omega arith))

      on_path : (i : ℕ) → i < length path → (h ≡ half_at path i) ⊎ (h ≡ back (half_at path i)) → IsUsed used' t.line
      on_path i li (inl e) = forth i li e (cases_eq i last.k)
      on_path i li (inr e) = reversed i li e (zero_or_next i)
