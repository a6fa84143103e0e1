use Rattle.std.proofs.Common.{◌≡◌, ℕ, suc, ◌+◌, ◌-◌, ◌<◌, ◌≤◌, ℤ, pos, ◌+ℤ◌, ◌-ℤ◌, ◌*ℤ◌, List, [], ◌∷◌, Bool, true, false, cond, nat_eq, length, refl, sym, ap, ap₂, ◌∙◌, subst, ◌⊎◌, inl, inr, ⊎_elim, arith}
use Rattle.std.proofs.lemmas.Bool.{cases_eq}
use Rattle.std.proofs.lemmas.Int.{ints}
use Rattle.list_counts.specs.Times.{times}
use Rattle.chains.specs.declared.Line.{Line}
use Rattle.chains.specs.declared.Half.{Half}
use Rattle.chains.specs.Nets.{line_at, begin_of, end_of, left_of, right_of, ends_at, total, at, here, pull, IsNet, half_at, first_point, last_point, IsJunction, IsChain, chain_pull}
use Rattle.chains.specs.Tracing.{back, IsTrace}
use Rattle.chains.proofs.Halves.{induction_up, begin_back, back_differs, weight}
use Rattle.chains.proofs.GoingOn.{other_half, sides_stay, no_end_alone}
use Rattle.chains.proofs.Counting.{numbers, same_place}
use Rattle.chains.proofs.Walking.{zero_or_next}

module _ (lines : List Line) (points : ℕ) (net : IsNet lines points) (chain : List Half) (t : IsTrace lines chain) (single : (a : ℕ) → times a (numbers chain) ≤ 1) (inside : (i : ℕ) → i < length chain → (half_at chain i).line < length lines) where
  place : (i j : ℕ) → i < length chain → j < length chain → (half_at chain i).line ≡ (half_at chain j).line → i ≡ j
  place = same_place chain single

  sides : (i : ℕ) → i < length chain → (left_of lines (half_at chain i) ≡ left_of lines (half_at chain 0)) × (right_of lines (half_at chain i) ≡ right_of lines (half_at chain 0))
  sides = induction_up (λ i. i < length chain → (left_of lines (half_at chain i) ≡ left_of lines (half_at chain 0)) × (right_of lines (half_at chain i) ≡ right_of lines (half_at chain 0))) (λ _. (refl, refl)) step
    where
      step : (i : ℕ) → (i < length chain → (left_of lines (half_at chain i) ≡ left_of lines (half_at chain 0)) × (right_of lines (half_at chain i) ≡ right_of lines (half_at chain 0))) → i + 1 < length chain → (left_of lines (half_at chain (i + 1)) ≡ left_of lines (half_at chain 0)) × (right_of lines (half_at chain (i + 1)) ≡ right_of lines (half_at chain 0))
      step i ih l =
          let r = ih (omega arith) in
          let s = sides_stay lines points net (half_at chain i) (half_at chain (i + 1)) (inside i (omega arith)) (t.goes i l) in
          (s.0 ∙ r.0, s.1 ∙ r.1)

  -- a half that isn't the first begins where no other does
  alone_after : (i m : ℕ) → i < length chain → m + 1 < length chain → begin_of lines (half_at chain i) ≡ begin_of lines (half_at chain (m + 1)) → i ≡ m + 1
  alone_after i m li lm e = ⊎_elim (λ z. z) (λ d. absurd (back_differs (half_at chain m) (differs d))) (cases_eq i (m + 1))
    where
      differs : (i ≡ m + 1 → ⊥) → half_at chain m ≡ back (half_at chain m)
      differs d =
          let g = t.goes m lm in
          let b = other_half lines (end_of lines (half_at chain m)) g.two (half_at chain (m + 1)) (back (half_at chain m)) (half_at chain i) g.inside (inside m (omega arith)) (inside i li) g.meets (begin_back lines (half_at chain m)) (e ∙ g.meets) g.turns (λ z. d (place i (m + 1) li lm (ap (λ h. h.line) (sym z)))) in
          let s = place m i (omega arith) li (ap (λ h. h.line) b) in
          sym (b ∙ ap (half_at chain) (sym s))

  last_is : (k : ℕ) → length chain ≡ k + 1 → last_point lines chain ≡ end_of lines (half_at chain k)
  last_is k e = let q : length chain - 1 ≡ k = omega (arith, e) in ap (λ z. end_of lines (half_at chain z)) q

  -- nor does the chain end there
  not_last : (m : ℕ) → m + 1 < length chain → begin_of lines (half_at chain (m + 1)) ≡ last_point lines chain → ⊥
  not_last m lm e =
      let k = length chain - 1 in
      let lk : length chain ≡ k + 1 = omega arith in
      let ins : k < length chain = omega arith in
      let g = t.goes m lm in
      let h = half_at chain (m + 1) in
      let b = other_half lines (end_of lines (half_at chain m)) g.two h (back (half_at chain m)) (back (half_at chain k)) g.inside (inside m (omega arith)) (inside k ins) g.meets (begin_back lines (half_at chain m)) (begin_back lines (half_at chain k) ∙ sym (last_is k lk) ∙ sym e ∙ g.meets) g.turns
      (λ z. back_differs h (z ∙ ap (λ j. back (half_at chain j)) (sym (place (m + 1) k lm ins (ap (λ x. x.line) z))))) in
      let s = place m k (omega arith) ins (ap (λ x. x.line) b) in
      omega (arith, s, lm)

  junctions : (chain_ends : (first_point lines chain ≡ last_point lines chain) ⊎ ((ends_at lines (first_point lines chain) ≡ 2 → ⊥) × (ends_at lines (last_point lines chain) ≡ 2 → ⊥))) → (first_point lines chain ≡ last_point lines chain) ⊎ (IsJunction lines (first_point lines chain) × IsJunction lines (last_point lines chain))
  junctions (inl e) = inl e
  junctions (inr n) =
      let k = length chain - 1 in
      let ins : k < length chain = omega (arith, t.long) in
      let b = begin_back lines (half_at chain k) in
      inr (no_end_alone lines points net (half_at chain 0) (inside 0 t.long) n.0, subst (λ z. 3 ≤ ends_at lines z) b (no_end_alone lines points net (back (half_at chain k)) (inside k ins) (λ e. n.1 (ap (ends_at lines) (sym b) ∙ e))))

  -- what is walked to its end is a chain
  pub trace_is_chain : IsChain lines chain
  trace_is_chain = record {
    long = t.long;
    meets = λ i l. (t.goes i l).meets;
    between = λ i l. (t.goes i l).two;
    ends = junctions t.ends;
    left = λ i l. (sides i l).0;
    right = λ i l. (sides i l).1;
    simple = λ i j li lj e. simple i j li lj e (zero_or_next i) (zero_or_next j);
    last_apart = λ i z l e. last_apart i z l e (zero_or_next i);
  }
    where
      simple : (i j : ℕ) → i < length chain → j < length chain → begin_of lines (half_at chain i) ≡ begin_of lines (half_at chain j) → (i ≡ 0) ⊎ ((m : ℕ) × (i ≡ m + 1)) → (j ≡ 0) ⊎ ((m : ℕ) × (j ≡ m + 1)) → i ≡ j
      simple i j li lj e x (inr (m, y)) = alone_after i m li (omega arith) (e ∙ ap (λ z. begin_of lines (half_at chain z)) y) ∙ sym y
      simple i j li lj e (inl x) (inl y) = x ∙ sym y
      simple i j li lj e (inr (m, x)) (inl y) = sym (alone_after j m lj (omega arith) (sym e ∙ ap (λ z. begin_of lines (half_at chain z)) x) ∙ sym x)

      last_apart : (i : ℕ) → 0 < i → i < length chain → begin_of lines (half_at chain i) ≡ last_point lines chain → (i ≡ 0) ⊎ ((m : ℕ) × (i ≡ m + 1)) → ⊥
      last_apart i z l e (inl x) = omega arith
      last_apart i z l e (inr (m, x)) = not_last m (omega arith) (ap (λ z. begin_of lines (half_at chain z)) (sym x) ∙ e)

  -- no half of another line begins where two of the chain meet
  pub stranger_is_apart : (i : ℕ) → i + 1 < length chain → (x : Half) → x.line < length lines → (x.line ≡ (half_at chain i).line → ⊥) → (x.line ≡ (half_at chain (i + 1)).line → ⊥) → end_of lines (half_at chain i) ≡ begin_of lines x → ⊥
  stranger_is_apart i l x lx d e q =
      let g = t.goes i l in
      let h = half_at chain i in
      let b = other_half lines (end_of lines h) g.two x (back h) (half_at chain (i + 1)) lx (inside i (omega arith)) g.inside (sym q) (begin_back lines h) g.meets (λ z. d (ap (λ y. y.line) z)) (λ z. e (ap (λ y. y.line) z)) in
      g.turns (sym b)

-- 1 for true and 0 for false
abbrev one : Bool → ℤ
one b = cond b (pos 1) (pos 0)

pull_joins : (w : ℤ) (a b c : Bool) → (w *ℤ (one a -ℤ one b)) +ℤ (w *ℤ (one b -ℤ one c)) ≡ w *ℤ (one a -ℤ one c)
pull_joins w true true true = omega (arith, ints)
pull_joins w true true false = omega (arith, ints)
pull_joins w true false true = omega (arith, ints)
pull_joins w true false false = omega (arith, ints)
pull_joins w false true true = omega (arith, ints)
pull_joins w false true false = omega (arith, ints)
pull_joins w false false true = omega (arith, ints)
pull_joins w false false false = omega (arith, ints)

pull_turns : (r l : ℤ) (a b : Bool) → (r -ℤ l) *ℤ (one a -ℤ one b) ≡ (l -ℤ r) *ℤ (one b -ℤ one a)
pull_turns r l true true = omega (arith, ints)
pull_turns r l true false = omega (arith, ints)
pull_turns r l false true = omega (arith, ints)
pull_turns r l false false = omega (arith, ints)

module _ (lines : List Line) (k p : ℕ) where
  -- a line's pull is the same either way it is walked
  half_pull : (h : Half) → pull k p (line_at lines h.line) ≡ weight lines k h *ℤ (here p (begin_of lines h) -ℤ here p (end_of lines h))
  half_pull h = go h.forward
    where
      l : Line
      l = line_at lines h.line

      go : (b : Bool) → pull k p (line_at lines h.line) ≡ (at k (cond b (line_at lines h.line).right (line_at lines h.line).left) -ℤ at k (cond b (line_at lines h.line).left (line_at lines h.line).right)) *ℤ (here p (cond b (line_at lines h.line).begin (line_at lines h.line).end) -ℤ here p (cond b (line_at lines h.line).end (line_at lines h.line).begin))
      go true = refl
      go false = pull_turns (at k (line_at lines h.line).right) (at k (line_at lines h.line).left) (nat_eq (line_at lines h.line).begin p) (nat_eq (line_at lines h.line).end p)

  -- along halves with one weight that meet, all but the ends cancels
  telescopes : (w : ℤ) (x : Half) (xs : List Half) → ((i : ℕ) → i + 1 < length (x ∷ xs) → begin_of lines (half_at (x ∷ xs) (i + 1)) ≡ end_of lines (half_at (x ∷ xs) i)) → ((i : ℕ) → i < length (x ∷ xs) → weight lines k (half_at (x ∷ xs) i) ≡ w) → total (λ a. pull k p (line_at lines a)) (numbers (x ∷ xs)) ≡ w *ℤ (here p (begin_of lines x) -ℤ here p (end_of lines (half_at (x ∷ xs) (length xs))))
  telescopes w x [] m e =
      let h = half_pull x ∙ ap (λ z. z *ℤ (here p (begin_of lines x) -ℤ here p (end_of lines x))) (e 0 (omega arith)) in
      right_zero (pull k p (line_at lines x.line)) ∙ h
    where
      right_zero : (z : ℤ) → z +ℤ pos 0 ≡ z
      right_zero z = omega (arith, ints)
  telescopes w x (y ∷ ys) m e =
      let h = half_pull x ∙ ap (λ z. z *ℤ (here p (begin_of lines x) -ℤ here p (end_of lines x))) (e 0 (omega arith)) in
      let meets : begin_of lines y ≡ end_of lines x = m 0 (omega arith) in
      let r = telescopes w y ys (λ i l. let s : suc i + 1 ≡ suc (i + 1) = omega arith in subst (λ z. begin_of lines (half_at (x ∷ y ∷ ys) z) ≡ end_of lines (half_at (y ∷ ys) i)) s (m (suc i) (omega arith))) (λ i l. e (suc i) (omega arith)) in
      let q = nat_eq (end_of lines (half_at (y ∷ ys) (length ys))) p in
      ap₂ ◌+ℤ◌ h (r ∙ ap (λ z. w *ℤ (here p z -ℤ one q)) meets) ∙ pull_joins w (nat_eq (begin_of lines x) p) (nat_eq (end_of lines x) p) q

  -- a chain's pull is that of its lines together
  pub chain_pull_is : (chain : List Half) → IsChain lines chain → chain_pull lines k p chain ≡ total (λ a. pull k p (line_at lines a)) (numbers chain)
  chain_pull_is [] c = absurd (omega (arith, c.long))
  chain_pull_is (x ∷ xs) c =
      let e : length (x ∷ xs) - 1 ≡ length xs = omega arith in
      let w = weight lines k x in
      let r = telescopes w x xs c.meets (λ i l. ap₂ (λ a b. at k a -ℤ at k b) (c.right i l) (c.left i l)) in
      ap (λ z. w *ℤ (here p (begin_of lines x) -ℤ here p (end_of lines (half_at (x ∷ xs) z)))) e ∙ sym r
