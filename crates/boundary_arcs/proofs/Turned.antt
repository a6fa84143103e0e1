-- A chain that is turned round is a chain of the same lines.
use Rattle.std.proofs.Common.{◌≡◌, ℕ, zero, suc, ◌+◌, ◌-◌, ◌<◌, ◌≤◌, ℤ, pos, ◌-ℤ◌, ◌*ℤ◌, List, ◌++◌, Bool, true, false, cond, nat_eq, length, take, drop, map, IsPermutation, ◌⊎◌, inl, inr, ⊎_elim, refl, sym, ap, subst, ◌∙◌, arith}
use Rattle.std.proofs.lemmas.Bool.{cases_lt}
use Rattle.std.proofs.lemmas.Int.{ints}
use Rattle.std.proofs.lemmas.List.{append-nil, length-append, length-drop, length-take-le, get_or_append_left, get_or-append-add, get_or-drop, get_or-take, take-append-drop}
use Rattle.std.proofs.lemmas.List.Sorted.{IsPermutation-append_comm, IsPermutation-map}
use Rattle.chains.specs.declared.Half.{Half}
use Rattle.chains.specs.declared.Line.{Line}
use Rattle.chains.specs.Nets.{begin_of, end_of, left_of, right_of, ends_at, half_at, first_point, last_point, here, IsChain, chain_pull}

-- what a read past the end gives
abbrev pub no_half : Half
no_half = record { line = 0; forward = true }

-- a closed chain through points with two line ends, turned round by m + 1 halves
module _ (lines : List Line) (chain : List Half) (c : IsChain lines chain) (closed : first_point lines chain ≡ last_point lines chain) (two : ends_at lines (first_point lines chain) ≡ 2) (m : ℕ) (lk : m + 1 < length chain) where
  abbrev turned : List Half
  turned = drop (m + 1) chain ++ take (m + 1) chain

  wide : length turned ≡ length chain
  wide = omega (arith, length-append (drop (m + 1) chain) (take (m + 1) chain), length-drop (m + 1) chain, length-take-le (m + 1) chain (omega arith))

  low : (i : ℕ) → i + (m + 1) < length chain → half_at turned i ≡ half_at chain (i + (m + 1))
  low i l =
      let e : m + 1 + i ≡ i + (m + 1) = omega arith in
      get_or_append_left (drop (m + 1) chain) (take (m + 1) chain) no_half i (omega (arith, length-drop (m + 1) chain)) ∙ get_or-drop (m + 1) chain i no_half ∙ ap (half_at chain) e

  high : (j : ℕ) → j < m + 1 → half_at turned (length chain - (m + 1) + j) ≡ half_at chain j
  high j l =
      ap (λ z. half_at turned (z + j)) (sym (length-drop (m + 1) chain)) ∙ get_or-append-add (drop (m + 1) chain) (take (m + 1) chain) j no_half ∙ get_or-take (m + 1) chain j no_half l

  -- the place before the turn of a place after it
  origin : (i : ℕ) → i < length chain → (j : ℕ) × (j < length chain) × (half_at turned i ≡ half_at chain j) × ((j ≡ i + (m + 1)) ⊎ (j + length chain ≡ i + (m + 1)))
  origin i l = ⊎_elim (λ h. (i + (m + 1), h, low i h, inl refl)) above (cases_lt (i + (m + 1)) (length chain))
    where
      above : length chain ≤ i + (m + 1) → (j : ℕ) × (j < length chain) × (half_at turned i ≡ half_at chain j) × ((j ≡ i + (m + 1)) ⊎ (j + length chain ≡ i + (m + 1)))
      above h =
          let j = i + (m + 1) - length chain in
          let e : i ≡ length chain - (m + 1) + j = omega arith in
          (j, omega arith, ap (half_at turned) e ∙ high j (omega arith), inr (omega arith))

  -- a half and the one after it: so they are before the turn, or they are the last and the first
  after : (i : ℕ) → i + 1 < length chain → (j : ℕ) × (half_at turned i ≡ half_at chain j) × (((j + 1 < length chain) × (half_at turned (i + 1) ≡ half_at chain (j + 1))) ⊎ ((j ≡ length chain - 1) × (half_at turned (i + 1) ≡ half_at chain 0)))
  after i l =
      let o = origin i (omega arith) in
      let q = origin (i + 1) l in
      let same : q.0 ≡ o.0 + 1 → (j : ℕ) × (half_at turned i ≡ half_at chain j) × (((j + 1 < length chain) × (half_at turned (i + 1) ≡ half_at chain (j + 1))) ⊎ ((j ≡ length chain - 1) × (half_at turned (i + 1) ≡ half_at chain 0)))
      = λ e. (o.0, o.2, inl (omega (arith, e, q.1), q.2 ∙ ap (half_at chain) e)) in
      let seam : o.0 ≡ length chain - 1 → q.0 ≡ 0 → (j : ℕ) × (half_at turned i ≡ half_at chain j) × (((j + 1 < length chain) × (half_at turned (i + 1) ≡ half_at chain (j + 1))) ⊎ ((j ≡ length chain - 1) × (half_at turned (i + 1) ≡ half_at chain 0)))
      = λ e z. (o.0, o.2, inr (e, q.2 ∙ ap (half_at chain) z)) in
      ⊎_elim
      (λ a. ⊎_elim (λ b. same (omega (arith, a, b))) (λ b. seam (omega (arith, a, b, o.1)) (omega (arith, a, b, o.1))) q.3)
      (λ a. ⊎_elim (λ b. absurd (omega (arith, a, b, o.1, q.1))) (λ b. same (omega (arith, a, b))) q.3)
      o.3

  meets : (i : ℕ) → i + 1 < length turned → begin_of lines (half_at turned (i + 1)) ≡ end_of lines (half_at turned i)
  meets i l =
      let x = after i (omega (arith, wide)) in
      ⊎_elim
      (λ a. ap (begin_of lines) a.1 ∙ c.meets x.0 a.0 ∙ sym (ap (end_of lines) x.1))
      (λ b. ap (begin_of lines) b.1 ∙ closed ∙ ap (λ z. end_of lines (half_at chain z)) (sym b.0) ∙ sym (ap (end_of lines) x.1))
      x.2

  between : (i : ℕ) → i + 1 < length turned → ends_at lines (end_of lines (half_at turned i)) ≡ 2
  between i l =
      let x = after i (omega (arith, wide)) in
      ap (λ h. ends_at lines (end_of lines h)) x.1 ∙ ⊎_elim
      (λ a. c.between x.0 a.0)
      (λ b. ap (λ z. ends_at lines (end_of lines (half_at chain z))) b.0 ∙ ap (ends_at lines) (sym closed) ∙ two)
      x.2

  first_is : first_point lines turned ≡ begin_of lines (half_at chain (m + 1))
  first_is =
      let e : 0 + (m + 1) ≡ m + 1 = omega arith in
      ap (begin_of lines) (low 0 (omega arith) ∙ ap (half_at chain) e)

  last_is : last_point lines turned ≡ end_of lines (half_at chain m)
  last_is =
      let e : length turned - 1 ≡ length chain - (m + 1) + m = omega (arith, wide) in
      ap (end_of lines) (ap (half_at turned) e ∙ high m (omega arith))

  round : first_point lines turned ≡ last_point lines turned
  round = first_is ∙ c.meets m lk ∙ sym last_is

  left : (i : ℕ) → i < length turned → left_of lines (half_at turned i) ≡ left_of lines (half_at turned 0)
  left i l =
      let o = origin i (omega (arith, wide)) in
      let z = origin 0 (omega arith) in
      ap (left_of lines) o.2 ∙ c.left o.0 o.1 ∙ sym (c.left z.0 z.1) ∙ sym (ap (left_of lines) z.2)

  right : (i : ℕ) → i < length turned → right_of lines (half_at turned i) ≡ right_of lines (half_at turned 0)
  right i l =
      let o = origin i (omega (arith, wide)) in
      let z = origin 0 (omega arith) in
      ap (right_of lines) o.2 ∙ c.right o.0 o.1 ∙ sym (c.right z.0 z.1) ∙ sym (ap (right_of lines) z.2)

  simple : (i j : ℕ) → i < length turned → j < length turned → begin_of lines (half_at turned i) ≡ begin_of lines (half_at turned j) → i ≡ j
  simple i j li lj e =
      let o = origin i (omega (arith, wide)) in
      let q = origin j (omega (arith, wide)) in
      let s = c.simple o.0 q.0 o.1 q.1 (sym (ap (begin_of lines) o.2) ∙ e ∙ ap (begin_of lines) q.2) in
      ⊎_elim
      (λ a. ⊎_elim (λ b. omega (arith, a, b, s)) (λ b. absurd (omega (arith, a, b, s, wide))) q.3)
      (λ a. ⊎_elim (λ b. absurd (omega (arith, a, b, s, wide))) (λ b. omega (arith, a, b, s)) q.3)
      o.3

  turned_closed : IsChain lines turned
  turned_closed = record {
    long = omega (arith, wide);
    meets = meets;
    between = between;
    ends = inl round;
    left = left;
    right = right;
    simple = simple;
    last_apart = λ i p l e. let z = simple i 0 l (omega (arith, wide)) (e ∙ sym round) in omega (arith, z, p);
  }

-- a closed chain counts nothing at any point
closed_pull : (w : ℤ) (p q r : ℕ) → q ≡ r → w *ℤ (here p q -ℤ here p r) ≡ pos 0
closed_pull w p q r e = subst (λ z. w *ℤ (here p q -ℤ here p z) ≡ pos 0) e (go (nat_eq q p))
  where
    go : (b : Bool) → w *ℤ (cond b (pos 1) (pos 0) -ℤ cond b (pos 1) (pos 0)) ≡ pos 0
    go true = omega (arith, ints)
    go false = omega (arith, ints)

-- what stays when a chain is turned round: it is a chain, of the same lines, that counts the same at each point
pub record Keeps (lines : List Line) (chain turned : List Half) : Type 0 where
  pub is_chain : IsChain lines turned
  pub same_lines : IsPermutation (map (λ h. h.line) chain) (map (λ h. h.line) turned)
  pub same_pull : (k p : ℕ) → chain_pull lines k p turned ≡ chain_pull lines k p chain

permuted : (chain : List Half) (k : ℕ) → IsPermutation (map (λ h. h.line) chain) (map (λ h. h.line) (drop k chain ++ take k chain))
permuted chain k =
    IsPermutation-map (λ (h : Half). h.line) chain (drop k chain ++ take k chain)
    (subst (λ z. IsPermutation z (drop k chain ++ take k chain)) (take-append-drop k chain) (IsPermutation-append_comm (take k chain) (drop k chain)))

-- a chain that is turned round, if at all from a point with two line ends, keeps these
pub turn_keeps : (lines : List Line) (chain : List Half) (k : ℕ) → IsChain lines chain → k < length chain → (k ≡ 0) ⊎ (ends_at lines (first_point lines chain) ≡ 2) → Keeps lines chain (drop k chain ++ take k chain)
turn_keeps lines chain zero c l may = subst (Keeps lines chain) (sym (append-nil chain)) (record {
  is_chain = c;
  same_lines = subst (λ z. IsPermutation (map (λ h. h.line) chain) (map (λ h. h.line) z)) (append-nil chain) (permuted chain 0);
  same_pull = λ k p. refl;
})
turn_keeps lines chain (suc m) c l (inl e) = absurd (omega (arith, e))
turn_keeps lines chain (suc m) c l (inr two) =
    let e : m + 1 ≡ suc m = omega arith in
    let lk : m + 1 < length chain = omega arith in
    let closed : first_point lines chain ≡ last_point lines chain = ⊎_elim (λ q. q) (λ j. absurd (omega (arith, j.0, two))) c.ends in
    subst (λ z. Keeps lines chain (drop z chain ++ take z chain)) e (record {
      is_chain = turned_closed lines chain c closed two m lk;
      same_lines = permuted chain (m + 1);
      same_pull = λ k p. closed_pull _ p _ _ (round lines chain c closed two m lk) ∙ sym (closed_pull _ p _ _ closed);
    })
