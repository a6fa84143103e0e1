-- Chains of a net that are turned round are chains of it.
use Rattle.std.proofs.Common.{◌≡◌, ℕ, zero, suc, ◌+◌, ◌-◌, ◌<◌, ◌≤◌, pos, ◌+ℤ◌, List, [], ◌∷◌, ◌++◌, Bool, true, false, not, cond, nat_eq, length, map, sum_by, IsPermutation, ◌⊎◌, inl, inr, ⊎_elim, refl, sym, ap, ap₂, subst, ◌∙◌, arith}
use Rattle.std.specs.List.{range_with_len, AllZip}
use Rattle.std.specs.Prelude.{All}
use Rattle.std.proofs.lemmas.Bool.{cases_lt, cases_eq}
use Rattle.std.proofs.lemmas.List.{length-map, get_or-map}
use Rattle.std.proofs.lemmas.List.Elements.{All-head, All-tail, All-nil, All-cons, All-get_or, All-from_get_or}
use Rattle.std.proofs.lemmas.List.Sorted.{IsPermutation-refl, IsPermutation-trans, IsPermutation-append_left, IsPermutation-append_right, sum_by-IsPermutation}
use Rattle.std.proofs.lemmas.List.Sums.{sum_by-cons}
use Rattle.list_counts.proofs.Ticks.{tick, tick_same, tick_other}
use Rattle.list_counts.specs.Times.{times}
use Rattle.chains.proofs.Whole.{one_among_all, two_among_all}
use Rattle.boundary_arcs.specs.ChainEdges.{BeginsLeast, IsHalfOf, IsTurn}
use Rattle.boundary_arcs.proofs.LineEnds.{times_one, two_ends, three_ends}
use Rattle.boundary_arcs.proofs.Turned.{Keeps, no_half, turn_keeps}
use Rattle.chains.specs.declared.Half.{Half}
use Rattle.chains.specs.declared.Line.{Line}
use Rattle.chains.specs.Nets.{line_at, begin_of, end_of, left_of, right_of, ends_at, half_at, chain_at, lines_of, first_point, last_point, total, IsNet, IsChain, chain_pull, AreChains}
use Rattle.chains.specs.Tracing.{back}
use Rattle.plane_geom.specs.declared.Point.{Point}

-- the numbers of a chain's lines
abbrev numbers : List Half → List ℕ
numbers chain = map (λ h. h.line) chain

times_is_sum : (a : ℕ) (xs : List ℕ) → times a xs ≡ sum_by (λ x. tick (nat_eq x a)) xs
times_is_sum a [] = refl
times_is_sum a (x ∷ xs) = omega (arith, times_is_sum a xs, sum_by-cons (λ y. tick (nat_eq y a)) x xs)

times_permuted : (a : ℕ) (xs ys : List ℕ) → IsPermutation xs ys → times a ys ≡ times a xs
times_permuted a xs ys h = times_is_sum a ys ∙ sum_by-IsPermutation (λ x. tick (nat_eq x a)) xs ys h ∙ sym (times_is_sum a xs)

-- a number stands in a range once, or not at all
times-range : (a s n : ℕ) → (times a (range_with_len s n) ≤ 1) × ((a < s) ⊎ (s + n ≤ a) → times a (range_with_len s n) ≡ 0)
times-range a s zero = (omega arith, λ h. refl)
times-range a s (suc n) =
    let r = times-range a (s + 1) n in
    ⊎_elim
    (λ e. let z = r.1 (inl (omega (arith, e))) in (omega (arith, z, tick_same s a e), ⊎_elim (λ l. absurd (omega (arith, l, e))) (λ l. absurd (omega (arith, l, e)))))
    (λ d. (omega (arith, r.0, tick_other s a d), λ h. let z = r.1 (⊎_elim (λ l. inl (omega (arith, l))) (λ l. inr (omega (arith, l))) h) in omega (arith, z, tick_other s a d)))
    (cases_eq s a)

times_at : (chain : List Half) (i : ℕ) → i < length chain → 1 ≤ times (half_at chain i).line (numbers chain)
times_at chain i l = times_one (half_at chain i).line (numbers chain) i (omega (arith, length-map chain (λ (h : Half). h.line))) (get_or-map (λ (h : Half). h.line) chain i no_half 0 l)

cond_not : {X : Type 0} (b : Bool) (x y : X) → cond (not b) x y ≡ cond b y x
cond_not true x y = refl
cond_not false x y = refl

begin_back : (lines : List Line) (h : Half) → begin_of lines (back h) ≡ end_of lines h
begin_back lines h = cond_not h.forward (line_at lines h.line).begin (line_at lines h.line).end

left_back : (lines : List Line) (h : Half) → left_of lines (back h) ≡ right_of lines h
left_back lines h = cond_not h.forward (line_at lines h.line).left (line_at lines h.line).right

-- a half has different sides
pub half_parted : (lines : List Line) (points : ℕ) → IsNet lines points → (h : Half) → h.line < length lines → left_of lines h ≡ right_of lines h → ⊥
half_parted lines points net h l = go h.forward
  where
    go : (b : Bool) → cond b (line_at lines h.line).left (line_at lines h.line).right ≡ cond b (line_at lines h.line).right (line_at lines h.line).left → ⊥
    go true e = net.parted h.line l e
    go false e = net.parted h.line l (sym e)

-- of two halves with the same left none is the other, walked back
not_back : (lines : List Line) (points : ℕ) → IsNet lines points → (x y : Half) → y.line < length lines → left_of lines x ≡ left_of lines y → x ≡ back y → ⊥
not_back lines points net x y l s e = half_parted lines points net y l (sym s ∙ ap (left_of lines) e ∙ left_back lines y)

-- where a chain is closed, two line ends or more lie where it begins
pub closed_ends : (lines : List Line) (points : ℕ) → IsNet lines points → (chain : List Half) → IsChain lines chain → All (IsHalfOf lines) chain → first_point lines chain ≡ last_point lines chain → 2 ≤ ends_at lines (first_point lines chain)
closed_ends lines points net chain c inside closed =
    let first = half_at chain 0 in
    let last = half_at chain (length chain - 1) in
    let l0 = All-get_or (IsHalfOf lines) chain 0 no_half c.long inside in
    let here : length chain - 1 < length chain = omega (arith, c.long) in
    let l1 = All-get_or (IsHalfOf lines) chain (length chain - 1) no_half here inside in
    two_ends lines first (back last) (first_point lines chain) l0 l1 (not_back lines points net first last l1 (sym (c.left (length chain - 1) here))) refl (begin_back lines last ∙ sym closed)

-- chains that have each line of a net once
module _ (lines : List Line) (points : ℕ) (net : IsNet lines points) (chains : List (List Half)) (once : IsPermutation (range_with_len 0 (length lines)) (lines_of chains)) (each : All (IsChain lines) chains) where
  at_most_once : (a : ℕ) → times a (lines_of chains) ≤ 1
  at_most_once a = omega (arith, times_permuted a _ _ once, (times-range a 0 (length lines)).0)

  -- their halves are of lines of the net
  pub half_inside : (c i : ℕ) → c < length chains → i < length (chain_at chains c) → (half_at (chain_at chains c) i).line < length lines
  half_inside c i l li =
      let a = (half_at (chain_at chains c) i).line in
      ⊎_elim (λ x. x) (λ x. let z = (times-range a 0 (length lines)).1 (inr (omega (arith, x))) in absurd (omega (arith, z, times_permuted a _ _ once, one_among_all a chains c l, times_at (chain_at chains c) i li))) (cases_lt a (length lines))

  pub all_inside : All (All (IsHalfOf lines)) chains
  all_inside = All-from_get_or (All (IsHalfOf lines)) chains [] (λ c l. All-from_get_or (IsHalfOf lines) (chain_at chains c) no_half (λ i li. half_inside c i l li))

  -- two chains have no line in common
  lines_apart : (c d i j : ℕ) → c < length chains → d < length chains → (c ≡ d → ⊥) → i < length (chain_at chains c) → j < length (chain_at chains d) → (half_at (chain_at chains c) i).line ≡ (half_at (chain_at chains d) j).line → ⊥
  lines_apart c d i j lc ld n li lj e =
      let a = (half_at (chain_at chains c) i).line in
      omega (arith, at_most_once a, two_among_all a chains c d lc ld n, times_at (chain_at chains c) i li, times_at (chain_at chains d) j lj, ap (λ z. times z (numbers (chain_at chains d))) e)

  -- no half of another chain begins between two lines of a chain
  stranger_is_apart : (c d i j : ℕ) → c < length chains → d < length chains → (c ≡ d → ⊥) → i + 1 < length (chain_at chains c) → j < length (chain_at chains d) → (z : Half) → z.line ≡ (half_at (chain_at chains d) j).line → end_of lines (half_at (chain_at chains c) i) ≡ begin_of lines z → ⊥
  stranger_is_apart c d i j lc ld n li lj z same e =
      let chain = chain_at chains c in
      let k = All-get_or (IsChain lines) chains c [] lc each in
      let x = half_at chain (i + 1) in
      let y = half_at chain i in
      let p = end_of lines y in
      let lx = half_inside c (i + 1) lc li in
      let ly = half_inside c i lc (omega arith) in
      let lz : z.line < length lines = subst (λ w. w < length lines) (sym same) (half_inside d j ld lj) in
      let t = three_ends lines x (back y) z p lx ly lz
      (not_back lines points net x y ly (k.left (i + 1) li ∙ sym (k.left i (omega arith))))
      (λ q. lines_apart c d (i + 1) j lc ld n li lj (ap (λ h. h.line) q ∙ same))
      (λ q. lines_apart c d i j lc ld n (omega arith) lj (ap (λ h. h.line) q ∙ same))
      (k.meets i li) (begin_back lines y) (sym e) in
      omega (arith, t, k.between i li)

  alone : (c d i j : ℕ) → c < length chains → d < length chains → (c ≡ d → ⊥) → i + 1 < length (chain_at chains c) → j < length (chain_at chains d) →
      (end_of lines (half_at (chain_at chains c) i) ≡ begin_of lines (half_at (chain_at chains d) j) → ⊥) × (end_of lines (half_at (chain_at chains c) i) ≡ end_of lines (half_at (chain_at chains d) j) → ⊥)
  alone c d i j lc ld n li lj = (
    λ e. stranger_is_apart c d i j lc ld n li lj (half_at (chain_at chains d) j) refl e,
    λ e. stranger_is_apart c d i j lc ld n li lj (back (half_at (chain_at chains d) j)) refl (e ∙ sym (begin_back lines (half_at (chain_at chains d) j))),
  )

  pub chains_of_net : ((k p : ℕ) → total (chain_pull lines k p) chains ≡ pos 0) → AreChains lines chains
  chains_of_net balanced = record { once = once; each = each; alone = alone; balanced = balanced }

-- each chain keeps what a chain keeps that is turned round
each_keeps : (points : List Point) (lines : List Line) (chains turned : List (List Half)) → All (IsChain lines) chains → AllZip (IsTurn points lines) chains turned → AllZip (Keeps lines) chains turned × All (BeginsLeast points lines) turned
each_keeps points lines [] [] each t = (tt, All-nil (BeginsLeast points lines))
each_keeps points lines [] (y ∷ ys) each t = absurd t
each_keeps points lines (x ∷ xs) [] each t = absurd t
each_keeps points lines (x ∷ xs) (y ∷ ys) each t =
    let rest = each_keeps points lines xs ys (All-tail (IsChain lines) x xs each) t.1 in
    let k = turn_keeps lines x t.0.place (All-head (IsChain lines) x xs each) t.0.inside t.0.may in
    ((subst (Keeps lines x) (sym t.0.is) k, rest.0), All-cons (BeginsLeast points lines) y ys t.0.least rest.1)

kept_chains : (lines : List Line) (chains turned : List (List Half)) → AllZip (Keeps lines) chains turned → All (IsChain lines) turned
kept_chains lines [] [] t = All-nil (IsChain lines)
kept_chains lines [] (y ∷ ys) t = absurd t
kept_chains lines (x ∷ xs) [] t = absurd t
kept_chains lines (x ∷ xs) (y ∷ ys) t = All-cons (IsChain lines) y ys t.0.is_chain (kept_chains lines xs ys t.1)

kept_lines : (lines : List Line) (chains turned : List (List Half)) → AllZip (Keeps lines) chains turned → IsPermutation (lines_of chains) (lines_of turned)
kept_lines lines [] [] t = IsPermutation-refl []
kept_lines lines [] (y ∷ ys) t = absurd t
kept_lines lines (x ∷ xs) [] t = absurd t
kept_lines lines (x ∷ xs) (y ∷ ys) t =
    IsPermutation-trans (numbers x ++ lines_of xs) (numbers y ++ lines_of xs) (numbers y ++ lines_of ys)
    (IsPermutation-append_left (lines_of xs) (numbers x) (numbers y) t.0.same_lines)
    (IsPermutation-append_right (numbers y) (lines_of xs) (lines_of ys) (kept_lines lines xs ys t.1))

kept_pull : (lines : List Line) (k p : ℕ) (chains turned : List (List Half)) → AllZip (Keeps lines) chains turned → total (chain_pull lines k p) turned ≡ total (chain_pull lines k p) chains
kept_pull lines k p [] [] t = refl
kept_pull lines k p [] (y ∷ ys) t = absurd t
kept_pull lines k p (x ∷ xs) [] t = absurd t
kept_pull lines k p (x ∷ xs) (y ∷ ys) t = ap₂ ◌+ℤ◌ (t.0.same_pull k p) (kept_pull lines k p xs ys t.1)

-- turned round, the chains of a net are chains of it, and each that begins at a point with two line ends begins at its least point
pub turned_chains : (points : List Point) (lines : List Line) → IsNet lines (length points) → (chains turned : List (List Half)) → AreChains lines chains → AllZip (IsTurn points lines) chains turned → AreChains lines turned × All (BeginsLeast points lines) turned
turned_chains points lines net chains turned are t =
    let k = each_keeps points lines chains turned are.each t in
    let once = IsPermutation-trans (range_with_len 0 (length lines)) (lines_of chains) (lines_of turned) are.once (kept_lines lines chains turned k.0) in
    (chains_of_net lines (length points) net turned once (kept_chains lines chains turned k.0) (λ f p. kept_pull lines f p chains turned k.0 ∙ are.balanced f p), k.1)
