use Rattle.std.proofs.Common.{IsPermutation, ◌≡◌, ℕ, zero, suc, ◌+◌, ◌<◌, ◌≤◌, pos, ◌+ℤ◌, List, [], ◌∷◌, Bool, false, length, get_or, refl, sym, ap, ap₂, ◌∙◌, subst, inr, ⊎_elim, arith}
use Rattle.std.specs.List.{range_with_len}
use Rattle.std.specs.Prelude.{All}
use Rattle.std.proofs.lemmas.Bool.{cases_lt}
use Rattle.std.proofs.lemmas.List.{get_or_past}
use Rattle.std.proofs.lemmas.List.Elements.{All-head, All-tail, All-get_or, All-from_get_or}
use Rattle.list_counts.proofs.Ranges.{permutation_by_times, times-range_in, times-range_out}
use Rattle.list_counts.proofs.Ticks.{tick, times-append}
use Rattle.list_counts.specs.Times.{times}
use Rattle.chains.specs.declared.Line.{Line}
use Rattle.chains.specs.declared.Half.{Half}
use Rattle.chains.specs.Nets.{line_at, begin_of, end_of, total, pull, IsNet, half_at, chain_at, lines_of, IsChain, chain_pull, AreChains}
use Rattle.chains.specs.Tracing.{back, IsUsed, IsTrace, Rests}
use Rattle.chains.proofs.Halves.{no_line, begin_back, total-append}
use Rattle.chains.proofs.Counting.{numbers, times_at, tick_at_most_one, tick_true, used_inside}
use Rattle.chains.proofs.Permuted.{total-IsPermutation, total-range}
use Rattle.chains.proofs.Chain.{trace_is_chain, stranger_is_apart, chain_pull_is}

-- a chain's lines are among those of all chains
pub one_among_all : (a : ℕ) (chains : List (List Half)) (c : ℕ) → c < length chains → times a (numbers (chain_at chains c)) ≤ times a (lines_of chains)
one_among_all a [] c l = absurd (omega arith)
one_among_all a (x ∷ xs) zero l = omega (arith, times-append a (numbers x) (lines_of xs))
one_among_all a (x ∷ xs) (suc c) l = omega (arith, times-append a (numbers x) (lines_of xs), one_among_all a xs c (omega arith))

-- and those of two chains together
pub two_among_all : (a : ℕ) (chains : List (List Half)) (c d : ℕ) → c < length chains → d < length chains → (c ≡ d → ⊥) → times a (numbers (chain_at chains c)) + times a (numbers (chain_at chains d)) ≤ times a (lines_of chains)
two_among_all a [] c d lc ld n = absurd (omega arith)
two_among_all a (x ∷ xs) zero zero lc ld n = absurd (n refl)
two_among_all a (x ∷ xs) zero (suc d) lc ld n = omega (arith, times-append a (numbers x) (lines_of xs), one_among_all a xs d (omega arith))
two_among_all a (x ∷ xs) (suc c) zero lc ld n = omega (arith, times-append a (numbers x) (lines_of xs), one_among_all a xs c (omega arith))
two_among_all a (x ∷ xs) (suc c) (suc d) lc ld n =
    omega (arith, times-append a (numbers x) (lines_of xs), two_among_all a xs c d (omega arith) (omega arith) (λ e. n (ap suc e)))

-- the pull of chains is that of their lines together
chains_pull : (lines : List Line) (k p : ℕ) (chains : List (List Half)) → All (IsChain lines) chains → total (chain_pull lines k p) chains ≡ total (λ a. pull k p (line_at lines a)) (lines_of chains)
chains_pull lines k p [] all = refl
chains_pull lines k p (x ∷ xs) all =
    ap₂ ◌+ℤ◌ (chain_pull_is lines k p x (All-head (IsChain lines) x xs all)) (chains_pull lines k p xs (All-tail (IsChain lines) x xs all))
    ∙ sym (total-append (λ a. pull k p (line_at lines a)) (numbers x) (lines_of xs))

-- once each line is taken, what has been walked are the chains of the net
module _ (lines : List Line) (points : ℕ) (net : IsNet lines points) (used : List Bool) (path : List Half) (chains : List (List Half)) (r : Rests lines used path chains) (all : (a : ℕ) → a < length lines → IsUsed used a) where
  trace : (c : ℕ) → c < length chains → IsTrace lines (chain_at chains c)
  trace c l = All-get_or (IsTrace lines) chains c [] l r.traced

  single : (c : ℕ) → c < length chains → (a : ℕ) → times a (numbers (chain_at chains c)) ≤ 1
  single c l a = omega (arith, one_among_all a chains c l, r.once a, tick_at_most_one (get_or used a false))

  inside : (c : ℕ) → c < length chains → (i : ℕ) → i < length (chain_at chains c) → (half_at (chain_at chains c) i).line < length lines
  inside c l i li =
      let a = (half_at (chain_at chains c) i).line in
      let u : IsUsed used a = tick_true (get_or used a false) (omega (arith, r.once a, one_among_all a chains c l, times_at (chain_at chains c) i li)) in
      omega (arith, used_inside used a u, r.wide)

  apart : (c d i j : ℕ) → c < length chains → d < length chains → (c ≡ d → ⊥) → i < length (chain_at chains c) → j < length (chain_at chains d) → (half_at (chain_at chains d) j).line ≡ (half_at (chain_at chains c) i).line → ⊥
  apart c d i j lc ld n li lj e =
      let a = (half_at (chain_at chains c) i).line in
      omega (arith, two_among_all a chains c d lc ld n, r.once a, tick_at_most_one (get_or used a false), times_at (chain_at chains c) i li, times_at (chain_at chains d) j lj, ap (λ z. times z (numbers (chain_at chains d))) e)

  each : All (IsChain lines) chains
  each = All-from_get_or (IsChain lines) chains [] (λ c l. trace_is_chain lines points net (chain_at chains c) (trace c l) (single c l) (inside c l))

  once : IsPermutation (range_with_len 0 (length lines)) (lines_of chains)
  once = permutation_by_times (range_with_len 0 (length lines)) (lines_of chains) (λ a. ⊎_elim (below a) (above a) (cases_lt a (length lines)))
    where
      below : (a : ℕ) → a < length lines → times a (range_with_len 0 (length lines)) ≡ times a (lines_of chains)
      below a l = omega (arith, times-range_in a 0 (length lines) (omega arith) (omega arith), r.once a, ap tick (all a l))

      above : (a : ℕ) → length lines ≤ a → times a (range_with_len 0 (length lines)) ≡ times a (lines_of chains)
      above a l = omega (arith, times-range_out a 0 (length lines) (inr (omega arith)), r.once a, ap tick (get_or_past used a false (omega (arith, r.wide))))

  alone : (c d i : ℕ) → c < length chains → d < length chains → (c ≡ d → ⊥) → i + 1 < length (chain_at chains c) → (x : Half) (j : ℕ) → j < length (chain_at chains d) → x.line ≡ (half_at (chain_at chains d) j).line → end_of lines (half_at (chain_at chains c) i) ≡ begin_of lines x → ⊥
  alone c d i lc ld n li x j lj e q =
      stranger_is_apart lines points net (chain_at chains c) (trace c lc) (single c lc) (inside c lc) i li x (subst (λ z. z < length lines) (sym e) (inside d ld j lj)) (λ z. apart c d i j lc ld n (omega arith) lj (sym e ∙ z)) (λ z. apart c d (i + 1) j lc ld n li lj (sym e ∙ z)) q

  balanced : (k p : ℕ) → total (chain_pull lines k p) chains ≡ pos 0
  balanced k p =
      let g = λ (a : ℕ). pull k p (line_at lines a) in
      chains_pull lines k p chains each ∙ sym (total-IsPermutation g (range_with_len 0 (length lines)) (lines_of chains) once) ∙ total-range (pull k p) g no_line 0 lines (λ i l. let e : 0 + i ≡ i = omega arith in ap g e) ∙ net.even k p

  pub these_are_chains : AreChains lines chains
  these_are_chains = record {
    once = once;
    each = each;
    alone = λ c d i j lc ld n li lj. (
      λ q. alone c d i lc ld n li (half_at (chain_at chains d) j) j lj refl q,
      λ q. alone c d i lc ld n li (back (half_at (chain_at chains d) j)) j lj refl (q ∙ sym (begin_back lines (half_at (chain_at chains d) j))),
    );
    balanced = balanced;
  }
