use Rattle.std.proofs.Common.{◌≡◌, ℕ, ◌<◌, ◌≤◌, List, Option, Bool, false, length, get_or, ap, inr, ⊎_elim, arith}
use Rattle.std.specs.List.{concat, range_with_len}
use Rattle.std.proofs.lemmas.List.{get_or_past}
use Rattle.list_counts.proofs.Ranges.{permutation_by_times, times-range_in, times-range_out}
use Rattle.list_counts.proofs.Ticks.{tick}
use Rattle.list_counts.specs.Times.{times}
use Rattle.ring_cutter.specs.declared.Hop.{Hop}
use Rattle.ring_cutter.specs.Rings.{begins, ends, CutsIntoRings}
use Rattle.ring_cutter.specs.Cutting.{IsUsed, Rests}
use Rattle.ring_cutter.proofs.Pairs.{below_or_not}

-- once each arc is taken and no path is left, the rings have each arc once
pub cut_is_whole : (hops : List Hop) (points : ℕ) (after : List ℕ) (used : List Bool) (place : List (Option ℕ)) (path : List ℕ) (rings : List (List ℕ)) → Rests (begins hops) (ends hops) points (length hops) after used place path rings → ((a : ℕ) → a < length hops → IsUsed used a) → CutsIntoRings hops rings
cut_is_whole hops points after used place path rings r all = record {
  each_once = permutation_by_times (range_with_len 0 (length hops)) (concat rings) (λ a. ⊎_elim (inside a) (outside a) (below_or_not a (length hops)));
  closed = r.takes.closed;
}
  where
    in_rings : (a : ℕ) → times a (concat rings) ≡ tick (get_or used a false)
    in_rings a = omega (arith, r.takes.once a, ap (times a) r.empty)

    inside : (a : ℕ) → a < length hops → times a (range_with_len 0 (length hops)) ≡ times a (concat rings)
    inside a l = omega (arith, times-range_in a 0 (length hops) (omega arith) (omega arith), in_rings a, ap tick (all a l))

    outside : (a : ℕ) → length hops ≤ a → times a (range_with_len 0 (length hops)) ≡ times a (concat rings)
    outside a l = omega (arith, times-range_out a 0 (length hops) (inr (omega arith)), in_rings a, ap tick (get_or_past used a false (omega (arith, r.takes.wide))))
