use Rattle.std.proofs.Common.{◌≡◌, ℕ, ◌<◌, ◌≤◌, ◌⊎◌, length, get_or}
use Rattle.face_fill.proofs.needs.greatest.Given as goal

abbrev pub invariant-loop-count : goal.invariant-loop-count
invariant-loop-count l = record {
  outline : l.tally.outline ≤ l.most;
  counts : (k : ℕ) → k < l.count-index → get_or l.tally.counts.items k 0 ≤ l.most;
  one : (l.most ≡ l.tally.outline) ⊎ ((k : ℕ) × (k < length l.tally.counts.items) × (get_or l.tally.counts.items k 0 ≡ l.most));
}
