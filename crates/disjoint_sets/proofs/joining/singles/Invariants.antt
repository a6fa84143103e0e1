use Rattle.std.proofs.Common.{◌≡◌, ℕ, ◌<◌, length, slice_index}
use Rattle.disjoint_sets.proofs.joining.singles.Given as goal

abbrev pub invariant-loop-item : goal.invariant-loop-item
invariant-loop-item l = record {
  each : length l.parents.items ≡ l.item;
  own : (p : ℕ) → p < l.item → slice_index l.parents.items p ≡ p;
}
