use Rattle.std.proofs.Common.{◌≡◌, ℕ, ◌<◌, ◌≤◌, ◌-◌, length, get_or, false}
use Rattle.grid_reader.specs.Words.{is_space}
use Rattle.grid_reader.proofs.words.after_word.Given as goal

abbrev pub invariant-loop-at : goal.invariant-loop-at
invariant-loop-at l = record {
  from : l.from < l.at;
  within : l.at ≤ length l.text;
  stands : (k : ℕ) → l.from ≤ k → k < l.at → is_space (get_or l.text k 0) ≡ false;
}

abbrev pub decreases-loop-at : goal.decreases-loop-at
decreases-loop-at l = length l.text - l.at
