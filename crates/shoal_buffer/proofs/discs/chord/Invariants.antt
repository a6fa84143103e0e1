use Rattle.std.proofs.Common.{◌≡◌, ℕ, ◌<◌, ◌≤◌, false}
use Rattle.depth_grid.specs.Disc.{near}
use Rattle.shoal_buffer.proofs.discs.chord.Given as goal

abbrev pub invariant-loop-across : goal.invariant-loop-across
invariant-loop-across l = record {
  within : l.across ≤ l.most;
  widest : (n : ℕ) → l.across < n → n ≤ l.most → near l.reach.aspect l.reach.radius l.away n ≡ false;
}

abbrev pub decreases-loop-across : goal.decreases-loop-across
decreases-loop-across l = l.across
