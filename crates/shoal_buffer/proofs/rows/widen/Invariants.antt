use Rattle.std.proofs.Common.{◌≡◌, ℕ, ◌<◌, length}
use Rattle.shoal_buffer.specs.Keys.{at, least_beside}
use Rattle.shoal_buffer.proofs.rows.widen.Given as goal

abbrev pub invariant-loop-k : goal.invariant-loop-k
invariant-loop-k l = record {
  full : length l.to ≡ length l.from;
  done : (j : ℕ) → j < l.k → at l.to j ≡ least_beside l.from j;
}
