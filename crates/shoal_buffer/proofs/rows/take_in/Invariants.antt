use Rattle.std.proofs.Common.{◌≡◌, ℕ, ◌<◌, ◌≤◌, length}
use Rattle.shoal_buffer.specs.declared.picks.Pick.TheVariants.{Least}
use Rattle.shoal_buffer.specs.Picks.{better}
use Rattle.shoal_buffer.specs.Keys.{at}
use Rattle.shoal_buffer.proofs.rows.take_in.Given as goal

abbrev pub invariant-loop-k : goal.invariant-loop-k
invariant-loop-k l = record {
  full : length l.least ≡ length l.fn.least;
  done : (j : ℕ) → j < l.k → at l.least j ≡ better Least (at l.fn.least j) (at l.row j);
  rest : (j : ℕ) → l.k ≤ j → at l.least j ≡ at l.fn.least j;
}
