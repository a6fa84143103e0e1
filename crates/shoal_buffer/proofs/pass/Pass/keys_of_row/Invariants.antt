use Rattle.std.proofs.Common.{◌≡◌, ℕ, ◌<◌, ◌≤◌, length, vec_capacity}
use Rattle.shoal_buffer.specs.Keys.{at}
use Rattle.shoal_buffer.specs.Passes.{node_key}
use Rattle.shoal_buffer.proofs.pass.Pass.keys_of_row.Given as goal

abbrev pub invariant-loop-col : goal.invariant-loop-col
invariant-loop-col l = record {
  full : length l.keys.items ≡ l.col;
  room : l.self.discs.cols ≤ vec_capacity l.keys;
  each : (j : ℕ) → j < l.col → at l.keys.items j ≡ node_key l.self l.row j;
}
