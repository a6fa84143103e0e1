use Rattle.std.proofs.Common.{◌+◌, ◌*◌, ◌≤◌, length, vec_capacity}
use Rattle.shoal_buffer.specs.Passes.{ArePicksBefore}
use Rattle.shoal_buffer.proofs.pass.Pass.append_row.Given as goal

abbrev pub invariant-loop-col : goal.invariant-loop-col
invariant-loop-col l = record {
  picks : ArePicksBefore l.self (l.cores.row * l.self.discs.cols + l.col) l.picked.items;
  room : length l.self.values.now ≤ vec_capacity l.picked;
}
