use Rattle.std.proofs.Common.{◌≡◌, ◌+◌, ◌*◌, ◌≤◌, length, vec_capacity}
use Rattle.shoal_buffer.specs.Passes.{IsWindow, ArePicksBefore}
use Rattle.shoal_buffer.proofs.pass.Pass.picks.Given as goal

abbrev pub invariant-loop-row : goal.invariant-loop-row
invariant-loop-row l = record {
  window : IsWindow l.self l.window;
  behind : l.window.next ≤ l.row + l.self.discs.away;
  least : length l.cores.least.items ≡ l.self.discs.cols;
  spare : length l.cores.spare.items ≡ l.self.discs.cols;
  picked : ArePicksBefore l.self (l.row * l.self.discs.cols) l.picked.items;
  room : length l.self.values.now ≤ vec_capacity l.picked;
}
