use Rattle.std.proofs.Common.{◌+◌, ◌-◌, ◌≤◌}
use Rattle.shoal_buffer.specs.Passes.{IsWindow}
use Rattle.shoal_buffer.proofs.pass.Pass.slide.Given as goal

abbrev pub invariant-loop-window : goal.invariant-loop-window
invariant-loop-window l = record {
  window : IsWindow l.self l.window;
  next : l.window.next ≤ l.row + l.self.discs.away + 1;
}

abbrev pub decreases-loop-window : goal.decreases-loop-window
decreases-loop-window l = l.self.discs.rows - l.window.next
