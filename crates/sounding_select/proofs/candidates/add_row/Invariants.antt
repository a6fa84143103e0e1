use Rattle.std.proofs.Common.{◌+◌, ◌*◌, length}
use Rattle.shoal_buffer.specs.Views.{charted_view}
use Rattle.sounding_select.specs.Candidates.{AreFound}
use Rattle.sounding_select.proofs.candidates.add_row.Given as goal

abbrev pub invariant-loop-col : goal.invariant-loop-col
invariant-loop-col l = AreFound (charted_view l.ch) (l.row * length (charted_view l.ch).grid.xs + l.col) l.found.items
