use Rattle.std.proofs.Common.{◌≡◌, ◌^◌, pos}
use Rattle.grid_reader.specs.Shape.{positions}
use Rattle.chart_sample.proofs.places.places.Given as goal

abbrev pub invariant-loop-cells : goal.invariant-loop-cells
invariant-loop-cells l = l.places.items ≡ positions l.first (pos (10 ^ 20)) l.cells
