use Rattle.std.proofs.Common.{◌≡◌, map, true}
use Rattle.std.specs.List.{range_with_len}
use Rattle.grid_reader.specs.Shape.{position, all_within}
use Rattle.grid_reader.proofs.shape.spread.Given as goal

abbrev pub invariant-loop-cells : goal.invariant-loop-cells
invariant-loop-cells l = record {
  places : l.places.items ≡ map (position l.first l.cell) (range_with_len 0 l.cells);
  within : all_within l.most (map (position l.first l.cell) (range_with_len 0 l.cells)) ≡ true;
}
