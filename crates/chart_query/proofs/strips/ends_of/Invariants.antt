use Rattle.std.proofs.Common.{take, w32}
use Rattle.std.specs.Int.RustNames.{FitsSigned}
use Rattle.std.specs.List.{All}
use Rattle.chart_query.specs.Strips.{HasEnds}
use Rattle.chart_query.proofs.strips.ends_of.Given as goal

abbrev pub invariant-loop-side : goal.invariant-loop-side
invariant-loop-side l = record {
  ends : All (HasEnds l.heights.items) (take l.side-index l.sides);
  fit : All (FitsSigned w32) l.heights.items;
}
