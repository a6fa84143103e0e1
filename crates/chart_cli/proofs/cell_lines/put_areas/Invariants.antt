use Rattle.std.proofs.Common.{◌≡◌, ◌++◌, take}
use Rattle.std.specs.List.{flat_map}
use Rattle.chart_query.specs.Lines.{line_at}
use Rattle.chart_cli.proofs.cell_lines.put_areas.Given as goal

abbrev pub invariant-loop-place : goal.invariant-loop-place
invariant-loop-place l = l.out.items ≡ l.initial.out.items ++ flat_map (line_at l.parts) (take l.place-index l.found)
