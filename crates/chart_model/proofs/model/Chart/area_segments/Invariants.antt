use Rattle.std.proofs.Common.{◌≡◌, take}
use Rattle.std.specs.List.{flat_map}
use Rattle.chart_model.specs.Lines.{pointed}
use Rattle.chart_model.proofs.model.Chart.area_segments.Given as goal

abbrev pub invariant-loop-pointer : goal.invariant-loop-pointer
invariant-loop-pointer l = l.segments.items ≡ flat_map (pointed l.self-inside.parts) (take l.pointer-index l.pointers)
