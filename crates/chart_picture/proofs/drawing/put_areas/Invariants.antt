use Rattle.std.proofs.Common.{◌≡◌, ◌++◌, take}
use Rattle.std.specs.List.{flat_map}
use Rattle.chart_model.specs.Areas.{areas}
use Rattle.chart_picture.specs.Layers.{deepest_first}
use Rattle.chart_picture.specs.Lines.{area_text}
use Rattle.chart_picture.proofs.drawing.put_areas.Given as goal

abbrev pub invariant-loop-layer : goal.invariant-loop-layer
invariant-loop-layer l = l.out.items ≡ l.initial.out.items ++ flat_map (area_text l.f l.chart) (take l.layer-index (deepest_first (areas l.chart)))
