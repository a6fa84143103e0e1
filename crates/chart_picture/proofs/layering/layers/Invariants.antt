use Rattle.std.proofs.Common.{take}
use Rattle.std.specs.List.{filter}
use Rattle.chart_model.specs.Areas.{is_area}
use Rattle.chart_picture.specs.Layers.{AreLayers}
use Rattle.chart_picture.proofs.layering.layers.Given as goal

abbrev pub invariant-loop-place : goal.invariant-loop-place
invariant-loop-place l = AreLayers l.features l.layers.items (filter is_area (take l.place l.features))
