use Rattle.std.proofs.Common.{◌≡◌, ◌++◌, eqb, take}
use Rattle.std.specs.List.{filter, flat_map}
use Rattle.chart_model.specs.declared.records.Feature.{Feature}
use Rattle.s57_codes.specs.Catalogue.{objl_depcnt}
use Rattle.chart_picture.specs.Lines.{contour_text}
use Rattle.chart_picture.proofs.drawing.put_contours.Given as goal

abbrev pub invariant-loop-place : goal.invariant-loop-place
invariant-loop-place l = l.out.items ≡ l.initial.out.items ++ flat_map (contour_text l.f l.chart) (filter (λ (f : Feature). eqb f.objl objl_depcnt) (take l.place l.features))
