use Rattle.std.proofs.Common.{◌≡◌, None, map, take}
use Rattle.chart_model.specs.References.{lost_of, pointer_name}
use Rattle.chart_model.proofs.lost.lost_of_feature.Given as goal

abbrev pub invariant-loop-pointer : goal.invariant-loop-pointer
invariant-loop-pointer l = lost_of l.parts (map pointer_name (take l.pointer-index l.pointers)) ≡ None
