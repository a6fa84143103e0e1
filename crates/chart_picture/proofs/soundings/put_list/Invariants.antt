use Rattle.std.proofs.Common.{◌≡◌, ◌++◌, take}
use Rattle.std.specs.List.{flat_map}
use Rattle.chart_picture.specs.Soundings.{sounding_text}
use Rattle.chart_picture.proofs.soundings.put_list.Given as goal

abbrev pub invariant-loop-s : goal.invariant-loop-s
invariant-loop-s l = l.out.items ≡ l.initial.out.items ++ flat_map (sounding_text l.f) (take l.s-index l.soundings)
