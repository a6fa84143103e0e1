use Rattle.std.proofs.Common.{◌≡◌, map, take}
use Rattle.ring_builder.specs.Lists.{part_at}
use Rattle.ring_builder.proofs.cutting.pick.Given as goal

abbrev pub invariant-loop-i : goal.invariant-loop-i
invariant-loop-i l = l.picked.items ≡ map (part_at l.parts) (take l.i-index l.places)
