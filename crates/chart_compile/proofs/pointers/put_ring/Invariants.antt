use Rattle.std.proofs.Common.{◌≡◌, ◌++◌, map, take}
use Rattle.chart_compile.specs.Topology.{arcs_in, faces_in}
use Rattle.built_parts.specs.Areas.{pointer_of}
use Rattle.chart_compile.proofs.pointers.put_ring.Given as goal

abbrev pub invariant-loop-part : goal.invariant-loop-part
invariant-loop-part l = l.pointers.items ≡ l.initial.pointers.items ++ map (pointer_of (faces_in l.topology) (arcs_in l.topology) l.ring.exterior) (take l.part-index l.parts)
