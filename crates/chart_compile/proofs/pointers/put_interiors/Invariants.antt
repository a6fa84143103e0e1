use Rattle.std.proofs.Common.{◌≡◌, ◌++◌, take}
use Rattle.chart_compile.specs.Topology.{arcs_in, faces_in}
use Rattle.built_parts.specs.Areas.{interiors}
use Rattle.chart_compile.proofs.pointers.put_interiors.Given as goal

abbrev pub invariant-loop-ring : goal.invariant-loop-ring
invariant-loop-ring l = l.pointers.items ≡ l.initial.pointers.items ++ interiors (faces_in l.topology) (arcs_in l.topology) (take l.ring-index l.rings)
