use Rattle.std.proofs.Common.{◌≡◌, map, take}
use Rattle.built_parts.specs.Nodes.{sounding_of}
use Rattle.shoal_buffer.specs.Views.{charted_view}
use Rattle.chart_compile.proofs.nodes.soundings.Given as goal

abbrev pub invariant-loop-node : goal.invariant-loop-node
invariant-loop-node l = l.list.items ≡ map (sounding_of (charted_view l.ch)) (take l.node-index l.nodes)
