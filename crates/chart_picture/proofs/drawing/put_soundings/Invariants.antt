use Rattle.std.proofs.Common.{◌≡◌, ◌++◌, take}
use Rattle.std.specs.List.{flat_map}
use Rattle.chart_picture.specs.Soundings.{node_text}
use Rattle.chart_picture.proofs.drawing.put_soundings.Given as goal

abbrev pub invariant-loop-node : goal.invariant-loop-node
invariant-loop-node l = l.out.items ≡ l.initial.out.items ++ flat_map (node_text l.f) (take l.node-index l.nodes)
