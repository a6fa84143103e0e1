use Rattle.std.proofs.Common.{Global, Vec, map}
use Rattle.boundary_arcs.specs.Views.{arcs_view}
use Rattle.ring_builder.proofs.Adding.{has_more}
use Rattle.ring_builder.proofs.parts.list_parts.Goals as goal
use Rattle.ring_builder.specs.Parts.{numbers}
use Rattle.ring_builder.specs.declared.ring.Part.{Part}

pub loop-n-preserved : goal.loop-n-preserved
loop-n-preserved c =
    has_more (arcs_view c.args.arcs.now).arcs (numbers c.args.owners.now) c.args.sets c.loop-n.n (map (λ (v : Vec Part Global). v.items) c.loop-n.lists.items) (map (λ (v : Vec Part Global). v.items) c.put_arc.new.lists.items) c.arc.result.now c.loop-n.invariant c.arc.ensures c.in_ok-put_arc.ensures
