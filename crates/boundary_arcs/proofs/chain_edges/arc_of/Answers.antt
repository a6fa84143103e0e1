use Rattle.std.proofs.Common.{◌<◌, ◌-◌, length, sym, subst, arith}
use Rattle.boundary_arcs.proofs.Along.{begin_inside, end_inside}
use Rattle.boundary_arcs.proofs.NodeSteps.{two_inserted}
use Rattle.boundary_arcs.proofs.NodeUses.{two_used}
use Rattle.boundary_arcs.proofs.chain_edges.arc_of.Goals as goal

pub returns-clause-nodes : goal.returns-clause-nodes
returns-clause-nodes c =
    let lines = c.args.lines.now in
    let points = length c.args.points.now in
    let chain = c.args.chain.now in
    let r = c.requires in
    let here : length chain - 1 < length chain = omega (arith, r.some) in
    let first : c.begin_of.result < points = subst (λ z. z < points) (sym c.begin_of.ensures) (begin_inside lines points r.net _ (r.inside 0 _ r.some)) in
    let last : c.end_of.result < points = subst (λ z. z < points) (sym c.end_of.ensures) (end_inside lines points r.net _ (r.inside (length chain - 1) _ here)) in
    two_inserted (length c.args.points.now) c.args.nodes.now.keys c.node_of.new.nodes.keys c.node_of-2.new.nodes.keys c.begin_of.result c.end_of.result first last c.in_ok-begin.ensures.keys c.in_ok-end.ensures.keys

pub returns-clause-used : goal.returns-clause-used
returns-clause-used c =
    two_used c.args.nodes.now.keys c.node_of.new.nodes.keys c.node_of-2.new.nodes.keys c.begin_of.result c.end_of.result c.in_ok-begin.begin c.in_ok-end.end
    c.in_ok-begin.ensures.keys c.in_ok-begin.ensures.number c.in_ok-end.ensures.keys c.in_ok-end.ensures.number
