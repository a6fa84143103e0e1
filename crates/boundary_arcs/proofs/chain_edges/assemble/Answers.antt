use Rattle.std.proofs.Common.{◌≢◌, ◌≤◌, ◌^◌, map, length, sym, ap, subst, subst₂, ◌∙◌}
use Rattle.std.specs.List.{AllZip}
use Rattle.std.specs.Prelude.{All, AllPairs}
use Rattle.boundary_arcs.specs.ChainEdges.{HasFacesBelow, IsArcOf, HasNumbers, AreArcsOfNet, point_at}
use Rattle.boundary_arcs.specs.Edges.{AreArcs}
use Rattle.boundary_arcs.proofs.Assembled.{edges_are, edges_keep}
use Rattle.boundary_arcs.proofs.Chained.{turned_chains}
use Rattle.chains.specs.Nets.{IsNet, AreChains}
use Rattle.boundary_arcs.proofs.chain_edges.assemble.Goals as goal

pub arcs_of-requires-clause-chains : goal.arcs_of-requires-clause-chains
arcs_of-requires-clause-chains c =
    let points = c.as_slice-points.result.now in
    let lines = c.as_slice-lines.result.now in
    let chains = map (λ v. v.items) c.in_ok-chains.chains.items in
    let turned = map (λ v. v.items) c.turn_all.new.chains.items in
    let net : IsNet lines (length points) = subst₂ (λ l p. IsNet l (length p)) (sym c.as_slice-lines.ensures.value) (sym c.as_slice-points.ensures.keys) c.requires.net in
    let t = turned_chains points lines net chains turned c.in_ok-chains.ensures c.in_ok-turn_all.ensures in
    subst (λ z. AreChains lines (map (λ v. v.items) z)) (sym c.deref.ensures.value) t.0

pub invariant_of-result : goal.invariant_of-result
invariant_of-result c =
    let points = c.as_slice-points.result.now in
    let lines = c.as_slice-lines.result.now in
    let chains = map (λ v. v.items) c.in_ok-chains.chains.items in
    let turned = map (λ v. v.items) c.turn_all.new.chains.items in
    let arcs = c.in_ok-arcs.arcs.items in
    let numbers = c.arcs_of.new.nodes.keys in
    let r = c.requires in
    let p = sym c.as_slice-points.ensures.keys in
    let l = sym c.as_slice-lines.ensures.value in
    let net : IsNet lines (length points) = subst₂ (λ x y. IsNet x (length y)) l p r.net in
    let run : AllZip (IsArcOf points lines) arcs turned = subst (λ z. AllZip (IsArcOf points lines) arcs (map (λ v. v.items) z)) c.deref.ensures.value c.in_ok-arcs.ensures.run in
    let ends : AllZip (HasNumbers numbers lines) arcs turned = subst (λ z. AllZip (HasNumbers numbers lines) arcs (map (λ v. v.items) z)) c.deref.ensures.value c.in_ok-arcs.ensures.numbers in
    let kept = edges_keep points lines net chains turned c.in_ok-chains.ensures c.in_ok-turn_all.ensures arcs run (subst (AllPairs ◌≢◌) p r.once) (subst (λ z. length z ≤ 2 ^ 27) l r.few) c.args.faces (subst (All (HasFacesBelow c.args.faces)) l r.sides) numbers c.as_slice.ensures.unique c.in_ok-arcs.ensures.inside c.in_ok-arcs.ensures.nodes ends c.in_ok-arcs.ensures.used in
    record { agree = subst (λ z. AreArcs z arcs c.args.faces) (sym (c.in_ok-nodes.ensures ∙ ap (map (point_at points)) c.as_slice.ensures.keys)) kept }

pub returns-clause-arcs : goal.returns-clause-arcs
returns-clause-arcs c =
    let points = c.as_slice-points.result.now in
    let lines = c.as_slice-lines.result.now in
    let chains = map (λ v. v.items) c.in_ok-chains.chains.items in
    let turned = map (λ v. v.items) c.turn_all.new.chains.items in
    let arcs = c.in_ok-arcs.arcs.items in
    let net : IsNet lines (length points) = subst₂ (λ l p. IsNet l (length p)) (sym c.as_slice-lines.ensures.value) (sym c.as_slice-points.ensures.keys) c.requires.net in
    let run : AllZip (IsArcOf points lines) arcs turned = subst (λ z. AllZip (IsArcOf points lines) arcs (map (λ v. v.items) z)) c.deref.ensures.value c.in_ok-arcs.ensures.run in
    subst₂ (λ p l. AreArcsOfNet p l arcs) c.as_slice-points.ensures.keys c.as_slice-lines.ensures.value (edges_are points lines net chains turned c.in_ok-chains.ensures c.in_ok-turn_all.ensures arcs run)
