use Rattle.std.proofs.Common.{◌≡◌, ◌<◌, [], map, length, sym, subst, ◌∙◌, arith}
use Rattle.std.specs.Prelude.{All}
use Rattle.std.proofs.lemmas.List.{length-map}
use Rattle.std.proofs.lemmas.List.Elements.{All-get_or}
use Rattle.boundary_arcs.specs.ChainEdges.{IsHalfOf, IsArcOf, HasNumbers}
use Rattle.boundary_arcs.proofs.Chained.{all_inside}
use Rattle.boundary_arcs.proofs.Keeping.{few_chains}
use Rattle.boundary_arcs.proofs.NodeSteps.{edges_more, numbers_stay, read_of}
use Rattle.boundary_arcs.proofs.NodeUses.{used_more}
use Rattle.chains.specs.Nets.{IsChain, chain_at}
use Rattle.boundary_arcs.proofs.chain_edges.arcs_of.Goals as goal

pub arc_of-requires-clause-inside : goal.arc_of-requires-clause-inside
arc_of-requires-clause-inside c =
    let lines = c.args.lines.now in
    let chains = map (λ v. v.items) c.args.chains.now in
    let are = c.requires.chains in
    let i = c.loop-i.i in
    let l : i < length c.args.chains.now = omega arith in
    let read : c.deref.result.now ≡ chain_at chains i = c.deref.ensures.value ∙ read_of (λ v. v.items) [] c.args.chains.now i c.index-chains-i.result c.index-chains-i.result l c.index-chains-i.is in
    subst (All (IsHalfOf lines)) (sym read)
    (All-get_or (All (IsHalfOf lines)) chains i [] (omega (arith, l, length-map c.args.chains.now (λ v. v.items))) (all_inside lines (length c.args.points.now) c.requires.net chains are.once are.each))

pub arc_of-requires-clause-some : goal.arc_of-requires-clause-some
arc_of-requires-clause-some c =
    let lines = c.args.lines.now in
    let chains = map (λ v. v.items) c.args.chains.now in
    let i = c.loop-i.i in
    let l : i < length c.args.chains.now = omega arith in
    let read : c.deref.result.now ≡ chain_at chains i = c.deref.ensures.value ∙ read_of (λ v. v.items) [] c.args.chains.now i c.index-chains-i.result c.index-chains-i.result l c.index-chains-i.is in
    let chain = All-get_or (IsChain lines) chains i [] (omega (arith, l, length-map c.args.chains.now (λ v. v.items))) c.requires.chains.each in
    subst (λ z. 0 < length z) (sym read) chain.long

pub arc_of-requires-clause-few : goal.arc_of-requires-clause-few
arc_of-requires-clause-few c =
    omega (arith, c.loop-i.invariant.few, c.requires.few, few_chains c.args.lines.now (map (λ v. v.items) c.args.chains.now) c.requires.chains, length-map c.args.chains.now (λ v. v.items), c.loop-i-test.true)

pub loop-i-preserved : goal.loop-i-preserved
loop-i-preserved c =
    let points = c.args.points.now in
    let lines = c.args.lines.now in
    let chains = map (λ v. v.items) c.args.chains.now in
    let i = c.loop-i.i in
    let inv = c.loop-i.invariant in
    let olds = c.loop-i.nodes.keys in
    let news = c.arc_of.new.nodes.keys in
    let adds = c.in_ok-arc.ensures.nodes in
    let arc = c.in_ok-arc.arc in
    let l : i < length c.args.chains.now = omega arith in
    let m : i < length chains = omega (arith, l, length-map c.args.chains.now (λ v. v.items)) in
    let read : c.deref.result.now ≡ chain_at chains i = c.deref.ensures.value ∙ read_of (λ v. v.items) [] c.args.chains.now i c.index-chains-i.result c.index-chains-i.result l c.index-chains-i.is in
    record {
      run = edges_more (λ n. IsArcOf points lines) (λ n k kept a chain h. h) olds news adds.kept c.loop-i.arcs.items c.push.new.self.items chains i arc m inv.run (subst (IsArcOf points lines arc) read c.in_ok-arc.ensures.runs) c.in_ok-push.ensures.items;
      numbers = edges_more (λ n. HasNumbers n lines) (numbers_stay lines) olds news adds.kept c.loop-i.arcs.items c.push.new.self.items chains i arc m inv.numbers (subst (HasNumbers news lines arc) read c.in_ok-arc.ensures.numbers) c.in_ok-push.ensures.items;
      inside = adds.inside inv.inside;
      few = omega (arith, adds.few, inv.few);
      used = used_more olds news c.loop-i.arcs.items c.push.new.self.items arc inv.used c.in_ok-arc.ensures.used c.in_ok-push.ensures.items;
    }

pub returns-clause-nodes : goal.returns-clause-nodes
returns-clause-nodes c =
    omega (arith, c.loop-i.invariant.few, c.requires.few, few_chains c.args.lines.now (map (λ v. v.items) c.args.chains.now) c.requires.chains, length-map c.args.chains.now (λ v. v.items), c.loop-i-test.false)
