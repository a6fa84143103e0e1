use Rattle.std.proofs.Common.{◌≡◌, ◌<◌, [], map, length, sym, ap, subst, ◌∙◌, arith, length-set}
use Rattle.std.specs.Prelude.{All}
use Rattle.std.proofs.lemmas.List.{get_or-map, get_or_read, length-map}
use Rattle.std.proofs.lemmas.List.Elements.{All-get_or}
use Rattle.boundary_arcs.specs.ChainEdges.{IsHalfOf, IsTurn}
use Rattle.boundary_arcs.proofs.Chained.{all_inside}
use Rattle.boundary_arcs.proofs.TurnSteps.{related_more, rest_stays}
use Rattle.boundary_arcs.proofs.Zips.{AllZip-from_at}
use Rattle.chains.specs.Nets.{IsChain, chain_at}
use Rattle.boundary_arcs.proofs.closed_chains.turn_all.Goals as goal

-- the chain that is lent stands in the list as it was
lent : (c : goal.After-index_mut) → c.index_mut.result.now.items ≡ chain_at (map (λ v. v.items) c.args.chains.now.items) c.loop-i.i
lent c =
    let i = c.loop-i.i in
    let inv = c.loop-i.invariant in
    let now = c.loop-i.chains.items in
    let l : i < length now = omega arith in
    let v = c.index_mut.result.now in
    ap (λ z. z.items) (get_or_read now i v l c.index_mut.ensures.value v)
    ∙ sym (get_or-map (λ z. z.items) now i v [] l) ∙ inv.rest i (omega arith)

pub turn-requires-clause-inside : goal.turn-requires-clause-inside
turn-requires-clause-inside c =
    let lines = c.args.lines.now in
    let chains = map (λ v. v.items) c.args.chains.now.items in
    let are = c.requires.chains in
    subst (All (IsHalfOf lines)) (sym (lent c))
    (All-get_or (All (IsHalfOf lines)) chains c.loop-i.i [] (omega (arith, length-map c.args.chains.now.items (λ v. v.items))) (all_inside lines (length c.args.points.now) c.requires.net chains are.once are.each))

pub turn-requires-clause-chain : goal.turn-requires-clause-chain
turn-requires-clause-chain c =
    let lines = c.args.lines.now in
    let chains = map (λ v. v.items) c.args.chains.now.items in
    subst (IsChain lines) (sym (lent c))
    (All-get_or (IsChain lines) chains c.loop-i.i [] (omega (arith, length-map c.args.chains.now.items (λ v. v.items))) c.requires.chains.each)

pub loop-i-preserved : goal.loop-i-preserved
loop-i-preserved c =
    let i = c.loop-i.i in
    let inv = c.loop-i.invariant in
    let olds = c.args.chains.now.items in
    let news = c.loop-i.chains.items in
    let l : i < length olds = omega arith in
    record {
      wide = length-set news i c.turn.new.chain ∙ inv.wide;
      turned = related_more (λ z. z.items) [] (IsTurn c.args.points.now c.args.lines.now) olds news i c.turn.new.chain inv.wide l inv.turned (subst (λ z. IsTurn c.args.points.now c.args.lines.now z c.turn.new.chain.items) (lent c.before.before) c.turn.ensures);
      rest = rest_stays (λ z. z.items) [] (IsTurn c.args.points.now c.args.lines.now) olds news i c.turn.new.chain inv.wide l inv.rest;
    }

pub returns : goal.returns
returns c =
    let inv = c.loop-i.invariant in
    let olds = c.args.chains.now.items in
    let news = c.loop-i.chains.items in
    let w1 = length-map olds (λ z. z.items) in
    let w2 = length-map news (λ z. z.items) in
    AllZip-from_at (IsTurn c.args.points.now c.args.lines.now) [] [] (map (λ z. z.items) olds) (map (λ z. z.items) news) (omega (arith, w1, w2, inv.wide)) (λ i l. inv.turned i (omega (arith, l, w1, inv.wide, c.loop-i-test.false)))
