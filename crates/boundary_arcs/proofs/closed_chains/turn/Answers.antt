use Rattle.std.proofs.Common.{◌≡◌, get_or, sym, ap, subst, ◌∙◌}
use Rattle.std.proofs.lemmas.List.{get_or_read}
use Rattle.boundary_arcs.specs.ChainEdges.{IsLeastPlace}
use Rattle.boundary_arcs.proofs.TurnSteps.{turned_round, stays_so}
use Rattle.boundary_arcs.proofs.Turned.{no_half}
use Rattle.chains.specs.Nets.{begin_of, first_point}
use Rattle.boundary_arcs.proofs.closed_chains.turn.Goals as goal

pub returns-then-ends-begin_of-eq2 : goal.returns-then-ends-begin_of-eq2
returns-then-ends-begin_of-eq2 c =
    let r = c.requires in
    let lines = c.args.lines.now in
    let chain = c.args.chain.now.items in
    let first : c.begin_of.result ≡ first_point lines chain = c.begin_of.ensures ∙ ap (begin_of lines) (get_or_read chain 0 c.index.result.now r.chain.long c.index.ensures no_half) in
    turned_round c.args.points.now lines r.net c.args.ends.now r.counts chain r.chain r.inside c.rotate_left.new.self.items c.least_place-place.result
    (ap (λ p. get_or c.args.ends.now p 0) (sym first) ∙ c.if-ends-begin_of-eq2.true)
    (subst (λ z. IsLeastPlace c.args.points.now lines z c.least_place-place.result) c.deref.ensures.value c.least_place-place.ensures) c.rotate_left.ensures.items

pub returns-else-ends-begin_of-eq2 : goal.returns-else-ends-begin_of-eq2
returns-else-ends-begin_of-eq2 c =
    let r = c.requires in
    let lines = c.args.lines.now in
    let chain = c.args.chain.now.items in
    let first : c.begin_of.result ≡ first_point lines chain = c.begin_of.ensures ∙ ap (begin_of lines) (get_or_read chain 0 c.index.result.now r.chain.long c.index.ensures no_half) in
    stays_so c.args.points.now lines r.net c.args.ends.now r.counts chain r.chain r.inside (λ e. c.if-ends-begin_of-eq2.false (ap (λ p. get_or c.args.ends.now p 0) first ∙ e))
