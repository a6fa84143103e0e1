use Rattle.std.proofs.Common.{◌<◌, length, refl, sym, ap, ◌∙◌, subst}
use Rattle.chains.specs.Nets.{ends_at}
use Rattle.std.proofs.lemmas.Bool.{false≢true}
use Rattle.chains.proofs.GoingOn.{begins_inside}
use Rattle.chains.proofs.Noting.{two_ends, not_two_ends}
use Rattle.chains.proofs.spots.begins_between.Goals as goal

pub returns-in-Two : goal.returns-in-Two
returns-in-Two c =
    let lines = c.args.lines.now in
    let l : c.begin_of.result < length c.args.spots.now = subst (λ z. z < length c.args.spots.now) (sym c.begin_of.ensures) (begins_inside lines (length c.args.spots.now) c.requires.net c.args.half c.requires.inside) in
    (λ t. ap (ends_at lines) (sym c.begin_of.ensures) ∙ two_ends lines (length c.args.spots.now) c.args.spots.now c.requires.noted c.begin_of.result l c.in-Two.field-0 c.in-Two.field-1 c.in-Two.is, λ e. refl)

pub returns-in_default : goal.returns-in_default
returns-in_default c =
    let lines = c.args.lines.now in
    let l : c.begin_of.result < length c.args.spots.now = subst (λ z. z < length c.args.spots.now) (sym c.begin_of.ensures) (begins_inside lines (length c.args.spots.now) c.requires.net c.args.half c.requires.inside) in
    (λ t. absurd (false≢true t), λ e. absurd (not_two_ends lines (length c.args.spots.now) c.args.spots.now c.requires.noted c.begin_of.result l c.in_default.not-Two (ap (ends_at lines) c.begin_of.ensures ∙ e)))
