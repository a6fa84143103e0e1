use Rattle.std.proofs.Common.{◌<◌, length, refl, sym, ap, ◌∙◌, subst, inl, inr}
use Rattle.std.proofs.lemmas.Bool.{false≢true}
use Rattle.chains.specs.Nets.{ends_at}
use Rattle.chains.proofs.GoingOn.{ends_inside}
use Rattle.chains.proofs.Noting.{first_goes_on, second_goes_on, not_two_ends}
use Rattle.chains.proofs.spots.onward.Goals as goal

pub returns-then-is_back : goal.returns-then-is_back
returns-then-is_back c =
    let lines = c.args.lines.now in
    let l : c.end_of.result < length c.args.spots.now = subst (λ z. z < length c.args.spots.now) (sym c.end_of.ensures) (ends_inside lines (length c.args.spots.now) c.requires.net c.args.half c.requires.inside) in
    inl (second_goes_on lines (length c.args.spots.now) c.args.spots.now c.requires.noted c.end_of.result l c.in-Two.first c.in-Two.second c.args.half c.in-Two.is (sym c.end_of.ensures) (c.is_back.ensures.0 c.if-is_back.true))

pub returns-else-is_back : goal.returns-else-is_back
returns-else-is_back c =
    let lines = c.args.lines.now in
    let l : c.end_of.result < length c.args.spots.now = subst (λ z. z < length c.args.spots.now) (sym c.end_of.ensures) (ends_inside lines (length c.args.spots.now) c.requires.net c.args.half c.requires.inside) in
    inl (first_goes_on lines (length c.args.spots.now) c.args.spots.now c.requires.noted c.end_of.result l c.in-Two.first c.in-Two.second c.args.half c.in-Two.is (sym c.end_of.ensures) (λ e. false≢true (sym c.if-is_back.false ∙ c.is_back.ensures.1 e)))

pub returns-in_default : goal.returns-in_default
returns-in_default c =
    let lines = c.args.lines.now in
    let l : c.end_of.result < length c.args.spots.now = subst (λ z. z < length c.args.spots.now) (sym c.end_of.ensures) (ends_inside lines (length c.args.spots.now) c.requires.net c.args.half c.requires.inside) in
    inr (λ e. not_two_ends lines (length c.args.spots.now) c.args.spots.now c.requires.noted c.end_of.result l c.in_default.not-Two (ap (ends_at lines) c.end_of.ensures ∙ e), refl)
