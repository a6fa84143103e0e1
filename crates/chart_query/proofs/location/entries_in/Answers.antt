use Rattle.std.proofs.Common.{◌≤◌, ◌∙◌, length, sym, subst, ap, rules, w32}
use Rattle.std.proofs.lemmas.Int.{to_z-of_z}
use Rattle.std.specs.Int.RustNames.{FitsSigned}
use Rattle.chart_query.proofs.Entering.{one_entered, split_fits, strip_within}
use Rattle.chart_query.proofs.Toggling.{no_side}
use Rattle.chart_query.specs.Strips.{strip}
use Rattle.chart_query.proofs.location.entries_in.Goals as goal

pub append_entries-requires : goal.append_entries-requires
append_entries-requires c =
    let from : c.strip_of-from.result ≤ length c.args.heights.now = subst (λ n. n ≤ length c.args.heights.now) (sym c.strip_of-from.ensures) (strip_within c.args.heights.now _) in
    let to : c.strip_of-to.result ≤ length c.args.heights.now = subst (λ n. n ≤ length c.args.heights.now) (sym c.strip_of-to.ensures) (strip_within c.args.heights.now _) in
    split_fits c.args.split.now.bases.items c.args.split.now.heights (length c.args.heights.now) _ _ c.requires.split c.requires.heights.few c.requires.small from to

pub loop-side-preserved : goal.loop-side-preserved
loop-side-preserved c =
    let a : FitsSigned w32 c.low.result = search rules in
    let b : FitsSigned w32 c.high.result = search rules in
    one_entered c.args.heights.now c.args.split.now.bases.items c.args.split.now.heights c.args.sides.now c.loop-side.side-index no_side c.loop-side.entries.items _ _ _ c.loop-side-test.true c.loop-side.invariant
    (c.strip_of-from.ensures ∙ ap (strip c.args.heights.now) (to_z-of_z w32 c.low.result a ∙ c.low.ensures))
    (c.strip_of-to.ensures ∙ ap (strip c.args.heights.now) (to_z-of_z w32 c.high.result b ∙ c.high.ensures))
    c.in_ok-append_entries.ensures
