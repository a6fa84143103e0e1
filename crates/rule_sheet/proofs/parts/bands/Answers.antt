use Rattle.std.proofs.Common.{◌≡◌, ℕ, ◌<◌, ℤ, pos, negsuc, ◌≤ℤ◌, true, List, length, get_or, sym, subst, ◌∙◌, arith}
use Rattle.std.specs.Prelude.{All}
use Rattle.toml.specs.View.{table_view}
use Rattle.std.proofs.lemmas.Int.{ints}
use Rattle.rule_sheet.specs.Rows.{steps_fit}
use Rattle.depth_rounding.specs.Steps.{AreSteps}
use Rattle.rule_sheet.proofs.Tests.{between-all, steps-range}
use Rattle.rule_sheet.proofs.RowLaws.{from-read, steps-read, are-steps}
use Rattle.rule_sheet.proofs.parts.bands.Goals as goal

abbrev AreSmall : List ℤ → Type 0
AreSmall zs = All (λ z. (negsuc 119999 ≤ℤ z) × (z ≤ℤ pos 120000)) zs

small-steps : (zs : List ℤ) → ((k : ℕ) (d : ℤ) → k < length zs → (pos 1 ≤ℤ get_or zs k d) × (get_or zs k d ≤ℤ pos 100)) → AreSmall zs
small-steps zs h k d l = let r = h k d l in (omega (arith, ints, r.0), omega (arith, ints, r.1))

pub narrow-requires : goal.narrow-requires
narrow-requires c =
    let zs = c.in_ok-step_from.step_from.items in
    let read = from-read (table_view c.args.table.now) zs c.in_ok-step_from.ensures in
    subst AreSmall (sym c.deref-2.ensures.value) (between-all (negsuc 119999) (pos 120000) zs read.is_from.between)

pub narrow-requires-2 : goal.narrow-requires-2
narrow-requires-2 c =
    let zs = c.in_ok-steps.steps.items in
    let read = steps-read c.deref.result.now (table_view c.args.table.now) zs c.in_ok-steps.ensures in
    subst AreSmall (sym c.deref-3.ensures.value) (small-steps zs (λ k d l. steps-range zs k d read.known l))

pub new-requires : goal.new-requires
new-requires c =
    let ms = table_view c.args.table.now in
    let from = c.in_ok-step_from.step_from.items in
    let steps = c.in_ok-steps.steps.items in
    let from_read = from-read ms from c.in_ok-step_from.ensures in
    let read = steps-read c.deref.result.now ms steps c.in_ok-steps.ensures in
    let fit = subst (λ zs. steps_fit zs steps ≡ true) c.deref.ensures.value read.fit in
    let same_from = c.deref-4.ensures.value ∙ c.in_ok-depths.ensures ∙ c.deref-2.ensures.value in
    let same_steps = c.deref-5.ensures.value ∙ c.in_ok-lengths.ensures ∙ c.deref-3.ensures.value in
    subst (λ zs. AreSteps zs c.deref-5.result.now) (sym same_from) (subst (AreSteps from) (sym same_steps) (are-steps from steps from_read.is_from read.known fit))
