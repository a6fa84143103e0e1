use Rattle.std.proofs.Common.{◌≤◌, pos, negsuc, length, ap, sym, subst, ◌∙◌, arith}
use Rattle.depth_rounding.specs.Bands.{AreLevels}
use Rattle.rule_sheet.specs.Rows.{all_between, rises}
use Rattle.rule_sheet.proofs.RowLaws.{are-levels}
use Rattle.rule_sheet.proofs.parts.levels.Goals as goal

pub new-requires : goal.new-requires
new-requires c =
    let zs = c.in_ok-zs.zs.items in
    let few : length zs ≤ 20 = omega arith in
    let between = ap (all_between (negsuc 119998) (pos 119999)) (sym c.deref.ensures.value) ∙ sym c.are_between.ensures ∙ c.if-not-are_between.false in
    let rising = ap rises (sym c.deref-2.ensures.value) ∙ sym c.rise.ensures ∙ c.if-not-rise.false in
    let same = c.deref-4.ensures.value ∙ c.in_ok-narrow.ensures ∙ c.deref-3.ensures.value in
    subst AreLevels (sym same) (are-levels zs few between rising)
