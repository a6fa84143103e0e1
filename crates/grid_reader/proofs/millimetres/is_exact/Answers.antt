use Rattle.std.proofs.Common.{◌≡◌, ◌∙◌, sym, ap, neg_ℤ, FitsSigned, of_z, to_z, rules, arith, pos, ◌-ℤ◌}
use Rattle.std.specs.Int.{w128}
use Rattle.std.proofs.lemmas.Int.{ints, to_z-of_z}
use Rattle.std.proofs.lemmas.Bool.Decides.{Decides-eqb}
use Rattle.exact_num.specs.Value.{floor_at}
use Rattle.grid_reader.proofs.Thousandths.{exact_floor}
use Rattle.grid_reader.proofs.millimetres.is_exact.Goals as goal

pub returns-in-Some : goal.returns-in-Some
returns-in-Some c = λ h.
    let z = c.args.floor in
    let other = c.in-Some.opposite in
    let fits : FitsSigned w128 z = c.ranges.floor in
    let other_fits : FitsSigned w128 other = search rules in
    let less_fits : FitsSigned w128 (pos 0 -ℤ z) = omega (arith, ints, c.requires.few) in
    let less : to_z w128 (of_z w128 (pos 0 -ℤ to_z w128 (of_z w128 z))) ≡ pos 0 -ℤ z = ap (λ y. to_z w128 (of_z w128 (pos 0 -ℤ y))) (to_z-of_z w128 z fits) ∙ to_z-of_z w128 (pos 0 -ℤ z) less_fits in
    let same : other ≡ pos 0 -ℤ z = sym (to_z-of_z w128 other other_fits) ∙ ap (to_z w128) ((Decides-eqb (of_z w128 other) (of_z w128 (pos 0 -ℤ to_z w128 (of_z w128 z)))).0 h) ∙ less in
    let turned : pos 0 -ℤ z ≡ neg_ℤ z = omega (arith, ints) in
    exact_floor c.args.number.now z c.requires.floor (ap (λ n. floor_at n 3) (sym c.negated.ensures) ∙ sym c.in-Some.ensures.floor ∙ same ∙ turned)
