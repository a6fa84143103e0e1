use Rattle.std.proofs.Common.{◌≤◌, length, eqb, sym, ap, ◌∙◌, arith}
use Rattle.std.specs.Option.{option_copied}
use Rattle.chart_model.proofs.Finding.{found_keeps}
use Rattle.chart_model.specs.Tally.{soundings_of}
use Rattle.chart_model.specs.declared.records.Isolated.{Isolated}
use Rattle.chart_model.proofs.counts.soundings_named.Goals as goal

pub returns-in-Some-clause-few : goal.returns-in-Some-clause-few
returns-in-Some-clause-few c =
    let few : length (soundings_of c.in-Some.node.now) ≤ 12500 = found_keeps (λ (n : Isolated). length (soundings_of n) ≤ 12500) (λ (n : Isolated). eqb n.rcid c.args.pointer.rcid) c.args.parts.now.isolated _ c.requires.measured.soundings (sym c.isolated_of.ensures ∙ ap option_copied c.in-Some.is) in
    omega (arith, c.soundings_here.ensures)
