use Rattle.std.proofs.Common.{◌≡◌}
use Rattle.cell_check.proofs.Deciding.{exact}
use Rattle.cell_check.specs.Verdicts.{IsVerdict}
use Rattle.cell_check.specs.declared.verdict.Verdict.{Verdict}
use Rattle.cell_check.specs.declared.verdict.Verdict.TheVariants.{Tiles, TooMany, Crossed, Wrong}
use Rattle.chart_model.specs.declared.records.Parts.{Parts}
use Rattle.cell_check.proofs.laws.one_verdict.Goals as goal

one : (c : Parts) (v w : Verdict) → IsVerdict c v → IsVerdict c w → v ≡ w
one c v (TooMany n) a b = ((exact c v a).too_many n).1 b
one c v (Crossed y) a b = ((exact c v a).crossed y).1 b
one c v (Wrong y) a b = ((exact c v a).wrong y).1 b
one c v (Tiles n) a b = ((exact c v a).tiles n).1 b

pub returns : goal.returns
returns c = one
