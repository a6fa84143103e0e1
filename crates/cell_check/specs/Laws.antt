-- Laws of verdicts.
use Rattle.std.specs.Prelude.{◌≡◌}
use Rattle.cell_check.specs.Verdicts.{IsVerdict}
use Rattle.cell_check.specs.declared.verdict.Verdict.{Verdict}
use Rattle.chart_model.specs.declared.records.Parts.{Parts}

-- one verdict alone is so of a chart
abbrev pub OneVerdict : Type 0
OneVerdict = (c : Parts) (v w : Verdict) → IsVerdict c v → IsVerdict c w → v ≡ w
