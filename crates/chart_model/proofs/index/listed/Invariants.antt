use Rattle.chart_model.proofs.index.listed.Given as goal
use Rattle.chart_model.specs.Index.{AreFirst}

abbrev pub invariant-loop-place : goal.invariant-loop-place
invariant-loop-place l = AreFirst l.numbers l.place l.entries.items
