use Rattle.std.proofs.Common.{◌≡◌, take}
use Rattle.chart_model.specs.Closed.{ends}
use Rattle.chart_model.specs.Marks.{marks, set_marks}
use Rattle.chart_model.proofs.closed.do_not_close.Given as goal

abbrev pub invariant-loop-pointer : goal.invariant-loop-pointer
invariant-loop-pointer l = (l.odd ≡ marks l.parts (ends l.parts (take l.pointer-index l.pointers))) × (l.count ≡ set_marks l.odd)
