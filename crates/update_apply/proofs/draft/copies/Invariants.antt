use Rattle.std.proofs.Common.{◌≡◌, take}
use Rattle.update_apply.proofs.draft.copies.Given as goal

abbrev pub invariant-loop-record : goal.invariant-loop-record
invariant-loop-record g l = l.copies.items ≡ take l.record-index l.records
