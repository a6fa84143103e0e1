use Rattle.std.proofs.Common.{◌≡◌, ◌++◌}
use Rattle.std.specs.Vec.Iter.{into_iter_items}
use Rattle.record_table.specs.Slots.{records_in}
use Rattle.record_table.proofs.Table.into_records.Given as goal

-- the records so far, and those in the slots that are left, are those of the table
abbrev pub invariant-loop-slot : goal.invariant-loop-slot
invariant-loop-slot g l = l.records.items ++ records_in (into_iter_items l.slot-iterator) ≡ l.fn.self
