use Rattle.std.proofs.Common.{◌≡◌, ◌++◌}
use Rattle.std.specs.Vec.Iter.{into_iter_items}
use Rattle.record_table.proofs.Table.new.Given as goal

-- the records of the table, and those that are left, are all
abbrev pub invariant-loop-record : goal.invariant-loop-record
invariant-loop-record g l = l.table ++ into_iter_items l.record-iterator ≡ l.fn.records.items
