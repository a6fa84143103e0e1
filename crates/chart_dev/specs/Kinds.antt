-- The calls of a shelf in memory by their kind.
use Rattle.chart_dev.specs.declared.calls.CallKind.{CallKind}
use Rattle.chart_dev.specs.declared.calls.CallKind.TheVariants.{Read, Start, Append}
use Rattle.chart_dev.specs.Memory.{ShelfMemory, Counted}

abbrev pub calls_of : CallKind → ShelfMemory → Counted
calls_of Read shelf = shelf.reads
calls_of Start shelf = shelf.starts
calls_of Append shelf = shelf.appends

-- with other calls of a kind
abbrev pub with_calls : CallKind → Counted → ShelfMemory → ShelfMemory
with_calls Read calls shelf = record shelf { reads = calls }
with_calls Start calls shelf = record shelf { starts = calls }
with_calls Append calls shelf = record shelf { appends = calls }
