use Rattle.std.proofs.Common.{◌≡◌, ◌≤◌, ◌-◌, length, take, IfSome}
use Rattle.chart_dev.specs.Contents.{bytes_at}
use Rattle.chart_dev.proofs.reading.read_whole.Given as goal

abbrev pub invariant-loop-bytes : goal.invariant-loop-bytes
invariant-loop-bytes g l =
    (g.S.Shelf.told l.shelf ≡ g.S.Shelf.told l.fn.shelf)
    × (g.S.Shelf.faults l.shelf ≡ g.S.Shelf.faults l.fn.shelf)
    × (l.done ≤ l.limit)
    × (l.done ≤ length l.bytes.items)
    × IfSome (g.S.Shelf.told l.fn.shelf) (λ files. take l.done l.bytes.items ≡ take l.done (bytes_at files l.name))

abbrev pub decreases-loop-bytes : goal.decreases-loop-bytes
decreases-loop-bytes g l = l.limit - l.done
