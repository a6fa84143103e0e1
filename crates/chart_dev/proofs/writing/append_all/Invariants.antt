use Rattle.std.proofs.Common.{◌≡◌, ◌≤◌, ◌-◌, length, take, option_map}
use Rattle.chart_dev.specs.Contents.{appended}
use Rattle.chart_dev.proofs.writing.append_all.Given as goal

abbrev pub invariant-loop-added : goal.invariant-loop-added
invariant-loop-added g l =
    (g.S.Shelf.told l.shelf ≡ option_map (appended l.name (take l.added l.bytes)) (g.S.Shelf.told l.fn.shelf))
    × (l.added ≤ length l.bytes)
    × (g.S.Shelf.faults l.shelf ≡ g.S.Shelf.faults l.fn.shelf)

abbrev pub decreases-loop-added : goal.decreases-loop-added
decreases-loop-added g l = length l.bytes - l.added
