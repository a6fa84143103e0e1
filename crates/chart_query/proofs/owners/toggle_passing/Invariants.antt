use Rattle.std.proofs.Common.{◌≡◌, take}
use Rattle.chart_query.specs.Owners.{Rises, toggled_by}
use Rattle.chart_query.proofs.owners.toggle_passing.Given as goal

abbrev pub invariant-loop-side : goal.invariant-loop-side
invariant-loop-side l = record { rising : Rises 0 l.owners.items; toggled : l.owners.items ≡ toggled_by l.p l.fn.owners.items (take l.side-index l.sides) }
