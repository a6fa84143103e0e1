-- Nodes where edges begin or end.
use Rattle.std.proofs.Common.{ℕ, ◌<◌, List, length}
use Rattle.boundary_arcs.specs.Edges.{IsUsed}
use Rattle.boundary_arcs.specs.declared.arc.Arc.{Arc}
use Rattle.plane_geom.specs.declared.Point.{Point}

-- each node is one where an edge begins or ends
abbrev pub AreUsed : List Point → List Arc → Type 0
AreUsed nodes arcs = (node : ℕ) → node < length nodes → IsUsed arcs node
