-- How many edges there are.
use Rattle.std.proofs.Common.{ℕ, ◌^◌, ◌≤◌, List, length, arith}
use Rattle.boundary_arcs.proofs.Sizes.{two_each}
use Rattle.boundary_arcs.specs.Edges.{AreArcs}
use Rattle.boundary_arcs.specs.declared.arc.Arc.{Arc}
use Rattle.plane_geom.specs.declared.Point.{Point}

-- edges are few, since they have few points
pub few_arcs : (nodes : List Point) (arcs : List Arc) (faces : ℕ) → AreArcs nodes arcs faces → length arcs ≤ 2 ^ 27
few_arcs nodes arcs faces h =
    let two = two_each (λ (a : Arc). length a.points) arcs (λ i d l. (h.simple i d l).long) in
    let few = h.few in
    omega (arith, two, few)
