-- The edges that a net is put together to.
use Rattle.std.proofs.Common.{◌≢◌, ℕ, ◌^◌, ◌≤◌, ◌<◌, List, nat_eq, length, map, subst}
use Rattle.std.specs.List.{AllZip, IsDistinct}
use Rattle.std.specs.Prelude.{All, AllPairs}
use Rattle.std.proofs.lemmas.Bool.Decides.{Decides-eqb}
use Rattle.std.proofs.lemmas.List.{length-map}
use Rattle.std.proofs.lemmas.Map.Made.{AllPairs-from_IsDistinct}
use Rattle.boundary_arcs.specs.ChainEdges.{point_at, HasFacesBelow, IsTurn, IsArcOf, HasNumbers, UsesEach, AreArcsOfNet}
use Rattle.boundary_arcs.specs.Edges.{AreArcs}
use Rattle.boundary_arcs.specs.declared.arc.Arc.{Arc}
use Rattle.boundary_arcs.proofs.Chained.{turned_chains}
use Rattle.boundary_arcs.proofs.Keeping.{arcs_kept}
use Rattle.chains.specs.declared.Half.{Half}
use Rattle.chains.specs.declared.Line.{Line}
use Rattle.chains.specs.Nets.{IsNet, AreChains}
use Rattle.plane_geom.specs.declared.Point.{Point}

module _ (points : List Point) (lines : List Line) (net : IsNet lines (length points)) (chains turned : List (List Half)) (are : AreChains lines chains) (turns : AllZip (IsTurn points lines) chains turned) (arcs : List Arc) (run : AllZip (IsArcOf points lines) arcs turned) where
  pub edges_are : AreArcsOfNet points lines arcs
  edges_are =
      let t = turned_chains points lines net chains turned are turns in
      record { chains = turned; are = t.0; least = t.1; each = run }

  pub edges_keep : AllPairs ◌≢◌ points → length lines ≤ 2 ^ 27 → (faces : ℕ) → All (HasFacesBelow faces) lines → (numbers : List ℕ) → IsDistinct nat_eq numbers → All (λ p. p < length points) numbers → length numbers ≤ 2 ^ 28 → AllZip (HasNumbers numbers lines) arcs turned → UsesEach numbers arcs → AreArcs (map (point_at points) numbers) arcs faces
  edges_keep once few faces sides numbers distinct inside most ends used =
      let t = turned_chains points lines net chains turned are turns in
      arcs_kept points lines once net arcs turned t.0 run numbers ends (AllPairs-from_IsDistinct Decides-eqb numbers distinct) inside most faces sides few (λ node l. ∣ used node (subst (λ z. node < z) (length-map numbers (point_at points)) l) ∣₁)
