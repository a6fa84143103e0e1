-- A piece that has a node on its outline is unsurveyed or of the node's band.
use Rattle.std.proofs.Common.{◌≡◌, ◌⊎◌, ⊎_elim, inl, inr, ℕ, ℤ, Bool, true, false, cond, Some, refl, ap, subst, Contains}
use Rattle.mesh_definitions.specs.Faces.{steps_of}
use Rattle.mesh_definitions.specs.Field.{Field, IsField, point, band_at}
use Rattle.mesh_definitions.specs.Mesh.{surveyed}
use Rattle.mesh_definitions.specs.Pieces.{whole_mesh, walked}
use Rattle.mesh_definitions.specs.declared.Class.TheVariants.{Unsurveyed, Band}
use Rattle.mesh_definitions.specs.declared.Piece.{Piece}
use Rattle.mesh_definitions.specs.declared.Step.{Step}
use Rattle.tiling_laws.specs.Depths.{IsNode, IsOfNode}
use Rattle.depth_grid.specs.declared.node.NodeId.{NodeId}
use Rattle.mesh_laws.proofs.Once.{step_sub}
use Rattle.plane_geom.specs.Geom.{IsOn}
use Rattle.plane_geom.specs.declared.Point.{Point}
use Rattle.plane_laws.proofs.Members.{is_in}
use Rattle.mesh_lines_laws.proofs.Beside.{outlines, step_spots, opens}
use Rattle.mesh_lines_laws.proofs.Corner.{corner_end}
use Rattle.mesh_lines_laws.proofs.PartEnds.{Touches}
use Rattle.mesh_lines_laws.proofs.Spots.{Spot, Holds, one_name}
use Rattle.mesh_lines_laws.proofs.Spots.Spot.{At}

module _ (f : Field) (h : IsField f) (block : ℕ → ℕ → ℕ) where
  -- a piece of a surveyed triangle is of a node where it is of its band
  pub of_node : (n : NodeId) (q : Piece) → (surveyed f q.tri ≡ true → q.band ≡ band_at f n) → IsOfNode f (whole_mesh f block) n q
  of_node n q g = by (surveyed f q.tri) g
    where
      by : (x : Bool) → (x ≡ true → q.band ≡ band_at f n) → (cond x (Band q.band) Unsurveyed ≡ Unsurveyed) ⊎ (cond x (Band q.band) Unsurveyed ≡ Band (band_at f n))
      by true k = inr (ap Band (k refl))
      by false k = inl refl

  -- a sub-segment that ends at a node may end there by name
  pub named : (n : NodeId) (x : ℤ) (z : Spot) (p : Point) → IsNode f n x → Holds f h z p → p ≡ point f n → z ≡ At n
  named n x z p is on e = one_name f h z (At n) p on (record { row = is.row_in; col = is.col_in }, e)

  pub on_outline : (n : NodeId) (x : ℤ) (s : Step) (q : Piece) → IsNode f n x → Contains (steps_of (whole_mesh f block)) s → (whole_mesh f block).right_of s ≡ Some q → IsOn (walked (whole_mesh f block) s) (point f n) → IsOfNode f (whole_mesh f block) n q
  on_outline n x s q is there right on =
      let m = whole_mesh f block in
      let i = step_sub m.subs s (is_in (steps_of m) s there) in
      let o = outlines f h block s.sub s.forward q i right in
      let e = step_spots f h block s i in
      let w = opens f h n q.tri.row q.tri.col is.row_in is.col_in o.1.row o.1.col in
      let a = w.holds (walked m s).a (o.0.in_cell e.a (walked m s).a e.ends_a e.at_a) in
      let b = w.holds (walked m s).b (o.0.in_cell e.b (walked m s).b e.ends_b e.at_b) in
      of_node n q (λ known. ⊎_elim
      (λ g. o.0.of_band n known (subst (Touches f s.sub) (named n x e.a (walked m s).a is e.at_a g) e.ends_a))
      (λ g. o.0.of_band n known (subst (Touches f s.sub) (named n x e.b (walked m s).b is e.at_b g) e.ends_b))
      (corner_end w.x w.y (point f n) (walked m s) a b on))
