-- Steps along the outline of the coverage.
use Rattle.std.proofs.Common.{Bool, true, false}
use Rattle.chart_definitions.specs.SoundEdges.{OnOutline}
use Rattle.chart_definitions.specs.SoundEdges.OnOutline.{East, North, South, West}
use Rattle.mesh_definitions.specs.Field.{Field}
use Rattle.mesh_definitions.specs.Pieces.{Mesh, walked}
use Rattle.mesh_definitions.specs.declared.Step.{Step}
use Rattle.mesh_definitions.specs.declared.Sub.{Sub}
use Rattle.plane_geom.specs.Segments.{turned}
use Rattle.plane_geom.specs.declared.Seg.{Seg}

turned_along : (f : Field) (t : Seg) → OnOutline f t → OnOutline f (turned t)
turned_along f t (West a b) = West b a
turned_along f t (East a b) = East b a
turned_along f t (North a b) = North b a
turned_along f t (South a b) = South b a

-- a step runs along the outline where its sub-segment does
pub walked_along : (f : Field) (m : Mesh) (s : Step) → OnOutline f (m.ends s.sub) → OnOutline f (walked m s)
walked_along f m s h = go s.sub s.forward h
  where
    go : (u : Sub) (b : Bool) → OnOutline f (m.ends u) → OnOutline f (walked m (record { sub = u; forward = b }))
    go u true h = h
    go u false h = turned_along f (m.ends u) h
