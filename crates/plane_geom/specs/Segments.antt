-- Segments along a list of points, and a segment the other way round.
use Rattle.std.specs.Prelude.{List, [], ◌∷◌}
use Rattle.plane_geom.specs.declared.Point.{Point}
use Rattle.plane_geom.specs.declared.Seg.{Seg}

-- the segments that join consecutive points
abbrev pub joins : List Point → List Seg
joins [] = []
joins (p ∷ ps) = go p ps
  where
    go : Point → List Point → List Seg
    go p [] = []
    go p (q ∷ qs) = record { a = p; b = q } ∷ go q qs

-- the same segment from its end to its beginning
abbrev pub turned : Seg → Seg
turned s = record { a = s.b; b = s.a }
