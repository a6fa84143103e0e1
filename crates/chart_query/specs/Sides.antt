-- The segments of all areas, each with the position of its area.
use Rattle.std.specs.Prelude.{Bool, cond, ℕ, ◌+◌, ℤ, int_le, List, [], ◌∷◌, ◌++◌, map}
use Rattle.chart_model.specs.Areas.{is_area}
use Rattle.chart_model.specs.Lines.{area_segments}
use Rattle.chart_model.specs.declared.records.Feature.{Feature}
use Rattle.chart_model.specs.declared.records.Parts.{Parts}
use Rattle.chart_query.specs.Answer.{is_on}
use Rattle.chart_query.specs.declared.sides.Side.{Side}
use Rattle.plane_geom.specs.declared.Point.{Point}
use Rattle.plane_geom.specs.declared.Seg.{Seg}

abbrev pub side_of : ℕ → Seg → Side
side_of k s = record { segment = s; feature = k }

-- the sides of the areas in a list of features, area by area, where the first feature's position is k
abbrev pub sides_from : Parts → ℕ → List Feature → List Side
sides_from c k [] = []
sides_from c k (f ∷ fs) = cond (is_area f) (map (side_of k) (area_segments c f)) [] ++ sides_from c (k + 1) fs

-- the heights of a side's lower and higher end
abbrev pub low_of : Side → ℤ
low_of s = cond (int_le s.segment.a.y s.segment.b.y) s.segment.a.y s.segment.b.y

abbrev pub high_of : Side → ℤ
high_of s = cond (int_le s.segment.a.y s.segment.b.y) s.segment.b.y s.segment.a.y

-- whether p lies on a side, its ends included
abbrev pub is_on_side : Point → Side → Bool
is_on_side p s = is_on p s.segment
