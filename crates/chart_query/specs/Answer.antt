-- The answer for a point, computed.
use Rattle.std.specs.Prelude.{Bool, ◌&&◌, cond, List, [], ◌∷◌, ℕ, pos, flat_map}
use Rattle.std.specs.List.{list_any}
use Rattle.std.specs.Ordering.{int_eq}
use Rattle.chart_model.specs.Areas.{areas}
use Rattle.chart_model.specs.Lines.{area_segments}
use Rattle.chart_model.specs.declared.records.Parts.{Parts}
use Rattle.chart_query.specs.Place.{insides}
use Rattle.chart_query.specs.declared.answer.Place.TheVariants.{Outside, Edge, Areas}
use Rattle.chart_query.specs.declared.answer.Place.{Place}
use Rattle.plane_geom.specs.Geom.{cross_of, is_between}
use Rattle.plane_geom.specs.declared.Point.{Point}
use Rattle.plane_geom.specs.declared.Seg.{Seg}

-- whether p lies on the closed segment s
abbrev pub is_on : Point → Seg → Bool
is_on p s = int_eq (cross_of s.a s.b p) (pos 0) && (is_between s.a.x s.b.x p.x && is_between s.a.y s.b.y p.y)

-- whether p is on a segment of some area
abbrev pub is_on_area : Parts → Point → Bool
is_on_area c p = list_any (is_on p) (flat_map (area_segments c) (areas c))

-- inside areas, or none
abbrev pub inside : List ℕ → Place
inside [] = Outside
inside (k ∷ ks) = Areas (k ∷ ks)

-- the answer for p
unfoldable pub place_of : Parts → Point → Place
place_of c p = cond (is_on_area c p) Edge (inside (insides c p))
