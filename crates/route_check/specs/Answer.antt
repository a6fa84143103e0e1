-- The answer for a leg, computed: whether it meets a segment is a test of orders and sides (plane_strips).
use Rattle.std.specs.Prelude.{ℕ, Bool, ◌&&◌, not, Option, Some, None, List, position, flat_map, option_to_list, slice_get}
use Rattle.std.specs.List.{list_any, position_or_len}
use Rattle.chart_model.specs.Lines.{area_segments}
use Rattle.chart_model.specs.declared.records.Feature.{Feature}
use Rattle.chart_model.specs.declared.records.Parts.{Parts}
use Rattle.exact_num.specs.Number.{Number}
use Rattle.plane_geom.specs.Geom.{odd_of}
use Rattle.plane_geom.specs.declared.Point.{Point}
use Rattle.plane_geom.specs.declared.Seg.{Seg}
use Rattle.plane_strips.specs.Legs.{are_apart}
use Rattle.route_check.specs.Unsafe.{is_unsafe}
use Rattle.route_check.specs.declared.answer.Leg.TheVariants.{Clear, Inside, Touched}
use Rattle.route_check.specs.declared.answer.Leg.{Leg}

-- whether the leg meets a segment
abbrev pub meets : Seg → Seg → Bool
meets leg s = not (are_apart leg s)

-- whether a feature is an unsafe area that has a segment which the leg meets
abbrev pub is_met : Parts → Number → Seg → Feature → Bool
is_met c depth leg f = is_unsafe depth f && list_any (meets leg) (area_segments c f)

-- whether a feature is an unsafe area of which an odd number of segments passes p's height east of p
abbrev pub is_around : Parts → Number → Point → Feature → Bool
is_around c depth p f = is_unsafe depth f && odd_of (area_segments c f) p

-- the segments of the feature at a position
abbrev pub segments_at : Parts → ℕ → List Seg
segments_at c f = flat_map (area_segments c) (option_to_list (slice_get c.features f))

-- the first segment that is met; else the first area that is around the beginning
unfoldable pub leg_of : Parts → Number → Seg → Leg
leg_of c depth leg = go (position (is_met c depth leg) c.features) (position (is_around c depth leg.a) c.features)
  where
    go : Option ℕ → Option ℕ → Leg
    go (Some f) g = Touched f (position_or_len (meets leg) (segments_at c f))
    go None (Some g) = Inside g
    go None None = Clear
