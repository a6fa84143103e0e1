-- What is said of a leg: that it is clear, or which area it is inside, or which area it touches first, and with which segment.
use Rattle.std.specs.Prelude.{codes, ℕ, List, [], ◌++◌, slice_get, Option, Some, None, decimal}
use Rattle.chart_model.specs.declared.records.Feature.{Feature}
use Rattle.chart_model.specs.declared.records.Parts.{Parts}
use Rattle.exact_num.specs.Number.{Number}
use Rattle.plane_geom.specs.declared.Seg.{Seg}
use Rattle.route_check.specs.Answer.{leg_of}
use Rattle.route_check.specs.declared.answer.Leg.{Leg}
use Rattle.route_check.specs.declared.answer.Leg.TheVariants.{Clear, Inside, Touched}

-- the record number of a feature, and nothing where there is none
abbrev pub number_or_none : Option Feature → List ℕ
number_or_none None = []
number_or_none (Some f) = decimal f.rcid

-- the record number of the feature at a position
unfoldable pub number_at : Parts → ℕ → List ℕ
number_at c k = number_or_none (slice_get c.features k)

-- a feature is named by its record number, a segment by its place among the area's, from 0
abbrev pub leg_text : Parts → Leg → List ℕ
leg_text c Clear = codes "clear\n"
leg_text c (Inside f) = codes "unsafe inside " ++ (number_at c f ++ codes "\n")
leg_text c (Touched f k) = codes "unsafe touched " ++ (number_at c f ++ (codes " " ++ (decimal k ++ codes "\n")))

-- what is said of a leg at a depth
abbrev pub route_text : Number → Seg → Parts → List ℕ
route_text depth leg c = leg_text c (leg_of c depth leg)
