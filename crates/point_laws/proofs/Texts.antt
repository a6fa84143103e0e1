-- Where a chart and the ground say alike, their lines are one.
use Rattle.std.proofs.Common.{◌≡◌, ℕ, cond, eqb, List, [], ◌++◌, ℤ, Some, append-nil, slice_get, refl, ap, ◌∙◌}
use Rattle.std.specs.Prelude.{codes, decimal}
use Rattle.point_laws.specs.Alike.SayAlike.{Edges, Outsides, Depths, Unsurveyeds}
use Rattle.point_laws.specs.Alike.{SayAlike}
use Rattle.chart_ground.specs.Line.{ground_line}
use Rattle.chart_ground.specs.declared.answer.GroundAt.TheVariants as answer
use Rattle.chart_ground.specs.declared.answer.GroundAt.{GroundAt}
use Rattle.chart_definitions.specs.Areas.{IsDepthArea, IsUnsurveyedArea}
use Rattle.chart_model.specs.declared.records.Attribute.{Attribute}
use Rattle.chart_model.specs.declared.records.Feature.{Feature}
use Rattle.chart_model.specs.declared.records.Parts.{Parts}
use Rattle.chart_query.specs.Lines.{area_line, depth_area_line, line_at, line_or_none, place_text}
use Rattle.chart_query.specs.declared.answer.Place.{Place}
use Rattle.s57_codes.specs.Catalogue.{objl_depare, objl_unsare}

-- the line of a feature by its code and attributes
abbrev line_by : ℕ → List Attribute → List ℕ
line_by code attributes =
    cond (eqb code objl_depare) (depth_area_line attributes)
    (cond (eqb code objl_unsare) (codes "UNSARE\n")
    (codes "object " ++ (decimal code ++ codes "\n")))

depth_line : (low high : ℤ) (a : Feature) → IsDepthArea low high a → area_line a ≡ ground_line (answer.Depth low high)
depth_line low high a h = ap (λ code. line_by code a.attributes) h.code ∙ ap depth_area_line h.range

bare_line : (a : Feature) → IsUnsurveyedArea a → area_line a ≡ ground_line answer.Unsurveyed
bare_line a h = ap (λ code. line_by code a.attributes) h.code

-- the line at a place is that of the feature there
place_line : (c : Parts) (k : ℕ) → line_at c k ≡ line_or_none (slice_get c.features k)
unfolding line_at
place_line c k = refl

-- the lines of one area
one_line : (c : Parts) (k : ℕ) (a : Feature) → slice_get c.features k ≡ Some a → line_at c k ++ [] ≡ area_line a
one_line c k a there = append-nil (line_at c k) ∙ (place_line c k ∙ ap line_or_none there)

pub same_line : (c : Parts) (q : Place) (a : GroundAt) → SayAlike c q a → place_text c q ≡ ground_line a
same_line c q a Edges = refl
same_line c q a Outsides = refl
same_line c q a (Depths k f low high there is) = one_line c k f there ∙ depth_line low high f is
same_line c q a (Unsurveyeds k f there is) = one_line c k f there ∙ bare_line f is
