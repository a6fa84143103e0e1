-- What is said of a point in a chart: one line for a point that is outside or on an edge, or a line for each area that has it inside.
use Rattle.std.specs.Prelude.{codes, ℕ, cond, eqb, List, [], ◌++◌, flat_map, find, slice_get, Option, Some, None, decimal}
use Rattle.chart_model.specs.declared.records.Attribute.{Attribute}
use Rattle.chart_model.specs.declared.records.Feature.{Feature}
use Rattle.chart_model.specs.declared.records.Parts.{Parts}
use Rattle.chart_query.specs.Answer.{place_of}
use Rattle.chart_query.specs.declared.answer.Place.{Place}
use Rattle.chart_query.specs.declared.answer.Place.TheVariants as place
use Rattle.plane_geom.specs.declared.Point.{Point}
use Rattle.s57_codes.specs.Catalogue.{attl_drval1, attl_drval2, objl_depare, objl_unsare}

-- the text of an attribute, and `-` where there is none
abbrev pub text_or_dash : Option Attribute → List ℕ
text_or_dash None = codes "-"
text_or_dash (Some a) = a.text

-- the text of the first of some attributes that has a code
abbrev pub text_of : ℕ → List Attribute → List ℕ
text_of code attributes = text_or_dash (find (λ (a : Attribute). eqb a.code code) attributes)

-- the line of a depth area: the texts of its first DRVAL1 and DRVAL2
abbrev pub depth_area_line : List Attribute → List ℕ
depth_area_line attributes = codes "DEPARE " ++ (text_of attl_drval1 attributes ++ (codes " " ++ (text_of attl_drval2 attributes ++ codes "\n")))

-- the line of an area: a depth area with its range, an unsurveyed area, or another object by its code
abbrev pub area_line : Feature → List ℕ
area_line f =
    cond (eqb f.objl objl_depare) (depth_area_line f.attributes)
    (cond (eqb f.objl objl_unsare) (codes "UNSARE\n")
    (codes "object " ++ (decimal f.objl ++ codes "\n")))

-- the line of a feature, and nothing where there is none
abbrev pub line_or_none : Option Feature → List ℕ
line_or_none None = []
line_or_none (Some f) = area_line f

-- the line of the feature at a position
unfoldable pub line_at : Parts → ℕ → List ℕ
line_at c k = line_or_none (slice_get c.features k)

-- one line for a point outside or on an edge, or a line for each area
abbrev pub place_text : Parts → Place → List ℕ
place_text c place.Outside = codes "outside\n"
place_text c place.Edge = codes "edge\n"
place_text c (place.Areas found) = flat_map (line_at c) found

-- what is said of a point: the text of the place where the chart has it
abbrev pub query_text : Point → Parts → List ℕ
query_text p c = place_text c (place_of c p)
