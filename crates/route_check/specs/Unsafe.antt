-- Areas that are unsafe for a depth. Group 1 covers the ground without overlap, so each of its areas that isn't known to be deep enough counts: an unsurveyed area, a dredged one, land.
use Rattle.std.specs.Prelude.{Bool, true, ◌&&◌, ◌||◌, not, eqb, Option, Some, None, find}
use Rattle.chart_model.specs.Areas.{is_area}
use Rattle.chart_model.specs.declared.records.Attribute.{Attribute}
use Rattle.chart_model.specs.declared.records.Feature.{Feature}
use Rattle.exact_num.specs.Number.{Number}
use Rattle.exact_num.specs.Text.{number_of}
use Rattle.exact_num.specs.Value.{less_value}
use Rattle.s57_codes.specs.Catalogue.{attl_drval1, objl_depare}

-- a depth area's least depth in metres: the first DRVAL1 of a feature
abbrev pub least_depth : Feature → Option Attribute
least_depth f = find (λ (a : Attribute). eqb a.code attl_drval1) f.attributes

-- whether there is no number, or one that is less than the depth
abbrev pub is_unsafe_number : Number → Option Number → Bool
is_unsafe_number depth None = true
is_unsafe_number depth (Some n) = less_value n depth

-- whether there is no attribute, or its text is no number or one that is less than the depth
abbrev pub is_unsafe_attribute : Number → Option Attribute → Bool
is_unsafe_attribute depth None = true
is_unsafe_attribute depth (Some a) = is_unsafe_number depth (number_of a.text)

-- whether a feature is an area of group 1 that isn't a depth area, or whose least depth isn't known to reach the depth
abbrev pub is_unsafe : Number → Feature → Bool
is_unsafe depth f = is_area f && (not (eqb f.objl objl_depare) || is_unsafe_attribute depth (least_depth f))
