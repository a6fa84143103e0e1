-- What is shown where one points at an area or at a contour. Of the cell's own bytes only those stand here that are read as a
-- number.
use Rattle.std.specs.Prelude.{codes, ℕ, ◌++◌, cond, eqb, List, find, Option, Some, None, decimal}
use Rattle.chart_model.specs.declared.records.Attribute.{Attribute}
use Rattle.chart_model.specs.declared.records.Feature.{Feature}
use Rattle.chart_picture.specs.Colours.{objl_lndare}
use Rattle.exact_num.specs.Number.{Number}
use Rattle.exact_num.specs.Text.{number_of}
use Rattle.s57_codes.specs.Catalogue.{attl_drval1, attl_drval2, attl_valdco, objl_depare, objl_unsare}

-- a text where it is a number, and a question mark where it is none
abbrev pub if_number : Option Number → List ℕ → List ℕ
if_number None text = codes "?"
if_number (Some n) text = text

abbrev pub number_or_mark : Option Attribute → List ℕ
number_or_mark None = codes "?"
number_or_mark (Some a) = if_number (number_of a.text) a.text

-- the number of the first attribute that has a code
unfoldable pub number_text : ℕ → Feature → List ℕ
number_text code it = number_or_mark (find (λ (a : Attribute). eqb a.code code) it.attributes)

unfoldable pub depth_title : Feature → List ℕ
depth_title it = codes "depth area, " ++ (number_text attl_drval1 it ++ (codes " m to " ++ (number_text attl_drval2 it ++ codes " m")))

unfoldable pub area_title : Feature → List ℕ
area_title it =
    cond (eqb it.objl objl_depare) (depth_title it)
    (cond (eqb it.objl objl_unsare) (codes "unsurveyed area")
    (cond (eqb it.objl objl_lndare) (codes "land area")
    (codes "object " ++ decimal it.objl)))

unfoldable pub contour_title : Feature → List ℕ
contour_title it = codes "depth contour, " ++ (number_text attl_valdco it ++ codes " m")
