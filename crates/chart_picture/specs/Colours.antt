-- The colours of areas, after the day palette of electronic charts: green for what dries, then from shoal blue to white, sand
-- for land, grey for the rest.
use Rattle.std.specs.Prelude.{codes, ℕ, cond, eqb, nat_le, ℤ, pos, int_lt, unsigned_abs, List, find, Option, Some, None}
use Rattle.chart_model.specs.declared.records.Attribute.{Attribute}
use Rattle.chart_model.specs.declared.records.Feature.{Feature}
use Rattle.exact_num.specs.Number.{Number}
use Rattle.exact_num.specs.Text.{number_of}
use Rattle.exact_num.specs.Value.{floor_at}
use Rattle.s57_codes.specs.Catalogue.{attl_drval1, objl_depare}

-- LNDARE, land area (S-57 Edition 3.1, Appendix A, Chapter 1)
abbrev pub objl_lndare : ℕ
objl_lndare = 71

-- the fill of a path where nothing is known of the depth
abbrev pub unknown : List ℕ
unknown = codes "fill=\"#a3b4b7"

-- a depth of 100 km or more, either way, is none
unfoldable pub earthly : ℤ → Option ℤ
earthly dm = cond (nat_le (unsigned_abs dm) 1000000) (Some dm) None

-- decimetres, rounded down
abbrev pub decimetres_in : Option Number → Option ℤ
decimetres_in None = None
decimetres_in (Some metres) = earthly (floor_at metres 1)

abbrev pub depth_in : Option Attribute → Option ℤ
depth_in None = None
depth_in (Some a) = decimetres_in (number_of a.text)

-- what an area's water is at least deep, in decimetres: the first DRVAL1
unfoldable pub shoalest : Feature → Option ℤ
shoalest it = depth_in (find (λ (a : Attribute). eqb a.code attl_drval1) it.attributes)

-- below the datum green, and a lighter blue from 2, 5, 10 and 30 m on
abbrev pub water : Option ℤ → List ℕ
water None = unknown
water (Some dm) =
    cond (int_lt dm (pos 0)) (codes "fill=\"#83b295")
    (cond (int_lt dm (pos 20)) (codes "fill=\"#73b6ef")
    (cond (int_lt dm (pos 50)) (codes "fill=\"#98c5f2")
    (cond (int_lt dm (pos 100)) (codes "fill=\"#c4e0f5")
    (cond (int_lt dm (pos 300)) (codes "fill=\"#e0f0fa")
    (codes "fill=\"#ffffff")))))

unfoldable pub fill_of : Feature → List ℕ
fill_of it = cond (eqb it.objl objl_depare) (water (shoalest it)) (cond (eqb it.objl objl_lndare) (codes "fill=\"#c9b97a") unknown)
