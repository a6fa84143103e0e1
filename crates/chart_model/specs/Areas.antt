-- The areas of group 1, which cover the ground, and what is on one and inside one.
use Rattle.std.specs.Prelude.{Bool, ◌&&◌, eqb, IsTrue, List, filter}
use Rattle.chart_model.specs.Lines.{area_segments}
use Rattle.s57_codes.specs.Catalogue.{grup_skin, prim_area}
use Rattle.chart_model.specs.declared.records.Feature.{Feature}
use Rattle.chart_model.specs.declared.records.Parts.{Parts}
use Rattle.plane_geom.specs.Geom.{OnSome, odd_of}
use Rattle.plane_geom.specs.declared.Point.{Point}

-- a depth or unsurveyed area: an area in group 1
abbrev pub is_area : Feature → Bool
is_area f = eqb f.prim prim_area && eqb f.grup grup_skin

abbrev pub areas : Parts → List Feature
areas c = filter is_area c.features

-- p is inside an area: on none of its segments, and an odd number of them passes p's height east of p
pub record IsInside (c : Parts) (f : Feature) (p : Point) : Type 0 where
  pub off : ¬ (OnSome (area_segments c f) p)
  pub odd : IsTrue (odd_of (area_segments c f) p)
