-- What a cell's areas and covers are, their segments, and its lines.
use Rattle.std.specs.Prelude.{ℕ, Bool, false, ◌&&◌, ◌||◌, not, eqb, Option, Some, None, List, length, map, filter, find, flat_map, slice_index}
use Rattle.std.specs.Ordering.{int_eq}
use Rattle.chart_model.specs.Areas.{areas, is_area}
use Rattle.chart_model.specs.Lines.{area_segments}
use Rattle.chart_model.specs.declared.records.Attribute.{Attribute}
use Rattle.chart_model.specs.declared.records.Feature.{Feature}
use Rattle.chart_model.specs.declared.records.Parts.{Parts}
use Rattle.plane_geom.specs.declared.Seg.{Seg}
use Rattle.s57_codes.specs.Catalogue.{attl_catcov, objl_m_covr, prim_area}

-- the text of one byte, the digit 1
abbrev pub is_one : List ℕ → Bool
is_one text = eqb (length text) 1 && eqb (slice_index text 0) 49

-- whether the first attribute with a code says 1 (S-57 part 3, 7.6.2: ATTL and ATVL)
abbrev pub says_one : ℕ → List Attribute → Bool
says_one code attributes = go (find (λ (a : Attribute). eqb a.code code) attributes)
  where
    go : Option Attribute → Bool
    go None = false
    go (Some a) = is_one a.text

-- a cover: an area of M_COVR whose first CATCOV is 1, coverage available (S-57 Appendix A, chapters 1 and 2)
abbrev pub is_cover : Feature → Bool
is_cover f = eqb f.objl objl_m_covr && eqb f.prim prim_area && says_one attl_catcov f.attributes

-- the segments of each area of group 1, and of each cover
abbrev pub area_outlines : Parts → List (List Seg)
area_outlines c = map (area_segments c) (areas c)

abbrev pub cover_outlines : Parts → List (List Seg)
cover_outlines c = map (area_segments c) (filter is_cover c.features)

-- the segments of all features that are areas or covers, each feature once
abbrev pub is_counted : Feature → Bool
is_counted f = is_area f || is_cover f

abbrev pub all_segments : Parts → List Seg
all_segments c = flat_map (area_segments c) (filter is_counted c.features)

-- a line: a segment whose ends differ
abbrev pub is_line : Seg → Bool
is_line s = not (int_eq s.a.x s.b.x && int_eq s.a.y s.b.y)

abbrev pub lines : Parts → List Seg
lines c = filter is_line (all_segments c)
