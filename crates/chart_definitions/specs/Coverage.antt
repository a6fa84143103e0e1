-- The coverage of a chart of a mesh, and the quality of its data.
use Rattle.std.specs.Prelude.{codes, ◌≡◌, ℕ, ◌<◌, Option, Some, None, List, [], ◌∷◌, map, length, All, slice_index_or}
use Rattle.std.specs.Fmt.{decimal}
use Rattle.mesh_definitions.specs.Pieces.{Mesh}
use Rattle.chart_definitions.specs.Areas.{HasOutline}
use Rattle.chart_definitions.specs.Meaning.{of_code}
use Rattle.chart_model.specs.declared.records.Feature.{Feature}
use Rattle.chart_model.specs.declared.records.Parts.{Parts}
use Rattle.chart_model.specs.declared.records.Pointer.{Pointer}
use Rattle.s57_codes.specs.Catalogue.{attl_catcov, attl_catzoc, objl_m_covr, objl_m_qual}

-- a feature has one attribute, this text at this code
abbrev pub HasText : ℕ → List ℕ → Feature → Type 0
HasText code text f = f.attributes ≡ record { code = code; text = text } ∷ []

-- the pointers of the features with one object code, feature by feature
abbrev pub pointers_of : ℕ → Parts → List (List Pointer)
pointers_of code c = map (λ (f : Feature). f.pointers) (of_code code c)

-- where there is a category of zone of confidence, each M_COVR has an M_QUAL with its pointers and that category, in the same order; else there is no M_QUAL
abbrev pub HasQuality : Option ℕ → Parts → Type 0
HasQuality None c = of_code objl_m_qual c ≡ []
HasQuality (Some zone) c = (pointers_of objl_m_qual c ≡ pointers_of objl_m_covr c) × All (HasText attl_catzoc (decimal zone)) (of_code objl_m_qual c)

-- The M_COVR are the blocks, one each: the segments of one are the directed boundary of its block, and it tells that data are available. Where the sheet names a category, each block has that quality.
pub record HasCoverage (catzoc : Option ℕ) (m : Mesh) (count : ℕ) (c : Parts) : Type 0 where
  pub one_each : length (of_code objl_m_covr c) ≡ count
  pub outlines : (k : ℕ) (d : Feature) → k < count → HasOutline m c m.block k (slice_index_or (of_code objl_m_covr c) k d)
  pub available : All (HasText attl_catcov (codes "1")) (of_code objl_m_covr c)
  pub quality : HasQuality catzoc c
