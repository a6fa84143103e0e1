-- The areas of group 1 of a chart of a mesh: depth areas and unsurveyed areas.
use Rattle.std.specs.Prelude.{◌≡◌, ℕ, ℤ, ◌<◌, eqb, List, [], ◌∷◌, map, length, Contains, IsPermutation, slice_index_or}
use Rattle.mesh_definitions.specs.Faces.{IsGapless, NumbersFaces, boundary}
use Rattle.mesh_definitions.specs.Pieces.{Mesh, walked}
use Rattle.mesh_definitions.specs.Ranges.{IsRange}
use Rattle.mesh_definitions.specs.declared.Class.TheVariants.{Unsurveyed, Band}
use Rattle.mesh_definitions.specs.declared.Class.{Class}
use Rattle.mesh_definitions.specs.declared.Piece.{Piece}
use Rattle.chart_model.specs.Areas.{areas}
use Rattle.chart_model.specs.Lines.{area_segments}
use Rattle.chart_model.specs.declared.records.Feature.{Feature}
use Rattle.chart_model.specs.declared.records.Parts.{Parts}
use Rattle.exact_num.specs.Printed.{decimetres}
use Rattle.s57_codes.specs.Catalogue.{attl_drval1, attl_drval2, objl_depare, objl_unsare}
use Rattle.shoal_buffer.specs.Charted.{ChartedView}

-- a feature is a depth area, and tells depths from low to high, in decimetres
pub record IsDepthArea (low high : ℤ) (f : Feature) : Type 0 where
  pub code : f.objl ≡ objl_depare
  pub range : f.attributes ≡ record { code = attl_drval1; text = decimetres low } ∷ record { code = attl_drval2; text = decimetres high } ∷ []

-- a feature is an unsurveyed area, and tells nothing
pub record IsUnsurveyedArea (f : Feature) : Type 0 where
  pub code : f.objl ≡ objl_unsare
  pub nothing : f.attributes ≡ []

-- a feature is the area of a class: an unsurveyed one, or the depth area with the range of a band
abbrev pub IsAreaOf : ChartedView → List ℤ → Class → Feature → Type 0
IsAreaOf v levels Unsurveyed f = IsUnsurveyedArea f
IsAreaOf v levels (Band b) f = (low : ℤ) × (high : ℤ) × IsRange v levels b low high × IsDepthArea low high f

-- the segments of a feature are the directed boundary of the pieces with number k, each once
abbrev pub HasOutline : Mesh → Parts → (Piece → ℕ) → ℕ → Feature → Type 0
HasOutline m c number k f = IsPermutation (map (walked m) (boundary m (λ p. eqb (number p) k))) (area_segments c f)

-- The areas are the faces, one each: an area's segments are its face's directed boundary, and its kind and range are its pieces' class. `face` gives the place of each piece's area among the areas.
pub record HasAreas (v : ChartedView) (levels : List ℤ) (m : Mesh) (face : Piece → ℕ) (c : Parts) : Type 0 where
  pub faces : NumbersFaces m face
  pub one_each : IsGapless m face (length (areas c))
  pub outlines : (k : ℕ) (d : Feature) → k < length (areas c) → HasOutline m c face k (slice_index_or (areas c) k d)
  pub classes : (p : Piece) (d : Feature) → Contains m.pieces p → IsAreaOf v levels (m.class p) (slice_index_or (areas c) (face p) d)
