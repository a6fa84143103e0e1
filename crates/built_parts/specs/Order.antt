-- The features of a chart kind by kind, and the depths between which its areas lie.
use Rattle.std.specs.Prelude.{◌≡◌, ℕ, ℤ, pos, Option, List, [], length, unwrap_or}
use Rattle.boundary_arcs.specs.declared.arc.Arc.{Arc}
use Rattle.built_parts.specs.Areas.{area_contents, coverage_contents}
use Rattle.built_parts.specs.Contours.{contour_contents, sounding_contents}
use Rattle.built_parts.specs.Contents.{Adds}
use Rattle.chart_model.specs.declared.records.Feature.{Feature}
use Rattle.face_fill.specs.Numbered.{FacesView}
use Rattle.ring_builder.specs.Parts.{numbers}
use Rattle.ring_builder.specs.Rings.{HasRings}
use Rattle.ring_builder.specs.declared.ring.Ring.{Ring}
use Rattle.shoal_buffer.specs.Charted.{IsExtent}

-- the least and the greatest charted depth, both 0 where there is none
pub record AreEnds (charted : List (Option ℤ)) (low high : ℤ) : Type 0 where
  pub extent : Option (ℤ × ℤ)
  pub is : IsExtent charted extent
  pub ends : unwrap_or extent (pos 0, pos 0) ≡ (low, high)

-- the coverage and the quality of so many blocks are added, with the rings of the blocks
pub record AddsGround (quality : Option ℕ) (v : FacesView) (arcs : List Arc) (blocks : ℕ) (old new : List Feature) : Type 0 where
  pub rings : List (List Ring)
  pub are : HasRings arcs (numbers v.blocks) blocks rings
  pub added : Adds (coverage_contents quality v arcs rings) old new

-- the areas of all faces are added, with the rings of the faces
pub record AddsAreas (levels : List ℤ) (low high : ℤ) (v : FacesView) (arcs : List Arc) (old new : List Feature) : Type 0 where
  pub rings : List (List Ring)
  pub are : HasRings arcs (λ face. face) (length v.classes) rings
  pub added : Adds (area_contents levels low high v arcs rings) old new

-- first the coverage and the quality of blocks, then areas, contours and soundings, and no others
pub record AreFeatures (levels : List ℤ) (quality : Option ℕ) (low high : ℤ) (v : FacesView) (arcs : List Arc) (blocks nodes : ℕ) (fs : List Feature) : Type 0 where
  pub covers : List Feature
  pub ground : AddsGround quality v arcs blocks [] covers
  pub faces : List Feature
  pub areas : AddsAreas levels low high v arcs covers faces
  pub lines : List Feature
  pub contours : Adds (contour_contents levels v arcs) faces lines
  pub soundings : Adds (sounding_contents nodes) lines fs
