-- The contours of a chart of a mesh.
use Rattle.std.specs.Prelude.{◌≡◌, ◌≢◌, ◌⊎◌, ℕ, ℤ, ◌+◌, Option, Some, List, [], ◌∷◌, option_map, All, AllPairs, Contains}
use Rattle.mesh_definitions.specs.Faces.{kind}
use Rattle.mesh_definitions.specs.Pieces.{Mesh, left_of}
use Rattle.mesh_definitions.specs.declared.Class.TheVariants.{Band}
use Rattle.mesh_definitions.specs.declared.Class.{Class}
use Rattle.mesh_definitions.specs.declared.Piece.{Piece}
use Rattle.mesh_definitions.specs.declared.Step.{Step}
use Rattle.chart_definitions.specs.Coverage.{HasText}
use Rattle.chart_definitions.specs.Edges.{traced}
use Rattle.chart_definitions.specs.Meaning.{of_code}
use Rattle.chart_model.specs.declared.records.Edge.{Edge}
use Rattle.chart_model.specs.declared.records.Feature.{Feature}
use Rattle.chart_model.specs.declared.records.Parts.{Parts}
use Rattle.depth_rounding.specs.Bands.{level_at}
use Rattle.exact_num.specs.Printed.{decimetres}
use Rattle.s57_codes.specs.Catalogue.{attl_valdco, null, objl_depcnt, ornt_forward, rcnm_edge}

-- class and block of the piece on a side, none beyond the border
abbrev pub side_kind : Mesh → Option Piece → Option (Class × ℕ)
side_kind m side = option_map (kind m) side

-- a step has pieces of these kinds on its right and on its left
pub record HasKinds (m : Mesh) (s : Step) (right left : Class × ℕ) : Type 0 where
  pub on_right : side_kind m (m.right_of s) ≡ Some right
  pub on_left : side_kind m (left_of m s) ≡ Some left

-- a step parts bands b and b + 1 of one block, either of them on its right
abbrev pub PartsBands : Mesh → ℕ → Step → Type 0
PartsBands m b s = (block : ℕ) × (HasKinds m s (Band b, block) (Band (b + 1), block) ⊎ HasKinds m s (Band (b + 1), block) (Band b, block))

-- an edge whose steps all do
pub record PartsBandsAt (m : Mesh) (traces : List (List Step)) (c : Parts) (b : ℕ) (e : Edge) : Type 0 where
  pub trace : List Step
  pub there : Contains (traced c traces) (e, trace)
  pub each : All (PartsBands m b) trace

-- a feature is the contour along an edge, of the level between bands b and b + 1
pub record IsContour (levels : List ℤ) (b : ℕ) (e : Edge) (f : Feature) : Type 0 where
  pub along : f.pointers ≡ record { rcnm = rcnm_edge; rcid = e.rcid; ornt = ornt_forward; usag = null; mask = null } ∷ []
  pub level : HasText attl_valdco (decimetres (level_at levels b)) f

-- Each edge between two neighbouring bands has one DEPCNT, with the level between them, and there are no others.
pub record HasContours (levels : List ℤ) (m : Mesh) (traces : List (List Step)) (c : Parts) : Type 0 where
  pub each : (e : Edge) (b : ℕ) → PartsBandsAt m traces c b e → (f : Feature) × Contains (of_code objl_depcnt c) f × IsContour levels b e f
  pub only : (f : Feature) → Contains (of_code objl_depcnt c) f → (e : Edge) × (b : ℕ) × PartsBandsAt m traces c b e × IsContour levels b e f
  pub once : AllPairs (λ (f h : Feature). f.pointers ≢ h.pointers) (of_code objl_depcnt c)
