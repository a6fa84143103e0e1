-- The order and the marks of the pointers of a chart's areas.
use Rattle.std.specs.Prelude.{◌≡◌, ◌⊎◌, ℕ, eqb, cond, IsTrue, IsFalse, Option, Some, None, List, ◌++◌, flat_map, All, Contains}
use Rattle.mesh_definitions.specs.Pieces.{Mesh, left_of}
use Rattle.mesh_definitions.specs.Rings.{IsRing, is_exterior}
use Rattle.mesh_definitions.specs.declared.Piece.{Piece}
use Rattle.mesh_definitions.specs.declared.Step.{Step}
use Rattle.chart_definitions.specs.Edges.{traced}
use Rattle.chart_definitions.specs.Meaning.{of_code}
use Rattle.chart_model.specs.Areas.{areas}
use Rattle.chart_model.specs.Lines.{pointed}
use Rattle.chart_model.specs.declared.records.Edge.{Edge}
use Rattle.chart_model.specs.declared.records.Feature.{Feature}
use Rattle.chart_model.specs.declared.records.Parts.{Parts}
use Rattle.chart_model.specs.declared.records.Pointer.{Pointer}
use Rattle.plane_geom.specs.declared.Seg.{Seg}
use Rattle.s57_codes.specs.Catalogue.{mask_hidden, mask_shown, null, objl_m_covr, ornt_forward, ornt_reverse, rcnm_edge, usag_exterior, usag_interior, usag_truncated}

-- where a step of a drawn line runs: on the border of the coverage, between two blocks, or within one
pub data Run : Type 0 where
  Border : Run
  Seam : Run
  Within : Run

abbrev pub run_of : Mesh → Step → Run
run_of m s = go (m.right_of s) (left_of m s)
  where
    go : Option Piece → Option Piece → Run
    go None q = Border
    go (Some p) None = Border
    go (Some p) (Some q) = cond (eqb (m.block p) (m.block q)) Within Seam

-- the USAG and MASK of a pointer along such steps, on a ring of this use: the border is cut by the data limit, a line between blocks isn't drawn, any other is
abbrev pub IsMarked : ℕ → Pointer → Run → Type 0
IsMarked usage p Border = (p.usag ≡ usag_truncated) × (p.mask ≡ null)
IsMarked usage p Seam = (p.usag ≡ usage) × (p.mask ≡ mask_hidden)
IsMarked usage p Within = (p.usag ≡ usage) × (p.mask ≡ mask_shown)

-- a pointer on a ring of this use names an edge, forwards or backwards, with the marks of its steps
pub record IsRingPointer (m : Mesh) (traces : List (List Step)) (c : Parts) (usage : ℕ) (p : Pointer) : Type 0 where
  pub edge : Edge
  pub trace : List Step
  pub there : Contains (traced c traces) (edge, trace)
  pub record_is : p.rcnm ≡ rcnm_edge
  pub number : p.rcid ≡ edge.rcid
  pub way : (p.ornt ≡ ornt_forward) ⊎ (p.ornt ≡ ornt_reverse)
  pub marked : All (λ s. IsMarked usage p (run_of m s)) trace

-- the segments that pointers name, one after the other
abbrev pub run_along : Parts → List Pointer → List Seg
run_along c ring = flat_map (pointed c) ring

-- the use of a ring
abbrev pub usage_of : Parts → List Pointer → ℕ
usage_of c ring = cond (is_exterior (run_along c ring)) usag_exterior usag_interior

-- pointers that run along a ring, with the marks of its use
pub record IsRingOf (m : Mesh) (traces : List (List Step)) (c : Parts) (ring : List Pointer) : Type 0 where
  pub closed : IsRing (run_along c ring)
  pub pointers : All (IsRingPointer m traces c (usage_of c ring)) ring

-- the pointers of an area stand ring by ring, exterior rings before interior ones
pub record HasRings (m : Mesh) (traces : List (List Step)) (c : Parts) (f : Feature) : Type 0 where
  pub exterior : List (List Pointer)
  pub interior : List (List Pointer)
  pub in_order : f.pointers ≡ flat_map (λ ring. ring) (exterior ++ interior)
  pub outer : All (λ ring. IsTrue (is_exterior (run_along c ring))) exterior
  pub inner : All (λ ring. IsFalse (is_exterior (run_along c ring))) interior
  pub rings : All (IsRingOf m traces c) (exterior ++ interior)

-- The pointers of the areas and of the M_COVR stand ring by ring, with the marks of their lines.
pub record HasPointers (m : Mesh) (traces : List (List Step)) (c : Parts) : Type 0 where
  pub areas : All (HasRings m traces c) (areas c)
  pub covers : All (HasRings m traces c) (of_code objl_m_covr c)
