-- No area and no sounding of a chart tells more water than was measured.
use Rattle.std.specs.Prelude.{◌≡◌, ◌≢◌, ◌⊎◌, ℕ, ℤ, pos, ◌<◌, Some, List, All, Contains, flat_map}
use Rattle.mesh_definitions.specs.Field.{Field, IsGeneralised, band_at, field_of, point}
use Rattle.mesh_definitions.specs.Faces.{borders, steps_of}
use Rattle.mesh_definitions.specs.Laws.{piece_count}
use Rattle.mesh_definitions.specs.Pieces.{Mesh, walked}
use Rattle.mesh_definitions.specs.declared.Class.TheVariants.{Unsurveyed, Band}
use Rattle.mesh_definitions.specs.declared.Piece.{Piece}
use Rattle.mesh_definitions.specs.declared.Step.{Step}
use Rattle.chart_definitions.specs.Areas.{HasAreas}
use Rattle.chart_definitions.specs.Soundings.{HasSoundings}
use Rattle.chart_definitions.specs.Truth.{IsDepthOrUnsurveyed, IsNoDeeper, NoDeeperArea}
use Rattle.chart_model.specs.Areas.{areas}
use Rattle.chart_model.specs.Tally.{soundings_of}
use Rattle.chart_model.specs.declared.records.Parts.{Parts}
use Rattle.depth_grid.specs.Grid.{GridView}
use Rattle.depth_grid.specs.declared.node.NodeId.{NodeId}
use Rattle.depth_rounding.specs.Bands.{AreLevels}
use Rattle.plane_geom.specs.Geom.{IsOn}
use Rattle.plane_laws.specs.Borders.{HasPieces}
use Rattle.rule_sheet.specs.Values.{SheetView}
use Rattle.shoal_buffer.specs.Charted.{ChartedView}

-- each area of group 1 is a depth area or an unsurveyed area
abbrev pub AreasHaveKinds : Type 0
AreasHaveKinds = (v : ChartedView) (levels : List ℤ) (m : Mesh) (face : Piece → ℕ) (c : Parts) → HasAreas v levels m face c → All IsDepthOrUnsurveyed (areas c)

-- the soundings that are defined stand at nodes with data and are no deeper
abbrev pub SoundingsNoDeeper : Type 0
SoundingsNoDeeper = (g : GridView) (s : SheetView) (v : ChartedView) (c : Parts) → IsGeneralised g s.aspect s.disc_radius s.step_from s.steps v → HasSoundings v s c →
    All (IsNoDeeper g (field_of v s.levels)) (flat_map soundings_of c.isolated)

-- a piece is unsurveyed, or of the band of a node
abbrev pub IsOfNode : Field → Mesh → NodeId → Piece → Type 0
IsOfNode f m n q = (m.class q ≡ Unsurveyed) ⊎ (m.class q ≡ Band (band_at f n))

-- a node of a field that has the charted depth x, in decimetres
pub record IsNode (f : Field) (n : NodeId) (x : ℤ) : Type 0 where
  pub row_in : n.row < f.rows
  pub col_in : n.col < f.cols
  pub depth : f.depth n ≡ Some x

-- What the mesh of a field keeps at its nodes with data: a piece that has such a node on its outline, or counts there, is unsurveyed or of the node's band.
pub record NodeLaws (f : Field) (m : Mesh) : Type 0 where
  pub on_outline : (n : NodeId) (x : ℤ) (s : Step) (q : Piece) → IsNode f n x → Contains (steps_of m) s → m.right_of s ≡ Some q → IsOn (walked m s) (point f n) → IsOfNode f m n q
  pub counts : (n : NodeId) (x : ℤ) (q : Piece) → IsNode f n x → Contains m.pieces q → piece_count m (point f n) q ≢ pos 0 → IsOfNode f m n q

-- where a mesh keeps the laws at the nodes of a generalised grid, no depth area at a node tells more water than the node has
abbrev pub AreasNoDeeper : Type 0
AreasNoDeeper = (g : GridView) (s : SheetView) (v : ChartedView) (m : Mesh) (face : Piece → ℕ) (c : Parts) →
    AreLevels s.levels → IsGeneralised g s.aspect s.disc_radius s.step_from s.steps v → HasPieces (borders m) m.pieces → NodeLaws (field_of v s.levels) m → HasAreas v s.levels m face c →
    NoDeeperArea g (field_of v s.levels) c
