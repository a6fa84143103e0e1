-- The records of the parts of a chart fit where the borders of its faces and blocks are short.
use Rattle.std.specs.Prelude.{◌≡◌, ℕ, ◌<◌, ◌≤◌, true, eqb, length}
use Rattle.cell_writer.specs.Layout.{fits_of}
use Rattle.mesh_definitions.specs.Faces.{boundary}
use Rattle.mesh_definitions.specs.Field.{Field, field_of}
use Rattle.mesh_definitions.specs.Pieces.{whole_mesh}
use Rattle.chart_model.specs.declared.records.Parts.{Parts}
use Rattle.built_parts.specs.Made.{AreMade}
use Rattle.depth_grid.specs.Grid.{GridView}
use Rattle.face_fill.specs.Numbered.{FacesView, face_in}
use Rattle.rule_sheet.specs.Values.{IsSheet, SheetView}

-- each face's border, and each block's, has at most 12,000 sub-segments
pub record AreShort (f : Field) (block : ℕ → ℕ → ℕ) (blocks : ℕ) (v : FacesView) : Type 0 where
  pub faces : (k : ℕ) → k < length v.classes → length (boundary (whole_mesh f block) (λ p. eqb (face_in f v p) k)) ≤ 12000
  pub outlines : (b : ℕ) → b < blocks → length (boundary (whole_mesh f block) (λ p. eqb (block p.tri.row p.tri.col) b)) ≤ 12000

-- of the parts of a chart made of a grid and a sheet, whose faces and blocks have short borders, each record has at most 99,999 bytes
abbrev pub MadePartsFit : Type 0
MadePartsFit = (g : GridView) (s : SheetView) (c : Parts) → IsSheet s → (m : AreMade g s c) → AreShort (field_of m.view s.levels) m.block m.blocks m.faces → fits_of c ≡ true
