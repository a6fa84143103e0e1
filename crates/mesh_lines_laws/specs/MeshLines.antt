-- The mesh of every field keeps what a chart asks of where its lines run, and of its nodes.
use Rattle.std.specs.Prelude.{ℕ}
use Rattle.mesh_definitions.specs.Field.{Field, IsField}
use Rattle.mesh_definitions.specs.Pieces.{whole_mesh}
use Rattle.tiling_laws.specs.Depths.{NodeLaws}
use Rattle.tiling_laws.specs.SoundEdges.{LineLaws, OutlineLaw}

-- whatever its blocks, each sub-segment of the mesh of a field joins two different points, and no two of them join the same two
abbrev pub FieldsKeepLines : Type 0
FieldsKeepLines = (f : Field) (block : ℕ → ℕ → ℕ) → IsField f → LineLaws (whole_mesh f block)

-- a step of it has nothing on one of its sides exactly where it runs along the outline of the coverage
abbrev pub FieldsKeepOutline : Type 0
FieldsKeepOutline = (f : Field) (block : ℕ → ℕ → ℕ) → IsField f → OutlineLaw f (whole_mesh f block)

-- and a piece of it that has a node with data on its outline, or counts there, is unsurveyed or of the node's band
abbrev pub FieldsKeepNodes : Type 0
FieldsKeepNodes = (f : Field) (block : ℕ → ℕ → ℕ) → IsField f → NodeLaws f (whole_mesh f block)
