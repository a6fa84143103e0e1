-- The mesh of every field is sound.
use Rattle.std.specs.Prelude.{◌≡◌, ℕ, pos, Contains}
use Rattle.mesh_definitions.specs.Faces.{OnLine}
use Rattle.mesh_definitions.specs.Field.{Field, IsField}
use Rattle.mesh_definitions.specs.Ground.{IsGround}
use Rattle.mesh_definitions.specs.Laws.{piece_count}
use Rattle.mesh_definitions.specs.Pieces.{whole_mesh}
use Rattle.mesh_definitions.specs.declared.Class.{Class}
use Rattle.mesh_definitions.specs.declared.Piece.{Piece}
use Rattle.tiling_laws.specs.Truth.{IsSound}
use Rattle.plane_geom.specs.declared.Point.{Point}

-- whatever its blocks, a piece of the mesh of a field that counts 1 at a point off the lines has the class of the ground there
abbrev pub FieldsKeepGround : Type 0
FieldsKeepGround = (f : Field) (block : ℕ → ℕ → ℕ) → IsField f → (p : Point) (q : Piece) → Contains (whole_mesh f block).pieces q →
    piece_count (whole_mesh f block) p q ≡ pos 1 → ¬ (OnLine (whole_mesh f block) p) → IsGround f p ((whole_mesh f block).class q)

-- and there the ground is of one class
abbrev pub FieldsHaveOneClass : Type 0
FieldsHaveOneClass = (f : Field) (block : ℕ → ℕ → ℕ) → IsField f → (p : Point) (K L : Class) → ¬ (OnLine (whole_mesh f block) p) →
    IsGround f p K → IsGround f p L → K ≡ L

-- so the mesh of a field keeps all that a chart asks of its mesh
abbrev pub FieldsAreSound : Type 0
FieldsAreSound = (f : Field) (block : ℕ → ℕ → ℕ) → IsField f → IsSound f (whole_mesh f block)
