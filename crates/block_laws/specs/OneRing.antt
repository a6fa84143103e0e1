-- A block of cells has one ring.
use Rattle.std.specs.Prelude.{◌≡◌, ℕ, ◌<◌, eqb, IsTrue, List, length, All}
use Rattle.mesh_definitions.specs.Blocks.{IsBlocks}
use Rattle.mesh_definitions.specs.Field.{Field, IsField}
use Rattle.mesh_definitions.specs.Mesh.{all_cells}
use Rattle.mesh_definitions.specs.Pieces.{whole_mesh}
use Rattle.mesh_definitions.specs.Rings.{AreRingsOf, is_exterior}
use Rattle.mesh_definitions.specs.declared.Rect.{Rect}
use Rattle.plane_geom.specs.declared.Seg.{Seg}

-- one ring, and it is exterior
pub record IsOneExterior (rings : List (List Seg)) : Type 0 where
  pub one : length rings ≡ 1
  pub exterior : All (λ ring. IsTrue (is_exterior ring)) rings

-- whatever rings have the directed boundary of the pieces of a block as their segments, each once, they are one, and it is exterior; blocks by need are such blocks
abbrev pub BlocksHaveOneRing : Type 0
BlocksHaveOneRing = (f : Field) (count : ℕ) (rect : ℕ → Rect) (block : ℕ → ℕ → ℕ) → IsField f → IsBlocks (all_cells f) count rect block →
    (k : ℕ) → k < count → (rings : List (List Seg)) → AreRingsOf (whole_mesh f block) (λ p. eqb ((whole_mesh f block).block p) k) rings → IsOneExterior rings
