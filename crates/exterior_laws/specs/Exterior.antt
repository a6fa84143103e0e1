-- Area sums in the mesh of a field are positive, so rings round its pieces run clockwise on the outside.
use Rattle.std.specs.List.{Any}
use Rattle.std.specs.Prelude.{ℕ, pos, ◌<ℤ◌, Bool, IsTrue, List, map, Contains}
use Rattle.mesh_definitions.specs.Faces.{boundary}
use Rattle.mesh_definitions.specs.Field.{Field, IsField}
use Rattle.mesh_definitions.specs.Pieces.{same_piece, walked, whole_mesh}
use Rattle.mesh_definitions.specs.Rings.{AreRingsOf, area_sum, is_exterior}
use Rattle.mesh_definitions.specs.declared.Piece.{Piece}
use Rattle.plane_geom.specs.declared.Seg.{Seg}

-- the outline of each piece of the mesh of a field has a positive area sum
abbrev pub PiecesHaveArea : Type 0
PiecesHaveArea = (f : Field) (block : ℕ → ℕ → ℕ) → IsField f → (q : Piece) → Contains (whole_mesh f block).pieces q →
    pos 0 <ℤ area_sum (map (walked (whole_mesh f block)) (boundary (whole_mesh f block) (same_piece q)))

-- so has the directed boundary of each set that has a piece, such as a face or a block
abbrev pub SetsHaveArea : Type 0
SetsHaveArea = (f : Field) (block : ℕ → ℕ → ℕ) → IsField f → (F : Piece → Bool) (q : Piece) → Contains (whole_mesh f block).pieces q → IsTrue (F q) →
    pos 0 <ℤ area_sum (map (walked (whole_mesh f block)) (boundary (whole_mesh f block) F))

-- whatever rings have that boundary as their segments, each once, at least one of them is exterior
abbrev pub SomeRingIsExterior : Type 0
SomeRingIsExterior = (f : Field) (block : ℕ → ℕ → ℕ) → IsField f → (F : Piece → Bool) (q : Piece) → Contains (whole_mesh f block).pieces q → IsTrue (F q) →
    (rings : List (List Seg)) → AreRingsOf (whole_mesh f block) F rings → Any (λ ring. IsTrue (is_exterior ring)) rings
