-- The drawn lines of a field are the lines of its mesh, and depend on its blocks only by which cells they part.
use Rattle.std.specs.Prelude.{◌↔◌, ℕ}
use Rattle.mesh_definitions.specs.Faces.{OnLine}
use Rattle.mesh_definitions.specs.Field.{Field, IsField}
use Rattle.mesh_definitions.specs.Pieces.{whole_mesh}
use Rattle.plane_geom.specs.declared.Point.{Point}
use Rattle.point_laws.specs.Once.{PartAlike}
use Rattle.tri_mesh.specs.Lines.{OnDrawn}

-- a point lies on a drawn link or on a chord just where it lies on a drawn sub-segment of the mesh
abbrev pub DrawnAreLines : Type 0
DrawnAreLines = (f : Field) (block : ℕ → ℕ → ℕ) → IsField f → (p : Point) → OnDrawn f block p ↔ OnLine (whole_mesh f block) p

-- what one numbering of blocks draws, one that parts the cells alike draws too
abbrev pub AlikeDrawAlike : Type 0
AlikeDrawAlike = (f : Field) (block other : ℕ → ℕ → ℕ) → PartAlike f block other → (p : Point) → OnDrawn f block p → OnDrawn f other p
