-- What is asked of a generalised grid and of blocks by need has one outcome: one view of the grid, and one way to part the cells.
use Rattle.std.specs.Prelude.{◌≡◌, ◌↔◌, ℕ, ℤ, IsTrue, List}
use Rattle.mesh_definitions.specs.Blocks.{AreByNeed}
use Rattle.mesh_definitions.specs.Field.{Field, IsGeneralised}
use Rattle.mesh_definitions.specs.Mesh.{all_cells, has_cell}
use Rattle.mesh_definitions.specs.declared.Rect.{Rect}
use Rattle.depth_grid.specs.Grid.{IsGrid, GridView}
use Rattle.shoal_buffer.specs.Charted.{ChartedView}

-- two views of one grid, generalised by discs of one aspect and radius and rounded by the same steps, are one: the same opened and the same charted depth at each node
abbrev pub GeneralisedOnce : Type 0
GeneralisedOnce = (g : GridView) (aspect radius : ℕ) (step_from steps : List ℤ) (v w : ChartedView) → IsGrid g →
    IsGeneralised g aspect radius step_from steps v → IsGeneralised g aspect radius step_from steps w → v ≡ w

-- two numberings of a field's cells part them alike: cells that have one number in the one have one number in the other, and the other way round
abbrev pub PartAlike : Field → (ℕ → ℕ → ℕ) → (ℕ → ℕ → ℕ) → Type 0
PartAlike f block other = (i j k l : ℕ) → IsTrue (has_cell (all_cells f) i j) → IsTrue (has_cell (all_cells f) k l) → (block i j ≡ block k l) ↔ (other i j ≡ other k l)

-- blocks by need of one field part its cells alike, however they are numbered
abbrev pub NeedPartsOnce : Type 0
NeedPartsOnce = (f : Field) (n m : ℕ) (rect second : ℕ → Rect) (block other : ℕ → ℕ → ℕ) → AreByNeed f n rect block → AreByNeed f m second other → PartAlike f block other
