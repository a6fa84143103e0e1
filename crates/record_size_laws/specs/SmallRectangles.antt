-- How much a small rectangle of cells asks for.
use Rattle.std.specs.Prelude.{ℕ, ◌≤◌, length}
use Rattle.mesh_definitions.specs.Blocks.{Asks, IsSubRect}
use Rattle.mesh_definitions.specs.Field.{Field}
use Rattle.mesh_definitions.specs.Mesh.{all_cells}
use Rattle.mesh_definitions.specs.declared.Rect.{Rect}

-- with at most 20 levels, a rectangle of at most 16 by 16 cells asks for at most 12,000
abbrev pub SmallRectangles : Type 0
SmallRectangles = (f : Field) → length f.levels ≤ 20 → (r : Rect) (n : ℕ) → r.rows ≤ 16 → r.cols ≤ 16 → IsSubRect r (all_cells f) → Asks f r n → n ≤ 12000
