-- What a table of pieces of the code shows.
use Rattle.std.specs.Prelude.{◌≡◌, ℕ, ◌≤◌, ◌^◌, Option, Some, None, length}
use Rattle.std.specs.Borrow.{Bor}
use Rattle.mesh_definitions.specs.Mesh.{all_cells}
use Rattle.mesh_definitions.specs.declared.Rect.{Rect}
use Rattle.tri_mesh.specs.Cells.{all_of, block_in}
use Rattle.tri_mesh.specs.TriNumbers.{tri_count}
use Rattle.tri_mesh.specs.Views.{blocks_view}
use Rattle.tri_mesh.specs.declared.blocks.Blocks.{Blocks}
use Rattle.face_fill.specs.BandTableView.{field_by, HasNodeBands}
use Rattle.face_fill.specs.Items.{AreItems}
use Rattle.face_fill.specs.declared.tables.PieceTable.{PieceTable}

-- the block of a cell; where no blocks are given, all cells are of one
abbrev pub block_by : Option (Bor Blocks) → ℕ → ℕ → ℕ
block_by None i j = 0
block_by (Some b) i j = block_in (blocks_view b.now) i j

-- blocks that are given are of all cells
abbrev pub AreBlocksOf : Option (Bor Blocks) → Rect → Type 0
AreBlocksOf None all = Unit {0}
AreBlocksOf (Some b) all = all_of (blocks_view b.now) ≡ all

-- a table of pieces that is right: its nodes, blocks and items
pub record IsPieceTable (p : PieceTable) : Type 0 where
  pub nodes : HasNodeBands p.nodes
  pub blocks : AreBlocksOf p.blocks (all_cells (field_by p.nodes))
  pub items : AreItems (field_by p.nodes) p.nodes.rect (block_by p.blocks) (tri_count p.nodes.rect) p.items.starts.items p.items.counts.items p.items.owners.items
  pub few : length p.items.owners.items ≤ 2 ^ 26

abbrev pub item_count : PieceTable → ℕ
item_count p = length p.items.owners.items
