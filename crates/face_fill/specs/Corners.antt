-- The bands of the nodes of a rectangle of cells, as a table.
use Rattle.std.specs.Prelude.{◌≡◌, ℕ, ◌+◌, ◌*◌, ◌/◌, ◌%◌, ◌<◌, ◌≤◌, min, max, cond, Option, Some, None, List, [], ◌∷◌, length, slice_index_or}
use Rattle.mesh_definitions.specs.Blocks.{IsSubRect}
use Rattle.mesh_definitions.specs.Field.{Field, node_band}
use Rattle.mesh_definitions.specs.Mesh.{all_cells, first, second, surveyed}
use Rattle.mesh_definitions.specs.Pieces.{least_band, greatest_band, span}
use Rattle.mesh_definitions.specs.declared.Link.{Link}
use Rattle.mesh_definitions.specs.declared.Rect.{Rect}
use Rattle.mesh_definitions.specs.declared.Tri.{Tri}
use Rattle.depth_grid.specs.declared.node.NodeId.{NodeId}
use Rattle.face_fill.specs.declared.tables.Ends.{Ends}

abbrev pub node_of : ℕ → ℕ → NodeId
node_of i j = record { row = i; col = j }

-- the node at a place of a rectangle's nodes, row by row
abbrev pub node_at : Rect → ℕ → NodeId
node_at r k = node_of (r.row + k / (r.cols + 1)) (r.col + k % (r.cols + 1))

-- a rectangle of cells of a field, and the band of each of its nodes
pub record AreNodeBands (f : Field) (r : Rect) (bands : List (Option ℕ)) : Type 0 where
  pub inside : IsSubRect r (all_cells f)
  pub few_rows : f.rows ≤ 1025
  pub few_cols : f.cols ≤ 1025
  pub few_levels : length f.levels ≤ 20
  pub full : length bands ≡ (r.rows + 1) * (r.cols + 1)
  pub each : (k : ℕ) → k < length bands → slice_index_or bands k None ≡ node_band f (node_at r k)

-- the least and the greatest of three bands, where each is known
abbrev pub ends_of_three : Option ℕ → Option ℕ → Option ℕ → Option Ends
ends_of_three None b c = None
ends_of_three (Some a) None c = None
ends_of_three (Some a) (Some b) None = None
ends_of_three (Some a) (Some b) (Some c) = Some (record { least = min (min a b) c; greatest = max (max a b) c })

-- the least and the greatest band of a triangle, where it is surveyed
abbrev pub ends_of : Field → Tri → Option Ends
ends_of f t = cond (surveyed f t) (Some (record { least = least_band f t; greatest = greatest_band f t })) None

-- a node is one of the nodes of a rectangle of cells
pub record IsNode (r : Rect) (n : NodeId) : Type 0 where
  pub north : r.row ≤ n.row
  pub south : n.row ≤ r.row + r.rows
  pub west : r.col ≤ n.col
  pub east : n.col ≤ r.col + r.cols

-- a link leads between two of them
pub record IsLinkIn (r : Rect) (l : Link) : Type 0 where
  pub from : IsNode r (first l)
  pub to : IsNode r (second l)

-- the parts of a link by the bands of its nodes
abbrev pub parts_between : Option ℕ → Option ℕ → List ℕ
parts_between None b = 0 ∷ []
parts_between (Some a) None = 0 ∷ []
parts_between (Some a) (Some b) = span (min a b) (max a b)
