-- The triangles of a field and the links between its nodes.
use Rattle.std.specs.Prelude.{ℕ, zero, suc, ◌+◌, ◌-◌, nat_lt, nat_le, ◌&&◌, ◌++◌, Bool, true, false, cond, Option, Some, None, List, [], ◌∷◌, map, flat_map, is_some}
use Rattle.std.specs.List.{range_with_len, list_all}
use Rattle.mesh_definitions.specs.Field.{Field}
use Rattle.mesh_definitions.specs.declared.Link.{Link}
use Rattle.mesh_definitions.specs.declared.Rect.{Rect}
use Rattle.mesh_definitions.specs.declared.Tri.{Tri}
use Rattle.mesh_definitions.specs.declared.Way.TheVariants.{Across, Down, Slant}
use Rattle.mesh_definitions.specs.declared.Way.{Way}
use Rattle.depth_grid.specs.declared.node.NodeId.{NodeId}

-- the rectangle of all cells
abbrev pub all_cells : Field → Rect
all_cells f = record { row = 0; col = 0; rows = f.rows - 1; cols = f.cols - 1 }

-- whether a rectangle has cell (i, j)
abbrev pub has_cell : Rect → ℕ → ℕ → Bool
has_cell r i j = (nat_le r.row i && nat_lt i (r.row + r.rows)) && (nat_le r.col j && nat_lt j (r.col + r.cols))

-- the two nodes of a link
abbrev pub first : Link → NodeId
first l = go l.way
  where
    go : Way → NodeId
    go Across = record { row = l.row; col = l.col }
    go Down = record { row = l.row; col = l.col }
    go Slant = record { row = l.row + 1; col = l.col }

abbrev pub second : Link → NodeId
second l = go l.way
  where
    go : Way → NodeId
    go Across = record { row = l.row; col = l.col + 1 }
    go Down = record { row = l.row + 1; col = l.col }
    go Slant = record { row = l.row; col = l.col + 1 }

-- a link walked from its first node to its second, or back
pub record Walk : Type 0 where
  pub link : Link
  pub forward : Bool

abbrev pub from : Walk → NodeId
from w = cond w.forward (first w.link) (second w.link)

abbrev pub to : Walk → NodeId
to w = cond w.forward (second w.link) (first w.link)

-- the three links of a triangle, walked clockwise
abbrev pub legs : Tri → List Walk
legs t = cond t.upper
    (leg Across t.row t.col true ∷ leg Slant t.row t.col false ∷ leg Down t.row t.col false ∷ [])
    (leg Slant t.row t.col true ∷ leg Down t.row (t.col + 1) true ∷ leg Across (t.row + 1) t.col false ∷ [])
  where
    leg : Way → ℕ → ℕ → Bool → Walk
    leg way i j forward = record { link = record { way = way; row = i; col = j }; forward = forward }

abbrev pub corners : Tri → List NodeId
corners t = map from (legs t)

-- a triangle is surveyed where its three nodes have data
abbrev pub surveyed : Field → Tri → Bool
surveyed f t = list_all (λ n. is_some (f.depth n)) (corners t)

-- the triangle of a rectangle on the right of a walked link, none beyond its border
abbrev pub right_tri : Rect → Walk → Option Tri
right_tri r w = go w.link.way w.forward
  where
    cell : ℕ → ℕ → Bool → Option Tri
    cell i j u = cond (has_cell r i j) (Some (record { row = i; col = j; upper = u })) None

    north : ℕ → Option Tri
    north zero = None
    north (suc i) = cell i w.link.col false

    west : ℕ → Option Tri
    west zero = None
    west (suc j) = cell w.link.row j false

    go : Way → Bool → Option Tri
    go Across true = cell w.link.row w.link.col true
    go Across false = north w.link.row
    go Down true = west w.link.col
    go Down false = cell w.link.row w.link.col true
    go Slant true = cell w.link.row w.link.col false
    go Slant false = cell w.link.row w.link.col true

-- what a rectangle of places has, row by row
abbrev pub each_place : {X : Type 0} → ℕ → ℕ → ℕ → ℕ → (ℕ → ℕ → List X) → List X
each_place row rows col cols make = flat_map (λ i. flat_map (make i) (range_with_len col cols)) (range_with_len row rows)

-- the links between the nodes of a rectangle, and its triangles
abbrev pub links : Rect → List Link
links r = each_place r.row (r.rows + 1) r.col r.cols (only Across) ++ each_place r.row r.rows r.col (r.cols + 1) (only Down) ++ each_place r.row r.rows r.col r.cols (only Slant)
  where
    only : Way → ℕ → ℕ → List Link
    only way i j = record { way = way; row = i; col = j } ∷ []

abbrev pub tris : Rect → List Tri
tris r = each_place r.row r.rows r.col r.cols (λ i j. record { row = i; col = j; upper = true } ∷ record { row = i; col = j; upper = false } ∷ [])
