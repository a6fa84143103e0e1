-- The triangles of a rectangle of cells by number: row by row, in a cell the upper one first.
use Rattle.std.specs.Prelude.{ℕ, ◌+◌, ◌-◌, ◌*◌, ◌/◌, ◌%◌, nat_eq, cond}
use Rattle.mesh_definitions.specs.declared.Rect.{Rect}
use Rattle.mesh_definitions.specs.declared.Tri.{Tri}

-- how many triangles a rectangle has
abbrev pub tri_count : Rect → ℕ
tri_count r = 2 * (r.rows * r.cols)

-- the number of a triangle among those of the cells from (0, 0) on, with so many columns
abbrev pub tri_place : ℕ → Tri → ℕ
tri_place cols t = 2 * (t.row * cols + t.col) + cond t.upper 0 1

-- the number of a triangle among those of a rectangle, and the triangle by its number
abbrev pub place_in : Rect → Tri → ℕ
place_in r t = tri_place r.cols (record { row = t.row - r.row; col = t.col - r.col; upper = t.upper })

abbrev pub tri_at : Rect → ℕ → Tri
tri_at r k = record { row = r.row + k / 2 / r.cols; col = r.col + k / 2 % r.cols; upper = nat_eq (k % 2) 0 }
