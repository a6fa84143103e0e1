-- The crossing rule by numbers.
use Rattle.std.specs.Prelude.{ℕ, ℤ, ◌+◌, ◌-◌, ◌*◌, ◌-ℤ◌, unsigned_abs, List}
use Rattle.std.specs.Int.{div_ceil}
use Rattle.mesh_definitions.specs.Cuts.{common, slot}
use Rattle.depth_grid.specs.Grid.{GridView, place}
use Rattle.depth_grid.specs.declared.node.NodeId.{NodeId}
use Rattle.depth_rounding.specs.Bands.{band_of, level_at}
use Rattle.tri_mesh.specs.declared.crossing_rule.Rise.{Rise}

-- into how many equal steps the line between two nodes is divided
abbrev pub steps_between : GridView → NodeId → NodeId → ℕ
steps_between g a b = common (unsigned_abs (place g.xs b.col -ℤ place g.xs a.col)) (unsigned_abs (place g.ys b.row -ℤ place g.ys a.row))

-- how many levels cross a slope
abbrev pub count_between : List ℤ → Rise → ℕ
count_between levels r = band_of levels r.high - band_of levels r.low

-- the slot at which level k, counted from 1, is wanted
abbrev pub wanted_between : List ℤ → Rise → ℕ → ℕ
wanted_between levels r k = div_ceil (r.steps * unsigned_abs (level_at levels (k - 1) -ℤ r.low)) (unsigned_abs (r.high -ℤ r.low))

-- the i-th slot, counted from 1
abbrev pub slot_between : List ℤ → Rise → ℕ → ℕ
slot_between levels r i = slot r.steps (count_between levels r) (λ k. wanted_between levels r (band_of levels r.low + k)) i
