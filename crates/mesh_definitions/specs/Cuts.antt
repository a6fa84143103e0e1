-- The crossing rule: where the levels cross a link between two nodes with data.
use Rattle.std.specs.Prelude.{ℕ, zero, suc, pos, ◌+◌, ◌-◌, ◌*◌, ◌%◌, ◌+ℤ◌, ◌-ℤ◌, ◌*ℤ◌, int_lt, int_div, nat_lt, nat_le, unsigned_abs, min, max, ◌==◌, ◌&&◌, Bool, cond}
use Rattle.std.specs.Int.{div_ceil}
use Rattle.mesh_definitions.specs.Field.{Field, point, depth_at, band_at}
use Rattle.depth_grid.specs.declared.node.NodeId.{NodeId}
use Rattle.depth_rounding.specs.Bands.{level_at}
use Rattle.plane_geom.specs.declared.Point.{Point}

-- the greatest number up to n that passes a test, or 0
abbrev pub greatest_below : (ℕ → Bool) → ℕ → ℕ
greatest_below test zero = 0
greatest_below test (suc n) = cond (test (suc n)) (suc n) (greatest_below test n)

-- the greatest number that divides both
abbrev pub common : ℕ → ℕ → ℕ
common a b = greatest_below (λ d. (a % d == 0) && (b % d == 0)) (max a b)

-- a link from its shoaler node u to the other, v
pub record Slope : Type 0 where
  pub u : NodeId
  pub v : NodeId

-- whether the first of two nodes is the deeper one
abbrev pub falls : Field → NodeId → NodeId → Bool
falls f a b = int_lt (depth_at f b) (depth_at f a)

abbrev pub slope : Field → NodeId → NodeId → Slope
slope f a b = cond (falls f a b) (record { u = b; v = a }) (record { u = a; v = b })

-- into how many equal steps between whole coordinates a slope is divided, and the point k of them from u
abbrev pub lattice_steps : Field → Slope → ℕ
lattice_steps f s = common (unsigned_abs ((point f s.v).x -ℤ (point f s.u).x)) (unsigned_abs ((point f s.v).y -ℤ (point f s.u).y))

abbrev pub lattice : Field → Slope → ℕ → Point
lattice f s k = record {
  x = (point f s.u).x +ℤ pos k *ℤ int_div ((point f s.v).x -ℤ (point f s.u).x) (pos (lattice_steps f s));
  y = (point f s.u).y +ℤ pos k *ℤ int_div ((point f s.v).y -ℤ (point f s.u).y) (pos (lattice_steps f s));
}

-- how many levels cross a slope: those above u's band, up to v's
abbrev pub crossing_count : Field → Slope → ℕ
crossing_count f s = band_at f s.v - band_at f s.u

-- the slot at which the i-th of them, counted from 1, is wanted: in proportion to depth, rounded up
abbrev pub wanted : Field → Slope → ℕ → ℕ
wanted f s i =
    let rise = unsigned_abs (depth_at f s.v -ℤ depth_at f s.u) in
    let climb = unsigned_abs (level_at f.levels (band_at f s.u + i - 1) -ℤ depth_at f s.u) in
    div_ceil (lattice_steps f s * climb) rise

-- the slot of the i-th of m crossings on n lattice steps: the wanted one, but above the slot before it, and with room for those to come below n
abbrev pub slot : ℕ → ℕ → (ℕ → ℕ) → ℕ → ℕ
slot n m wanted zero = 0
slot n m wanted (suc i) = min (max (wanted (suc i)) (slot n m wanted i + 1)) (n - 1 - (m - suc i))

abbrev pub slot_of : Field → Slope → ℕ → ℕ
slot_of f s i = slot (lattice_steps f s) (crossing_count f s) (wanted f s) i

-- where level k crosses a slope; at u for levels up to u's band, at v for those above v's
abbrev pub crossing : Field → Slope → ℕ → Point
crossing f s k = cond (nat_le k (band_at f s.u)) (point f s.u) (cond (nat_lt (band_at f s.v) k) (point f s.v) (lattice f s (slot_of f s (k - band_at f s.u))))
