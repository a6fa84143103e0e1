-- Where levels cross legs, and chords.
use Rattle.std.proofs.Common.{◌≡◌, ℕ, zero, suc, ◌+◌, ◌-◌, ◌*◌, ◌/◌, ◌<◌, ◌≤◌, ℤ, pos, negsuc, ◌+ℤ◌, ◌-ℤ◌, ◌*ℤ◌, ◌≤ℤ◌, ◌<ℤ◌, neg_ℤ, Bool, true, false, true≢false, w32, FitsSigned, cond, ◌&&◌, List, length, refl, sym, ap, ap₂, ◌∙◌, arith, div-mul-le_self, mul-le-mul, le_refl}
use Rattle.std.specs.Int.{saturate_signed}
use Rattle.plane_geom.specs.declared.Point.{Point}
use Rattle.tri_mesh.specs.Legs.{along_line}
use Rattle.std.specs.Prelude.{slice_index, int_div, unsigned_abs, nat_lt, nat_le, is_some}
use Rattle.std.proofs.lemmas.Bool.Decides.{nat_tests}
use Rattle.std.proofs.lemmas.Int.{ints}
use Rattle.mesh_definitions.proofs.Bands.{bands_rise}
use Rattle.mesh_definitions.specs.Cuts.{Slope, slope, falls, crossing, lattice, lattice_steps, slot_of, crossing_count, wanted}
use Rattle.mesh_definitions.specs.Field.{Field, point, depth_at, band_at}
use Rattle.depth_grid.specs.declared.node.NodeId.{NodeId}
use Rattle.tri_mesh.specs.Fields.{upwards, crossed}
use Rattle.tri_mesh.proofs.Crossings.{falling, rising, slot_room, crossing_few}

-- the part of a line up to a slot is no longer than it
pub part_within : (n steps slot : ℕ) → slot ≤ steps → n / steps * slot ≤ n
part_within n steps slot h = let a = mul-le-mul (le_refl (n / steps)) h in let b = div-mul-le_self n steps in omega (arith, a, b)

pub down_by : (from : ℤ) (q slot : ℕ) → from +ℤ pos slot *ℤ neg_ℤ (pos q) ≡ from -ℤ pos (q * slot)
down_by from zero slot = omega (arith, ints)
down_by from (suc q) slot = omega (arith, ints)

pub along_down : (from to : ℤ) (steps slot : ℕ) → to <ℤ from → from +ℤ pos slot *ℤ int_div (to -ℤ from) (pos steps) ≡ from -ℤ pos (unsigned_abs (to -ℤ from) / steps * slot)
along_down from to steps slot h = by (to -ℤ from) refl
  where
    by : (z : ℤ) → z ≡ to -ℤ from → from +ℤ pos slot *ℤ int_div z (pos steps) ≡ from -ℤ pos (unsigned_abs z / steps * slot)
    by (pos n) e = absurd (omega (arith, ints, e, h))
    by (negsuc n) e = down_by from (suc n / steps) slot

deeper : (f : Field) (u v : NodeId) → band_at f u < band_at f v → (b : Bool) → falls f v u ≡ b → falls f v u ≡ true
deeper f u v h true e = e
deeper f u v h false e = absurd (let k = bands_rise f.levels (depth_at f v) (depth_at f u) (grind (arith, ints, e)) in omega (arith, h, k))

not_deeper : (f : Field) (u v : NodeId) → band_at f u < band_at f v → (b : Bool) → falls f u v ≡ b → falls f u v ≡ false
not_deeper f u v h false e = e
not_deeper f u v h true e = absurd (let k = bands_rise f.levels (depth_at f v) (depth_at f u) (grind (arith, ints, e)) in omega (arith, h, k))

-- a leg from a lesser band to a greater one is a slope, whichever node comes first
pub slope_ahead : (f : Field) (u v : NodeId) → band_at f u < band_at f v → slope f u v ≡ upwards u v
slope_ahead f u v h = sym (rising f u v (not_deeper f u v h (falls f u v) refl))

pub slope_back : (f : Field) (u v : NodeId) → band_at f u < band_at f v → slope f v u ≡ upwards u v
slope_back f u v h = sym (falling f v u (deeper f u v h (falls f v u) refl))

-- the point at a slot is the crossing
pub crossing_inside : (f : Field) (u v : NodeId) (k : ℕ) → band_at f u < k → k ≤ band_at f v → crossing f (upwards u v) k ≡ lattice f (upwards u v) (slot_of f (upwards u v) (k - band_at f u))
crossing_inside f u v k h l = by (nat_le k (band_at f u)) (nat_lt (band_at f v) k) refl refl
  where
    p : Slope
    p = upwards u v

    by : (x y : Bool) → nat_le k (band_at f u) ≡ x → nat_lt (band_at f v) k ≡ y → cond x (point f u) (cond y (point f v) (lattice f p (slot_of f p (k - band_at f u)))) ≡ lattice f p (slot_of f p (k - band_at f u))
    by false false e g = refl
    by true y e g = absurd (grind (arith, nat_tests, e, h))
    by false true e g = absurd (grind (arith, nat_tests, g, l))

-- what lies between numbers that fit fits
pub between_fits : (lo z hi : ℤ) → FitsSigned w32 lo → FitsSigned w32 hi → lo ≤ℤ z → z ≤ℤ hi → FitsSigned w32 z
between_fits lo (pos n) (pos m) f g h k = record { sfits = omega (arith, ints, g.sfits, k) }
between_fits lo (pos n) (negsuc m) f g h k = absurd (omega (arith, ints, k))
between_fits (pos m) (negsuc n) hi f g h k = absurd (omega (arith, ints, h))
between_fits (negsuc m) (negsuc n) hi f g h k = record { sfits = omega (arith, ints, f.sfits, h) }

pub stays : (z : ℤ) → FitsSigned w32 z → saturate_signed w32 z ≡ z
stays (pos n) f = ap pos (omega (arith, f.sfits))
stays (negsuc n) f = ap negsuc (omega (arith, f.sfits))

pub down_fits : (from to : ℤ) (p : ℕ) → FitsSigned w32 from → FitsSigned w32 to → to <ℤ from → p ≤ unsigned_abs (to -ℤ from) → FitsSigned w32 (from -ℤ pos p)
down_fits from to p f g h k = between_fits to (from -ℤ pos p) from g f (by (to -ℤ from) refl k) (omega (arith, ints))
  where
    by : (z : ℤ) → z ≡ to -ℤ from → p ≤ unsigned_abs z → to ≤ℤ (from -ℤ pos p)
    by (pos n) e l = absurd (omega (arith, ints, e, h))
    by (negsuc n) e l = omega (arith, ints, e, l)

known_count : (f : Field) (u v : NodeId) → is_some (f.depth u) ≡ true → is_some (f.depth v) ≡ true → crossed f (upwards u v) ≡ crossing_count f (upwards u v)
known_count f u v e h = by (is_some (f.depth u)) (is_some (f.depth v)) e h
  where
    by : (x y : Bool) → x ≡ true → y ≡ true → cond (x && y) (crossing_count f (upwards u v)) 0 ≡ crossing_count f (upwards u v)
    by true true a b = refl
    by true false a b = absurd (true≢false (sym b))
    by false y a b = absurd (true≢false (sym a))

-- the slot of level k among those of a leg
pub slot_at : (f : Field) (u v : NodeId) (band k count : ℕ) (into : List ℕ) → is_some (f.depth u) ≡ true → is_some (f.depth v) ≡ true → band_at f u ≡ band → band < k → k ≤ band_at f v → count ≡ crossed f (upwards u v)
    → ((i : ℕ) → i < count → slice_index into i ≡ slot_of f (upwards u v) (i + 1)) → slice_index into (k - band - 1) ≡ slot_of f (upwards u v) (k - band_at f u)
slot_at f u v band k count into e h b above l counted each =
    let m = known_count f u v e h in
    each (k - band - 1) (omega (arith, m, counted, b, above, l)) ∙ ap (slot_of f (upwards u v)) (omega (arith, b, above))

pub slot_below : (f : Field) (u v : NodeId) (band k : ℕ) → length f.levels ≤ 20 → 32 ≤ lattice_steps f (upwards u v) → band_at f u ≡ band → band < k → k ≤ band_at f v → slot_of f (upwards u v) (k - band_at f u) < lattice_steps f (upwards u v)
slot_below f u v band k few several b above l =
    let p = upwards u v in
    let most = crossing_few f p few in
    let r = slot_room (lattice_steps f p) (crossing_count f p) (wanted f p) (k - band_at f u) (omega (arith, b, l)) (omega (arith, several, most)) in
    omega (arith, r)

pub point_on : (f : Field) (u v : NodeId) (band k steps slot : ℕ) (x y : ℤ) → steps ≡ lattice_steps f (upwards u v) → slot ≡ slot_of f (upwards u v) (k - band_at f u) → band_at f u ≡ band → band < k → k ≤ band_at f v
    → x ≡ along_line (record { from = f.x u.col; to = f.x v.col; steps = steps }) slot → y ≡ along_line (record { from = f.y u.row; to = f.y v.row; steps = steps }) slot
    → (let p : Point = record { x = x; y = y } in p) ≡ crossing f (upwards u v) k
point_on f u v band k steps slot x y same at b above l on_x on_y =
    ap₂ (λ i j. let p : Point = record { x = i; y = j } in p) on_x on_y
    ∙ (ap₂ (λ n s. let p : Point = record { x = along_line (record { from = f.x u.col; to = f.x v.col; steps = n }) s; y = along_line (record { from = f.y u.row; to = f.y v.row; steps = n }) s } in p) same at
    ∙ sym (crossing_inside f u v k (omega (arith, b, above)) l))
