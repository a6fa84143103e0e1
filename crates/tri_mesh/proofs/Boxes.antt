-- Crossings and chords lie within their cells.
use Rattle.std.proofs.Common.{◌≡◌, ℕ, zero, suc, ◌+◌, ◌-◌, ◌*◌, ◌/◌, ◌<◌, ◌≤◌, ℤ, pos, negsuc, ◌+ℤ◌, ◌-ℤ◌, ◌*ℤ◌, ◌≤ℤ◌, ◌<ℤ◌, Bool, true, false, cond, ◌&&◌, refl, sym, subst, ◌∙◌, arith}
use Rattle.std.specs.Prelude.{int_div, int_le, unsigned_abs, nat_lt, nat_le}
use Rattle.std.specs.List.{Contains}
use Rattle.std.proofs.lemmas.Int.{ints, by_lt_z}
use Rattle.std.proofs.lemmas.List.FromFn.{get_or-map-range_with_len, length-map-range_with_len}
use Rattle.std.proofs.lemmas.List.Sums.{count_by-le-length}
use Rattle.mesh_definitions.specs.Cuts.{Slope, crossing, crossing_count, lattice, lattice_steps, slot, slot_of, wanted}
use Rattle.mesh_definitions.specs.Field.{Field, point, band_at, depth_at}
use Rattle.mesh_definitions.specs.Ground.{chords}
use Rattle.mesh_definitions.specs.Mesh.{corners, surveyed}
use Rattle.mesh_definitions.specs.Pieces.{chord_ends, least_band, greatest_band}
use Rattle.mesh_definitions.specs.declared.Tri.{Tri}
use Rattle.depth_grid.specs.declared.node.NodeId.{NodeId}
use Rattle.plane_geom.specs.Geom.{IsOn, OnSome}
use Rattle.plane_geom.specs.declared.Point.{Point}
use Rattle.plane_geom.specs.declared.Seg.{Seg}
use Rattle.tri_mesh.specs.Fields.{upwards}
use Rattle.tri_mesh.specs.Legs.{leg_of, entering_leg, leaving_leg}
use Rattle.tri_mesh.specs.Triangles.{each_corner, AreBands}
use Rattle.tri_mesh.specs.declared.corners.Corners.{Corners}
use Rattle.tri_mesh.proofs.Bands.{are_bands}
use Rattle.tri_mesh.proofs.Between.{inside}
use Rattle.tri_mesh.proofs.Chording.{along_down, part_within}
use Rattle.tri_mesh.proofs.Depths.{all_chords, no_chords}
use Rattle.tri_mesh.proofs.Drawing.{tri}
use Rattle.tri_mesh.proofs.Signs.{InCell}
use Rattle.tri_mesh.proofs.Walking.{legs_known}

-- a slot is no further than the end
pub slot_most : (n m : ℕ) (w : ℕ → ℕ) (i : ℕ) → slot n m w i ≤ n
slot_most n m w zero = omega arith
slot_most n m w (suc i) = omega arith

low_down : (from to : ℤ) (q : ℕ) (z : ℤ) → z ≡ to -ℤ from → to <ℤ from → q ≤ unsigned_abs z → to ≤ℤ (from -ℤ pos q)
low_down from to q (pos n) e h l = absurd (omega (arith, ints, e, h))
low_down from to q (negsuc n) e h l = omega (arith, ints, e, l)

high_up : (from to : ℤ) (steps slot : ℕ) (z : ℤ) → z ≡ to -ℤ from → from ≤ℤ to → slot ≤ steps → (from ≤ℤ (from +ℤ pos slot *ℤ int_div z (pos steps))) × ((from +ℤ pos slot *ℤ int_div z (pos steps)) ≤ℤ to)
high_up from to steps slot (pos n) e h l =
    let k = part_within n steps slot l in
    let c : slot * (n / steps) ≡ n / steps * slot = omega arith in
    (omega (arith, ints), omega (arith, ints, e, k, c))
high_up from to steps slot (negsuc n) e h l = absurd (omega (arith, ints, e, h))

-- a slot of a line within a range lies in the range
pub along_within : (lo hi from to : ℤ) (steps slot : ℕ) → slot ≤ steps → lo ≤ℤ from → from ≤ℤ hi → lo ≤ℤ to → to ≤ℤ hi
    → (lo ≤ℤ (from +ℤ pos slot *ℤ int_div (to -ℤ from) (pos steps))) × ((from +ℤ pos slot *ℤ int_div (to -ℤ from) (pos steps)) ≤ℤ hi)
along_within lo hi from to steps slot l a b c d = by_lt_z to from
    (λ less. let e = along_down from to steps slot less in let k = low_down from to _ (to -ℤ from) refl less (part_within (unsigned_abs (to -ℤ from)) steps slot l) in (omega (arith, ints, e, k, c), omega (arith, ints, e, b)))
    (λ no_less. let k = high_up from to steps slot (to -ℤ from) refl no_less l in (omega (arith, ints, k.0, a), omega (arith, ints, k.1, d)))

module _ (f : Field) (i j : ℕ) where
  lattice_box : (s : Slope) (t : ℕ) → t ≤ lattice_steps f s → InCell f i j (point f s.u) → InCell f i j (point f s.v) → InCell f i j (lattice f s t)
  lattice_box s t h a b =
      let x = along_within (f.x j) (f.x (j + 1)) (f.x s.u.col) (f.x s.v.col) (lattice_steps f s) t h a.west a.east b.west b.east in
      let y = along_within (f.y (i + 1)) (f.y i) (f.y s.u.row) (f.y s.v.row) (lattice_steps f s) t h a.south a.north b.south b.north in
      record { west = x.0; east = x.1; south = y.0; north = y.1 }

  crossing_box : (s : Slope) (k : ℕ) → InCell f i j (point f s.u) → InCell f i j (point f s.v) → InCell f i j (crossing f s k)
  crossing_box s k a b = by (nat_le k (band_at f s.u)) (nat_lt (band_at f s.v) k)
    where
      by : (x y : Bool) → InCell f i j (cond x (point f s.u) (cond y (point f s.v) (lattice f s (slot_of f s (k - band_at f s.u)))))
      by true y = a
      by false true = b
      by false false = lattice_box s (slot_of f s (k - band_at f s.u)) (slot_most (lattice_steps f s) (crossing_count f s) (wanted f s) (k - band_at f s.u)) a b

  leaving_box : (P : NodeId → Type 0) (at : Corners NodeId) (bands : Corners ℕ) (k : ℕ) → P at.first → P at.second → P at.third → P (leaving_leg at bands k).u × P (leaving_leg at bands k).v
  leaving_box P at bands k a b c = by (nat_le k bands.first && nat_lt bands.second k) (nat_le k bands.second && nat_lt bands.third k)
    where
      by : (x y : Bool) → P (cond x (leg_of at.second at.first bands.second) (cond y (leg_of at.third at.second bands.third) (leg_of at.first at.third bands.first))).u × P (cond x (leg_of at.second at.first bands.second) (cond y (leg_of at.third at.second bands.third) (leg_of at.first at.third bands.first))).v
      by true y = (b, a)
      by false true = (c, b)
      by false false = (a, c)

  entering_box : (P : NodeId → Type 0) (at : Corners NodeId) (bands : Corners ℕ) (k : ℕ) → P at.first → P at.second → P at.third → P (entering_leg at bands k).u × P (entering_leg at bands k).v
  entering_box P at bands k a b c = by (nat_lt bands.first k && nat_le k bands.second) (nat_lt bands.second k && nat_le k bands.third)
    where
      by : (x y : Bool) → P (cond x (leg_of at.first at.second bands.first) (cond y (leg_of at.second at.third bands.second) (leg_of at.third at.first bands.third))).u × P (cond x (leg_of at.first at.second bands.first) (cond y (leg_of at.second at.third bands.second) (leg_of at.third at.first bands.third))).v
      by true y = (a, b)
      by false true = (b, c)
      by false false = (c, a)

  abbrev Boxed : NodeId → Type 0
  Boxed n = InCell f i j (point f n)

  -- both ends of a chord lie in the cell
  chord_box_of : (t : Tri) (k : ℕ) (at : Corners NodeId) → each_corner at ≡ corners t → Boxed at.first → Boxed at.second → Boxed at.third → least_band f t < k → k ≤ greatest_band f t
      → InCell f i j (chord_ends f t k).a × InCell f i j (chord_ends f t k).b
  chord_box_of t k at e a b c above most =
      let bands : Corners ℕ = record { first = band_at f at.first; second = band_at f at.second; third = band_at f at.third } in
      let few = λ (n : NodeId). count_by-le-length (λ level. int_le level (depth_at f n)) f.levels in
      let h : AreBands f t bands = are_bands f t at bands e refl refl refl (few at.first) (few at.second) (few at.third) in
      let legs = legs_known f t k at bands (leaving_leg at bands k) (entering_leg at bands k) e h refl refl (omega (arith, h.least, above)) (omega (arith, h.greatest, most)) in
      let l = leaving_box Boxed at bands k a b c in
      let r = entering_box Boxed at bands k a b c in (
        subst (InCell f i j) (sym legs.a) (crossing_box (upwards (leaving_leg at bands k).u (leaving_leg at bands k).v) k l.0 l.1),
        subst (InCell f i j) (sym legs.b) (crossing_box (upwards (entering_leg at bands k).u (entering_leg at bands k).v) k r.0 r.1),
      )

  module _ (wide : f.x j <ℤ f.x (j + 1)) (high : f.y (i + 1) <ℤ f.y i) where
    abbrev node : ℕ → ℕ → NodeId
    node row col = record { row = row; col = col }

    north_west : Boxed (node i j)
    north_west = record { west = omega (arith, ints); east = omega (arith, ints, wide); north = omega (arith, ints); south = omega (arith, ints, high) }

    north_east : Boxed (node i (j + 1))
    north_east = record { west = omega (arith, ints, wide); east = omega (arith, ints); north = omega (arith, ints); south = omega (arith, ints, high) }

    south_west : Boxed (node (i + 1) j)
    south_west = record { west = omega (arith, ints); east = omega (arith, ints, wide); north = omega (arith, ints, high); south = omega (arith, ints) }

    south_east : Boxed (node (i + 1) (j + 1))
    south_east = record { west = omega (arith, ints, wide); east = omega (arith, ints); north = omega (arith, ints, high); south = omega (arith, ints) }

    pub chord_box : (upper : Bool) (k : ℕ) → least_band f (tri i j upper) < k → k ≤ greatest_band f (tri i j upper) → InCell f i j (chord_ends f (tri i j upper) k).a × InCell f i j (chord_ends f (tri i j upper) k).b
    chord_box true k above most = chord_box_of (tri i j true) k (record { first = node i j; second = node i (j + 1); third = node (i + 1) j }) refl north_west north_east south_west above most
    chord_box false k above most = chord_box_of (tri i j false) k (record { first = node (i + 1) j; second = node i (j + 1); third = node (i + 1) (j + 1) }) refl south_west north_east south_east above most

    on_box : (s : Seg) (p : Point) → InCell f i j s.a → InCell f i j s.b → IsOn s p → InCell f i j p
    on_box s p a b on =
        let x = inside (f.x j) (f.x (j + 1)) s.a.x s.b.x p.x on.wide a.west a.east b.west b.east in
        let y = inside (f.y (i + 1)) (f.y i) s.a.y s.b.y p.y on.high a.south a.north b.south b.north in
        record { west = x.0; east = x.1; south = y.0; north = y.1 }

    -- a point of a chord lies in the chord's cell
    pub on_chord_box : (upper : Bool) (p : Point) → OnSome (chords f (tri i j upper)) p → InCell f i j p
    on_chord_box upper p on = by (surveyed f t) refl
      where
        t : Tri
        t = tri i j upper

        by : (b : Bool) → surveyed f t ≡ b → InCell f i j p
        by true known =
            let n = greatest_band f t + 1 - (least_band f t + 1) in
            let there = subst (λ segs. Contains segs on.segment) (all_chords f t p known) on.there in
            let m = there.0 in
            let lt : m < n = omega (arith, length-map-range_with_len (chord_ends f t) (least_band f t + 1) n, there.1) in
            let k = least_band f t + 1 + m in
            let same = sym (get_or-map-range_with_len (chord_ends f t) (least_band f t + 1) n m k on.segment lt refl) ∙ there.2 in
            let box = chord_box upper k (omega arith) (omega (arith, lt)) in
            on_box (chord_ends f t k) p box.0 box.1 (subst (λ s. IsOn s p) (sym same) on.on)
        by false bare = absurd (let there = subst (λ segs. Contains segs on.segment) (no_chords f t p bare) on.there in omega (arith, there.1))
