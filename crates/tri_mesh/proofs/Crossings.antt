-- Slots of crossings.
use Rattle.std.proofs.Common.{◌≡◌, ℕ, zero, suc, ◌+◌, ◌-◌, ◌<◌, ◌≤◌, ◌⊎◌, ⊎_elim, min, max, ℤ, pos, Some, true, false, length, refl, sym, ap, subst, ◌∙◌, add-one, arith}
use Rattle.std.proofs.lemmas.List.Sums.{count_by-le-length}
use Rattle.std.specs.Prelude.{int_le, Option, Bool, cond, ◌&&◌, is_some, unwrap_or, List, slice_index}
use Rattle.mesh_definitions.specs.Cuts.{Slope, slot, slot_of, wanted, slope, falls, lattice_steps, crossing_count}
use Rattle.mesh_definitions.specs.Field.{Field, depth_at}
use Rattle.depth_grid.specs.declared.node.NodeId.{NodeId}
use Rattle.depth_rounding.specs.Bands.{band_of}
use Rattle.tri_mesh.specs.Fields.{upwards, crossed}
use Rattle.tri_mesh.specs.Numbers.{count_between, slot_between}
use Rattle.tri_mesh.specs.declared.crossing_rule.Rise.{Rise}

pub slot_next : (n m : ℕ) (w : ℕ → ℕ) (i wanted before last : ℕ) → i < m → w (i + 1) ≡ wanted → slot n m w i ≡ before → last ≡ n - (m - i) → slot n m w (i + 1) ≡ min (max wanted (before + 1)) last
slot_next n m w i wanted before last h e k l = rw add-one (next (w (suc i)) (slot n m w i) (rw add-one at e) k)
  where
    next : (p q : ℕ) → p ≡ wanted → q ≡ before → min (max p (q + 1)) (n - 1 - (m - suc i)) ≡ min (max wanted (before + 1)) last
    next p q e k = omega (arith, e, k, l, h)

pub slot_room : (n m : ℕ) (w : ℕ → ℕ) (i : ℕ) → i ≤ m → m < n → slot n m w i + (m - i) < n
slot_room n m w zero h k = omega (arith, h, k)
slot_room n m w (suc i) h k = omega (arith, h, k)

slot_rises : (n m : ℕ) (w : ℕ → ℕ) (i : ℕ) → i < m → m < n → slot n m w i < slot n m w (suc i)
slot_rises n m w i h k = let r = slot_room n m w i (omega (arith, h)) k in omega (arith, h, k, r)

pub slots_rise : (n m : ℕ) (w : ℕ → ℕ) (i k : ℕ) → i < k → k ≤ m → m < n → slot n m w i < slot n m w k
slots_rise n m w i zero h le r = absurd (omega (arith, h))
slots_rise n m w i (suc k) h le r = ⊎_elim
    (λ l. let p = slots_rise n m w i k l (omega (arith, le)) r in let q = slot_rises n m w k (omega (arith, le)) r in omega (arith, p, q))
    (λ e. subst (λ j. slot n m w j < slot n m w (suc k)) (sym e) (slot_rises n m w k (omega (arith, le)) r))
    (last_or i k h)
  where
    last_or : (i k : ℕ) → i < suc k → (i < k) ⊎ (i ≡ k)
    last_or i k h = grind arith

-- the slots of a slope by its numbers
pub same_slot : (f : Field) (s : Slope) (r : Rise) → lattice_steps f s ≡ r.steps → depth_at f s.u ≡ r.low → depth_at f s.v ≡ r.high → (i : ℕ) → slot_of f s i ≡ slot_between f.levels r i
same_slot f s r steps low high i =
    ap (λ n. slot_between f.levels (rise n (depth_at f s.u) (depth_at f s.v)) i) steps
    ∙ ap (λ z. slot_between f.levels (rise r.steps z (depth_at f s.v)) i) low
    ∙ ap (λ z. slot_between f.levels (rise r.steps r.low z) i) high
  where
    rise : ℕ → ℤ → ℤ → Rise
    rise n low high = record { steps = n; low = low; high = high }

-- how many levels cross it
pub same_count : (f : Field) (s : Slope) (r : Rise) → f.depth s.u ≡ Some r.low → f.depth s.v ≡ Some r.high → count_between f.levels r ≡ crossed f s
same_count f s r low high = sym (by (f.depth s.u) (f.depth s.v) low high)
  where
    by : (x y : Option ℤ) → x ≡ Some r.low → y ≡ Some r.high → cond (is_some x && is_some y) (band_of f.levels (unwrap_or y (pos 0)) - band_of f.levels (unwrap_or x (pos 0))) 0 ≡ count_between f.levels r
    by x y e h = rw (e, h) refl

-- the slope between two nodes
pub falling : (f : Field) (a b : NodeId) → falls f a b ≡ true → upwards b a ≡ slope f a b
falling f a b e = ap (λ t. cond t (upwards b a) (upwards a b)) (sym e)

pub rising : (f : Field) (a b : NodeId) → falls f a b ≡ false → upwards a b ≡ slope f a b
rising f a b e = ap (λ t. cond t (upwards b a) (upwards a b)) (sym e)

-- what is promised of slots
pub record AreSlots (f : Field) (s : Slope) (count : ℕ) (into : List ℕ) : Type 0 where
  pub counted : count ≡ crossed f s
  pub each : (i : ℕ) → i < count → slice_index into i ≡ slot_of f s (i + 1)
  pub first : (i : ℕ) → i < count → 1 ≤ slice_index into i
  pub last : (i : ℕ) → i < count → slice_index into i < lattice_steps f s
  pub rise : (i k : ℕ) → i < k → k < count → slice_index into i < slice_index into k

crossed_most : (f : Field) (s : Slope) → crossed f s ≤ crossing_count f s
crossed_most f s = by (is_some (f.depth s.u) && is_some (f.depth s.v))
  where
    by : (b : Bool) → cond b (crossing_count f s) 0 ≤ crossing_count f s
    by true = omega arith
    by false = omega arith

pub crossing_few : (f : Field) (s : Slope) → length f.levels ≤ 20 → crossing_count f s ≤ 20
crossing_few f s h = let k = count_by-le-length (λ level. int_le level (depth_at f s.v)) f.levels in omega (arith, h, k)

module _ (f : Field) (s : Slope) (count : ℕ) (into : List ℕ) (counted : count ≡ crossed f s) (few : count ≤ 20) (fits : crossing_count f s ≤ 20) (several : 32 ≤ lattice_steps f s) (each : (i : ℕ) → i < count → slice_index into i ≡ slot_of f s (i + 1)) where
  within : (i : ℕ) → i < count → i < crossing_count f s
  within i h = let m = crossed_most f s in omega (arith, h, m, counted)

  rise : (i k : ℕ) → i < k → k ≤ crossing_count f s → slot_of f s i < slot_of f s k
  rise i k h l = slots_rise (lattice_steps f s) (crossing_count f s) (wanted f s) i k h l (omega (arith, several, fits))

  pub are_slots : AreSlots f s count into
  are_slots = record {
    counted = counted;
    each = each;
    first = λ i h. let r = rise 0 (i + 1) (omega arith) (omega (arith, within i h)) in let e = each i h in omega (arith, r, e);
    last = λ i h. let r = slot_room (lattice_steps f s) (crossing_count f s) (wanted f s) (i + 1) (omega (arith, within i h)) (omega (arith, several, fits)) in let e = each i h in omega (arith, r, e);
    rise = λ i k h l. let r = rise (i + 1) (k + 1) (omega (arith, h)) (omega (arith, within k l)) in let e = each i (omega (arith, h, l)) in let g = each k l in omega (arith, r, e, g);
  }
