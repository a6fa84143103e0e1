-- Crossings of levels lie in order along their slope, in whole steps of it.
use Rattle.std.proofs.Common.{◌≡◌, ◌⊎◌, ⊎_elim, inl, inr, ℕ, ◌+◌, ◌-◌, ◌<◌, ◌≤◌, ℤ, pos, ◌-ℤ◌, ◌≤ℤ◌, ◌<ℤ◌, Bool, true, false, cond, refl, sym, ap₂, arith}
use Rattle.std.specs.Prelude.{int_div, nat_le, nat_lt, unsigned_abs}
use Rattle.std.proofs.lemmas.Bool.Decides.{nat_tests}
use Rattle.std.proofs.lemmas.Int.{ints}
use Rattle.std.proofs.lemmas.Nat.Gcd.{mod-eq-zero_of_dvd}
use Rattle.mesh_definitions.specs.Cuts.{crossing, crossing_count, lattice, lattice_steps, slot_of, wanted}
use Rattle.mesh_definitions.specs.Field.{Field, IsField, point, band_at}
use Rattle.depth_grid.specs.declared.node.NodeId.{NodeId}
use Rattle.plane_geom.specs.declared.Point.{Point}
use Rattle.plane_laws.specs.Outlines.{Vector, at}
use Rattle.tri_mesh.specs.Fields.{upwards}
use Rattle.tri_mesh.proofs.Boxes.{slot_most}
use Rattle.tri_mesh.proofs.Crossings.{slots_rise, crossing_few}
use Rattle.tri_mesh.proofs.Divisors.{apart_by, far}
use Rattle.tri_mesh.proofs.Steps.{at_none, common_several, common_divides, exact, InField}

-- points that lie in order from u to v, in whole steps of one length
pub record IsGraded (u v : Point) (place : ℕ → Point) : Type 0 where
  pub step : Vector
  pub n : ℤ
  pub slot : ℕ → ℤ
  pub long : pos 0 <ℤ n
  pub end : at u step n ≡ v
  pub low : (k : ℕ) → pos 0 ≤ℤ slot k
  pub high : (k : ℕ) → slot k ≤ℤ n
  pub rises : (k : ℕ) → slot k ≤ℤ slot (k + 1)
  pub is : (k : ℕ) → place k ≡ at u step (slot k)

-- two nodes aren't the same
abbrev pub IsOther : NodeId → NodeId → Type 0
IsOther u v = ((u.row < v.row) ⊎ (v.row < u.row)) ⊎ ((u.col < v.col) ⊎ (v.col < u.col))

pub other_back : (u v : NodeId) → IsOther u v → IsOther v u
other_back u v h = ⊎_elim (λ row. inl (⊎_elim inr inl row)) (λ col. inr (⊎_elim inr inl col)) h

module _ (f : Field) (h : IsField f) (u v : NodeId) (in_u : InField f h u) (in_v : InField f h v) (other : IsOther u v) where
  abbrev wide : ℕ
  wide = unsigned_abs (f.x v.col -ℤ f.x u.col)

  abbrev high : ℕ
  high = unsigned_abs (f.y v.row -ℤ f.y u.row)

  apart : (0 < wide) ⊎ (0 < high)
  apart = ⊎_elim
      (λ row. inr (far (f.y u.row) (f.y v.row) (⊎_elim (λ l. inr (h.southwards u.row v.row l in_v.row)) (λ l. inl (h.southwards v.row u.row l in_u.row)) row)))
      (λ col. inl (far (f.x u.col) (f.x v.col) (⊎_elim (λ l. inl (h.eastwards u.col v.col l in_v.col)) (λ l. inr (h.eastwards v.col u.col l in_u.col)) col)))
      other

  abbrev steps : ℕ
  steps = lattice_steps f (upwards u v)

  several : 32 ≤ steps
  several = common_several wide high
      (mod-eq-zero_of_dvd 32 (apart_by (f.x u.col) (f.x v.col) (h.whole_x u.col in_u.col) (h.whole_x v.col in_v.col)))
      (mod-eq-zero_of_dvd 32 (apart_by (f.y u.row) (f.y v.row) (h.whole_y u.row in_u.row) (h.whole_y v.row in_v.row)))
      apart

  abbrev wanted_slot : ℕ → ℕ
  wanted_slot k = slot_of f (upwards u v) (k - band_at f u)

  abbrev slot_by : Bool → Bool → ℕ → ℕ
  slot_by x y k = cond x 0 (cond y steps (wanted_slot k))

  abbrev slot_at : ℕ → ℕ
  slot_at k = slot_by (nat_le k (band_at f u)) (nat_lt (band_at f v) k) k

  not_beyond : (k : ℕ) → wanted_slot k ≤ steps
  not_beyond k = slot_most steps (crossing_count f (upwards u v)) (wanted f (upwards u v)) (k - band_at f u)

  no_further : (k : ℕ) (x y : Bool) → slot_by x y k ≤ steps
  no_further k true y = omega arith
  no_further k false true = omega arith
  no_further k false false = not_beyond k

  step : Vector
  step = record { x = int_div (f.x v.col -ℤ f.x u.col) (pos steps); y = int_div (f.y v.row -ℤ f.y u.row) (pos steps) }

  ends : at (point f u) step (pos steps) ≡ point f v
  unfolding step
  ends =
      let divides = common_divides wide high (let s = several in omega (arith, s)) in
      let some : 0 < steps = let s = several in omega (arith, s) in
      ap₂ (λ i j. let p : Point = record { x = i; y = j } in p) (exact (f.x u.col) (f.x v.col) steps some divides.0) (exact (f.y u.row) (f.y v.row) steps some divides.1)

  place_by : (k : ℕ) (x y : Bool) → cond x (point f u) (cond y (point f v) (lattice f (upwards u v) (wanted_slot k))) ≡ at (point f u) step (pos (slot_by x y k))
  unfolding step
  place_by k true y = sym (at_none (point f u) step)
  place_by k false true = sym ends
  place_by k false false = refl

  next : (k : ℕ) (x y x' y' : Bool) → nat_le k (band_at f u) ≡ x → nat_lt (band_at f v) k ≡ y → nat_le (k + 1) (band_at f u) ≡ x' → nat_lt (band_at f v) (k + 1) ≡ y' → slot_by x y k ≤ slot_by x' y' (k + 1)
  next k true y x' y' a b c d = omega arith
  next k false y true y' a b c d = absurd (grind (arith, nat_tests, a, c))
  next k false true false true a b c d = omega arith
  next k false true false false a b c d = absurd (grind (arith, nat_tests, b, d))
  next k false false false true a b c d = not_beyond k
  next k false false false false a b c d =
      let few = crossing_few f (upwards u v) h.levels.few in
      let s = several in
      let above : band_at f u < k = grind (arith, nat_tests, a) in
      let below : k + 1 ≤ band_at f v = grind (arith, nat_tests, d) in
      let r = slots_rise steps (crossing_count f (upwards u v)) (wanted f (upwards u v)) (k - band_at f u) (k + 1 - band_at f u) (omega (arith, above)) (omega (arith, below)) (omega (arith, s, few)) in
      omega (arith, r)

  -- the crossings of a slope between two nodes lie in order along it
  pub graded : IsGraded (point f u) (point f v) (crossing f (upwards u v))
  graded = record {
    step = step;
    n = pos steps;
    slot = λ k. pos (slot_at k);
    long = let s = several in omega (arith, ints, s);
    end = ends;
    low = λ k. omega (arith, ints);
    high = λ k. let l = no_further k (nat_le k (band_at f u)) (nat_lt (band_at f v) k) in omega (arith, ints, l);
    rises = λ k. let l = next k (nat_le k (band_at f u)) (nat_lt (band_at f v) k) (nat_le (k + 1) (band_at f u)) (nat_lt (band_at f v) (k + 1)) refl refl refl refl in omega (arith, ints, l);
    is = λ k. place_by k (nat_le k (band_at f u)) (nat_lt (band_at f v) k);
  }
