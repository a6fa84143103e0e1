-- Crossings lie strictly between the ends of their slopes.
use Rattle.std.proofs.Common.{◌≡◌, ◌⊎◌, ⊎_elim, inl, inr, ℕ, zero, suc, ◌-◌, ◌*◌, ◌/◌, ◌%◌, ◌<◌, ◌≤◌, max, ℤ, pos, negsuc, ◌+ℤ◌, ◌-ℤ◌, ◌*ℤ◌, ◌<ℤ◌, Bool, true, false, true≢false, cond, ◌&&◌, ◌==◌, refl, sym, ap, ap₂, ◌∙◌, arith}
use Rattle.std.specs.Prelude.{int_div, unsigned_abs}
use Rattle.std.proofs.Math.IntN.{zero-*ℤ}
use Rattle.std.proofs.lemmas.Int.{ints}
use Rattle.std.proofs.lemmas.Nat.Gcd.{mod-eq-zero_of_dvd}
use Rattle.mesh_definitions.specs.Cuts.{common, crossing, crossing_count, greatest_below, lattice_steps, slot_of, wanted}
use Rattle.mesh_definitions.specs.Field.{Field, IsField, point, band_at}
use Rattle.depth_grid.specs.declared.node.NodeId.{NodeId}
use Rattle.plane_geom.specs.declared.Point.{Point}
use Rattle.plane_laws.specs.Outlines.{Vector, at, opposite}
use Rattle.plane_laws.specs.PieceLaws.{LegFromOtherEnd}
use Rattle.tri_mesh.specs.Fields.{upwards}
use Rattle.tri_mesh.proofs.Chording.{down_by, crossing_inside, slot_below}
use Rattle.tri_mesh.proofs.Crossings.{slots_rise, crossing_few}
use Rattle.tri_mesh.proofs.Divisors.{last_or, left, right, divide_both, apart_by, far, compared}

passes_next : (test : ℕ → Bool) (n m : ℕ) → (0 < m → test m ≡ true) → (b : Bool) → test (suc n) ≡ b → 0 < cond b (suc n) m → test (cond b (suc n) m) ≡ true
passes_next test n m rest true e some = e
passes_next test n m rest false e some = rest some

passes_below : (test : ℕ → Bool) (n : ℕ) → 0 < greatest_below test n → test (greatest_below test n) ≡ true
passes_below test zero h = absurd (omega (arith, h))
passes_below test (suc n) h = passes_next test n (greatest_below test n) (passes_below test n) (test (suc n)) refl h

most_next : (test : ℕ → Bool) (n d m : ℕ) → test d ≡ true → d ≤ suc n → (d ≤ n → d ≤ m) → (b : Bool) → test (suc n) ≡ b → d ≤ cond b (suc n) m
most_next test n d m e h rest true g = h
most_next test n d m e h rest false g = ⊎_elim rest (λ same. absurd (true≢false (sym e ∙ ap test same ∙ g))) (last_or d n h)

most_below : (test : ℕ → Bool) (n d : ℕ) → test d ≡ true → d ≤ n → d ≤ greatest_below test n
most_below test zero d e h = omega (arith, h)
most_below test (suc n) d e h = most_next test n d (greatest_below test n) e h (most_below test n d e) (test (suc n)) refl

reaches_32 : (a b : ℕ) → a % 32 ≡ 0 → b % 32 ≡ 0 → (0 < a) ⊎ (0 < b) → 32 ≤ max a b
reaches_32 a b p q some = ⊎_elim (λ h. omega (arith, p, h)) (λ h. omega (arith, q, h)) some

pub common_several : (a b : ℕ) → a % 32 ≡ 0 → b % 32 ≡ 0 → (0 < a) ⊎ (0 < b) → 32 ≤ common a b
common_several a b p q some = most_below (λ d. (a % d == 0) && (b % d == 0)) (max a b) 32 (divide_both a b 32 p q) (reaches_32 a b p q some)

pub common_divides : (a b : ℕ) → 0 < common a b → (a % common a b ≡ 0) × (b % common a b ≡ 0)
common_divides a b some = let h = passes_below (λ d. (a % d == 0) && (b % d == 0)) (max a b) some in (left a b (common a b) h, right a b (common a b) h)

-- so many steps lead from one end to the other
pub exact : (from to : ℤ) (n : ℕ) → 0 < n → unsigned_abs (to -ℤ from) % n ≡ 0 → from +ℤ pos n *ℤ int_div (to -ℤ from) (pos n) ≡ to
exact from to n some whole = by (to -ℤ from) refl whole
  where
    by : (z : ℤ) → z ≡ to -ℤ from → unsigned_abs z % n ≡ 0 → from +ℤ pos n *ℤ int_div z (pos n) ≡ to
    by (pos m) e w = let q : n * (m / n) ≡ m = omega (arith, w, some) in omega (arith, ints, e, q)
    by (negsuc m) e w = let q : suc m / n * n ≡ suc m = omega (arith, w, some) in let d = down_by from (suc m / n) n in omega (arith, ints, e, q, d)

-- c lies strictly between w and o, in equal steps from w
pub record Cut (w o c : Point) : Type 0 where
  pub step : Vector
  pub n : ℤ
  pub s : ℤ
  pub some : pos 0 <ℤ s
  pub less : s <ℤ n
  pub end : at w step n ≡ o
  pub is : c ≡ at w step s

pub at_none : (w : Point) (e : Vector) → at w e (pos 0) ≡ w
at_none w e = ap₂ (λ i j. let p : Point = record { x = i; y = j } in p) (omega (arith, ints, zero-*ℤ e.x)) (omega (arith, ints, zero-*ℤ e.y))

-- the same, seen from the other end
pub cut_back : (w o c : Point) → LegFromOtherEnd → Cut w o c → Cut o w c
cut_back w o c law h = record {
  step = opposite h.step;
  n = h.n;
  s = h.n -ℤ h.s;
  some = omega (arith, ints, h.less);
  less = omega (arith, ints, h.some);
  end =
      let whole : h.n -ℤ pos 0 ≡ h.n = omega (arith, ints) in
      ap₂ (λ p t. at p (opposite h.step) t) (sym h.end) (sym whole) ∙ (law w h.step h.n (pos 0) ∙ at_none w h.step);
  is = h.is ∙ (sym (law w h.step h.n h.s) ∙ ap (λ p. at p (opposite h.step) (h.n -ℤ h.s)) h.end);
}

module _ (f : Field) (h : IsField f) where
  -- a node of the field
  pub record InField (n : NodeId) : Type 0 where
    pub row : n.row < f.rows
    pub col : n.col < f.cols

  module _ (u v : NodeId) (k : ℕ) (in_u : InField u) (in_v : InField v) (above : band_at f u < k) (most : k ≤ band_at f v) where
    same_node : u.row ≡ v.row → u.col ≡ v.col → u ≡ v
    same_node row col = ap₂ (λ i j. let n : NodeId = record { row = i; col = j } in n) row col

    abbrev wide : ℕ
    wide = unsigned_abs (f.x v.col -ℤ f.x u.col)

    abbrev high : ℕ
    high = unsigned_abs (f.y v.row -ℤ f.y u.row)

    apart : (0 < wide) ⊎ (0 < high)
    apart = ⊎_elim
        (λ col. ⊎_elim
        (λ row. absurd (let e = ap (band_at f) (same_node row col) in omega (arith, e, above, most)))
        (λ far_row. inr (far (f.y u.row) (f.y v.row) (⊎_elim (λ l. inr (h.southwards u.row v.row l in_v.row)) (λ l. inl (h.southwards v.row u.row l in_u.row)) far_row)))
        (compared u.row v.row))
        (λ far_col. inl (far (f.x u.col) (f.x v.col) (⊎_elim (λ l. inl (h.eastwards u.col v.col l in_v.col)) (λ l. inr (h.eastwards v.col u.col l in_u.col)) far_col)))
        (compared u.col v.col)

    pub several : 32 ≤ lattice_steps f (upwards u v)
    several = common_several wide high
        (mod-eq-zero_of_dvd 32 (apart_by (f.x u.col) (f.x v.col) (h.whole_x u.col in_u.col) (h.whole_x v.col in_v.col)))
        (mod-eq-zero_of_dvd 32 (apart_by (f.y u.row) (f.y v.row) (h.whole_y u.row in_u.row) (h.whole_y v.row in_v.row)))
        apart

    -- a level crosses a slope strictly between its ends
    pub crossing_cut : Cut (point f u) (point f v) (crossing f (upwards u v) k)
    crossing_cut =
        let steps = lattice_steps f (upwards u v) in
        let divides = common_divides wide high (omega (arith, several)) in
        let t = slot_of f (upwards u v) (k - band_at f u) in
        let few = crossing_few f (upwards u v) h.levels.few in
        let first = slots_rise steps (crossing_count f (upwards u v)) (wanted f (upwards u v)) 0 (k - band_at f u) (omega (arith, above)) (omega (arith, most)) (omega (arith, several, few)) in
        let last = slot_below f u v (band_at f u) k h.levels.few several refl above most in
        record {
          step = record { x = int_div (f.x v.col -ℤ f.x u.col) (pos steps); y = int_div (f.y v.row -ℤ f.y u.row) (pos steps) };
          n = pos steps;
          s = pos t;
          some = omega (arith, ints, first);
          less = omega (arith, ints, last);
          end = ap₂ (λ i j. let p : Point = record { x = i; y = j } in p) (exact (f.x u.col) (f.x v.col) steps (omega (arith, several)) divides.0) (exact (f.y u.row) (f.y v.row) steps (omega (arith, several)) divides.1);
          is = crossing_inside f u v k above most;
        }
