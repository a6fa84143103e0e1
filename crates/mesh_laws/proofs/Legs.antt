-- What the parts of a leg add up to, by a value of points.
use Rattle.std.proofs.Common.{◌≡◌, ℕ, ◌+◌, ◌-◌, ◌<◌, ◌≤◌, min, max, ℤ, pos, ◌+ℤ◌, ◌-ℤ◌, Bool, true, false, cond, not, eqb, Option, Some, None, [], ◌∷◌, refl, ap, ap₂, sym, ◌∙◌, ⊎_elim, arith}
use Rattle.std.specs.Prelude.{nat_le, nat_lt}
use Rattle.std.specs.List.{range_with_len}
use Rattle.std.proofs.lemmas.Bool.Decides.{nat_tests}
use Rattle.std.proofs.lemmas.Bool.{cases_lt}
use Rattle.std.proofs.lemmas.Int.{ints}
use Rattle.mesh_definitions.specs.Cuts.{Slope, falls, slope, crossing}
use Rattle.mesh_definitions.specs.Field.{Field, point, band_at, node_band}
use Rattle.mesh_definitions.specs.Mesh.{Walk, from, to, first, second}
use Rattle.mesh_definitions.specs.Pieces.{part_ends, part_bands, span}
use Rattle.mesh_laws.proofs.Depths.{Leads, deepens, leads_on, leads_back, band_is}
use Rattle.depth_grid.specs.declared.node.NodeId.{NodeId}
use Rattle.mesh_laws.proofs.Places.{total_range_at, total_range_off, total_range_steps}
use Rattle.plane_geom.specs.Segments.{turned}
use Rattle.plane_geom.specs.declared.Point.{Point}
use Rattle.plane_geom.specs.declared.Seg.{Seg}
use Rattle.plane_laws.specs.Borders.{total}
use Rattle.plane_laws.proofs.Sums.{total_same}

-- what a value of points falls by along a segment
abbrev pub fall : (Point → ℤ) → Seg → ℤ
fall h s = h s.a -ℤ h s.b

-- where the part of a walked link in one band lies
abbrev pub walked_part : Field → Walk → ℕ → Seg
walked_part f w b = cond w.forward (part_ends f w.link b) (turned (part_ends f w.link b))

-- and what a value of points falls by along it
abbrev pub taken : Field → (Point → ℤ) → Walk → ℕ → ℤ
taken f h w b = fall h (walked_part f w b)

-- where a level crosses a walked link
abbrev pub crossed : Field → Walk → ℕ → Point
crossed f w k = crossing f (slope f (first w.link) (second w.link)) k

-- what the value falls by along that of a walk which is deeper than a level, by whether it begins and ends there
abbrev pub deep_part : Bool → Bool → ℤ → ℤ → ℤ → ℤ
deep_part true true p q c = p -ℤ q
deep_part true false p q c = p -ℤ c
deep_part false true p q c = c -ℤ q
deep_part false false p q c = pos 0

abbrev pub deep_fall : Field → (Point → ℤ) → Walk → ℕ → ℤ
deep_fall f h w k = deep_part (nat_le k (band_at f (from w))) (nat_le k (band_at f (to w))) (h (point f (from w))) (h (point f (to w))) (h (crossed f w k))

-- a crossing of a level that both ends reach, or neither
pub above_both : (f : Field) (s : Slope) (k : ℕ) → nat_le k (band_at f s.u) ≡ true → crossing f s k ≡ point f s.u
above_both f s k e = rw e refl

pub below_both : (f : Field) (s : Slope) (k : ℕ) → nat_le k (band_at f s.u) ≡ false → nat_le k (band_at f s.v) ≡ false → crossing f s k ≡ point f s.v
below_both f s k e g = let l : nat_lt (band_at f s.v) k ≡ true = grind (arith, nat_tests) in rw (e, l) refl

module _ (f : Field) (h : Point → ℤ) (w : Walk) where
  abbrev whole : ℤ
  whole = h (point f (from w)) -ℤ h (point f (to w))

  -- a walk down the slope: what is deeper than a level
  on_down : (k : ℕ) (x y : Bool) → Leads f (slope f (first w.link) (second w.link)) (from w) (to w) → nat_le k (band_at f (from w)) ≡ x → nat_le k (band_at f (to w)) ≡ y →
      deep_part x y (h (point f (from w))) (h (point f (to w))) (h (crossed f w k)) ≡ h (crossed f w k) -ℤ h (point f (to w))
  on_down k true true l e g = ap (λ p. h p -ℤ h (point f (to w))) (sym (ap (λ s. crossing f s k) l.is ∙ above_both f (record { u = from w; v = to w }) k e))
  on_down k false true l e g = refl
  on_down k true false l e g = absurd (let r = l.rises in grind (arith, nat_tests, e, g, r))
  on_down k false false l e g =
      let p : h (crossed f w k) ≡ h (point f (to w)) = ap h (ap (λ s. crossing f s k) l.is ∙ below_both f (record { u = from w; v = to w }) k e g) in
      omega (arith, ints, p)

  on_up : (k : ℕ) (x y : Bool) → Leads f (slope f (first w.link) (second w.link)) (to w) (from w) → nat_le k (band_at f (from w)) ≡ x → nat_le k (band_at f (to w)) ≡ y →
      deep_part x y (h (point f (from w))) (h (point f (to w))) (h (crossed f w k)) ≡ h (point f (from w)) -ℤ h (crossed f w k)
  on_up k true true l e g = ap (λ p. h (point f (from w)) -ℤ h p) (sym (ap (λ s. crossing f s k) l.is ∙ above_both f (record { u = to w; v = from w }) k g))
  on_up k true false l e g = refl
  on_up k false true l e g = absurd (let r = l.rises in grind (arith, nat_tests, e, g, r))
  on_up k false false l e g =
      let p : h (crossed f w k) ≡ h (point f (from w)) = ap h (ap (λ s. crossing f s k) l.is ∙ below_both f (record { u = to w; v = from w }) k g e) in
      omega (arith, ints, p)

  part_known : (b x y : ℕ) → node_band f (first w.link) ≡ Some x → node_band f (second w.link) ≡ Some y →
      part_ends f w.link b ≡ cond (falls f (first w.link) (second w.link)) (record { a = crossed f w (b + 1); b = crossed f w b }) (record { a = crossed f w b; b = crossed f w (b + 1) })
  part_known b x y e g = rw (e, g) refl

  -- a part of a link falls from level to level
  by_way : (forward x : Bool) (a c : Point) → fall h (cond forward (cond x (record { a = c; b = a }) (record { a = a; b = c })) (turned (cond x (record { a = c; b = a }) (record { a = a; b = c })))) ≡ cond (cond forward (not x) x) (h a -ℤ h c) (h c -ℤ h a)
  by_way true true a c = refl
  by_way true false a c = refl
  by_way false true a c = refl
  by_way false false a c = refl

  from_end : (x y p q t : ℤ) → x ≡ p -ℤ t → y ≡ q -ℤ t → p -ℤ q ≡ x -ℤ y
  from_end x y p q t e g = omega (arith, ints, e, g)

  from_begin : (x y p q t : ℤ) → x ≡ t -ℤ p → y ≡ t -ℤ q → q -ℤ p ≡ x -ℤ y
  from_begin x y p q t e g = omega (arith, ints, e, g)

  taken_by : (b : ℕ) (x : Bool) → deepens f w ≡ x → cond x (h (crossed f w b) -ℤ h (crossed f w (b + 1))) (h (crossed f w (b + 1)) -ℤ h (crossed f w b)) ≡ deep_fall f h w b -ℤ deep_fall f h w (b + 1)
  taken_by b true e =
      let l = leads_on f w e in
      from_end (deep_fall f h w b) (deep_fall f h w (b + 1)) (h (crossed f w b)) (h (crossed f w (b + 1))) (h (point f (to w)))
      (on_down b (nat_le b (band_at f (from w))) (nat_le b (band_at f (to w))) l refl refl)
      (on_down (b + 1) (nat_le (b + 1) (band_at f (from w))) (nat_le (b + 1) (band_at f (to w))) l refl refl)
  taken_by b false e =
      let l = leads_back f w e in
      from_begin (deep_fall f h w b) (deep_fall f h w (b + 1)) (h (crossed f w b)) (h (crossed f w (b + 1))) (h (point f (from w)))
      (on_up b (nat_le b (band_at f (from w))) (nat_le b (band_at f (to w))) l refl refl)
      (on_up (b + 1) (nat_le (b + 1) (band_at f (from w))) (nat_le (b + 1) (band_at f (to w))) l refl refl)

  -- what is deeper than a level that both ends reach is the whole leg, and nothing is where neither does
  all_deep : (k : ℕ) → k ≤ band_at f (from w) → k ≤ band_at f (to w) → deep_fall f h w k ≡ whole
  all_deep k l m =
      let e : nat_le k (band_at f (from w)) ≡ true = grind (arith, nat_tests) in
      let g : nat_le k (band_at f (to w)) ≡ true = grind (arith, nat_tests) in
      ap₂ (λ x y. deep_part x y (h (point f (from w))) (h (point f (to w))) (h (crossed f w k))) e g

  none_deep : (k : ℕ) → band_at f (from w) < k → band_at f (to w) < k → deep_fall f h w k ≡ pos 0
  none_deep k l m =
      let e : nat_le k (band_at f (from w)) ≡ false = grind (arith, nat_tests) in
      let g : nat_le k (band_at f (to w)) ≡ false = grind (arith, nat_tests) in
      ap₂ (λ x y. deep_part x y (h (point f (from w))) (h (point f (to w))) (h (crossed f w k))) e g

  -- a leg between nodes with data
  module _ (x y : ℕ) (e : node_band f (first w.link) ≡ Some x) (g : node_band f (second w.link) ≡ Some y) where
    taken_is : (b : ℕ) → taken f h w b ≡ deep_fall f h w b -ℤ deep_fall f h w (b + 1)
    taken_is b =
        ap (λ s. fall h (cond w.forward s (turned s))) (part_known b x y e g)
        ∙ (by_way w.forward (falls f (first w.link) (second w.link)) (crossed f w b) (crossed f w (b + 1))
        ∙ taken_by b (deepens f w) refl)

    bands_are : part_bands f w.link ≡ span (min x y) (max x y)
    bands_are = rw (e, g) refl

    bounds : (min x y ≤ band_at f (from w)) × (min x y ≤ band_at f (to w)) × (band_at f (from w) ≤ max x y) × (band_at f (to w) ≤ max x y)
    bounds = by w.forward
      where
        p : band_at f (first w.link) ≡ x
        p = band_is f (first w.link) x e

        q : band_at f (second w.link) ≡ y
        q = band_is f (second w.link) y g

        by : (forward : Bool) → (min x y ≤ band_at f (cond forward (first w.link) (second w.link))) × (min x y ≤ band_at f (cond forward (second w.link) (first w.link))) × (band_at f (cond forward (first w.link) (second w.link)) ≤ max x y) × (band_at f (cond forward (second w.link) (first w.link)) ≤ max x y)
        by true = (omega (arith, p), omega (arith, q), omega (arith, p), omega (arith, q))
        by false = (omega (arith, q), omega (arith, p), omega (arith, q), omega (arith, p))

    known_whole : total (taken f h w) (part_bands f w.link) ≡ whole
    known_whole =
        let n = max x y + 1 - min x y in
        ap (total (taken f h w)) bands_are
        ∙ (total_same (taken f h w) (λ b. deep_fall f h w b -ℤ deep_fall f h w (b + 1)) taken_is (range_with_len (min x y) n)
        ∙ (total_range_steps (deep_fall f h w) (min x y) n
        ∙ less_nothing (all_deep (min x y) bounds.0 bounds.1) (none_deep (min x y + n) (let k = bounds.2 in omega (arith, k)) (let k = bounds.3 in omega (arith, k)))))
      where
        less_nothing : {p q r : ℤ} → p ≡ r → q ≡ pos 0 → p -ℤ q ≡ r
        less_nothing p q = omega (arith, ints, p, q)

    -- the part of a leg in one band falls by what is deeper than the band's level, less what is deeper than the next
    pub band_fall : (b : ℕ) → total (λ k. cond (eqb b k) (taken f h w k) (pos 0)) (part_bands f w.link) ≡ deep_fall f h w b -ℤ deep_fall f h w (b + 1)
    band_fall b = ap (total (λ k. cond (eqb b k) (taken f h w k) (pos 0))) bands_are ∙ ⊎_elim below (λ l. ⊎_elim above (within l) (cases_lt (max x y) b)) (cases_lt b (min x y))
      where
        Claim : Type 0
        Claim = total (λ k. cond (eqb b k) (taken f h w k) (pos 0)) (range_with_len (min x y) (max x y + 1 - min x y)) ≡ deep_fall f h w b -ℤ deep_fall f h w (b + 1)

        equals : {p q r : ℤ} → p ≡ r → q ≡ r → pos 0 ≡ p -ℤ q
        equals p q = omega (arith, ints, p, q)

        within : min x y ≤ b → b ≤ max x y → Claim
        within l m = total_range_at (taken f h w) b (min x y) (max x y + 1 - min x y) l (omega (arith, m)) ∙ taken_is b

        below : b < min x y → Claim
        below l =
            let k = bounds.0 in
            let m = bounds.1 in
            total_range_off (taken f h w) b (min x y) (max x y + 1 - min x y) (λ j near far. omega (arith, near, l))
            ∙ equals (all_deep b (omega (arith, k, l)) (omega (arith, m, l))) (all_deep (b + 1) (omega (arith, k, l)) (omega (arith, m, l)))

        above : max x y < b → Claim
        above l =
            let k = bounds.2 in
            let m = bounds.3 in
            total_range_off (taken f h w) b (min x y) (max x y + 1 - min x y) (λ j near far. omega (arith, far, near, l))
            ∙ equals (none_deep b (omega (arith, k, l)) (omega (arith, m, l))) (none_deep (b + 1) (omega (arith, k, l)) (omega (arith, m, l)))

  -- a leg in one part, where a node has no data
  by_direction : (forward : Bool) (a c : NodeId) → fall h (cond forward (record { a = point f a; b = point f c }) (turned (record { a = point f a; b = point f c }))) +ℤ pos 0 ≡ h (point f (cond forward a c)) -ℤ h (point f (cond forward c a))
  by_direction true a c = omega (arith, ints)
  by_direction false a c = omega (arith, ints)

  in_one : part_bands f w.link ≡ 0 ∷ [] → part_ends f w.link 0 ≡ record { a = point f (first w.link); b = point f (second w.link) } → total (taken f h w) (part_bands f w.link) ≡ whole
  in_one e g = ap (total (taken f h w)) e ∙ (ap (λ s. fall h (cond w.forward s (turned s)) +ℤ pos 0) g ∙ by_direction w.forward (first w.link) (second w.link))

  open_first : node_band f (first w.link) ≡ None → total (taken f h w) (part_bands f w.link) ≡ whole
  open_first e = in_one (rw e refl) (rw e refl)

  open_second : (x : ℕ) → node_band f (first w.link) ≡ Some x → node_band f (second w.link) ≡ None → total (taken f h w) (part_bands f w.link) ≡ whole
  open_second x e g = in_one (rw (e, g) refl) (rw (e, g) refl)

  -- all parts of a leg together fall by what the leg does
  pub whole_fall : total (taken f h w) (part_bands f w.link) ≡ h (point f (from w)) -ℤ h (point f (to w))
  whole_fall = by (node_band f (first w.link)) (node_band f (second w.link)) refl refl
    where
      by : (x y : Option ℕ) → node_band f (first w.link) ≡ x → node_band f (second w.link) ≡ y → total (taken f h w) (part_bands f w.link) ≡ whole
      by None y e g = open_first e
      by (Some x) None e g = open_second x e g
      by (Some x) (Some y) e g = known_whole x y e g
