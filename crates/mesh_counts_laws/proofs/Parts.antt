-- What a value of segments is along the parts of a leg.
use Rattle.std.proofs.Common.{◌≡◌, ⊎_elim, ℕ, zero, suc, ◌+◌, ◌-◌, ◌<◌, ◌≤◌, min, max, ℤ, pos, ◌+ℤ◌, ◌≤ℤ◌, Bool, true, false, cond, not, eqb, Option, Some, None, [], ◌∷◌, refl, sym, ap, ap₂, subst, ◌∙◌, arith}
use Rattle.std.specs.Prelude.{nat_le}
use Rattle.std.specs.List.{range_with_len}
use Rattle.std.proofs.lemmas.Bool.Decides.{nat_tests}
use Rattle.std.proofs.lemmas.Bool.{cases_lt}
use Rattle.std.proofs.lemmas.Int.{ints}
use Rattle.mesh_definitions.specs.Cuts.{Slope, falls, slope, crossing}
use Rattle.mesh_definitions.specs.Field.{Field, point, band_at, node_band}
use Rattle.mesh_definitions.specs.Mesh.{Walk, from, to, first, second}
use Rattle.mesh_definitions.specs.Pieces.{part_ends, part_bands, span}
use Rattle.depth_grid.specs.declared.node.NodeId.{NodeId}
use Rattle.mesh_laws.proofs.Depths.{deepens, leads_on, leads_back, band_is}
use Rattle.mesh_laws.proofs.Legs.{walked_part, crossed, above_both, below_both}
use Rattle.mesh_laws.proofs.Places.{total_range_at, total_range_off}
use Rattle.plane_geom.specs.Geom.{IsOn}
use Rattle.plane_geom.specs.Segments.{turned}
use Rattle.plane_geom.specs.declared.Point.{Point}
use Rattle.plane_geom.specs.declared.Seg.{Seg}
use Rattle.plane_laws.specs.Borders.{total}
use Rattle.plane_laws.specs.Outlines.{seg, at}
use Rattle.plane_laws.proofs.Cuts.{steps_along}
use Rattle.plane_laws.proofs.Lines.{on_turned}
use Rattle.plane_laws.proofs.Sums.{total_same}
use Rattle.mesh_counts_laws.proofs.Slots.{IsGraded}

-- a value of segments that is the sum of those of the parts of a segment
pub record IsSumOfParts (g : Seg → ℤ) : Type 0 where
  pub none : (a : Point) → g (seg a a) ≡ pos 0
  pub cut : (s : Seg) (q : Point) → IsOn s q → g (seg s.a q) +ℤ g (seg q s.b) ≡ g s

-- what holds of two nodes holds of the ends of the slope between them
of_slope : (P : NodeId → Type 0) (f : Field) (a c : NodeId) → P a → P c → P (slope f a c).u × P (slope f a c).v
of_slope P f a c p q = by (falls f a c)
  where
    by : (x : Bool) → P (cond {A = Slope} x (record { u = c; v = a }) (record { u = a; v = c })).u × P (cond {A = Slope} x (record { u = c; v = a }) (record { u = a; v = c })).v
    by true = (q, p)
    by false = (p, q)

-- ---- points in order

module _ (u v : Point) (P : ℕ → Point) (graded : IsGraded u v P) where
  pub slots_rise : (a n : ℕ) → graded.slot a ≤ℤ graded.slot (a + n)
  slots_rise a zero = let e : a + 0 ≡ a = omega arith in subst (λ k. graded.slot a ≤ℤ graded.slot k) (sym e) (omega (arith, ints))
  slots_rise a (suc n) =
      let e : a + 1 + n ≡ a + suc n = omega arith in
      let h = graded.rises a in
      let k : graded.slot (a + 1) ≤ℤ graded.slot (a + suc n) = subst (λ k. graded.slot (a + 1) ≤ℤ graded.slot k) e (slots_rise (a + 1) n) in
      omega (arith, ints, h, k)

module _ (g : Seg → ℤ) (sums : IsSumOfParts g) (u v : Point) (P : ℕ → Point) (graded : IsGraded u v P) where
  -- a point lies between one before it and one after it
  pub between : (a n : ℕ) → IsOn (seg (P a) (P (a + 1 + n))) (P (a + 1))
  between a n =
      let on = (steps_along u graded.step (graded.slot a) (graded.slot (a + 1 + n)) (graded.slot (a + 1) ∷ []) (graded.rises a, slots_rise u v P graded (a + 1) n)).0 in
      subst (λ x. IsOn (seg x (P (a + 1 + n))) (P (a + 1))) (sym (graded.is a))
      (subst (λ x. IsOn (seg (at u graded.step (graded.slot a)) x) (P (a + 1))) (sym (graded.is (a + 1 + n)))
      (subst (λ x. IsOn (seg (at u graded.step (graded.slot a)) (at u graded.step (graded.slot (a + 1 + n)))) x) (sym (graded.is (a + 1))) on))

  -- the parts between points add up
  pub parts_up : (a n : ℕ) → total (λ k. g (seg (P k) (P (k + 1)))) (range_with_len a n) ≡ g (seg (P a) (P (a + n)))
  parts_up a zero = let e : a ≡ a + 0 = omega arith in sym (sums.none (P a)) ∙ ap (λ k. g (seg (P a) (P k))) e
  parts_up a (suc n) =
      let e : a + 1 + n ≡ a + suc n = omega arith in
      ap (λ z. g (seg (P a) (P (a + 1))) +ℤ z) (parts_up (a + 1) n)
      ∙ (sums.cut (seg (P a) (P (a + 1 + n))) (P (a + 1)) (between a n)
      ∙ ap (λ k. g (seg (P a) (P k))) e)

  pub parts_down : (a n : ℕ) → total (λ k. g (seg (P (k + 1)) (P k))) (range_with_len a n) ≡ g (seg (P (a + n)) (P a))
  parts_down a zero = let e : a ≡ a + 0 = omega arith in sym (sums.none (P a)) ∙ ap (λ k. g (seg (P k) (P a))) e
  parts_down a (suc n) =
      let e : a + 1 + n ≡ a + suc n = omega arith in
      let c = sums.cut (seg (P (a + 1 + n)) (P a)) (P (a + 1)) (on_turned (seg (P a) (P (a + 1 + n))) (P (a + 1)) (between a n)) in
      let i = parts_down (a + 1) n in
      let s : total (λ k. g (seg (P (k + 1)) (P k))) (range_with_len a (suc n)) ≡ g (seg (P (a + 1 + n)) (P a)) = omega (arith, ints, c, i) in
      s ∙ ap (λ k. g (seg (P k) (P a))) e

-- ---- the parts of a walked link

module _ (f : Field) (g : Seg → ℤ) (w : Walk) where
  -- the part of a walk between a level and the next, walked as the walk is
  abbrev pub level_part : ℕ → Seg
  level_part b = cond (deepens f w) (seg (crossed f w b) (crossed f w (b + 1))) (seg (crossed f w (b + 1)) (crossed f w b))

  -- a link between nodes with data
  module _ (x y : ℕ) (e : node_band f (first w.link) ≡ Some x) (k : node_band f (second w.link) ≡ Some y) where
    known_part : (b : ℕ) → part_ends f w.link b ≡ cond (falls f (first w.link) (second w.link)) (seg (crossed f w (b + 1)) (crossed f w b)) (seg (crossed f w b) (crossed f w (b + 1)))
    known_part b = rw (e, k) refl

    by_way : (forward x : Bool) (a c : Point) → (let s : Seg = cond x (seg c a) (seg a c) in cond forward s (turned s)) ≡ cond (cond forward (not x) x) (seg a c) (seg c a)
    by_way true true a c = refl
    by_way true false a c = refl
    by_way false true a c = refl
    by_way false false a c = refl

    pub part_is : (b : ℕ) → walked_part f w b ≡ level_part b
    part_is b = ap (λ s. cond w.forward s (turned s)) (known_part b) ∙ by_way w.forward (falls f (first w.link) (second w.link)) (crossed f w b) (crossed f w (b + 1))

    bands_are : part_bands f w.link ≡ span (min x y) (max x y)
    bands_are = rw (e, k) refl

    abbrev Within : NodeId → Type 0
    Within n = (min x y ≤ band_at f n) × (band_at f n ≤ max x y)

    within : Within (slope f (first w.link) (second w.link)).u × Within (slope f (first w.link) (second w.link)).v
    within =
        let p = band_is f (first w.link) x e in
        let q = band_is f (second w.link) y k in
        of_slope Within f (first w.link) (second w.link) (omega (arith, p), omega (arith, p)) (omega (arith, q), omega (arith, q))

    -- levels up to the least band are crossed at the shoaler node, those above the greatest at the deeper one
    pub at_first : (b : ℕ) → b ≤ min x y → crossed f w b ≡ point f (slope f (first w.link) (second w.link)).u
    at_first b l =
        let s = slope f (first w.link) (second w.link) in
        let m = within.0.0 in
        let r : nat_le b (band_at f s.u) ≡ true = grind (arith, nat_tests, l, m) in
        above_both f s b r

    pub at_last : (b : ℕ) → max x y < b → crossed f w b ≡ point f (slope f (first w.link) (second w.link)).v
    at_last b l =
        let s = slope f (first w.link) (second w.link) in
        let m = within.0.1 in
        let n = within.1.1 in
        let r : nat_le b (band_at f s.u) ≡ false = grind (arith, nat_tests, l, m) in
        let t : nat_le b (band_at f s.v) ≡ false = grind (arith, nat_tests, l, n) in
        below_both f s b r t

    flat : ((a : Point) → g (seg a a) ≡ pos 0) → (b : ℕ) → crossed f w b ≡ crossed f w (b + 1) → pos 0 ≡ g (level_part b)
    flat none b same = by (deepens f w)
      where
        by : (d : Bool) → pos 0 ≡ g (cond d (seg (crossed f w b) (crossed f w (b + 1))) (seg (crossed f w (b + 1)) (crossed f w b)))
        by true = sym (none (crossed f w b)) ∙ ap (λ p. g (seg (crossed f w b) p)) same
        by false = sym (none (crossed f w b)) ∙ ap (λ p. g (seg p (crossed f w b))) same

    -- the part in one band, which is none where the link has no such band
    pub one_part : ((a : Point) → g (seg a a) ≡ pos 0) → (b : ℕ) → total (λ k. cond (eqb b k) (g (walked_part f w k)) (pos 0)) (part_bands f w.link) ≡ g (level_part b)
    one_part none b = ap (total (λ k. cond (eqb b k) (g (walked_part f w k)) (pos 0))) bands_are ∙ ⊎_elim below (λ l. ⊎_elim above (inside l) (cases_lt (max x y) b)) (cases_lt b (min x y))
      where
        Claim : Type 0
        Claim = total (λ k. cond (eqb b k) (g (walked_part f w k)) (pos 0)) (range_with_len (min x y) (max x y + 1 - min x y)) ≡ g (level_part b)

        inside : min x y ≤ b → b ≤ max x y → Claim
        inside l m = total_range_at (λ k. g (walked_part f w k)) b (min x y) (max x y + 1 - min x y) l (omega (arith, m)) ∙ ap g (part_is b)

        below : b < min x y → Claim
        below l =
            total_range_off (λ k. g (walked_part f w k)) b (min x y) (max x y + 1 - min x y) (λ j near far. omega (arith, near, l))
            ∙ flat none b (at_first b (omega (arith, l)) ∙ sym (at_first (b + 1) (omega (arith, l))))

        above : max x y < b → Claim
        above l =
            total_range_off (λ k. g (walked_part f w k)) b (min x y) (max x y + 1 - min x y) (λ j near far. omega (arith, far, near, l))
            ∙ flat none b (at_last b l ∙ sym (at_last (b + 1) (omega (arith, l))))

    -- all parts together are the whole link
    abbrev s : NodeId × NodeId
    s = ((slope f (first w.link) (second w.link)).u, (slope f (first w.link) (second w.link)).v)

    known_whole : IsSumOfParts g → IsGraded (point f s.0) (point f s.1) (crossing f (slope f (first w.link) (second w.link))) → total (λ k. g (walked_part f w k)) (part_bands f w.link) ≡ g (seg (point f (from w)) (point f (to w)))
    known_whole sums graded =
        let n = max x y + 1 - min x y in
        let low = at_first (min x y) (omega arith) in
        let high = at_last (min x y + n) (omega arith) in
        ap (total (λ k. g (walked_part f w k))) bands_are
        ∙ (total_same (λ k. g (walked_part f w k)) (λ k. g (level_part k)) (λ k. ap g (part_is k)) (range_with_len (min x y) n)
        ∙ by (deepens f w) refl n low high)
      where
        by : (d : Bool) → deepens f w ≡ d → (n : ℕ) → crossed f w (min x y) ≡ point f s.0 → crossed f w (min x y + n) ≡ point f s.1 →
            total (λ b. g (cond d (seg (crossed f w b) (crossed f w (b + 1))) (seg (crossed f w (b + 1)) (crossed f w b)))) (range_with_len (min x y) n) ≡ g (seg (point f (from w)) (point f (to w)))
        by true d n low high =
            let l = (leads_on f w d).is in
            parts_up g sums (point f s.0) (point f s.1) (crossed f w) graded (min x y) n
            ∙ ap₂ (λ p q. g (seg p q)) (low ∙ ap (λ z. point f z.u) l) (high ∙ ap (λ z. point f z.v) l)
        by false d n low high =
            let l = (leads_back f w d).is in
            parts_down g sums (point f s.0) (point f s.1) (crossed f w) graded (min x y) n
            ∙ ap₂ (λ p q. g (seg p q)) (high ∙ ap (λ z. point f z.v) l) (low ∙ ap (λ z. point f z.u) l)

  -- a link in one part, where a node has no data
  abbrev Whole : Type 0
  Whole = total (λ k. g (walked_part f w k)) (part_bands f w.link) ≡ g (seg (point f (from w)) (point f (to w)))

  by_direction : (forward : Bool) (a c : NodeId) → (let s : Seg = seg (point f a) (point f c) in g (cond forward s (turned s)) +ℤ pos 0) ≡ g (seg (point f (cond forward a c)) (point f (cond forward c a)))
  by_direction true a c = omega (arith, ints)
  by_direction false a c = omega (arith, ints)

  in_one : part_bands f w.link ≡ 0 ∷ [] → part_ends f w.link 0 ≡ seg (point f (first w.link)) (point f (second w.link)) → Whole
  in_one e k = ap (total (λ k. g (walked_part f w k))) e ∙ (ap (λ s. g (cond w.forward s (turned s)) +ℤ pos 0) k ∙ by_direction w.forward (first w.link) (second w.link))

  open_first : node_band f (first w.link) ≡ None → Whole
  open_first e = in_one (rw e refl) (rw e refl)

  open_second : (x : ℕ) → node_band f (first w.link) ≡ Some x → node_band f (second w.link) ≡ None → Whole
  open_second x e k = in_one (rw (e, k) refl) (rw (e, k) refl)

  pub whole_walk : IsSumOfParts g → IsGraded (point f (slope f (first w.link) (second w.link)).u) (point f (slope f (first w.link) (second w.link)).v) (crossing f (slope f (first w.link) (second w.link))) → Whole
  whole_walk sums graded = by (node_band f (first w.link)) (node_band f (second w.link)) refl refl
    where
      by : (x y : Option ℕ) → node_band f (first w.link) ≡ x → node_band f (second w.link) ≡ y → Whole
      by None y e k = open_first e
      by (Some x) None e k = open_second x e k
      by (Some x) (Some y) e k = known_whole x y e k sums graded
