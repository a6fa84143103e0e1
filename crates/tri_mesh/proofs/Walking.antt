-- Where the walk round a triangle crosses a level.
use Rattle.std.proofs.Common.{◌≡◌, ℕ, ◌<◌, ◌≤◌, min, max, Bool, true, false, cond, ◌&&◌, Some, List, [], ◌∷◌, map, get_or, true≢false, refl, sym, ap, subst, ◌∙◌, arith}
use Rattle.std.specs.Prelude.{nat_lt, nat_le, find, None}
use Rattle.std.proofs.lemmas.Bool.Decides.{nat_tests}
use Rattle.mesh_definitions.specs.Cuts.{slope, crossing}
use Rattle.mesh_definitions.specs.Field.{Field, band_at}
use Rattle.mesh_definitions.specs.Mesh.{Walk, first, second, from, to, legs, corners}
use Rattle.mesh_definitions.specs.Pieces.{enters, leaves, chord_ends}
use Rattle.mesh_definitions.specs.declared.Tri.{Tri}
use Rattle.mesh_definitions.specs.declared.Way.TheVariants.{Across}
use Rattle.depth_grid.specs.declared.node.NodeId.{NodeId}
use Rattle.plane_geom.specs.declared.Point.{Point}
use Rattle.tri_mesh.specs.Fields.{upwards}
use Rattle.tri_mesh.specs.Legs.{leg_of, entering_leg, leaving_leg}
use Rattle.tri_mesh.specs.Triangles.{each_corner, AreBands}
use Rattle.tri_mesh.specs.declared.chords.Leg.{Leg}
use Rattle.tri_mesh.specs.declared.corners.Corners.{Corners}
use Rattle.tri_mesh.proofs.Chording.{slope_ahead, slope_back}

-- a leg that level k crosses upwards
pub record Crosses (f : Field) (k : ℕ) (l : Leg) : Type 0 where
  pub band : band_at f l.u ≡ l.band
  pub above : l.band < k
  pub below : k ≤ band_at f l.v

module _ (f : Field) (k : ℕ) (at : Corners NodeId) (bands : Corners ℕ) (p : band_at f at.first ≡ bands.first) (q : band_at f at.second ≡ bands.second) (r : band_at f at.third ≡ bands.third) (some : min (min bands.first bands.second) bands.third < k) (most : k ≤ max (max bands.first bands.second) bands.third) where
  pub enters_up : Crosses f k (entering_leg at bands k)
  enters_up = by (nat_lt bands.first k && nat_le k bands.second) (nat_lt bands.second k && nat_le k bands.third) refl refl
    where
      by : (x y : Bool) → (nat_lt bands.first k && nat_le k bands.second) ≡ x → (nat_lt bands.second k && nat_le k bands.third) ≡ y
          → Crosses f k (cond x (leg_of at.first at.second bands.first) (cond y (leg_of at.second at.third bands.second) (leg_of at.third at.first bands.third)))
      by true y e h = record { band = p; above = grind (arith, nat_tests, e); below = grind (arith, nat_tests, e, q) }
      by false true e h = record { band = q; above = grind (arith, nat_tests, h); below = grind (arith, nat_tests, h, r) }
      by false false e h = record { band = r; above = grind (arith, nat_tests, e, h, some, most); below = grind (arith, nat_tests, e, h, some, most, p) }

  pub leaves_up : Crosses f k (leaving_leg at bands k)
  leaves_up = by (nat_le k bands.first && nat_lt bands.second k) (nat_le k bands.second && nat_lt bands.third k) refl refl
    where
      by : (x y : Bool) → (nat_le k bands.first && nat_lt bands.second k) ≡ x → (nat_le k bands.second && nat_lt bands.third k) ≡ y
          → Crosses f k (cond x (leg_of at.second at.first bands.second) (cond y (leg_of at.third at.second bands.third) (leg_of at.first at.third bands.first)))
      by true y e h = record { band = q; above = grind (arith, nat_tests, e); below = grind (arith, nat_tests, e, p) }
      by false true e h = record { band = r; above = grind (arith, nat_tests, h); below = grind (arith, nat_tests, h, q) }
      by false false e h = record { band = p; above = grind (arith, nat_tests, e, h, some, most); below = grind (arith, nat_tests, e, h, some, most, r) }

-- the first walk of three that passes
pub find_three : (test : Walk → Bool) (a b c : Walk) → (test a ≡ false → test b ≡ false → test c ≡ true) → find test (a ∷ b ∷ c ∷ []) ≡ Some (cond (test a) a (cond (test b) b c))
find_three test a b c h = by (test a) (test b) (test c) h
  where
    by : (x y z : Bool) → (x ≡ false → y ≡ false → z ≡ true) → cond x (Some a) (cond y (Some b) (cond z (Some c) None)) ≡ Some (cond x a (cond y b c))
    by true y z g = refl
    by false true z g = refl
    by false false true g = refl
    by false false false g = absurd (true≢false (sym (g refl refl)))

-- a walk found that leads up a leg, forwards or back
pub on_ahead : (f : Field) (k : ℕ) (u v : NodeId) → band_at f u < k → k ≤ band_at f v → crossing f (slope f u v) k ≡ crossing f (upwards u v) k
on_ahead f k u v h l = ap (λ s. crossing f s k) (slope_ahead f u v (omega (arith, h, l)))

pub on_back : (f : Field) (k : ℕ) (u v : NodeId) → band_at f u < k → k ≤ band_at f v → crossing f (slope f v u) k ≡ crossing f (upwards u v) k
on_back f k u v h l = ap (λ s. crossing f s k) (slope_back f u v (omega (arith, h, l)))

-- where a walk that is found crosses
pub found_at : (f : Field) (t : Tri) (k : ℕ) (w : Walk) → enters f t k ≡ Some w → (chord_ends f t k).b ≡ crossing f (slope f (first w.link) (second w.link)) k
found_at f t k w e = rw e refl

pub found_back : (f : Field) (t : Tri) (k : ℕ) (w : Walk) → leaves f t k ≡ Some w → (chord_ends f t k).a ≡ crossing f (slope f (first w.link) (second w.link)) k
found_back f t k w e = rw e refl

pub third_enters : (p q r k : ℕ) → min (min p q) r < k → k ≤ max (max p q) r → (nat_lt p k && nat_le k q) ≡ false → (nat_lt q k && nat_le k r) ≡ false → (nat_lt r k && nat_le k p) ≡ true
third_enters p q r k some most e h = grind (arith, nat_tests, some, most, e, h)

pub third_leaves : (p q r k : ℕ) → min (min p q) r < k → k ≤ max (max p q) r → (nat_le k p && nat_lt q k) ≡ false → (nat_le k q && nat_lt r k) ≡ false → (nat_le k r && nat_lt p k) ≡ true
third_leaves p q r k some most e h = grind (arith, nat_tests, some, most, e, h)

below_of : (p q k : ℕ) → (nat_lt p k && nat_le k q) ≡ true → (p < k) × (k ≤ q)
below_of p q k e = (grind (arith, nat_tests, e), grind (arith, nat_tests, e))

above_of : (p q k : ℕ) → (nat_le k p && nat_lt q k) ≡ true → (q < k) × (k ≤ p)
above_of p q k e = (grind (arith, nat_tests, e), grind (arith, nat_tests, e))

module _ (f : Field) (k : ℕ) where
  abbrev pub on_walk : Walk → Point
  on_walk w = crossing f (slope f (first w.link) (second w.link)) k

  abbrev pub on_leg : Leg → Point
  on_leg l = crossing f (upwards l.u l.v) k

  abbrev deepens : Walk → Bool
  deepens w = nat_lt (band_at f (from w)) k && nat_le k (band_at f (to w))

  abbrev shoals : Walk → Bool
  shoals w = nat_le k (band_at f (from w)) && nat_lt (band_at f (to w)) k

  walk_up : (w : Walk) → (band_at f (from w) < k) × (k ≤ band_at f (to w)) → on_walk w ≡ crossing f (upwards (from w) (to w)) k
  walk_up w h = by (first w.link) (second w.link) w.forward h.0 h.1
    where
      by : (a b : NodeId) (ahead : Bool) → band_at f (cond ahead a b) < k → k ≤ band_at f (cond ahead b a) → crossing f (slope f a b) k ≡ crossing f (upwards (cond ahead a b) (cond ahead b a)) k
      by a b true p q = on_ahead f k a b p q
      by a b false p q = on_back f k b a p q

  walk_down : (w : Walk) → (band_at f (to w) < k) × (k ≤ band_at f (from w)) → on_walk w ≡ crossing f (upwards (to w) (from w)) k
  walk_down w h = by (first w.link) (second w.link) w.forward h.0 h.1
    where
      by : (a b : NodeId) (ahead : Bool) → band_at f (cond ahead b a) < k → k ≤ band_at f (cond ahead a b) → crossing f (slope f a b) k ≡ crossing f (upwards (cond ahead b a) (cond ahead a b)) k
      by a b true p q = on_back f k b a p q
      by a b false p q = on_ahead f k a b p q

  abbrev up_leg : Walk → Leg
  up_leg w = leg_of (from w) (to w) (band_at f (from w))

  abbrev down_leg : Walk → Leg
  down_leg w = leg_of (to w) (from w) (band_at f (to w))

  three_up : (a b c : Walk) → (deepens a ≡ false → deepens b ≡ false → deepens c ≡ true) → on_walk (cond (deepens a) a (cond (deepens b) b c)) ≡ on_leg (cond (deepens a) (up_leg a) (cond (deepens b) (up_leg b) (up_leg c)))
  three_up a b c g = by (deepens a) (deepens b) refl refl
    where
      by : (x y : Bool) → deepens a ≡ x → deepens b ≡ y → on_walk (cond x a (cond y b c)) ≡ on_leg (cond x (up_leg a) (cond y (up_leg b) (up_leg c)))
      by true y e h = walk_up a (below_of _ _ k e)
      by false true e h = walk_up b (below_of _ _ k h)
      by false false e h = walk_up c (below_of _ _ k (g e h))

  three_down : (a b c : Walk) → (shoals a ≡ false → shoals b ≡ false → shoals c ≡ true) → on_walk (cond (shoals a) a (cond (shoals b) b c)) ≡ on_leg (cond (shoals a) (down_leg a) (cond (shoals b) (down_leg b) (down_leg c)))
  three_down a b c g = by (shoals a) (shoals b) refl refl
    where
      by : (x y : Bool) → shoals a ≡ x → shoals b ≡ y → on_walk (cond x a (cond y b c)) ≡ on_leg (cond x (down_leg a) (cond y (down_leg b) (down_leg c)))
      by true y e h = walk_down a (above_of _ _ k e)
      by false true e h = walk_down b (above_of _ _ k h)
      by false false e h = walk_down c (above_of _ _ k (g e h))

  abbrev nth_of : {X : Type 0} → X → List X → Corners X
  nth_of d l = record { first = get_or l 0 d; second = get_or l 1 d; third = get_or l 2 d }

  abbrev Crossed : Tri → Corners NodeId → Corners ℕ → Type 0
  Crossed t at bands = min (min bands.first bands.second) bands.third < k → k ≤ max (max bands.first bands.second) bands.third
      → ((chord_ends f t k).a ≡ on_leg (leaving_leg at bands k)) × ((chord_ends f t k).b ≡ on_leg (entering_leg at bands k))

  crossed_from : (n : NodeId) (row col : ℕ) (upper : Bool) → let t : Tri = record { row = row; col = col; upper = upper } in Crossed t (nth_of n (corners t)) (nth_of 0 (map (band_at f) (corners t)))
  crossed_from n row col upper some most = (ends_a upper some most, ends_b upper some most)
    where
      tri : Bool → Tri
      tri u = record { row = row; col = col; upper = u }

      some_of : Bool → Type 0
      some_of u = let b = nth_of 0 (map (band_at f) (corners (tri u))) in min (min b.first b.second) b.third < k

      most_of : Bool → Type 0
      most_of u = let b = nth_of 0 (map (band_at f) (corners (tri u))) in k ≤ max (max b.first b.second) b.third

      walk : ℕ → Bool → Walk
      walk i u = get_or (legs (tri u)) i (record { link = record { way = Across; row = 0; col = 0 }; forward = true })

      ends_a : (u : Bool) → some_of u → most_of u → (chord_ends f (tri u) k).a ≡ on_leg (leaving_leg (nth_of n (corners (tri u))) (nth_of 0 (map (band_at f) (corners (tri u)))) k)
      ends_a true s m = let g = third_leaves _ _ _ k s m in found_back f (tri true) k _ (find_three shoals (walk 0 true) (walk 1 true) (walk 2 true) g) ∙ three_down (walk 0 true) (walk 1 true) (walk 2 true) g
      ends_a false s m = let g = third_leaves _ _ _ k s m in found_back f (tri false) k _ (find_three shoals (walk 0 false) (walk 1 false) (walk 2 false) g) ∙ three_down (walk 0 false) (walk 1 false) (walk 2 false) g

      ends_b : (u : Bool) → some_of u → most_of u → (chord_ends f (tri u) k).b ≡ on_leg (entering_leg (nth_of n (corners (tri u))) (nth_of 0 (map (band_at f) (corners (tri u)))) k)
      ends_b true s m = let g = third_enters _ _ _ k s m in found_at f (tri true) k _ (find_three deepens (walk 0 true) (walk 1 true) (walk 2 true) g) ∙ three_up (walk 0 true) (walk 1 true) (walk 2 true) g
      ends_b false s m = let g = third_enters _ _ _ k s m in found_at f (tri false) k _ (find_three deepens (walk 0 false) (walk 1 false) (walk 2 false) g) ∙ three_up (walk 0 false) (walk 1 false) (walk 2 false) g

  pub chord_crosses : (t : Tri) (at : Corners NodeId) (bands : Corners ℕ) → each_corner at ≡ corners t → each_corner bands ≡ map (band_at f) (corners t) → Crossed t at bands
  chord_crosses t at bands e h = subst (λ l. Crossed t (nth_of at.first l) bands) (sym e) (subst (λ l. Crossed t (nth_of at.first (corners t)) (nth_of 0 l)) (sym h) (crossed_from at.first t.row t.col t.upper))

-- what is known of the legs where level k lies above the least band and no higher than the greatest
pub record LegsKnown (f : Field) (t : Tri) (k : ℕ) (back deeper : Leg) : Type 0 where
  pub back_up : Crosses f k back
  pub deeper_up : Crosses f k deeper
  pub a : (chord_ends f t k).a ≡ on_leg f k back
  pub b : (chord_ends f t k).b ≡ on_leg f k deeper

pub legs_known : (f : Field) (t : Tri) (k : ℕ) (at : Corners NodeId) (bands : Corners ℕ) (back deeper : Leg) → each_corner at ≡ corners t → AreBands f t bands → back ≡ leaving_leg at bands k → deeper ≡ entering_leg at bands k
    → min (min bands.first bands.second) bands.third < k → k ≤ max (max bands.first bands.second) bands.third → LegsKnown f t k back deeper
legs_known f t k at bands back deeper e h i j some most =
    let same : each_corner bands ≡ map (band_at f) (each_corner at) = h.each ∙ ap (map (band_at f)) (sym e) in
    let p : band_at f at.first ≡ bands.first = sym (ap (λ l. get_or l 0 0) same) in
    let q : band_at f at.second ≡ bands.second = sym (ap (λ l. get_or l 1 0) same) in
    let r : band_at f at.third ≡ bands.third = sym (ap (λ l. get_or l 2 0) same) in
    let x = chord_crosses f k t at bands e h.each some most in
    record {
      back_up = subst (Crosses f k) (sym i) (leaves_up f k at bands p q r some most);
      deeper_up = subst (Crosses f k) (sym j) (enters_up f k at bands p q r some most);
      a = x.0 ∙ ap (on_leg f k) (sym i);
      b = x.1 ∙ ap (on_leg f k) (sym j);
    }
