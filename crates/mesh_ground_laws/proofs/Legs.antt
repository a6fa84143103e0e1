-- The legs of a triangle and their parts: a triangle lies on the right of its legs, and so of each part of them.
use Rattle.std.proofs.Common.{◌≡◌, ⊎_elim, inl, inr, ℕ, zero, suc, ◌+◌, ◌<◌, ℤ, pos, ◌-ℤ◌, ◌*ℤ◌, ◌≤ℤ◌, Bool, true, false, cond, Option, Some, None, [], ◌∷◌, refl, sym, ap, subst, arith}
use Rattle.std.proofs.lemmas.Int.{ints}
use Rattle.mesh_definitions.specs.Field.{Field, IsField, point, node_band}
use Rattle.mesh_definitions.specs.Mesh.{Walk, corners, first, from, has_cell, legs, right_tri, second, to}
use Rattle.mesh_definitions.specs.declared.Rect.{Rect}
use Rattle.mesh_definitions.specs.declared.Tri.{Tri}
use Rattle.mesh_definitions.specs.declared.Way.TheVariants.{Across, Down, Slant}
use Rattle.mesh_definitions.specs.declared.Way.{Way}
use Rattle.depth_grid.specs.declared.node.NodeId.{NodeId}
use Rattle.mesh_counts_laws.proofs.InTriangles.{leg_not_left}
use Rattle.mesh_counts_laws.proofs.Parts.{level_part, part_is}
use Rattle.mesh_counts_laws.proofs.Rounds.{IsLeg, IsRound, graded_back, graded_on, rotated}
use Rattle.mesh_counts_laws.proofs.Slots.{IsGraded}
use Rattle.mesh_counts_laws.proofs.Triangles.{lower_round, upper_round}
use Rattle.mesh_laws.proofs.Depths.{deepens}
use Rattle.mesh_laws.proofs.Legs.{crossed, walked_part}
use Rattle.mesh_laws.proofs.Triangles.{tri, walk}
use Rattle.mesh_lines_laws.proofs.ChordCorners.{of_three, starts, stops}
use Rattle.mesh_lines_laws.proofs.Segments.{NotLeft, nonneg_from_mul}
use Rattle.plane_geom.specs.Geom.{cross_of}
use Rattle.plane_geom.specs.Segments.{turned}
use Rattle.plane_geom.specs.declared.Point.{Point}
use Rattle.plane_geom.specs.declared.Seg.{Seg}
use Rattle.plane_laws.specs.Outlines.{Vector, at, seg}
use Rattle.plane_laws.proofs.Algebra.{Mul, Poly, Sub, V, mul_nonneg, mul_nonpos, nonpos_from_mul, ring}
use Rattle.plane_laws.proofs.Chords.{at_poly, cross_poly}
use Rattle.plane_laws.proofs.Lines.{side_back}
use Rattle.plane_laws.proofs.Members.{In}

-- ---- parts of a line

-- the side of a line through w along e, as the turn from e to the point
abbrev side : Point → Vector → Point → ℤ
side w e z = e.x *ℤ (z.y -ℤ w.y) -ℤ e.y *ℤ (z.x -ℤ w.x)

abbrev side_poly : Point → Vector → Point → Poly
side_poly w e z = Sub (Mul (V e.x) (Sub (V z.y) (V w.y))) (Mul (V e.y) (Sub (V z.x) (V w.x)))

side_whole : (w : Point) (e : Vector) (n : ℤ) (z : Point) → cross_of w (at w e n) z ≡ n *ℤ side w e z
side_whole w e n z = ring (cross_poly (record { px = V w.x; py = V w.y }) (at_poly w e n) (record { px = V z.x; py = V z.y })) (Mul (V n) (side_poly w e z)) (omega arith)

side_part : (w : Point) (e : Vector) (s r : ℤ) (z : Point) → cross_of (at w e s) (at w e r) z ≡ (r -ℤ s) *ℤ side w e z
side_part w e s r z = ring (cross_poly (at_poly w e s) (at_poly w e r) (record { px = V z.x; py = V z.y })) (Mul (Sub (V r) (V s)) (side_poly w e z)) (omega arith)

-- what isn't left of a line isn't left of a part of it
module _ (u v : Point) (place : ℕ → Point) (g : IsGraded u v place) (z : Point) (b : ℕ) where
  abbrev turn : ℤ
  turn = side u g.step z

  abbrev long : ℤ
  long = g.slot (b + 1) -ℤ g.slot b

  not_negative : pos 0 ≤ℤ long
  not_negative = let r = g.rises b in omega (arith, ints, r)

  whole_side : cross_of u v z ≡ g.n *ℤ turn
  whole_side = subst (λ x. cross_of u x z ≡ g.n *ℤ turn) g.end (side_whole u g.step g.n z)

  part_side : cross_of (place b) (place (b + 1)) z ≡ long *ℤ turn
  part_side = subst (λ x. cross_of x (place (b + 1)) z ≡ long *ℤ turn) (sym (g.is b))
      (subst (λ x. cross_of (at u g.step (g.slot b)) x z ≡ long *ℤ turn) (sym (g.is (b + 1))) (side_part u g.step (g.slot b) (g.slot (b + 1)) z))

  part_ahead : NotLeft u v z → NotLeft (place b) (place (b + 1)) z
  part_ahead h =
      let t = nonpos_from_mul g.n turn g.long (subst (λ x. x ≤ℤ pos 0) whole_side h) in
      let x = mul_nonpos long turn not_negative t in
      subst (λ x. x ≤ℤ pos 0) (sym part_side) x

  part_back : NotLeft v u z → NotLeft (place (b + 1)) (place b) z
  part_back h =
      let whole = side_back u v z in
      let back = side_back (place b) (place (b + 1)) z in
      let w = whole_side in
      let s = part_side in
      let t = nonneg_from_mul g.n turn g.long (omega (arith, ints, h, whole, w)) in
      let x = mul_nonneg long turn not_negative t in
      omega (arith, ints, x, back, s)

-- ---- parts of a leg

abbrev nothing : Seg → ℤ
nothing s = pos 0

module _ (f : Field) (h : IsField f) (w : Walk) (leg : IsLeg f h w) (b : ℕ) where
  directed : (P : Seg → Type 0) (forward : Bool) (a c : NodeId) → P (seg (point f (cond forward a c)) (point f (cond forward c a))) → (let s : Seg = seg (point f a) (point f c) in P (cond forward s (turned s)))
  directed P true a c p = p
  directed P false a c p = p

  -- a part is the whole leg, or lies between two levels
  part_by : (P : Seg → Type 0) → P (seg (point f (from w)) (point f (to w))) → P (level_part f nothing w b) → P (walked_part f w b)
  part_by P whole level = by (node_band f (first w.link)) (node_band f (second w.link)) refl refl
    where
      uncut : walked_part f w b ≡ (let s : Seg = seg (point f (first w.link)) (point f (second w.link)) in cond w.forward s (turned s)) → P (walked_part f w b)
      uncut e = subst P (sym e) (directed P w.forward (first w.link) (second w.link) whole)

      by : (x y : Option ℕ) → node_band f (first w.link) ≡ x → node_band f (second w.link) ≡ y → P (walked_part f w b)
      by None y e k = uncut (rw e refl)
      by (Some x) None e k = uncut (rw (e, k) refl)
      by (Some x) (Some y) e k = subst P (sym (part_is f nothing w x y e k b)) level

  level_by : (P : Seg → Type 0) → (deepens f w ≡ true → P (seg (crossed f w b) (crossed f w (b + 1)))) → (deepens f w ≡ false → P (seg (crossed f w (b + 1)) (crossed f w b))) → P (level_part f nothing w b)
  level_by P on back = by (deepens f w) refl
    where
      by : (d : Bool) → deepens f w ≡ d → P (cond d (seg (crossed f w b) (crossed f w (b + 1))) (seg (crossed f w (b + 1)) (crossed f w b)))
      by true d = on d
      by false d = back d

  -- a line that has both ends of a leg not on its left has its parts there
  pub part_not_left : (x y : Point) → NotLeft x y (point f (from w)) → NotLeft x y (point f (to w)) → NotLeft x y (walked_part f w b).a × NotLeft x y (walked_part f w b).b
  part_not_left x y p q =
      let P : Seg → Type 0 = λ s. NotLeft x y s.a × NotLeft x y s.b in
      let at = leg_not_left f h x y w leg p q in
      part_by P (p, q) (level_by P (λ d. (at b, at (b + 1))) (λ d. (at (b + 1), at b)))

  -- what isn't left of a leg isn't left of its parts
  pub beside_part : (z : Point) → NotLeft (point f (from w)) (point f (to w)) z → NotLeft (walked_part f w b).a (walked_part f w b).b z
  beside_part z k =
      let P : Seg → Type 0 = λ s. NotLeft s.a s.b z in
      part_by P k (level_by P
      (λ d. part_ahead (point f (from w)) (point f (to w)) (crossed f w) (graded_on f h w leg d) z b k)
      (λ d. part_back (point f (to w)) (point f (from w)) (crossed f w) (graded_back f h w leg d) z b k))

-- ---- legs of a triangle

found_leg : (r : Rect) (i j : ℕ) (u : Bool) (t : Tri) (w : Walk) → cond (has_cell r i j) (Some (tri i j u)) None ≡ Some t → In (legs (tri i j u)) w → In (legs t) w
found_leg r i j u t w e i_w = by (has_cell r i j) e
  where
    by : (x : Bool) → cond x (Some (tri i j u)) None ≡ Some t → In (legs t) w
    by true k = let s : tri i j u ≡ t = cc (k) in subst (λ v. In (legs v) w) s i_w
    by false k = absurd (cc (k))

-- a walked link is a leg of the triangle on its right
pub leg_there : (r : Rect) (way : Way) (i j : ℕ) (forward : Bool) (t : Tri) → right_tri r (walk way i j forward) ≡ Some t → In (legs t) (walk way i j forward)
leg_there r Across i j true t e = found_leg r i j true t (walk Across i j true) e (inl refl)
leg_there r Across zero j false t e = absurd (cc (e))
leg_there r Across (suc i) j false t e = found_leg r i j false t (walk Across (suc i) j false) e (inr (inr (inl (ap (λ n. walk Across n j false) (omega arith)))))
leg_there r Down i zero true t e = absurd (cc (e))
leg_there r Down i (suc j) true t e = found_leg r i j false t (walk Down i (suc j) true) e (inr (inl (ap (λ n. walk Down i n true) (omega arith))))
leg_there r Down i j false t e = found_leg r i j true t (walk Down i j false) e (inr (inr (inl refl)))
leg_there r Slant i j true t e = found_leg r i j false t (walk Slant i j true) e (inl refl)
leg_there r Slant i j false t e = found_leg r i j true t (walk Slant i j false) e (inr (inl refl))

module _ (f : Field) (h : IsField f) where
  -- no node of these is left of a walk
  abbrev Beside : Walk → NodeId → NodeId → NodeId → Type 0
  Beside w p q r = (n : NodeId) → In (p ∷ q ∷ r ∷ []) n → NotLeft (point f (from w)) (point f (to w)) (point f n)

  first_beside : (w1 w2 w3 : Walk) → IsRound f h w1 w2 w3 → Beside w1 (from w1) (from w2) (from w3)
  first_beside w1 w2 w3 c n i =
      let a = point f (from w1) in
      let b = point f (from w2) in
      let x = starts a b in
      let y = stops a b in
      subst (λ m. NotLeft a (point f m) (point f n)) (sym c.on)
      (of_three i
      (λ e. subst (λ m. NotLeft a b (point f m)) e (omega (arith, ints, x)))
      (λ e. subst (λ m. NotLeft a b (point f m)) e (omega (arith, ints, y)))
      (λ e. subst (λ m. NotLeft a b (point f m)) e c.turns))

  turned_beside : (w : Walk) (p q r : NodeId) → Beside w q r p → Beside w p q r
  turned_beside w p q r k n i = k n (of_three i (λ e. inr (inr (inl e))) (λ e. inl e) (λ e. inr (inl e)))

  each_leg : (w1 w2 w3 : Walk) → IsRound f h w1 w2 w3 → (w : Walk) → In (w1 ∷ w2 ∷ w3 ∷ []) w → IsLeg f h w × Beside w (from w1) (from w2) (from w3)
  each_leg w1 w2 w3 c w i =
      let P : Walk → Type 0 = λ v. IsLeg f h v × Beside v (from w1) (from w2) (from w3) in
      let c2 = rotated f h w1 w2 w3 c in
      let c3 = rotated f h w2 w3 w1 c2 in
      ⊎_elim
      (λ e. subst P e (c.leg_first, first_beside w1 w2 w3 c))
      (λ j. ⊎_elim
      (λ e. subst P e (c.leg_second, turned_beside w2 (from w1) (from w2) (from w3) (first_beside w2 w3 w1 c2)))
      (λ k. ⊎_elim
      (λ e. subst P e (c.leg_third, turned_beside w3 (from w1) (from w2) (from w3) (turned_beside w3 (from w2) (from w3) (from w1) (first_beside w3 w1 w2 c3))))
      (λ none. absurd none) k) j) i

  abbrev LegsBeside : Tri → Type 0
  LegsBeside t = (w : Walk) → In (legs t) w → IsLeg f h w × ((n : NodeId) → In (corners t) n → NotLeft (point f (from w)) (point f (to w)) (point f n))

  half_beside : (i j : ℕ) → i + 1 < f.rows → j + 1 < f.cols → (u : Bool) → LegsBeside (tri i j u)
  half_beside i j a b true w there = each_leg (walk Across i j true) (walk Slant i j false) (walk Down i j false) (upper_round f h i j a b) w there
  half_beside i j a b false w there = each_leg (walk Slant i j true) (walk Down i (j + 1) true) (walk Across (i + 1) j false) (lower_round f h i j a b) w there

  -- no corner of a triangle lies left of one of its legs
  pub legs_beside : (t : Tri) → t.row + 1 < f.rows → t.col + 1 < f.cols → LegsBeside t
  legs_beside t a b = half_beside t.row t.col a b t.upper
