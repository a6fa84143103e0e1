-- Two rings of a joined face aren't both exterior.
use Rattle.std.proofs.Common.{◌≡◌, ◌≢◌, ◌⊎◌, ⊎_elim, inl, inr, ℕ, ℤ, pos, ◌+ℤ◌, ◌-ℤ◌, ◌*ℤ◌, neg_ℤ, ◌≤ℤ◌, ◌<ℤ◌, Bool, true, false, not, ◌&&◌, eqb, Option, Some, None, List, [], ◌∷◌, map, Contains, refl, sym, ap, ap₂, subst, ◌∙◌, arith}
use Rattle.std.specs.Prelude.{int_lt}
use Rattle.std.proofs.lemmas.Bool.Decides.{nat_tests}
use Rattle.std.proofs.lemmas.Int.{ints, by_lt_z}
use Rattle.mesh_definitions.specs.Faces.{IsAdjacent, Joined, NumbersFaces, borders, boundary, steps_of}
use Rattle.mesh_definitions.specs.Faces.Joined.{Here, Over}
use Rattle.mesh_definitions.specs.Pieces.{Mesh, ahead, back, left_of, walked}
use Rattle.mesh_definitions.specs.Rings.{area_sum}
use Rattle.mesh_definitions.specs.declared.Piece.{Piece}
use Rattle.mesh_definitions.specs.declared.Step.{Step}
use Rattle.mesh_definitions.specs.declared.Sub.{Sub as SubSegment}
use Rattle.ring_laws.specs.OneRing.{IsOfFace, IsPlane, LeadsOut, OneIsExterior, value_on}
use Rattle.ring_laws.specs.OneRing.LeadsOut.{Out, Over as On}
use Rattle.ring_laws.proofs.SameMembers.{same_total}
use Rattle.plane_geom.specs.Segments.{turned}
use Rattle.plane_geom.specs.declared.Point.{Point}
use Rattle.plane_geom.specs.declared.Seg.{Seg}
use Rattle.plane_laws.specs.Borders.{steps, total, within}
use Rattle.plane_laws.proofs.Algebra.{ring, V, Add, Sub, Mul, Neg}
use Rattle.plane_laws.proofs.Lists.{distinct_filter, from_append, from_filter, from_map, in_filter}
use Rattle.plane_laws.proofs.Members.{Distinct, In, contains, in_left, in_map, in_right, is_in}
use Rattle.plane_laws.proofs.Sums.{total-map}

-- ---- whether a segment stands in a list

equal_or_not : (a b : ℤ) → (a ≡ b) ⊎ (a ≢ b)
equal_or_not a b = by_lt_z a b (λ l. inr (λ e. omega (arith, ints, l, e))) (λ n. by_lt_z b a (λ l. inr (λ e. omega (arith, ints, l, e))) (λ o. inl (omega (arith, ints, n, o))))

same_or_not : (s z : Seg) → (s ≡ z) ⊎ (s ≢ z)
same_or_not s z = ⊎_elim
    (λ e1. ⊎_elim
    (λ e2. ⊎_elim
    (λ e3. ⊎_elim
    (λ e4. inl (let p : s.a ≡ z.a = ap₂ (λ x y. let q : Point = record { x = x; y = y } in q) e1 e2 in let r : s.b ≡ z.b = ap₂ (λ x y. let q : Point = record { x = x; y = y } in q) e3 e4 in ap₂ (λ x y. let q : Seg = record { a = x; b = y } in q) p r))
    (λ n. inr (λ e. n (ap (λ (q : Seg). q.b.y) e)))
    (equal_or_not s.b.y z.b.y))
    (λ n. inr (λ e. n (ap (λ (q : Seg). q.b.x) e)))
    (equal_or_not s.b.x z.b.x))
    (λ n. inr (λ e. n (ap (λ (q : Seg). q.a.y) e)))
    (equal_or_not s.a.y z.a.y))
    (λ n. inr (λ e. n (ap (λ (q : Seg). q.a.x) e)))
    (equal_or_not s.a.x z.a.x)

in_or_not : (segs : List Seg) (z : Seg) → In segs z ⊎ (In segs z → ⊥)
in_or_not [] z = inr (λ i. i)
in_or_not (s ∷ segs) z = ⊎_elim
    (λ (e : s ≡ z). inl (inl e))
    (λ n. ⊎_elim (λ i. inl (inr i)) (λ o. inr (λ i. ⊎_elim (λ (e : s ≡ z). n e) (λ j. o j) i)) (in_or_not segs z))
    (same_or_not s z)

-- ---- steps

both_true : (x y : Bool) → (x && y) ≡ true → (x ≡ true) × (y ≡ true)
both_true true y e = (refl, e)
both_true false y e = absurd (cc (e))

not_true : (x : Bool) → not x ≡ true → x ≡ false
not_true true e = absurd (cc (e))
not_true false e = refl

some_of : {X : Type 0} (F : X → Bool) (o : Option X) → within F o ≡ true → (x : X) × (o ≡ Some x) × (F x ≡ true)
some_of F None e = absurd (cc (e))
some_of F (Some x) e = (x, refl, e)

back_twice : (s : Step) → back (back s) ≡ s
back_twice s = go s.sub s.forward
  where
    go : (u : SubSegment) (b : Bool) → back (back (record { sub = u; forward = b })) ≡ record { sub = u; forward = b }
    go u true = refl
    go u false = refl

sub_of : (m : Mesh) (s : Step) → In (steps_of m) s → In m.subs s.sub
sub_of m s i = ⊎_elim
    (λ j. let k = from_map ahead m.subs s j in subst (In m.subs) (ap (λ z. z.sub) k.2) k.1)
    (λ j. let k = from_map back (map ahead m.subs) s j in let l = from_map ahead m.subs k.0 k.1 in subst (In m.subs) (ap (λ z. z.sub) l.2 ∙ ap (λ z. z.sub) k.2) l.1)
    (from_append (map ahead m.subs) (map back (map ahead m.subs)) s i)

listed : (m : Mesh) (u : SubSegment) (forward : Bool) → In m.subs u → In (steps_of m) (record { sub = u; forward = forward })
listed m u true i = in_left (map ahead m.subs) (map back (map ahead m.subs)) (ahead u) (in_map ahead m.subs u i)
listed m u false i = in_right (map ahead m.subs) (map back (map ahead m.subs)) (back (ahead u)) (in_map back (map ahead m.subs) (ahead u) (in_map ahead m.subs u i))

back_in : (m : Mesh) (s : Step) → In (steps_of m) s → In (steps_of m) (back s)
back_in m s i = listed m s.sub (not s.forward) (sub_of m s i)

left_back : (m : Mesh) (s : Step) → left_of m (back s) ≡ m.right_of s
left_back m s = ap m.right_of (back_twice s)

walked_back : (m : Mesh) (s : Step) → walked m (back s) ≡ turned (walked m s)
walked_back m s = go s.sub s.forward
  where
    go : (u : SubSegment) (b : Bool) → walked m (back (record { sub = u; forward = b })) ≡ turned (walked m (record { sub = u; forward = b }))
    go u true = refl
    go u false = refl

-- a step of a set's boundary, and one that is of it
record OfBoundary (m : Mesh) (G : Piece → Bool) (s : Step) : Type 0 where
  there : In (steps_of m) s
  right : within G (m.right_of s) ≡ true
  left : within G (left_of m s) ≡ false

of_boundary : (m : Mesh) (G : Piece → Bool) (s : Step) → In (boundary m G) s → OfBoundary m G s
of_boundary m G s i =
    let k = from_filter (λ x. within G (m.right_of x) && not (within G (m.right_of (back x)))) (steps (borders m)) s i in
    let b = both_true (within G (m.right_of s)) (not (within G (m.right_of (back s)))) k.1 in
    record { there = k.0; right = b.0; left = not_true (within G (m.right_of (back s))) b.1 }

to_boundary : (m : Mesh) (G : Piece → Bool) (s : Step) → OfBoundary m G s → In (boundary m G) s
to_boundary m G s o = in_filter (λ x. within G (m.right_of x) && not (within G (m.right_of (back x)))) (steps (borders m)) s o.there (ap₂ (λ x y. x && not y) o.right o.left)

-- ---- area sums walked back

abbrev share : Seg → ℤ
share s = (s.b.x -ℤ s.a.x) *ℤ (s.b.y +ℤ s.a.y)

share_back : (s : Seg) → share (turned s) ≡ neg_ℤ (share s)
share_back s = ring (Mul (Sub (V s.a.x) (V s.b.x)) (Add (V s.a.y) (V s.b.y))) (Neg (Mul (Sub (V s.b.x) (V s.a.x)) (Add (V s.b.y) (V s.a.y)))) (omega arith)

opposite_total : {X : Type 0} (f g : X → ℤ) → ((x : X) → f x ≡ neg_ℤ (g x)) → (xs : List X) → total f xs ≡ neg_ℤ (total g xs)
opposite_total f g h [] = refl
opposite_total f g h (x ∷ xs) = let e = h x in let k = opposite_total f g h xs in omega (arith, ints, e, k)

module _ (m : Mesh) (plane : IsPlane m) where
  abbrev mirrored : Step → Seg
  mirrored b = walked m (back b)

  area_back : (bs : List Step) → area_sum (map mirrored bs) ≡ neg_ℤ (area_sum (map (walked m) bs))
  area_back bs =
      total-map share mirrored bs
      ∙ (opposite_total (λ b. share (mirrored b)) (λ b. share (walked m b)) (λ b. ap share (walked_back m b) ∙ share_back (walked m b)) bs
      ∙ ap neg_ℤ (sym (total-map share (walked m) bs)))

  not_negative : (G : Piece → Bool) → pos 0 ≤ℤ area_sum (map (walked m) (boundary m G))
  not_negative G = by (boundary m G) refl
    where
      by : (bs : List Step) → boundary m G ≡ bs → pos 0 ≤ℤ area_sum (map (walked m) (boundary m G))
      by [] e = subst (λ xs. pos 0 ≤ℤ area_sum (map (walked m) xs)) (sym e) (omega (arith, ints))
      by (b ∷ bs) e =
          let o = of_boundary m G b (subst (λ xs. In xs b) (sym e) (inl refl)) in
          let q = some_of G (m.right_of b) o.right in
          let l = plane.areas G q.0 (plane.pieces.sides b q.0 (contains (steps_of m) b o.there) q.1) q.2 in
          omega (arith, ints, l)

  -- steps that stand once, each where it does alone
  once_mirrored : (bs : List Step) → ((b : Step) → In bs b → In (steps_of m) b) → Distinct bs → Distinct (map mirrored bs)
  once_mirrored [] h d = tt
  once_mirrored (b ∷ bs) h d = (
    λ i. let k = from_map mirrored bs (mirrored b) i in
        let e : back k.0 ≡ back b = plane.one_step (back k.0) (back b) (back_in m k.0 (h k.0 (inr k.1))) (back_in m b (h b (inl refl))) k.2 in
        let g : k.0 ≡ b = sym (back_twice k.0) ∙ (ap back e ∙ back_twice b) in
        d.0 (subst (In bs) g k.1),
    once_mirrored bs (λ c i. h c (inr i)) d.1,
  )

  -- a ring that runs round a set the other way has no positive area sum
  none_round : (segs : List Seg) (G : Piece → Bool) → Distinct segs → Distinct (boundary m G) → ((z : Seg) → In segs z → (b : Step) × In (boundary m G) b × (mirrored b ≡ z)) → ((b : Step) → In (boundary m G) b → In segs (mirrored b)) → area_sum segs ≤ℤ pos 0
  none_round segs G once steps_once to from =
      let bs = boundary m G in
      let e : area_sum segs ≡ area_sum (map mirrored bs) = same_total share segs (map mirrored bs) once (once_mirrored bs (λ b i. (of_boundary m G b i).there) steps_once)
      (λ z i. let k = to z i in subst (In (map mirrored bs)) k.2 (in_map mirrored bs k.0 k.1))
      (λ z i. let k = from_map mirrored bs z i in subst (In segs) k.2 (from k.0 k.1)) in
      let a = area_back bs in
      let n = not_negative G in
      omega (arith, ints, e, a, n)

  boundary_once : (G : Piece → Bool) → Distinct (boundary m G)
  boundary_once G = distinct_filter (λ x. within G (m.right_of x) && not (within G (m.right_of (back x)))) (steps (borders m)) plane.steps_once

  -- ---- the pieces of a face

  module _ (face : Piece → ℕ) (numbers : NumbersFaces m face) (k : ℕ) where
    abbrev F : Piece → Bool
    F p = eqb (face p) k

    in_face : (p : Piece) → F p ≡ true → face p ≡ k
    in_face p e = grind (arith, nat_tests, e)

    is_in_face : (p : Piece) → face p ≡ k → F p ≡ true
    is_in_face p e = grind (arith, nat_tests, e)

    -- a step between two pieces of the face isn't on its boundary, walked either way
    module _ (ring : List Seg) (of : IsOfFace m face k ring) where
      -- a step of a ring has the face on its right, and not on its left
      step_of_ring : (s : Step) → In (steps_of m) s → In ring (walked m s) → OfBoundary m F s
      step_of_ring s i j =
          let t = of.from (walked m s) j in
          let o = of_boundary m F t.0 t.1 in
          subst (OfBoundary m F) (plane.one_step t.0 s o.there i t.2) o

      within_face : (s : Step) (p q : Piece) → In (steps_of m) s → m.right_of s ≡ Some p → left_of m s ≡ Some q → F p ≡ true → F q ≡ true → (In ring (walked m s) → ⊥) × (In ring (walked m (back s)) → ⊥)
      within_face s p q i r l fp fq = (
        λ j. let o = step_of_ring s i j in let a = o.left in let e : within F (left_of m s) ≡ true = ap (within F) l ∙ fq in absurd (cc (a, e)),
        λ j. let o = step_of_ring (back s) (back_in m s i) j in let a = o.left in let e : within F (left_of m (back s)) ≡ true = ap (within F) (left_back m s ∙ r) ∙ fp in absurd (cc (a, e)),
      )

      abbrev W : Piece → ℤ
      W = of.round.W

      side_in : (s : Step) (p : Piece) → In (steps_of m) s → m.right_of s ≡ Some p → Contains m.pieces p
      side_in s p i r = plane.pieces.sides s p (contains (steps_of m) s i) r

      -- the ring goes round all pieces of the face equally often
      record Same (c : ℤ) (q : Piece) : Type 0 where
        there : Contains m.pieces q
        inside : F q ≡ true
        as_often : W q ≡ c

      same_next : (c : ℤ) (p q : Piece) → IsAdjacent m p q → Same c p → Same c q
      same_next c p q a h =
          let s = a.across in
          let i : In (steps_of m) s = listed m s.sub s.forward (is_in m.subs s.sub a.there) in
          let there : Contains m.pieces q = side_in (back s) q (back_in m s i) a.left in
          let one : face p ≡ face q = (numbers p q h.there there).1 (Over a Here) in
          let inside : F q ≡ true = is_in_face q (sym one ∙ in_face p h.inside) in
          let off = within_face s p q i a.right a.left h.inside inside in
          let e = of.round.stays s i off.0 off.1 in
          let l : W p ≡ W q = subst (λ o. value_on W o ≡ W q) a.right (subst (λ o. value_on W (m.right_of s) ≡ value_on W o) a.left e) in
          record { there = there; inside = inside; as_often = sym l ∙ h.as_often }

      same_all : (c : ℤ) (p q : Piece) → Joined m p q → Same c p → Same c q
      same_all c p q Here h = h
      same_all c p q (Over a j) h = same_all c _ q j (same_next c p _ a h)

      module _ (p : Piece) (there : Contains m.pieces p) (of_face : face p ≡ k) where
        abbrev c : ℤ
        c = W p

        all_same : (q : Piece) → Contains m.pieces q → F q ≡ true → W q ≡ c
        all_same q i e = (same_all c p q ((numbers p q there i).0 (of_face ∙ sym (in_face q e))) (record { there = there; inside = is_in_face p of_face; as_often = refl })).as_often

        -- what lies on the right of a step of the ring
        right_side : (s : Step) → In (steps_of m) s → In ring (walked m s) → (a : Piece) × (m.right_of s ≡ Some a) × (F a ≡ true) × (W a ≡ c)
        right_side s i j =
            let o = step_of_ring s i j in
            let a = some_of F (m.right_of s) o.right in
            (a.0, a.1, a.2, all_same a.0 (side_in s a.0 i a.1) a.2)

        value_right : (s : Step) → In (steps_of m) s → In ring (walked m s) → value_on W (m.right_of s) ≡ c
        value_right s i j = let a = right_side s i j in ap (value_on W) a.1 ∙ a.3

        value_left : (s : Step) → In (steps_of m) s → In ring (walked m s) → value_on W (left_of m s) +ℤ pos 1 ≡ c
        value_left s i j = sym (of.round.crosses s i j) ∙ value_right s i j

        -- one of two neighbouring values
        abbrev Two : ℤ → Type 0
        Two z = (z ≡ c) ⊎ (z +ℤ pos 1 ≡ c)

        over_step : (s : Step) → In (steps_of m) s → (value_on W (m.right_of s) ≡ value_on W (left_of m s)) ⊎ (Two (value_on W (m.right_of s)) × Two (value_on W (left_of m s)))
        over_step s i = ⊎_elim
            (λ j. inr (inl (value_right s i j), inr (value_left s i j)))
            (λ n. ⊎_elim
            (λ j.
            let r = value_right (back s) (back_in m s i) j in
            let l = value_left (back s) (back_in m s i) j in
            inr (inr (subst (λ o. value_on W o +ℤ pos 1 ≡ c) (left_back m s) l), inl r))
            (λ o. inl (of.round.stays s i n o))
            (in_or_not ring (walked m (back s))))
            (in_or_not ring (walked m s))

        abbrev Known : Piece → Type 0
        Known q = (W q ≡ pos 0) ⊎ (Two (W q) × Two (pos 0))

        known : (q : Piece) → LeadsOut m q → Known q
        known q (Out s i r l) = ⊎_elim
            (λ e. inl (subst (λ o. value_on W o ≡ pos 0) r (subst (λ o. value_on W (m.right_of s) ≡ value_on W o) l e)))
            (λ t. inr (subst (λ o. Two (value_on W o)) r t.0, subst (λ o. Two (value_on W o)) l t.1))
            (over_step s i)
        known q (On {r = x} s i r l rest) = ⊎_elim
            (λ e. let g : W q ≡ W x = subst (λ o. value_on W o ≡ W x) r (subst (λ o. value_on W (m.right_of s) ≡ value_on W o) l e) in subst (λ z. (z ≡ pos 0) ⊎ (Two z × Two (pos 0))) (sym g) (known x rest))
            (λ t.
            let one : Two (W q) = subst (λ o. Two (value_on W o)) r t.0 in
            let two : Two (W x) = subst (λ o. Two (value_on W o)) l t.1 in
            inr (one, ⊎_elim (λ e. subst Two e two) (λ z. z.1) (known x rest)))
            (over_step s i)

        -- round the face once or not at all
        once_or_never : (c ≡ pos 0) ⊎ (c ≡ pos 1)
        once_or_never = ⊎_elim
            (λ e. inl e)
            (λ t. ⊎_elim (λ e. inl (sym e)) (λ e. inr (sym e)) t.1)
            (known p (plane.out p there))

        -- and round each piece as often, or once less
        never : c ≡ pos 0 → (q : Piece) → Contains m.pieces q → (W q ≡ pos 0) ⊎ (W q +ℤ pos 1 ≡ pos 0)
        never e q i = ⊎_elim (λ z. inl z) (λ t. ⊎_elim (λ z. inl (z ∙ e)) (λ z. inr (z ∙ e)) t.0) (known q (plane.out q i))

        once_each : c ≡ pos 1 → (q : Piece) → Contains m.pieces q → (W q ≡ pos 0) ⊎ (W q ≡ pos 1)
        once_each e q i = ⊎_elim (λ z. inl z) (λ t. ⊎_elim (λ z. inr (z ∙ e)) (λ z. inl (less (W q) (z ∙ e))) t.0) (known q (plane.out q i))
          where
            less : (z : ℤ) → z +ℤ pos 1 ≡ pos 1 → z ≡ pos 0
            less z e = omega (arith, ints, e)

        -- a ring that never goes round the face isn't exterior
        abbrev Left : Piece → Bool
        Left q = int_lt (W q) (pos 0)

        interior : c ≡ pos 0 → area_sum ring ≤ℤ pos 0
        interior e = none_round ring Left of.once (boundary_once Left) to from
          where
            is_left : (o : Option Piece) → value_on W o +ℤ pos 1 ≡ pos 0 → within Left o ≡ true
            is_left None g = absurd (omega (arith, ints, g))
            is_left (Some q) g = grind (arith, ints, g)

            not_left : (o : Option Piece) → value_on W o ≡ pos 0 → within Left o ≡ false
            not_left None g = refl
            not_left (Some q) g = grind (arith, ints, g)

            from_left : (o : Option Piece) → within Left o ≡ false → ((q : Piece) → o ≡ Some q → Contains m.pieces q) → value_on W o ≡ pos 0
            from_left None g h = refl
            from_left (Some q) g h = ⊎_elim (λ z. z) (λ z. absurd (grind (arith, ints, g, z))) (never e q (h q refl))

            to : (z : Seg) → In ring z → (b : Step) × In (boundary m Left) b × (mirrored b ≡ z)
            to z j =
                let t = of.from z j in
                let o = of_boundary m F t.0 t.1 in
                let i = o.there in
                let w : In ring (walked m t.0) = subst (In ring) (sym t.2) j in
                let r = value_right t.0 i w ∙ e in
                let l = value_left t.0 i w ∙ e in
                (back t.0, to_boundary m Left (back t.0) (record { there = back_in m t.0 i; right = is_left (left_of m t.0) l; left = ap (within Left) (left_back m t.0) ∙ not_left (m.right_of t.0) r }), ap (walked m) (back_twice t.0) ∙ t.2)

            from : (b : Step) → In (boundary m Left) b → In ring (mirrored b)
            from b j =
                let o = of_boundary m Left b j in
                let i = o.there in
                let q = some_of Left (m.right_of b) o.right in
                let l = from_left (left_of m b) o.left (λ x g. side_in (back b) x (back_in m b i) g) in
                let r : value_on W (m.right_of b) ≡ W q.0 = ap (value_on W) q.1 in
                let low = q.2 in
                ⊎_elim
                (λ w. let g = of.round.crosses b i w in absurd (grind (arith, ints, g, l, r, low)))
                (λ n. ⊎_elim
                (λ w. w)
                (λ x. let g = of.round.stays b i n x in absurd (grind (arith, ints, g, l, r, low)))
                (in_or_not ring (walked m (back b))))
                (in_or_not ring (walked m b))

        exterior_once : pos 0 <ℤ area_sum ring → c ≡ pos 1
        exterior_once l = ⊎_elim (λ e. let n = interior e in absurd (omega (arith, ints, n, l))) (λ e. e) once_or_never

-- ---- two rings

positive_test : (z : ℤ) → z ≡ pos 1 → int_lt (pos 0) z ≡ true
positive_test z e = grind (arith, ints, e)

zero_test : (z : ℤ) → z ≡ pos 0 → int_lt (pos 0) z ≡ false
zero_test z e = grind (arith, ints, e)

not_zero : (z : ℤ) → int_lt (pos 0) z ≡ true → z ≡ pos 0 → ⊥
not_zero z e g = grind (arith, ints, e, g)

not_one : (z : ℤ) → int_lt (pos 0) z ≡ false → z ≡ pos 1 → ⊥
not_one z e g = grind (arith, ints, e, g)

module _ (m : Mesh) (plane : IsPlane m) (face : Piece → ℕ) (numbers : NumbersFaces m face) (k : ℕ) (ring other : List Seg) (of : IsOfFace m face k ring) (of' : IsOfFace m face k other) (p : Piece) (there : Contains m.pieces p) (of_face : face p ≡ k) (apart : (z : Seg) → In ring z → In other z → ⊥)
    (one : of.round.W p ≡ pos 1) (one' : of'.round.W p ≡ pos 1) where
  abbrev W1 : Piece → ℤ
  W1 = of.round.W

  abbrev W2 : Piece → ℤ
  W2 = of'.round.W

  -- what the first goes round and the second does not
  abbrev D : Piece → Bool
  D q = int_lt (pos 0) (W1 q) && not (int_lt (pos 0) (W2 q))

  in_d : (q : Piece) → W1 q ≡ pos 1 → W2 q ≡ pos 0 → D q ≡ true
  in_d q e g = ap₂ (λ x y. x && not y) (positive_test (W1 q) e) (zero_test (W2 q) g)

  off_d : (q : Piece) → W2 q ≡ pos 1 → D q ≡ false
  off_d q g = ap (λ y. int_lt (pos 0) (W1 q) && not y) (positive_test (W2 q) g) ∙ none (int_lt (pos 0) (W1 q))
    where
      none : (x : Bool) → (x && false) ≡ false
      none true = refl
      none false = refl

  abbrev Bits : ℤ → Type 0
  Bits z = (z ≡ pos 0) ⊎ (z ≡ pos 1)

  bits : (q : Piece) → Contains m.pieces q → Bits (W1 q)
  bits q i = once_each m plane face numbers k ring of p there of_face one q i

  bits' : (q : Piece) → Contains m.pieces q → Bits (W2 q)
  bits' q i = once_each m plane face numbers k other of' p there of_face one' q i

  from_d : (q : Piece) → Contains m.pieces q → D q ≡ true → (W1 q ≡ pos 1) × (W2 q ≡ pos 0)
  from_d q i e =
      let b = both_true (int_lt (pos 0) (W1 q)) (not (int_lt (pos 0) (W2 q))) e in (
        ⊎_elim (λ z. absurd (not_zero (W1 q) b.0 z)) (λ z. z) (bits q i),
        ⊎_elim (λ z. z) (λ z. absurd (not_one (W2 q) (not_true (int_lt (pos 0) (W2 q)) b.1) z)) (bits' q i),
      )

  -- a piece that the first goes round and that is not of these, the second goes round too
  not_d : (q : Piece) → Contains m.pieces q → D q ≡ false → W1 q ≡ pos 1 → W2 q ≡ pos 1
  not_d q i e v = ⊎_elim (λ z. let g = in_d q v z in absurd (cc (e, g))) (λ z. z) (bits' q i)

  piece_in : (s : Step) → In (steps_of m) s → (q : Piece) → m.right_of s ≡ Some q → Contains m.pieces q
  piece_in s i q r = plane.pieces.sides s q (contains (steps_of m) s i) r

  value_bits : (o : Option Piece) → ((q : Piece) → o ≡ Some q → Contains m.pieces q) → Bits (value_on W1 o)
  value_bits None h = inl refl
  value_bits (Some q) h = bits q (h q refl)

  some_one : (o : Option Piece) → value_on W1 o ≡ pos 1 → (q : Piece) × (o ≡ Some q) × (W1 q ≡ pos 1)
  some_one None e = absurd (omega (arith, ints, e))
  some_one (Some q) e = (q, refl, e)

  -- walked the other way a step of a face's boundary is of no ring of it
  not_back : (segs : List Seg) → IsOfFace m face k segs → (s : Step) → In (steps_of m) s → OfBoundary m (λ q. eqb (face q) k) s → In segs (walked m (back s)) → ⊥
  not_back segs h s i o j =
      let b = step_of_ring m plane face numbers k segs h (back s) (back_in m s i) j in
      let r = b.right in
      let l = o.left in
      cc (r, l)

  to : (z : Seg) → In other z → (b : Step) × In (boundary m D) b × (mirrored m plane b ≡ z)
  to z j =
      let t = of'.from z j in
      let o = of_boundary m (λ q. eqb (face q) k) t.0 t.1 in
      let i = o.there in
      let w : In other (walked m t.0) = subst (In other) (sym t.2) j in
      let a = some_of (λ q. eqb (face q) k) (m.right_of t.0) o.right in
      let inside = piece_in t.0 i a.0 a.1 in
      let v : W1 a.0 ≡ pos 1 = all_same m plane face numbers k ring of p there of_face a.0 inside a.2 ∙ one in
      let w1 : W2 a.0 ≡ pos 1 = all_same m plane face numbers k other of' p there of_face a.0 inside a.2 ∙ one' in
      let off : In ring (walked m t.0) → ⊥ = λ x. apart (walked m t.0) x w in
      let off_back : In ring (walked m (back t.0)) → ⊥ = not_back ring of t.0 i o in
      let e = of.round.stays t.0 i off off_back in
      let l : value_on W1 (left_of m t.0) ≡ pos 1 = sym e ∙ (ap (value_on W1) a.1 ∙ v) in
      let r = some_one (left_of m t.0) l in
      let crossed = of'.round.crosses t.0 i w in
      let w0 : W2 r.0 ≡ pos 0 = let x = ap (value_on W2) a.1 in let y = ap (value_on W2) r.1 in omega (arith, ints, crossed, x, y, w1) in (
        back t.0,
        to_boundary m D (back t.0) (record { there = back_in m t.0 i; right = ap (within D) r.1 ∙ in_d r.0 r.2 w0; left = ap (within D) (left_back m t.0 ∙ a.1) ∙ off_d a.0 w1 }),
        ap (walked m) (back_twice t.0) ∙ t.2,
      )

  from : (b : Step) → In (boundary m D) b → In other (mirrored m plane b)
  from b j =
      let o = of_boundary m D b j in
      let i = o.there in
      let r = some_of D (m.right_of b) o.right in
      let inside = piece_in b i r.0 r.1 in
      let d = from_d r.0 inside r.2 in
      let vr : value_on W1 (m.right_of b) ≡ pos 1 = ap (value_on W1) r.1 ∙ d.0 in
      let wr : value_on W2 (m.right_of b) ≡ pos 0 = ap (value_on W2) r.1 ∙ d.1 in
      let vl = value_bits (left_of m b) (λ q g. piece_in (back b) (back_in m b i) q g) in
      let not_ring : In ring (walked m b) → ⊥ = λ x.
      let a = right_side m plane face numbers k ring of p there of_face b i x in
      let same : r.0 ≡ a.0 = let g = sym r.1 ∙ a.1 in cc (g) in
      let w1 : W2 a.0 ≡ pos 1 = all_same m plane face numbers k other of' p there of_face a.0 (piece_in b i a.0 a.1) a.2 ∙ one' in
      let w0 = d.1 in
      let g = ap W2 same in
      omega (arith, ints, w1, w0, g) in
      let not_ring_back : In ring (walked m (back b)) → ⊥ = λ x.
      let e = of.round.crosses (back b) (back_in m b i) x in
      let g = ap (value_on W1) (left_back m b) in
      ⊎_elim (λ z. omega (arith, ints, e, g, vr, z)) (λ z. omega (arith, ints, e, g, vr, z)) vl in
      let l : value_on W1 (left_of m b) ≡ pos 1 = sym (of.round.stays b i not_ring not_ring_back) ∙ vr in
      let q = some_one (left_of m b) l in
      let left = piece_in (back b) (back_in m b i) q.0 q.1 in
      let w1 : W2 q.0 ≡ pos 1 = not_d q.0 left (ap (within D) (sym q.1) ∙ o.left) q.2 in
      let wl : value_on W2 (left_of m b) ≡ pos 1 = ap (value_on W2) q.1 ∙ w1 in
      ⊎_elim
      (λ x. let e = of'.round.crosses b i x in absurd (omega (arith, ints, e, wr, wl)))
      (λ n. ⊎_elim
      (λ x. x)
      (λ y. let e = of'.round.stays b i n y in absurd (omega (arith, ints, e, wr, wl)))
      (in_or_not other (walked m (back b))))
      (in_or_not other (walked m b))

  other_not_positive : area_sum other ≤ℤ pos 0
  other_not_positive = none_round m plane other D of'.once (boundary_once m plane D) to from

pub one_is_exterior : OneIsExterior
one_is_exterior m face k ring other p plane numbers there of_face of of' apart l l' =
    let one = exterior_once m plane face numbers k ring of p there of_face l in
    let one' = exterior_once m plane face numbers k other of' p there of_face l' in
    let n = other_not_positive m plane face numbers k ring other of of' p there of_face apart one one' in
    omega (arith, ints, n, l')
