-- Rings along the outline of an upright rectangle go all the way round it.
use Rattle.std.proofs.Common.{◌≡◌, ◌⊎◌, ⊎_elim, inl, inr, ◌≤◌, ℤ, pos, ◌+ℤ◌, ◌-ℤ◌, ◌*ℤ◌, ◌≤ℤ◌, ◌<ℤ◌, Bool, true, false, cond, ◌&&◌, ◌||◌, List, [], ◌∷◌, ◌++◌, flat_map, take, drop, length, refl, sym, ap, subst, ◌∙◌, arith}
use Rattle.std.specs.Prelude.{int_le, int_lt}
use Rattle.std.proofs.Math.IntN.{*ℤ-zero, zero-*ℤ}
use Rattle.std.proofs.lemmas.Int.{ints}
use Rattle.mesh_definitions.specs.Rings.{IsRing, area_sum, begins}
use Rattle.plane_geom.specs.declared.Point.{Point}
use Rattle.plane_geom.specs.declared.Seg.{Seg}
use Rattle.plane_laws.proofs.Algebra.{ring, V, Add, Sub, Mul, mul_pos}
use Rattle.plane_laws.proofs.Members.{In, in_left, in_right}
use Rattle.plane_laws.proofs.Sums.{total-append, total-map, total-sub}
use Rattle.plane_laws.specs.Borders.{total}

-- ---- segments along the four sides of a rectangle, clockwise

-- along a northern side
pub record Eastwards (w e n : ℤ) (z : Seg) : Type 0 where
  pub begins : z.a.y ≡ n
  pub ends : z.b.y ≡ n
  pub after : w ≤ℤ z.a.x
  pub on : z.a.x <ℤ z.b.x
  pub before : z.b.x ≤ℤ e

-- along an eastern side
pub record Southwards (e s n : ℤ) (z : Seg) : Type 0 where
  pub begins : z.a.x ≡ e
  pub ends : z.b.x ≡ e
  pub after : z.a.y ≤ℤ n
  pub on : z.b.y <ℤ z.a.y
  pub before : s ≤ℤ z.b.y

-- along a southern side
pub record Westwards (w e s : ℤ) (z : Seg) : Type 0 where
  pub begins : z.a.y ≡ s
  pub ends : z.b.y ≡ s
  pub after : z.a.x ≤ℤ e
  pub on : z.b.x <ℤ z.a.x
  pub before : w ≤ℤ z.b.x

-- along a western side
pub record Northwards (w s n : ℤ) (z : Seg) : Type 0 where
  pub begins : z.a.x ≡ w
  pub ends : z.b.x ≡ w
  pub after : s ≤ℤ z.a.y
  pub on : z.a.y <ℤ z.b.y
  pub before : z.b.y ≤ℤ n

-- along one of the four
abbrev pub Runs : ℤ → ℤ → ℤ → ℤ → Seg → Type 0
Runs w e s n z = (Eastwards w e n z ⊎ Southwards e s n z) ⊎ (Westwards w e s z ⊎ Northwards w s n z)

-- whether a point is the north-western corner, of those on the outline
abbrev pub at_corner : ℤ → ℤ → Point → Bool
at_corner w n p = int_le p.x w && int_le n p.y

-- whether a segment ends there
abbrev pub comes : ℤ → ℤ → Seg → Bool
comes w n z = at_corner w n z.b

-- ---- how many of a list pass a test

abbrev pub flag : Bool → ℤ
flag b = cond b (pos 1) (pos 0)

flag_low : (b : Bool) → pos 0 ≤ℤ flag b
flag_low true = omega (arith, ints)
flag_low false = omega (arith, ints)

pub flags_low : {X : Type 0} (p : X → Bool) (xs : List X) → pos 0 ≤ℤ total (λ x. flag (p x)) xs
flags_low p [] = omega (arith, ints)
flags_low p (x ∷ xs) = let a = flag_low (p x) in let b = flags_low p xs in omega (arith, ints, a, b)

pub one_flag : {X : Type 0} (p : X → Bool) (xs : List X) (x : X) → In xs x → p x ≡ true → pos 1 ≤ℤ total (λ x. flag (p x)) xs
one_flag p [] x i e = absurd i
one_flag p (y ∷ xs) x i e = ⊎_elim
    (λ (same : y ≡ x). let f : flag (p y) ≡ pos 1 = ap (λ z. flag (p z)) same ∙ ap flag e in let b = flags_low p xs in omega (arith, ints, f, b))
    (λ j. let a = flag_low (p y) in let b = one_flag p xs x j e in omega (arith, ints, a, b))
    i

-- ---- a ring begins as often at a point as it ends there

rotated : (f : Point → ℤ) (ps : List Point) → total f (drop 1 ps ++ take 1 ps) ≡ total f ps
rotated f [] = refl
rotated f (p ∷ ps) = let e = total-append f ps (p ∷ []) in omega (arith, ints, e)

pub same_ends : (f : Point → ℤ) (zs : List Seg) → IsRing zs → total (λ (z : Seg). f z.b) zs ≡ total (λ (z : Seg). f z.a) zs
same_ends f zs h = sym (total-map f (λ (z : Seg). z.b) zs) ∙ ap (total f) h.closed ∙ rotated f (begins zs) ∙ total-map f (λ (z : Seg). z.a) zs

module _ (w e s n : ℤ) (wide : w <ℤ e) (high : s <ℤ n) where
  -- ---- how far a point lies along the outline from its north-western corner

  -- on the southern or on the western side, but at no end of the northern or of the eastern one
  abbrev lower : Point → Bool
  lower p = (int_le p.y s && int_lt p.x e) || (int_le p.x w && int_lt p.y n)

  abbrev far_by : Bool → Point → ℤ
  far_by b p = cond b (((e -ℤ s) +ℤ (e -ℤ s)) -ℤ (p.x -ℤ p.y)) (p.x -ℤ p.y)

  abbrev far : Point → ℤ
  far p = far_by (lower p) p

  lower_north : (x y : ℤ) → y ≡ n → ((int_le y s && int_lt x e) || (int_le x w && int_lt y n)) ≡ false
  lower_north x y k = grind (arith, ints, k, high)

  lower_east : (x y : ℤ) → x ≡ e → ((int_le y s && int_lt x e) || (int_le x w && int_lt y n)) ≡ false
  lower_east x y k = grind (arith, ints, k, wide)

  lower_south : (x y : ℤ) → y ≡ s → x <ℤ e → ((int_le y s && int_lt x e) || (int_le x w && int_lt y n)) ≡ true
  lower_south x y k l = grind (arith, ints, k, l)

  lower_west : (x y : ℤ) → x ≡ w → y <ℤ n → ((int_le y s && int_lt x e) || (int_le x w && int_lt y n)) ≡ true
  lower_west x y k l = grind (arith, ints, k, l)

  short_of : (x y : ℤ) → x ≡ w → y ≤ℤ n → (int_le x w && int_le n y) ≡ false → y <ℤ n
  short_of x y k l t = grind (arith, ints, k, l, t)

  far_is : (p : Point) (b : Bool) → lower p ≡ b → far p ≡ far_by b p
  far_is p b k = ap (λ c. far_by c p) k

  -- a segment leads on along it, unless it ends at the corner
  leads_on : (z : Seg) → Runs w e s n z → at_corner w n z.b ≡ false → (far z.a +ℤ pos 1) ≤ℤ far z.b
  leads_on z r t = ⊎_elim (λ k. ⊎_elim north east k) (λ k. ⊎_elim south west k) r
    where
      north : Eastwards w e n z → (far z.a +ℤ pos 1) ≤ℤ far z.b
      north h =
          let a = far_is z.a false (lower_north z.a.x z.a.y h.begins) in
          let b = far_is z.b false (lower_north z.b.x z.b.y h.ends) in
          omega (arith, ints, a, b, h.begins, h.ends, h.on)

      east : Southwards e s n z → (far z.a +ℤ pos 1) ≤ℤ far z.b
      east h =
          let a = far_is z.a false (lower_east z.a.x z.a.y h.begins) in
          let b = far_is z.b false (lower_east z.b.x z.b.y h.ends) in
          omega (arith, ints, a, b, h.begins, h.ends, h.on)

      south : Westwards w e s z → (far z.a +ℤ pos 1) ≤ℤ far z.b
      south h =
          let less : z.b.x <ℤ e = omega (arith, ints, h.on, h.after) in
          let b = far_is z.b true (lower_south z.b.x z.b.y h.ends less) in
          by b less (lower z.a) refl
        where
          by : far z.b ≡ far_by true z.b → z.b.x <ℤ e → (c : Bool) → lower z.a ≡ c → (far z.a +ℤ pos 1) ≤ℤ far z.b
          by b less true k = let a = far_is z.a true k in omega (arith, ints, a, b, h.begins, h.ends, h.on)
          by b less false k = let a = far_is z.a false k in omega (arith, ints, a, b, h.begins, h.ends, h.on, h.after, less)

      west : Northwards w s n z → (far z.a +ℤ pos 1) ≤ℤ far z.b
      west h =
          let less : z.b.y <ℤ n = short_of z.b.x z.b.y h.ends h.before t in
          let a = far_is z.a true (lower_west z.a.x z.a.y h.begins (omega (arith, ints, h.on, less))) in
          let b = far_is z.b true (lower_west z.b.x z.b.y h.ends less) in
          omega (arith, ints, a, b, h.begins, h.ends, h.on)

  -- so a ring has a segment that ends at the corner
  abbrev Ends : List Seg → Type 0
  Ends zs = (z : Seg) × In zs z × (at_corner w n z.b ≡ true)

  ends_or_not : (zs : List Seg) → ((z : Seg) → In zs z → Runs w e s n z) → Ends zs ⊎ ((total (λ (z : Seg). far z.a) zs +ℤ pos (length zs)) ≤ℤ total (λ (z : Seg). far z.b) zs)
  ends_or_not [] h = inr (omega (arith, ints))
  ends_or_not (z ∷ zs) h = by (at_corner w n z.b) refl (ends_or_not zs (λ y i. h y (inr i)))
    where
      by : (c : Bool) → at_corner w n z.b ≡ c → Ends zs ⊎ ((total (λ (z : Seg). far z.a) zs +ℤ pos (length zs)) ≤ℤ total (λ (z : Seg). far z.b) zs) → Ends (z ∷ zs) ⊎ ((total (λ (z : Seg). far z.a) (z ∷ zs) +ℤ pos (length (z ∷ zs))) ≤ℤ total (λ (z : Seg). far z.b) (z ∷ zs))
      by true k rest = inl (z, inl refl, k)
      by false k rest = ⊎_elim
          (λ a. inl (a.0, inr a.1, a.2))
          (λ l. let m = leads_on z (h z (inl refl)) k in inr (omega (arith, ints, l, m)))
          rest

  comes_round : (zs : List Seg) → ((z : Seg) → In zs z → Runs w e s n z) → IsRing zs → Ends zs
  comes_round zs h r = ⊎_elim
      (λ a. a)
      (λ l. let k = same_ends far zs r in let m = r.some in absurd (omega (arith, ints, k, l, m)))
      (ends_or_not zs h)

  -- ---- rings that share the outline

  once_each : (zs : List Seg) → ((z : Seg) → In zs z → Runs w e s n z) → IsRing zs → pos 1 ≤ℤ total (λ z. flag (comes w n z)) zs
  once_each zs h r = let k = comes_round zs h r in one_flag (comes w n) zs k.0 k.1 k.2

  -- rings whose segments run along the outline, of which at most one ends at the corner, are at most one
  pub one_at_most : (rings : List (List Seg)) → ((ring : List Seg) → In rings ring → IsRing ring) → ((z : Seg) → In (flat_map (λ ring. ring) rings) z → Runs w e s n z) → total (λ z. flag (comes w n z)) (flat_map (λ ring. ring) rings) ≤ℤ pos 1 → length rings ≤ 1
  one_at_most [] c h l = omega arith
  one_at_most (r ∷ []) c h l = omega arith
  one_at_most (r ∷ q ∷ rings) c h l =
      let rest = flat_map (λ ring. ring) rings in
      let a = once_each r (λ z i. h z (in_left r (q ++ rest) z i)) (c r (inl refl)) in
      let b = once_each q (λ z i. h z (in_right r (q ++ rest) z (in_left q rest z i))) (c q (inr (inl refl))) in
      let d = flags_low (comes w n) rest in
      let f = total-append (λ z. flag (comes w n z)) r (q ++ rest) in
      let g = total-append (λ z. flag (comes w n z)) q rest in
      absurd (omega (arith, ints, a, b, d, f, g, l))

  -- ---- the area within

  abbrev part_of : Seg → ℤ
  part_of z = (z.b.x -ℤ z.a.x) *ℤ (z.b.y +ℤ z.a.y)

  abbrev level : Point → ℤ
  level p = (s +ℤ s) *ℤ p.x

  abbrev above : Seg → ℤ
  above z = part_of z -ℤ (level z.b -ℤ level z.a)

  above_is : (z : Seg) → above z ≡ (z.b.x -ℤ z.a.x) *ℤ ((z.b.y +ℤ z.a.y) -ℤ (s +ℤ s))
  above_is z = ring
      (Sub (Mul (Sub (V z.b.x) (V z.a.x)) (Add (V z.b.y) (V z.a.y))) (Sub (Mul (Add (V s) (V s)) (V z.b.x)) (Mul (Add (V s) (V s)) (V z.a.x))))
      (Mul (Sub (V z.b.x) (V z.a.x)) (Sub (Add (V z.b.y) (V z.a.y)) (Add (V s) (V s))))
      (omega arith)

  some_above : (z : Seg) → Eastwards w e n z → pos 1 ≤ℤ above z
  some_above z h =
      let a = above_is z in
      let b = mul_pos (z.b.x -ℤ z.a.x) ((z.b.y +ℤ z.a.y) -ℤ (s +ℤ s)) (omega (arith, ints, h.on)) (omega (arith, ints, h.begins, h.ends, high)) in
      omega (arith, ints, a, b)

  none_below : (z : Seg) → Runs w e s n z → pos 0 ≤ℤ above z
  none_below z r = ⊎_elim (λ k. ⊎_elim north east k) (λ k. ⊎_elim south west k) r
    where
      upright : z.b.x -ℤ z.a.x ≡ pos 0 → pos 0 ≤ℤ above z
      upright k = let a = above_is z in let b : above z ≡ pos 0 = a ∙ ap (λ x. x *ℤ ((z.b.y +ℤ z.a.y) -ℤ (s +ℤ s))) k ∙ zero-*ℤ ((z.b.y +ℤ z.a.y) -ℤ (s +ℤ s)) in omega (arith, ints, b)

      north : Eastwards w e n z → pos 0 ≤ℤ above z
      north h = let a = some_above z h in omega (arith, ints, a)

      east : Southwards e s n z → pos 0 ≤ℤ above z
      east h = upright (omega (arith, ints, h.begins, h.ends))

      south : Westwards w e s z → pos 0 ≤ℤ above z
      south h =
          let k : (z.b.y +ℤ z.a.y) -ℤ (s +ℤ s) ≡ pos 0 = omega (arith, ints, h.begins, h.ends) in
          let b : above z ≡ pos 0 = above_is z ∙ ap (λ x. (z.b.x -ℤ z.a.x) *ℤ x) k ∙ *ℤ-zero (z.b.x -ℤ z.a.x) in
          omega (arith, ints, b)

      west : Northwards w s n z → pos 0 ≤ℤ above z
      west h = upright (omega (arith, ints, h.begins, h.ends))

  all_above : (zs : List Seg) → ((z : Seg) → In zs z → Runs w e s n z) → pos 0 ≤ℤ total above zs
  all_above [] h = omega (arith, ints)
  all_above (z ∷ zs) h = let a = none_below z (h z (inl refl)) in let b = all_above zs (λ y i. h y (inr i)) in omega (arith, ints, a, b)

  one_above : (zs : List Seg) (z : Seg) → ((z : Seg) → In zs z → Runs w e s n z) → In zs z → Eastwards w e n z → pos 1 ≤ℤ total above zs
  one_above [] z h i k = absurd i
  one_above (y ∷ zs) z h i k = ⊎_elim
      (λ (same : y ≡ z). let a = some_above y (subst (Eastwards w e n) (sym same) k) in let b = all_above zs (λ y i. h y (inr i)) in omega (arith, ints, a, b))
      (λ j. let a = none_below y (h y (inl refl)) in let b = one_above zs z (λ y i. h y (inr i)) j k in omega (arith, ints, a, b))
      i

  -- a ring that runs along the northern side is exterior
  pub some_area : (zs : List Seg) (z : Seg) → IsRing zs → ((z : Seg) → In zs z → Runs w e s n z) → In zs z → Eastwards w e n z → pos 0 <ℤ area_sum zs
  some_area zs z r h i k =
      let a = one_above zs z h i k in
      let b = total-sub part_of (λ (z : Seg). level z.b -ℤ level z.a) zs in
      let c = total-sub (λ (z : Seg). level z.b) (λ (z : Seg). level z.a) zs in
      let d = same_ends level zs r in
      omega (arith, ints, a, b, c, d)

  -- only a segment of the western side ends at the corner
  pub only_north : (z : Seg) → Runs w e s n z → at_corner w n z.b ≡ true → Northwards w s n z
  only_north z r t = ⊎_elim (λ k. absurd (⊎_elim north east k)) (λ k. ⊎_elim (λ h. absurd (south h)) (λ h. h) k) r
    where
      north : Eastwards w e n z → ⊥
      north h = let g : z.b.x ≤ℤ w = grind (arith, ints, t) in omega (arith, ints, g, h.after, h.on)

      east : Southwards e s n z → ⊥
      east h = let g : z.b.x ≤ℤ w = grind (arith, ints, t) in omega (arith, ints, g, h.ends, wide)

      south : Westwards w e s z → ⊥
      south h = let g : n ≤ℤ z.b.y = grind (arith, ints, t) in omega (arith, ints, g, h.ends, high)
