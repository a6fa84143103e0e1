-- The outline of what is deeper than a level in a triangle is closed: legs and chord together fall by nothing.
use Rattle.std.proofs.Common.{◌≡◌, ℕ, ◌<◌, ◌≤◌, min, max, ℤ, pos, ◌+ℤ◌, ◌-ℤ◌, Bool, true, false, cond, not, ◌&&◌, ◌||◌, Option, Some, None, [], ◌∷◌, length, refl, ap, ap₂, ◌∙◌, arith}
use Rattle.std.specs.Prelude.{nat_le, nat_lt, find, fold, map}
use Rattle.std.proofs.lemmas.Bool.Decides.{nat_tests}
use Rattle.std.proofs.lemmas.Int.{ints}
use Rattle.mesh_definitions.specs.Field.{Field, point, band_at}
use Rattle.mesh_definitions.specs.Mesh.{Walk, from, to, legs}
use Rattle.mesh_definitions.specs.Pieces.{chord_ends, enters, leaves, least_band, greatest_band}
use Rattle.mesh_definitions.specs.declared.Tri.{Tri}
use Rattle.mesh_laws.proofs.Depths.{band_few}
use Rattle.mesh_laws.proofs.Legs.{fall, crossed, deep_part, deep_fall}
use Rattle.mesh_laws.proofs.Triangles.{tri}
use Rattle.plane_geom.specs.declared.Point.{Point}
use Rattle.plane_geom.specs.declared.Seg.{Seg}
use Rattle.plane_laws.specs.Borders.{total}

-- a value of the chord of a level, where the triangle has one
abbrev pub chord_value : Field → (Seg → ℤ) → Tri → ℕ → ℤ
chord_value f g t k = cond (nat_lt (least_band f t) k && nat_le k (greatest_band f t)) (g (chord_ends f t k)) (pos 0)

-- what a value of points falls by along it
abbrev pub chord_fall : Field → (Point → ℤ) → Tri → ℕ → ℤ
chord_fall f h t k = chord_value f (fall h) t k

-- where a level crosses a leg that was found
abbrev crossed_on : Field → ℕ → Option Walk → Point
crossed_on f k None = record { x = pos 0; y = pos 0 }
crossed_on f k (Some w) = crossed f w k

-- the first of three that passes
abbrev pub pick : {X : Type 0} → Bool → Bool → Bool → X → X → X → X → X
pick p q r a b c z = cond p a (cond q b (cond r c z))

find_value : {X : Type 0} (v : Option Walk → X) (test : Walk → Bool) (w1 w2 w3 : Walk) → v (find test (w1 ∷ w2 ∷ w3 ∷ [])) ≡ pick (test w1) (test w2) (test w3) (v (Some w1)) (v (Some w2)) (v (Some w3)) (v None)
find_value {X} v test w1 w2 w3 = by (test w1) (test w2) (test w3)
  where
    by : (p q r : Bool) → v (cond p (Some w1) (cond q (Some w2) (cond r (Some w3) None))) ≡ pick p q r (v (Some w1)) (v (Some w2)) (v (Some w3)) (v None)
    by true q r = refl
    by false true r = refl
    by false false true = refl
    by false false false = refl

pick_value : (h : Point → ℤ) (p q r : Bool) (a b c z : Point) → h (pick p q r a b c z) ≡ pick p q r (h a) (h b) (h c) (h z)
pick_value h true q r a b c z = refl
pick_value h false true r a b c z = refl
pick_value h false false true a b c z = refl
pick_value h false false false a b c z = refl

-- ---- tests of three bands

not_reached : (k b : ℕ) → nat_lt b k ≡ not (nat_le k b)
not_reached k b = grind (arith, nat_tests)

does : (k b : ℕ) → nat_le k b ≡ true → k ≤ b
does k b e = grind (arith, nat_tests)

does_not : (k b : ℕ) → nat_le k b ≡ false → b < k
does_not k b e = grind (arith, nat_tests)

le_yes : (k b : ℕ) → k ≤ b → nat_le k b ≡ true
le_yes k b e = grind (arith, nat_tests)

le_no : (k b : ℕ) → b < k → nat_le k b ≡ false
le_no k b e = grind (arith, nat_tests)

-- a level lies above the least of three bands unless it is reached at all
over_least : (k n a b c : ℕ) (x y z : Bool) → a ≤ n → nat_le k a ≡ x → nat_le k b ≡ y → nat_le k c ≡ z → nat_le k (min (min (min n a) b) c) ≡ ((x && y) && z)
over_least k n a b c true true true l e g i = le_yes k (min (min (min n a) b) c) (omega (arith, l, does k a e, does k b g, does k c i))
over_least k n a b c true true false l e g i = le_no k (min (min (min n a) b) c) (omega (arith, does_not k c i))
over_least k n a b c true false z l e g i = le_no k (min (min (min n a) b) c) (omega (arith, does_not k b g))
over_least k n a b c false y z l e g i = le_no k (min (min (min n a) b) c) (omega (arith, does_not k a e))

-- and up to the greatest where it is reached at one
under_greatest : (k a b c : ℕ) (x y z : Bool) → nat_le k a ≡ x → nat_le k b ≡ y → nat_le k c ≡ z → nat_le k (max (max (max 0 a) b) c) ≡ ((x || y) || z)
under_greatest k a b c false false false e g i = le_no k (max (max (max 0 a) b) c) (omega (arith, does_not k a e, does_not k b g, does_not k c i))
under_greatest k a b c true y z e g i = le_yes k (max (max (max 0 a) b) c) (omega (arith, does k a e))
under_greatest k a b c false true z e g i = le_yes k (max (max (max 0 a) b) c) (omega (arith, does k b g))
under_greatest k a b c false false true e g i = le_yes k (max (max (max 0 a) b) c) (omega (arith, does k c i))

-- ---- the sum round a triangle, by which of its nodes reach the level

balance : (x y z : Bool) (p q r a b c n : ℤ) →
    (deep_part x y p q a +ℤ (deep_part y z q r b +ℤ (deep_part z x r p c +ℤ pos 0)))
    +ℤ cond (not ((x && y) && z) && ((x || y) || z)) (pick (x && not y) (y && not z) (z && not x) a b c n -ℤ pick (not x && y) (not y && z) (not z && x) a b c n) (pos 0) ≡ pos 0
balance true true true p q r a b c n = omega (arith, ints)
balance true true false p q r a b c n = omega (arith, ints)
balance true false true p q r a b c n = omega (arith, ints)
balance true false false p q r a b c n = omega (arith, ints)
balance false true true p q r a b c n = omega (arith, ints)
balance false true false p q r a b c n = omega (arith, ints)
balance false false true p q r a b c n = omega (arith, ints)
balance false false false p q r a b c n = omega (arith, ints)

-- no point in particular, where a level isn't crossed
abbrev pub nowhere : Point
nowhere = record { x = pos 0; y = pos 0 }

-- whether a level is reached where a walk begins
abbrev pub reaches : Field → ℕ → Walk → Bool
reaches f k w = nat_le k (band_at f (from w))

module _ (f : Field) (k : ℕ) (t : Tri) (w1 w2 w3 : Walk) (three : legs t ≡ w1 ∷ w2 ∷ w3 ∷ []) (on : to w1 ≡ from w2) (on_again : to w2 ≡ from w3) (round : to w3 ≡ from w1) where
  abbrev down_into : Walk → Walk → Bool
  down_into w next = not (reaches f k w) && reaches f k next

  abbrev up_from : Walk → Walk → Bool
  up_from w next = reaches f k w && not (reaches f k next)

  into_is : (w next : Walk) → to w ≡ from next → (nat_lt (band_at f (from w)) k && nat_le k (band_at f (to w))) ≡ down_into w next
  into_is w next e = ap₂ (λ b n. b && nat_le k (band_at f n)) (not_reached k (band_at f (from w))) e

  from_is : (w next : Walk) → to w ≡ from next → (nat_le k (band_at f (from w)) && nat_lt (band_at f (to w)) k) ≡ up_from w next
  from_is w next e = ap (λ b. reaches f k w && b) (ap (λ n. nat_lt (band_at f n) k) e ∙ not_reached k (band_at f (from next)))

  abbrev pub entry : Point
  entry = pick (down_into w1 w2) (down_into w2 w3) (down_into w3 w1) (crossed f w1 k) (crossed f w2 k) (crossed f w3 k) nowhere

  abbrev pub exit : Point
  exit = pick (up_from w1 w2) (up_from w2 w3) (up_from w3 w1) (crossed f w1 k) (crossed f w2 k) (crossed f w3 k) nowhere

  entered : crossed_on f k (enters f t k) ≡ entry
  entered =
      let test : Walk → Bool = λ w. nat_lt (band_at f (from w)) k && nat_le k (band_at f (to w)) in
      ap (λ ws. crossed_on f k (find test ws)) three
      ∙ (find_value (crossed_on f k) test w1 w2 w3
      ∙ rw (into_is w1 w2 on, into_is w2 w3 on_again, into_is w3 w1 round) refl)

  left_by : crossed_on f k (leaves f t k) ≡ exit
  left_by =
      let test : Walk → Bool = λ w. nat_le k (band_at f (from w)) && nat_lt (band_at f (to w)) k in
      ap (λ ws. crossed_on f k (find test ws)) three
      ∙ (find_value (crossed_on f k) test w1 w2 w3
      ∙ rw (from_is w1 w2 on, from_is w2 w3 on_again, from_is w3 w1 round) refl)

  least_is : nat_lt (least_band f t) k ≡ not ((reaches f k w1 && reaches f k w2) && reaches f k w3)
  least_is =
      not_reached k (least_band f t)
      ∙ ap not (ap (λ ws. nat_le k (fold (λ b n. min b (band_at f n)) (length f.levels) (map from ws))) three
      ∙ over_least k (length f.levels) (band_at f (from w1)) (band_at f (from w2)) (band_at f (from w3)) (reaches f k w1) (reaches f k w2) (reaches f k w3) (band_few f (from w1)) refl refl refl)

  greatest_is : nat_le k (greatest_band f t) ≡ ((reaches f k w1 || reaches f k w2) || reaches f k w3)
  greatest_is =
      ap (λ ws. nat_le k (fold (λ b n. max b (band_at f n)) 0 (map from ws))) three
      ∙ under_greatest k (band_at f (from w1)) (band_at f (from w2)) (band_at f (from w3)) (reaches f k w1) (reaches f k w2) (reaches f k w3) refl refl refl

  -- the chord of a level leads from where the walk round its triangle comes back to where it goes deeper
  pub chord_is : (g : Seg → ℤ) → chord_value f g t k ≡ cond (not ((reaches f k w1 && reaches f k w2) && reaches f k w3) && ((reaches f k w1 || reaches f k w2) || reaches f k w3)) (g (record { a = exit; b = entry })) (pos 0)
  chord_is g =
      ap₂ (λ a b. cond (a && b) (g (chord_ends f t k)) (pos 0)) least_is greatest_is
      ∙ ap₂ (λ a b. cond (not ((reaches f k w1 && reaches f k w2) && reaches f k w3) && ((reaches f k w1 || reaches f k w2) || reaches f k w3)) (g (record { a = a; b = b })) (pos 0)) left_by entered

module _ (f : Field) (h : Point → ℤ) (k : ℕ) (t : Tri) (w1 w2 w3 : Walk) (three : legs t ≡ w1 ∷ w2 ∷ w3 ∷ []) (on : to w1 ≡ from w2) (on_again : to w2 ≡ from w3) (round : to w3 ≡ from w1) where
  abbrev leg : Walk → Walk → ℤ
  leg w next = deep_part (reaches f k w) (reaches f k next) (h (point f (from w))) (h (point f (from next))) (h (crossed f w k))

  leg_is : (w next : Walk) → to w ≡ from next → deep_fall f h w k ≡ leg w next
  leg_is w next e = ap (λ n. deep_part (reaches f k w) (nat_le k (band_at f n)) (h (point f (from w))) (h (point f n)) (h (crossed f w k))) e

  legs_are : total (λ w. deep_fall f h w k) (legs t) ≡ leg w1 w2 +ℤ (leg w2 w3 +ℤ (leg w3 w1 +ℤ pos 0))
  legs_are = ap (total (λ w. deep_fall f h w k)) three ∙ ap₂ ◌+ℤ◌ (leg_is w1 w2 on) (ap₂ ◌+ℤ◌ (leg_is w2 w3 on_again) (ap (λ z. z +ℤ pos 0) (leg_is w3 w1 round)))

  closed_by : total (λ w. deep_fall f h w k) (legs t) +ℤ chord_fall f h t k ≡ pos 0
  closed_by =
      let x = reaches f k w1 in
      let y = reaches f k w2 in
      let z = reaches f k w3 in
      ap₂ ◌+ℤ◌ legs_are (chord_is f k t w1 w2 w3 three on on_again round (fall h)
      ∙ ap₂ (λ a b. cond (not ((x && y) && z) && ((x || y) || z)) (a -ℤ b) (pos 0))
      (pick_value h (x && not y) (y && not z) (z && not x) (crossed f w1 k) (crossed f w2 k) (crossed f w3 k) nowhere)
      (pick_value h (not x && y) (not y && z) (not z && x) (crossed f w1 k) (crossed f w2 k) (crossed f w3 k) nowhere))
      ∙ balance x y z (h (point f (from w1))) (h (point f (from w2))) (h (point f (from w3))) (h (crossed f w1 k)) (h (crossed f w2 k)) (h (crossed f w3 k)) (h nowhere)

pub deep_closed : (f : Field) (h : Point → ℤ) (t : Tri) (k : ℕ) → total (λ w. deep_fall f h w k) (legs t) +ℤ chord_fall f h t k ≡ pos 0
deep_closed f h t k = by t.upper
  where
    by : (u : Bool) → total (λ w. deep_fall f h w k) (legs (tri t.row t.col u)) +ℤ chord_fall f h (tri t.row t.col u) k ≡ pos 0
    by true = closed_by f h k (tri t.row t.col true) _ _ _ refl refl refl refl
    by false = closed_by f h k (tri t.row t.col false) _ _ _ refl refl refl refl
