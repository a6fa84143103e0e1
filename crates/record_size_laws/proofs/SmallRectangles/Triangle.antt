-- How many steps have one piece of a triangle on the right.
use Rattle.std.proofs.Common.{◌≡◌, ℕ, ◌+◌, ◌-◌, ◌≤◌, ℤ, pos, ◌+ℤ◌, ◌≤ℤ◌, Bool, true, false, cond, ◌&&◌, eqb, List, length, refl, ap, ap₂, sym, ◌∙◌, subst, arith}
use Rattle.std.proofs.lemmas.Bool.Decides.{nat_tests}
use Rattle.std.proofs.lemmas.Int.{ints}
use Rattle.std.specs.List.{range_with_len}
use Rattle.mesh_definitions.specs.Field.{Field}
use Rattle.mesh_definitions.specs.Mesh.{Walk, first, second, legs, surveyed}
use Rattle.mesh_definitions.specs.Pieces.{mesh_of, part_bands, chord_levels, least_band, greatest_band}
use Rattle.mesh_definitions.specs.declared.Rect.{Rect}
use Rattle.mesh_definitions.specs.declared.Sub.TheVariants.{Chord}
use Rattle.mesh_definitions.specs.declared.Tri.{Tri}
use Rattle.mesh_definitions.specs.declared.Way.TheVariants.{Across, Down, Slant}
use Rattle.mesh_laws.proofs.Places.{in_range_low}
use Rattle.mesh_laws.proofs.Shares.{both_ways, leg_share, chord_share, no_chords, of_subs}
use Rattle.mesh_laws.proofs.Triangles.{tri, walk, tri_self, IsCell}
use Rattle.plane_geom.specs.declared.Seg.{Seg}
use Rattle.plane_laws.specs.Borders.{total}
use Rattle.plane_laws.proofs.Sums.{total_agree, total-add}
use Rattle.record_size_laws.proofs.SmallRectangles.Bounds.{once_in, all_in}
use Rattle.record_size_laws.proofs.SmallRectangles.Parts.{has_data, most_parts, parts_few}

-- each segment counts 1
abbrev pub one : Seg → ℤ
one s = pos 1

-- bounds of the three legs of a triangle add up
three : {x y z a b c : ℤ} → x ≤ℤ a → y ≤ℤ b → z ≤ℤ c → (x +ℤ (y +ℤ (z +ℤ pos 0))) ≤ℤ (a +ℤ (b +ℤ c))
three p q s = omega (arith, ints, p, q, s)

three_ones : (i j : ℕ) (u : Bool) (g : Walk → ℤ) → ((w : Walk) → g w ≤ℤ pos 1) → total g (legs (tri i j u)) ≤ℤ pos 3
three_ones i j true g h = three (h (walk Across i j true)) (h (walk Slant i j false)) (h (walk Down i j false))
three_ones i j false g h = three (h (walk Slant i j true)) (h (walk Down i (j + 1) true)) (h (walk Across (i + 1) j false))

-- where one of three nodes has no data, two of the links between them have one part
two_short : (a b c : Bool) → (a && (b && (c && true))) ≡ false → (most_parts a b + (most_parts b c + most_parts a c)) ≤ 23
two_short true true true e = absurd (cc (e))
two_short true true false e = omega arith
two_short true false true e = omega arith
two_short true false false e = omega arith
two_short false true true e = omega arith
two_short false true false e = omega arith
two_short false false true e = omega arith
two_short false false false e = omega arith

turned_about : (b c : Bool) → most_parts b c ≡ most_parts c b
turned_about true true = refl
turned_about true false = refl
turned_about false true = refl
turned_about false false = refl

sum_short : {x y z : ℤ} (a b c : ℕ) → x ≤ℤ pos a → y ≤ℤ pos b → z ≤ℤ pos c → (a + (b + c)) ≤ 23 → (x +ℤ (y +ℤ (z +ℤ pos 0))) ≤ℤ pos 23
sum_short a b c p q s l = omega (arith, ints, p, q, s, l)

module _ (f : Field) (few : length f.levels ≤ 20) where
  abbrev most : Walk → ℕ
  most w = most_parts (has_data f (first w.link)) (has_data f (second w.link))

  abbrev node : ℕ → ℕ → Bool
  node i j = has_data f (record { row = i; col = j })

  -- the legs of an unsurveyed triangle have at most 23 parts together
  open_legs : (i j : ℕ) (u : Bool) (g : Walk → ℤ) → ((w : Walk) → g w ≤ℤ pos (most w)) → surveyed f (tri i j u) ≡ false → total g (legs (tri i j u)) ≤ℤ pos 23
  open_legs i j true g h e =
      let a = node i j in
      let b = node i (j + 1) in
      let c = node (i + 1) j in
      sum_short (most_parts a b) (most_parts c b) (most_parts a c) (h (walk Across i j true)) (h (walk Slant i j false)) (h (walk Down i j false)) (subst (λ n. (most_parts a b + (n + most_parts a c)) ≤ 23) (turned_about b c) (two_short a b c e))
  open_legs i j false g h e =
      let a = node (i + 1) j in
      let b = node i (j + 1) in
      let c = node (i + 1) (j + 1) in
      sum_short (most_parts a b) (most_parts b c) (most_parts a c) (h (walk Slant i j true)) (h (walk Down i (j + 1) true)) (h (walk Across (i + 1) j false)) (two_short a b c e)

  module _ (t : Tri) (b : ℕ) where
    abbrev taken : Bool → List ℕ → ℤ
    taken s ks = total (λ k. cond (eqb b (cond s k 0)) (pos 1) (pos 0)) ks

    -- a leg of a surveyed triangle has at most one part on a piece's side
    surveyed_leg : surveyed f t ≡ true → (w : Walk) → leg_share f one t b w ≤ℤ pos 1
    surveyed_leg e w =
        let k = parts_few f few w.link in
        subst (λ s. taken s (part_bands f w.link) ≤ℤ pos 1) (sym e) (subst (λ ks. taken true ks ≤ℤ pos 1) (sym k.is) (once_in b k.start k.count))

    -- a leg of an unsurveyed triangle has all its parts on the side of one piece
    open_leg : surveyed f t ≡ false → (w : Walk) → leg_share f one t b w ≤ℤ pos (most w)
    open_leg e w =
        let k = parts_few f few w.link in
        let few = k.few in
        let l = all_in (eqb b 0) k.start k.count in
        subst (λ s. taken s (part_bands f w.link) ≤ℤ pos (most w)) (sym e) (subst (λ ks. taken false ks ≤ℤ pos (most w)) (sym k.is) (omega (arith, ints, few, l)))

    module _ (r : Rect) (block : ℕ → ℕ → ℕ) where
      abbrev of_level : ℕ → ℤ
      of_level k = both_ways f r block one t b (Chord t k)

      -- the chord of a piece's own level and that of the next one have the piece on one side
      chord_once : (k : ℕ) → 1 ≤ k → of_level k ≡ cond (eqb b k) (pos 1) (pos 0) +ℤ cond (eqb (b + 1) k) (pos 1) (pos 0)
      chord_once k l =
          ap₂ (λ x y. cond (x && eqb b k) (pos 1) (pos 0) +ℤ cond (y && eqb b (k - 1)) (pos 1) (pos 0)) (tri_self t) (tri_self t)
          ∙ ap (λ x. cond (eqb b k) (pos 1) (pos 0) +ℤ cond x (pos 1) (pos 0)) (let e : eqb b (k - 1) ≡ eqb (b + 1) k = grind (arith, nat_tests) in e)

      -- so at most two chords do
      two_chords : surveyed f t ≡ true → chord_share f r block one t b t ≤ℤ pos 2
      two_chords e =
          let a = least_band f t + 1 in
          let n = greatest_band f t + 1 - a in
          let ks = range_with_len a n in
          let is : chord_levels f t ≡ ks = rw e refl in
          let own = λ (k : ℕ). cond (eqb b k) (pos 1) (pos 0) in
          let next = λ (k : ℕ). cond (eqb (b + 1) k) (pos 1) (pos 0) in
          let sum : chord_share f r block one t b t ≡ total own ks +ℤ total next ks =
          ap (total of_level) is
          ∙ (total_agree of_level (λ k. own k +ℤ next k) ks (λ k i. let l = in_range_low a n k i in chord_once k (omega (arith, l)))
          ∙ total-add own next ks) in
          let p = once_in b a n in
          let q = once_in (b + 1) a n in
          subst (λ z. z ≤ℤ pos 2) (sym sum) (omega (arith, ints, p, q))

      -- legs and chords together
      all_sides : (s : Bool) → surveyed f t ≡ s → (total (leg_share f one t b) (legs t) +ℤ chord_share f r block one t b t) ≤ℤ pos 23
      all_sides true e =
          let p = three_ones t.row t.col t.upper (leg_share f one t b) (surveyed_leg e) in
          let q = two_chords e in
          omega (arith, ints, p, q)
      all_sides false e =
          let p = open_legs t.row t.col t.upper (leg_share f one t b) (open_leg e) e in
          let q = no_chords f r block one t b e in
          omega (arith, ints, p, q)

      -- at most 23 steps have one piece of a triangle on the right
      pub beside_piece : IsCell r t.row t.col → total (both_ways f r block one t b) (mesh_of f r block).subs ≤ℤ pos 23
      beside_piece c = subst (λ z. z ≤ℤ pos 23) (sym (of_subs f r block one t b c)) (all_sides (surveyed f t) refl)
