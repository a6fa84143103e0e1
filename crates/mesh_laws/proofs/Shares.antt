-- What a value of segments sums up to along the sub-segments of a mesh, walked with one piece on the right: its own legs and chords alone.
use Rattle.std.proofs.Common.{◌≡◌, ◌≢◌, ℕ, ◌+◌, ◌-◌, ◌<◌, ◌≤◌, ℤ, pos, ◌+ℤ◌, ◌-ℤ◌, neg_ℤ, Bool, true, false, cond, not, ◌&&◌, eqb, Option, Some, None, List, [], map, refl, ap, ap₂, sym, ◌∙◌, subst, arith, ⊎_elim}
use Rattle.std.specs.Prelude.{nat_le, nat_lt, flat_map, option_map}
use Rattle.std.proofs.lemmas.Bool.Decides.{nat_tests}
use Rattle.std.proofs.lemmas.Bool.{cases_lt}
use Rattle.std.proofs.lemmas.Int.{ints}
use Rattle.std.specs.List.{range_with_len}
use Rattle.mesh_definitions.specs.Faces.{borders, boundary}
use Rattle.mesh_definitions.specs.Field.{Field}
use Rattle.mesh_definitions.specs.Laws.{WalksBothWays}
use Rattle.mesh_definitions.specs.Mesh.{Walk, legs, right_tri, links, tris, surveyed}
use Rattle.mesh_definitions.specs.Pieces.{mesh_of, ahead, back, walked, same_piece, piece_at, part_bands, chord_levels, chord_ends, least_band, greatest_band}
use Rattle.mesh_definitions.specs.declared.Link.{Link}
use Rattle.mesh_definitions.specs.declared.Piece.{Piece}
use Rattle.mesh_definitions.specs.declared.Rect.{Rect}
use Rattle.mesh_definitions.specs.declared.Step.{Step}
use Rattle.mesh_definitions.specs.declared.Sub.TheVariants.{Part, Chord}
use Rattle.mesh_definitions.specs.declared.Sub.{Sub}
use Rattle.mesh_definitions.specs.declared.Tri.{Tri}
use Rattle.mesh_laws.proofs.Chords.{chord_value}
use Rattle.mesh_laws.proofs.Legs.{walked_part}
use Rattle.mesh_laws.proofs.Listed.{piece, halves}
use Rattle.mesh_laws.proofs.Places.{in_range_low, total-flat_map, total_places, total_range_at, total_range_off}
use Rattle.mesh_laws.proofs.Triangles.{tri, same_tri, tri_is, tri_self, on_right, beside_tri, over_legs, IsCell}
use Rattle.plane_geom.specs.Segments.{turned}
use Rattle.plane_geom.specs.declared.Seg.{Seg}
use Rattle.plane_laws.specs.Borders.{total, within, steps, IsSigned}
use Rattle.plane_laws.specs.SumLaws.{BoundarySum}
use Rattle.plane_laws.proofs.Sums.{total_same, total_agree, total-sub, total-append, total-map, total-add, total-filter, total-zero}

-- a value of segments that is the opposite where a segment is walked back
abbrev pub IsReversed : (Seg → ℤ) → Type 0
IsReversed g = (s : Seg) → g (turned s) ≡ neg_ℤ (g s)

-- a value of a walked leg in the bands that are parts of this piece's side
abbrev pub leg_share : Field → (Seg → ℤ) → Tri → ℕ → Walk → ℤ
leg_share f g t b w = total (λ k. cond (eqb b (cond (surveyed f t) k 0)) (g (walked_part f w k)) (pos 0)) (part_bands f w.link)

-- the value of a step, if it has the set on its right
abbrev pub gain_of : Field → Rect → (ℕ → ℕ → ℕ) → (Seg → ℤ) → (Piece → Bool) → Step → ℤ
gain_of f r block g F s = cond (within F ((mesh_of f r block).right_of s)) (g (walked (mesh_of f r block) s)) (pos 0)

-- a sum of values that are all taken, or none
pub chosen : {X : Type 0} (c : Bool) (g : X → ℤ) (xs : List X) → total (λ x. cond c (g x) (pos 0)) xs ≡ cond c (total g xs) (pos 0)
chosen true g xs = refl
chosen false g xs = total-zero xs

true_or_false : {P : Type 0} (b : Bool) → (b ≡ true → P) → (b ≡ false → P) → P
true_or_false true p q = p refl
true_or_false false p q = q refl

module _ (f : Field) (r : Rect) (block : ℕ → ℕ → ℕ) (g : Seg → ℤ) (t : Tri) (b : ℕ) where
  abbrev gain : Step → ℤ
  gain s = gain_of f r block g (same_piece (piece t b)) s

  abbrev pub both_ways : Sub → ℤ
  both_ways s = gain (ahead s) +ℤ gain (back (ahead s))

  -- ---- parts of links

  abbrev part_gain : Walk → ℕ → ℤ
  part_gain w k = cond (within (same_piece (piece t b)) (option_map (piece_at f k) (right_tri r w))) (g (walked_part f w k)) (pos 0)

  side : (o : Option Tri) (k : ℕ) (z : ℤ) → cond (within (same_piece (piece t b)) (option_map (piece_at f k) o)) z (pos 0) ≡ cond (within (same_tri t) o) (cond (eqb b (cond (surveyed f t) k 0)) z (pos 0)) (pos 0)
  side None k z = refl
  side (Some u) k z = true_or_false (same_tri t u)
      (λ e. subst (λ v. cond (same_tri t v && eqb b (cond (surveyed f v) k 0)) z (pos 0) ≡ cond (same_tri t v) (cond (eqb b (cond (surveyed f t) k 0)) z (pos 0)) (pos 0)) (tri_is t u e) (rw (tri_self t) refl))
      (λ e. rw e refl)

  of_walk : (w : Walk) → total (part_gain w) (part_bands f w.link) ≡ cond (on_right r t w) (leg_share f g t b w) (pos 0)
  of_walk w =
      let one : ℕ → ℤ = λ k. cond (eqb b (cond (surveyed f t) k 0)) (g (walked_part f w k)) (pos 0) in
      total_same (part_gain w) (λ k. cond (on_right r t w) (one k) (pos 0)) (λ k. side (right_tri r w) k (g (walked_part f w k))) (part_bands f w.link)
      ∙ chosen (on_right r t w) one (part_bands f w.link)

  of_link : (l : Link) → total both_ways (map (Part l) (part_bands f l)) ≡ beside_tri r t (leg_share f g t b) l
  of_link l =
      let on : Walk = record { link = l; forward = true } in
      let off : Walk = record { link = l; forward = false } in
      total-map both_ways (Part l) (part_bands f l)
      ∙ (total-add (part_gain on) (part_gain off) (part_bands f l)
      ∙ ap₂ ◌+ℤ◌ (of_walk on) (of_walk off))

  of_links : IsCell r t.row t.col → total both_ways (flat_map (λ l. map (Part l) (part_bands f l)) (links r)) ≡ total (leg_share f g t b) (legs t)
  of_links c =
      total-flat_map both_ways (λ l. map (Part l) (part_bands f l)) (links r)
      ∙ (total_same (λ l. total both_ways (map (Part l) (part_bands f l))) (beside_tri r t (leg_share f g t b)) of_link (links r)
      ∙ over_legs r t (leg_share f g t b) c)

  -- ---- chords

  -- the value of the chords of a triangle, walked with the piece on the right
  abbrev pub chord_share : Tri → ℤ
  chord_share u = total (λ k. both_ways (Chord u k)) (chord_levels f u)

  other_tri : (u : Tri) → same_tri t u ≡ false → chord_share u ≡ pos 0
  other_tri u e =
      total_same (λ k. both_ways (Chord u k)) (λ k. pos 0) (λ k. nothing (same_tri t u) e (eqb b k) (eqb b (k - 1)) (g (chord_ends f u k)) (g (turned (chord_ends f u k)))) (chord_levels f u)
      ∙ total-zero (chord_levels f u)
    where
      nothing : (a : Bool) → a ≡ false → (x y : Bool) (p q : ℤ) → cond (a && x) p (pos 0) +ℤ cond (a && y) q (pos 0) ≡ pos 0
      nothing a e x y p q = rw e refl

  of_tri : (u : Tri) → total both_ways (map (Chord u) (chord_levels f u)) ≡ chord_share u
  of_tri u = total-map both_ways (Chord u) (chord_levels f u)

  of_tris : IsCell r t.row t.col → total both_ways (flat_map (λ u. map (Chord u) (chord_levels f u)) (tris r)) ≡ chord_share t
  of_tris c =
      total-flat_map both_ways (λ u. map (Chord u) (chord_levels f u)) (tris r)
      ∙ (total_same (λ u. total both_ways (map (Chord u) (chord_levels f u))) chord_share of_tri (tris r)
      ∙ (total_places chord_share halves t.row t.col r.row r.rows r.col r.cols
      (λ x y d. neither x y (off_row x y d))
      (λ y d. neither t.row y (off_col t.row y d))
      c.north c.south c.west c.east
      ∙ one_half t.upper refl))
    where
      zeros : {p q : ℤ} → p ≡ pos 0 → q ≡ pos 0 → p +ℤ (q +ℤ pos 0) ≡ pos 0
      zeros p q = omega (arith, ints, p, q)

      off_row : (x y : ℕ) → x ≢ t.row → (u : Bool) → same_tri t (tri x y u) ≡ false
      off_row x y d u = let e : eqb t.row x ≡ false = grind (arith, nat_tests) in rw e refl

      off_col : (x y : ℕ) → y ≢ t.col → (u : Bool) → same_tri t (tri x y u) ≡ false
      off_col x y d u = let e : eqb t.col y ≡ false = grind (arith, nat_tests) in rw e (by (eqb t.row x))
        where
          by : (a : Bool) → ((a && false) && cond t.upper u (not u)) ≡ false
          by true = refl
          by false = refl

      neither : (x y : ℕ) → ((u : Bool) → same_tri t (tri x y u) ≡ false) → total chord_share (halves x y) ≡ pos 0
      neither x y e = zeros (other_tri (tri x y true) (e true)) (other_tri (tri x y false) (e false))

      first_alone : {p q s : ℤ} → p ≡ s → q ≡ pos 0 → p +ℤ (q +ℤ pos 0) ≡ s
      first_alone p q = omega (arith, ints, p, q)

      second_alone : {p q s : ℤ} → p ≡ pos 0 → q ≡ s → p +ℤ (q +ℤ pos 0) ≡ s
      second_alone p q = omega (arith, ints, p, q)

      and_false : (a : Bool) → (a && false) ≡ false
      and_false true = refl
      and_false false = refl

      other_half : (v : Bool) → cond t.upper v (not v) ≡ false → chord_share (tri t.row t.col v) ≡ pos 0
      other_half v e = other_tri (tri t.row t.col v) (ap (λ x. (eqb t.row t.row && eqb t.col t.col) && x) e ∙ and_false (eqb t.row t.row && eqb t.col t.col))

      one_half : (u : Bool) → t.upper ≡ u → total chord_share (halves t.row t.col) ≡ chord_share t
      one_half true e = first_alone (ap (λ u. chord_share (tri t.row t.col u)) (sym e)) (other_half false (ap (λ u. cond u false (not false)) e))
      one_half false e = second_alone (other_half true (ap (λ u. cond u true (not true)) e)) (ap (λ u. chord_share (tri t.row t.col u)) (sym e))

  -- all sub-segments with the piece on a side
  pub of_subs : IsCell r t.row t.col → total both_ways (mesh_of f r block).subs ≡ total (leg_share f g t b) (legs t) +ℤ chord_share t
  of_subs c =
      total-append both_ways (flat_map (λ l. map (Part l) (part_bands f l)) (links r)) (flat_map (λ u. map (Chord u) (chord_levels f u)) (tris r))
      ∙ ap₂ ◌+ℤ◌ (of_links c) (of_tris c)

  -- an unsurveyed triangle has no chord
  pub no_chords : surveyed f t ≡ false → chord_share t ≡ pos 0
  no_chords e = ap (total (λ k. both_ways (Chord t k))) (let g : chord_levels f t ≡ [] = rw e refl in g)

  -- the chord of the piece's own level is walked ahead, that of the next one back
  abbrev deep : ℕ → ℤ
  deep k = g (chord_ends f t k)

  chord_gain : IsReversed g → (k : ℕ) → 1 ≤ k → both_ways (Chord t k) ≡ cond (eqb b k) (deep k) (pos 0) -ℤ cond (eqb (b + 1) k) (deep k) (pos 0)
  chord_gain reversed k l =
      ap₂ (λ x y. cond (x && eqb b k) (deep k) (pos 0) +ℤ cond (y && eqb b (k - 1)) (g (turned (chord_ends f t k))) (pos 0)) (tri_self t) (tri_self t)
      ∙ (ap₂ (λ x z. cond (eqb b k) (deep k) (pos 0) +ℤ cond x z (pos 0)) next (reversed (chord_ends f t k))
      ∙ back_again (eqb (b + 1) k) (cond (eqb b k) (deep k) (pos 0)) (deep k))
    where
      next : eqb b (k - 1) ≡ eqb (b + 1) k
      next = grind (arith, nat_tests)

      back_again : (x : Bool) (z p : ℤ) → z +ℤ cond x (neg_ℤ p) (pos 0) ≡ z -ℤ cond x p (pos 0)
      back_again true z p = omega (arith, ints)
      back_again false z p = omega (arith, ints)

  -- the chord of one level, if the triangle has it
  at_level : (y : ℕ) → total (λ k. cond (eqb y k) (deep k) (pos 0)) (range_with_len (least_band f t + 1) (greatest_band f t + 1 - (least_band f t + 1))) ≡ chord_value f g t y
  at_level y = ⊎_elim low (λ l. ⊎_elim high (inside l) (cases_lt (greatest_band f t) y)) (cases_lt y (least_band f t + 1))
    where
      low : y < least_band f t + 1 → total (λ k. cond (eqb y k) (deep k) (pos 0)) (range_with_len (least_band f t + 1) (greatest_band f t + 1 - (least_band f t + 1))) ≡ chord_value f g t y
      low l = total_range_off deep y (least_band f t + 1) (greatest_band f t + 1 - (least_band f t + 1)) (λ k near far. omega (arith, near, l)) ∙ (let e : nat_lt (least_band f t) y ≡ false = grind (arith, nat_tests) in sym (ap (λ x. cond (x && nat_le y (greatest_band f t)) (deep y) (pos 0)) e))

      high : greatest_band f t < y → total (λ k. cond (eqb y k) (deep k) (pos 0)) (range_with_len (least_band f t + 1) (greatest_band f t + 1 - (least_band f t + 1))) ≡ chord_value f g t y
      high l = total_range_off deep y (least_band f t + 1) (greatest_band f t + 1 - (least_band f t + 1)) (λ k near far. omega (arith, near, far, l)) ∙ (let e : nat_le y (greatest_band f t) ≡ false = grind (arith, nat_tests) in sym (off (nat_lt (least_band f t) y) (nat_le y (greatest_band f t)) e))
        where
          off : (p q : Bool) → q ≡ false → cond (p && q) (deep y) (pos 0) ≡ pos 0
          off true q e = rw e refl
          off false q e = refl

      inside : least_band f t + 1 ≤ y → y ≤ greatest_band f t → total (λ k. cond (eqb y k) (deep k) (pos 0)) (range_with_len (least_band f t + 1) (greatest_band f t + 1 - (least_band f t + 1))) ≡ chord_value f g t y
      inside l m =
          total_range_at deep y (least_band f t + 1) (greatest_band f t + 1 - (least_band f t + 1)) l (omega (arith, l, m))
          ∙ (let e : nat_lt (least_band f t) y ≡ true = grind (arith, nat_tests) in
          let g : nat_le y (greatest_band f t) ≡ true = grind (arith, nat_tests) in
          sym (ap₂ (λ p q. cond (p && q) (deep y) (pos 0)) e g))

  pub two_chords : IsReversed g → surveyed f t ≡ true → chord_share t ≡ chord_value f g t b -ℤ chord_value f g t (b + 1)
  two_chords reversed e =
      let levels = range_with_len (least_band f t + 1) (greatest_band f t + 1 - (least_band f t + 1)) in
      let g : chord_levels f t ≡ levels = rw e refl in
      ap (total (λ k. both_ways (Chord t k))) g
      ∙ (total_agree (λ k. both_ways (Chord t k)) (λ k. cond (eqb b k) (deep k) (pos 0) -ℤ cond (eqb (b + 1) k) (deep k) (pos 0)) levels (λ k i. let l = in_range_low (least_band f t + 1) (greatest_band f t + 1 - (least_band f t + 1)) k i in chord_gain reversed k (omega (arith, l)))
      ∙ (total-sub (λ k. cond (eqb b k) (deep k) (pos 0)) (λ k. cond (eqb (b + 1) k) (deep k) (pos 0)) levels
      ∙ ap₂ ◌-ℤ◌ (at_level b) (at_level (b + 1))))

-- ---- outlines

-- a value sums up along the outline of a set of pieces to what it does along all sub-segments, walked with the set on the right
pub along_subs : BoundarySum Step Piece → WalksBothWays → (f : Field) (r : Rect) (block : ℕ → ℕ → ℕ) (g : Seg → ℤ) → IsReversed g → (F : Piece → Bool) →
    total (λ s. g (walked (mesh_of f r block) s)) (boundary (mesh_of f r block) F) ≡ total (λ s. gain_of f r block g F (ahead s) +ℤ gain_of f r block g F (back (ahead s))) (mesh_of f r block).subs
along_subs sum ways f r block g reversed F =
    let m = mesh_of f r block in
    let value = λ (s : Step). g (walked m s) in
    let one = gain_of f r block g F in
    let signed : IsSigned (borders m) value = λ s there. ap g ((ways m).1 s there) ∙ reversed (walked m s) in
    sum (borders m) F value (ways m).0 signed
    ∙ (total-filter value (λ s. within F (m.right_of s)) (steps (borders m))
    ∙ (total-append one (map ahead m.subs) (map back (map ahead m.subs))
    ∙ (ap₂ ◌+ℤ◌ (total-map one ahead m.subs) (total-map one back (map ahead m.subs) ∙ total-map (λ s. one (back s)) ahead m.subs)
    ∙ sym (total-add (λ s. one (ahead s)) (λ s. one (back (ahead s))) m.subs))))

pub along_outline : BoundarySum Step Piece → WalksBothWays → (f : Field) (r : Rect) (block : ℕ → ℕ → ℕ) (g : Seg → ℤ) → IsReversed g → (q : Piece) → IsCell r q.tri.row q.tri.col →
    total (λ s. g (walked (mesh_of f r block) s)) (boundary (mesh_of f r block) (same_piece q)) ≡ total (leg_share f g q.tri q.band) (legs q.tri) +ℤ chord_share f r block g q.tri q.band q.tri
along_outline sum ways f r block g reversed q c = along_subs sum ways f r block g reversed (same_piece q) ∙ of_subs f r block g q.tri q.band c
