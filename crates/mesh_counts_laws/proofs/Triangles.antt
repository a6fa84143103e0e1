-- No piece of the mesh of a field counts below 0.
use Rattle.std.proofs.Common.{◌≡◌, ⊎_elim, inl, inr, ℕ, ◌+◌, ◌<◌, ℤ, pos, ◌+ℤ◌, ◌-ℤ◌, ◌*ℤ◌, ◌≤ℤ◌, Bool, true, false, cond, not, ◌&&◌, eqb, List, [], ◌∷◌, Contains, map, refl, sym, ap, ap₂, subst, ◌∙◌, arith}
use Rattle.std.specs.Prelude.{int_lt, is_some}
use Rattle.std.proofs.lemmas.Int.{ints}
use Rattle.mesh_definitions.proofs.Bands.{band_known}
use Rattle.mesh_definitions.specs.Faces.{boundary}
use Rattle.mesh_definitions.specs.Field.{Field, IsField, point, depth_at, band_at}
use Rattle.mesh_definitions.specs.Laws.{WalksBothWays, piece_count}
use Rattle.mesh_definitions.specs.Mesh.{Walk, from, to, first, second, legs, surveyed, all_cells}
use Rattle.mesh_definitions.specs.Pieces.{walked, part_bands, same_piece, whole_mesh}
use Rattle.mesh_definitions.specs.declared.Piece.{Piece}
use Rattle.mesh_definitions.specs.declared.Step.{Step}
use Rattle.mesh_definitions.specs.declared.Tri.{Tri}
use Rattle.mesh_definitions.specs.declared.Way.TheVariants.{Across, Down, Slant}
use Rattle.depth_grid.specs.declared.node.NodeId.{NodeId}
use Rattle.mesh_laws.proofs.Chords.{chord_is}
use Rattle.mesh_laws.proofs.Legs.{walked_part}
use Rattle.mesh_laws.proofs.Listed.{bands_of, piece_there}
use Rattle.mesh_laws.proofs.Shares.{leg_share, chord_share, no_chords, two_chords, along_outline}
use Rattle.mesh_laws.proofs.Triangles.{IsCell, tri, walk}
use Rattle.mesh_laws.proofs.Turns.{lower_turns, node, upper_turns}
use Rattle.plane_geom.specs.Geom.{winding_number, cross_of, turn_of}
use Rattle.plane_geom.specs.declared.Point.{Point}
use Rattle.plane_geom.specs.declared.Seg.{Seg}
use Rattle.plane_laws.specs.Borders.{total}
use Rattle.plane_laws.specs.Outlines.{IsConvex, Vector, at, seg, outline}
use Rattle.plane_laws.specs.SumLaws.{BoundarySum}
use Rattle.plane_laws.proofs.Convex.{convex_never_negative}
use Rattle.plane_laws.proofs.Counts.{count_is, turns_back, points_count_nothing}
use Rattle.plane_laws.proofs.Cuts.{cut_at_point}
use Rattle.plane_laws.proofs.Members.{In, is_in}
use Rattle.plane_laws.proofs.Pieces.{corner_convex}
use Rattle.plane_laws.proofs.Sums.{total-map}
use Rattle.tri_mesh.proofs.Steps.{InField, at_none}
use Rattle.mesh_counts_laws.specs.Counts.{PiecesFromZero}
use Rattle.mesh_counts_laws.proofs.Parts.{IsSumOfParts, level_part, one_part, whole_walk}
use Rattle.mesh_counts_laws.proofs.Rounds.{ArePlaces, IsLeg, IsRound, graded_slope, outline_value, chord_round, from_zero}
use Rattle.mesh_counts_laws.proofs.Sorted.{IsCount, same_four}

-- ---- winding numbers

-- what a segment counts at a point
abbrev pub turn_at : Point → Seg → ℤ
turn_at p s = turn_of s p

pub sum_of_parts : (p : Point) → IsSumOfParts (turn_at p)
sum_of_parts p = record { none = λ a. points_count_nothing a p; cut = λ s q on. cut_at_point s q p on }

-- a value that is a sum, less a last part that is 0
without_last : (x y z w : ℤ) → w ≡ pos 0 → x +ℤ (y +ℤ (z +ℤ w)) ≡ x +ℤ (y +ℤ z)
without_last x y z w e = omega (arith, ints, e)

of_four : (w x y z : ℤ) → w +ℤ (x +ℤ (y +ℤ (z +ℤ pos 0))) ≡ w +ℤ (x +ℤ (y +ℤ z))
of_four w x y z = omega (arith, ints)

of_five : (v w x y z : ℤ) → v +ℤ (w +ℤ (x +ℤ (y +ℤ (z +ℤ pos 0)))) ≡ v +ℤ (w +ℤ (x +ℤ (y +ℤ z)))
of_five v w x y z = omega (arith, ints)

module _ (p : Point) where
  abbrev pub t : Point → Point → ℤ
  t a b = turn_at p (seg a b)

  abbrev pub counted : List Point → ℤ
  counted vs = winding_number (outline vs) p

  -- what is wanted of the winding numbers of outlines of four or five corners is had of their sums
  pub counts_of : (Q : Point → Type 0) (R : ℤ → Type 0) →
      ((a b c d : Point) → Q a → Q b → Q c → Q d → IsConvex (a ∷ b ∷ c ∷ d ∷ []) → R (counted (a ∷ b ∷ c ∷ d ∷ []))) →
      ((a b c d e : Point) → Q a → Q b → Q c → Q d → Q e → IsConvex (a ∷ b ∷ c ∷ d ∷ e ∷ []) → R (counted (a ∷ b ∷ c ∷ d ∷ e ∷ []))) → IsCount Q R t
  counts_of Q R four five = record {
    none = λ a. points_count_nothing a p;
    four = λ a b c d qa qb qc qd h. subst R (count_is (outline (a ∷ b ∷ c ∷ d ∷ [])) p ∙ of_four (t a b) (t b c) (t c d) (t d a)) (four a b c d qa qb qc qd h);
    five = λ a b c d e qa qb qc qd qe h. subst R (count_is (outline (a ∷ b ∷ c ∷ d ∷ e ∷ [])) p ∙ of_five (t a b) (t b c) (t c d) (t d e) (t e a)) (five a b c d e qa qb qc qd qe h);
  }

-- ---- the walks round a triangle

-- the depths of three nodes don't rise all the way round, nor fall
no_rise : (a b c : ℤ) → not (int_lt b a) ≡ true → int_lt b c ≡ true → int_lt c a ≡ true → ⊥
no_rise a b c p q r = grind (arith, ints, p, q, r)

no_fall : (a b c : ℤ) → not (int_lt b a) ≡ false → int_lt b c ≡ false → int_lt c a ≡ false → ⊥
no_fall a b c p q r = grind (arith, ints, p, q, r)

rise_on : (c b d : ℤ) → not (int_lt b c) ≡ true → not (int_lt d b) ≡ true → int_lt d c ≡ true → ⊥
rise_on c b d p q r = grind (arith, ints, p, q, r)

fall_on : (c b d : ℤ) → not (int_lt b c) ≡ false → not (int_lt d b) ≡ false → int_lt d c ≡ false → ⊥
fall_on c b d p q r = grind (arith, ints, p, q, r)

module _ (f : Field) (h : IsField f) (i j : ℕ) (in_rows : i + 1 < f.rows) (in_cols : j + 1 < f.cols) where
  at_node : (row col : ℕ) → row < f.rows → col < f.cols → InField f h (node row col)
  at_node row col a b = record { row = a; col = b }

  north_west : InField f h (node i j)
  north_west = at_node i j (omega (arith, in_rows)) (omega (arith, in_cols))

  north_east : InField f h (node i (j + 1))
  north_east = at_node i (j + 1) (omega (arith, in_rows)) in_cols

  south_west : InField f h (node (i + 1) j)
  south_west = at_node (i + 1) j in_rows (omega (arith, in_cols))

  south_east : InField f h (node (i + 1) (j + 1))
  south_east = at_node (i + 1) (j + 1) in_rows in_cols

  pub upper_round : IsRound f h (walk Across i j true) (walk Slant i j false) (walk Down i j false)
  upper_round = record {
    on = refl;
    on_again = refl;
    round = refl;
    leg_first = record { begins = north_west; ends = north_east; other = inr (inl (omega arith)) };
    leg_second = record { begins = north_east; ends = south_west; other = inl (inl (omega arith)) };
    leg_third = record { begins = south_west; ends = north_west; other = inl (inr (omega arith)) };
    turns = let t = upper_turns f h i j in_rows in_cols in omega (arith, ints, t);
    not_up = λ a b c. no_rise (depth_at f (node i j)) (depth_at f (node i (j + 1))) (depth_at f (node (i + 1) j)) a b c;
    not_down = λ a b c. no_fall (depth_at f (node i j)) (depth_at f (node i (j + 1))) (depth_at f (node (i + 1) j)) a b c;
  }

  pub lower_round : IsRound f h (walk Slant i j true) (walk Down i (j + 1) true) (walk Across (i + 1) j false)
  lower_round = record {
    on = refl;
    on_again = refl;
    round = refl;
    leg_first = record { begins = south_west; ends = north_east; other = inl (inr (omega arith)) };
    leg_second = record { begins = north_east; ends = south_east; other = inl (inl (omega arith)) };
    leg_third = record { begins = south_east; ends = south_west; other = inr (inr (omega arith)) };
    turns = let t = lower_turns f h i j in_rows in_cols in omega (arith, ints, t);
    not_up = λ a b c. rise_on (depth_at f (node (i + 1) j)) (depth_at f (node i (j + 1))) (depth_at f (node (i + 1) (j + 1))) a b c;
    not_down = λ a b c. fall_on (depth_at f (node (i + 1) j)) (depth_at f (node i (j + 1))) (depth_at f (node (i + 1) (j + 1))) a b c;
  }

-- ---- the pieces of a triangle

three_true : (a b c : Bool) → (a && (b && (c && true))) ≡ true → (a ≡ true) × (b ≡ true) × (c ≡ true)
three_true true true true e = (refl, refl, refl)
three_true true true false e = absurd (cc (e))
three_true true false c e = absurd (cc (e))
three_true false b c e = absurd (cc (e))

-- all of a leg
pub whole_leg : (f : Field) (h : IsField f) (p : Point) (w : Walk) → IsLeg f h w → total (λ k. turn_at p (walked_part f w k)) (part_bands f w.link) ≡ turn_at p (seg (point f (from w)) (point f (to w)))
whole_leg f h p w l = whole_walk f (turn_at p) w (sum_of_parts p) (graded_slope f h w l)

-- a triangle that runs clockwise has what is wanted
three_convex : (a b c : Point) → cross_of a b c ≤ℤ pos 0 → IsConvex (a ∷ b ∷ c ∷ a ∷ [])
three_convex a b c h =
    let e : Vector = record { x = b.x -ℤ a.x; y = b.y -ℤ a.y } in
    let g : Vector = record { x = c.x -ℤ a.x; y = c.y -ℤ a.y } in
    same_four (sym (at_none a e)) (sym (once a b)) (sym (once a c)) (sym (at_none a g))
    (corner_convex a e g (pos 0) (pos 1) (pos 0) (pos 1) h (omega (arith, ints)) (omega (arith, ints)) (omega (arith, ints)) (omega (arith, ints)))
  where
    once : (a b : Point) → (let e : Vector = record { x = b.x -ℤ a.x; y = b.y -ℤ a.y } in at a e (pos 1)) ≡ b
    once a b = ap₂ (λ x y. let p : Point = record { x = x; y = y } in p) (one a.x b.x) (one a.y b.y)
      where
        one : (x y : ℤ) → x +ℤ pos 1 *ℤ (y -ℤ x) ≡ y
        one x y = omega (arith, ints)

three_count : (Q : Point → Type 0) (R : ℤ → Type 0) (p : Point) → IsCount Q R (t p) → (a b c : Point) → Q a → Q b → Q c → cross_of a b c ≤ℤ pos 0 → R (t p a b +ℤ (t p b c +ℤ t p c a))
three_count Q R p counts a b c qa qb qc h = subst R (without_last (t p a b) (t p b c) (t p c a) (t p a a) (points_count_nothing a p)) (counts.four a b c a qa qb qc qa (three_convex a b c h))

module _ (f : Field) (h : IsField f) (p : Point) (block : ℕ → ℕ → ℕ) (Q : Point → Type 0) (R : ℤ → Type 0) (counts : IsCount Q R (t p)) where
  abbrev g : Seg → ℤ
  g = turn_at p

  abbrev value : Walk → Walk → Walk → ℕ → ℤ
  value w1 w2 w3 b = outline_value f h Q R g (λ s. turns_back s p) counts w1 w2 w3 b

  abbrev ring : Walk → Walk → Walk → ℕ → ℤ
  ring w1 w2 w3 k = chord_round f h Q R g (λ s. turns_back s p) counts w1 w2 w3 k

  abbrev pub Places : Walk → Walk → Walk → Type 0
  Places w1 w2 w3 = ArePlaces f h Q R g (λ s. turns_back s p) counts w1 w2 w3

  known_share : (t : Tri) (b : ℕ) (w : Walk) → surveyed f t ≡ true → is_some (f.depth (first w.link)) ≡ true → is_some (f.depth (second w.link)) ≡ true → leg_share f g t b w ≡ g (level_part f g w b)
  known_share t b w e k l =
      ap (λ s. total (λ n. cond (eqb b (cond s n 0)) (g (walked_part f w n)) (pos 0)) (part_bands f w.link)) e
      ∙ one_part f g w (band_at f (first w.link)) (band_at f (second w.link)) (band_known f (first w.link) k) (band_known f (second w.link) l) (λ a. points_count_nothing a p) b

  open_share : (t : Tri) (w : Walk) → surveyed f t ≡ false → IsLeg f h w → leg_share f g t 0 w ≡ g (seg (point f (from w)) (point f (to w)))
  open_share t w e l =
      ap (λ s. total (λ n. cond (eqb 0 (cond s n 0)) (g (walked_part f w n)) (pos 0)) (part_bands f w.link)) e
      ∙ whole_leg f h p w l

  abbrev share : Tri → ℕ → ℤ
  share t b = total (leg_share f g t b) (legs t) +ℤ chord_share f (all_cells f) block g t b t

  -- the outline of a piece of a surveyed triangle
  module _ (t : Tri) (b : ℕ) (e : surveyed f t ≡ true) (w1 w2 w3 : Walk) (three : legs t ≡ w1 ∷ w2 ∷ w3 ∷ []) (c : IsRound f h w1 w2 w3) (a : Places w1 w2 w3)
      (k1 : leg_share f g t b w1 ≡ g (level_part f g w1 b)) (k2 : leg_share f g t b w2 ≡ g (level_part f g w2 b)) (k3 : leg_share f g t b w3 ≡ g (level_part f g w3 b)) where
    in_all : (q r c' d' : ℤ) {x y z u v w : ℤ} → q ≡ x +ℤ (y +ℤ (z +ℤ pos 0)) → x ≡ u → y ≡ v → z ≡ w → r ≡ c' -ℤ d' → (u +ℤ (v +ℤ w)) +ℤ (c' -ℤ d') ≡ q +ℤ r
    in_all q r c' d' e1 e2 e3 e4 e5 = omega (arith, ints, e1, e2, e3, e4, e5)

    surveyed_share : R (share t b)
    surveyed_share = subst R
        (in_all (total (leg_share f g t b) (legs t)) (chord_share f (all_cells f) block g t b t) (ring w1 w2 w3 b) (ring w1 w2 w3 (b + 1))
        (ap (total (leg_share f g t b)) three) k1 k2 k3
        (two_chords f (all_cells f) block g t b (λ s. turns_back s p) e ∙ ap₂ ◌-ℤ◌ (chord_is f b t w1 w2 w3 three c.on c.on_again c.round g) (chord_is f (b + 1) t w1 w2 w3 three c.on c.on_again c.round g)))
        (from_zero f h Q R g (λ s. turns_back s p) counts w1 w2 w3 c a b)

  -- the outline of an unsurveyed triangle
  module _ (t : Tri) (e : surveyed f t ≡ false) (w1 w2 w3 : Walk) (three : legs t ≡ w1 ∷ w2 ∷ w3 ∷ []) (c : IsRound f h w1 w2 w3) (a : Places w1 w2 w3) where
    in_legs : (q r : ℤ) {x y z u v w : ℤ} → q ≡ x +ℤ (y +ℤ (z +ℤ pos 0)) → x ≡ u → y ≡ v → z ≡ w → r ≡ pos 0 → u +ℤ (v +ℤ w) ≡ q +ℤ r
    in_legs q r e1 e2 e3 e4 e5 = omega (arith, ints, e1, e2, e3, e4, e5)

    abbrev leg : NodeId → NodeId → ℤ
    leg a b = g (seg (point f a) (point f b))

    open_share_all : R (share t 0)
    open_share_all = subst R
        (in_legs (total (leg_share f g t 0) (legs t)) (chord_share f (all_cells f) block g t 0 t)
        (ap (total (leg_share f g t 0)) three)
        (open_share t w1 e c.leg_first ∙ ap (leg (from w1)) c.on)
        (open_share t w2 e c.leg_second ∙ ap (leg (from w2)) c.on_again)
        (open_share t w3 e c.leg_third ∙ ap (leg (from w3)) c.round)
        (no_chords f (all_cells f) block g t 0 e))
        (three_count Q R p counts (point f (from w1)) (point f (from w2)) (point f (from w3)) a.first_corner a.second_corner a.third_corner c.turns)

  -- the places of each triangle are of the kind
  abbrev pub AllPlaces : Tri → Type 0
  AllPlaces t = (w1 w2 w3 : Walk) → legs t ≡ w1 ∷ w2 ∷ w3 ∷ [] → IsRound f h w1 w2 w3 → Places w1 w2 w3

  module _ (i j : ℕ) (in_rows : i + 1 < f.rows) (in_cols : j + 1 < f.cols) where
    known_tri : (u : Bool) (b : ℕ) → surveyed f (tri i j u) ≡ true → AllPlaces (tri i j u) → R (share (tri i j u) b)
    known_tri true b e a =
        let t = tri i j true in
        let d = three_true (is_some (f.depth (record { row = i; col = j }))) (is_some (f.depth (record { row = i; col = j + 1 }))) (is_some (f.depth (record { row = i + 1; col = j }))) e in
        surveyed_share t b e (walk Across i j true) (walk Slant i j false) (walk Down i j false) refl (upper_round f h i j in_rows in_cols) (a _ _ _ refl (upper_round f h i j in_rows in_cols))
        (known_share t b (walk Across i j true) e d.0 d.1) (known_share t b (walk Slant i j false) e d.2 d.1) (known_share t b (walk Down i j false) e d.0 d.2)
    known_tri false b e a =
        let t = tri i j false in
        let d = three_true (is_some (f.depth (record { row = i + 1; col = j }))) (is_some (f.depth (record { row = i; col = j + 1 }))) (is_some (f.depth (record { row = i + 1; col = j + 1 }))) e in
        surveyed_share t b e (walk Slant i j true) (walk Down i (j + 1) true) (walk Across (i + 1) j false) refl (lower_round f h i j in_rows in_cols) (a _ _ _ refl (lower_round f h i j in_rows in_cols))
        (known_share t b (walk Slant i j true) e d.0 d.1) (known_share t b (walk Down i (j + 1) true) e d.1 d.2) (known_share t b (walk Across (i + 1) j false) e d.0 d.2)

    open_tri : (u : Bool) → surveyed f (tri i j u) ≡ false → AllPlaces (tri i j u) → R (share (tri i j u) 0)
    open_tri true e a = open_share_all (tri i j true) e (walk Across i j true) (walk Slant i j false) (walk Down i j false) refl (upper_round f h i j in_rows in_cols) (a _ _ _ refl (upper_round f h i j in_rows in_cols))
    open_tri false e a = open_share_all (tri i j false) e (walk Slant i j true) (walk Down i (j + 1) true) (walk Across (i + 1) j false) refl (lower_round f h i j in_rows in_cols) (a _ _ _ refl (lower_round f h i j in_rows in_cols))

  each_share : (t : Tri) (b : ℕ) → t.row + 1 < f.rows → t.col + 1 < f.cols → In (bands_of f t) b → AllPlaces t → R (share t b)
  each_share t b in_rows in_cols i a = by (surveyed f t) refl
    where
      by : (s : Bool) → surveyed f t ≡ s → R (share t b)
      by true e = known_tri t.row t.col in_rows in_cols t.upper b e a
      by false e =
          let only : In (0 ∷ []) b = subst (λ bands. In bands b) (let k : bands_of f t ≡ 0 ∷ [] = rw e refl in k) i in
          let none : 0 ≡ b = ⊎_elim (λ x. x) (λ n. absurd n) only in
          subst (λ b. R (share t b)) none (open_tri t.row t.col in_rows in_cols t.upper e a)

-- what is wanted of the outline of a piece is had of its winding number
pub piece_has : BoundarySum Step Piece → WalksBothWays → (f : Field) (h : IsField f) (p : Point) (block : ℕ → ℕ → ℕ) (Q : Point → Type 0) (R : ℤ → Type 0) (counts : IsCount Q R (t p)) (q : Piece) → Contains (whole_mesh f block).pieces q →
    (IsCell (all_cells f) q.tri.row q.tri.col → AllPlaces f h p block Q R counts q.tri) → R (piece_count (whole_mesh f block) p q)
piece_has sum ways f h p block Q R counts q there places =
    let m = whole_mesh f block in
    let k = piece_there f (all_cells f) q (is_in m.pieces q there) in
    let c = k.0 in
    let south = c.south in
    let east = c.east in
    let e = count_is (map (walked m) (boundary m (same_piece q))) p ∙ (total-map (turn_at p) (walked m) (boundary m (same_piece q)) ∙ along_outline sum ways f (all_cells f) block (turn_at p) (λ s. turns_back s p) q c) in
    subst R (sym e) (each_share f h p block Q R counts q.tri q.band (omega (arith, south)) (omega (arith, east)) k.1 (places c))

pub pieces_from_zero : BoundarySum Step Piece → WalksBothWays → PiecesFromZero
pieces_from_zero sum ways f block h p q there =
    let counts = counts_of p (λ a. Unit {0}) (λ z. pos 0 ≤ℤ z) (λ a b c d qa qb qc qd k. convex_never_negative (a ∷ b ∷ c ∷ d ∷ []) p k) (λ a b c d e qa qb qc qd qe k. convex_never_negative (a ∷ b ∷ c ∷ d ∷ e ∷ []) p k) in
    piece_has sum ways f h p block (λ a. Unit {0}) (λ z. pos 0 ≤ℤ z) counts q there
    (λ c w1 w2 w3 three round. record { first_corner = tt; second_corner = tt; third_corner = tt; first_leg = λ k. tt; second_leg = λ k. tt; third_leg = λ k. tt })
