-- At a rational point of a rising step of its outline, between the heights of its ends, a piece counts 1 or more.
use Rattle.std.proofs.Common.{◌≡◌, ⊎_elim, inl, inr, ℕ, ◌+◌, ◌<◌, ℤ, pos, ◌+ℤ◌, ◌-ℤ◌, ◌*ℤ◌, ◌≤ℤ◌, ◌<ℤ◌, List, [], ◌∷◌, Contains, refl, sym, subst, ◌∙◌, arith}
use Rattle.std.proofs.lemmas.Int.{ints, by_lt_z}
use Rattle.std.proofs.lemmas.List.Elements.{All-contains}
use Rattle.mesh_definitions.specs.Faces.{boundary}
use Rattle.mesh_definitions.specs.Field.{Field, IsField}
use Rattle.mesh_definitions.specs.Laws.{SamePiece, WalksBothWays}
use Rattle.mesh_definitions.specs.Mesh.{all_cells}
use Rattle.mesh_definitions.specs.Pieces.{Mesh, same_piece, walked, whole_mesh}
use Rattle.mesh_definitions.specs.declared.Piece.{Piece}
use Rattle.mesh_definitions.specs.declared.Step.{Step}
use Rattle.mesh_ground_laws.specs.ClosedPieces.{PiecesAreConvex}
use Rattle.mesh_ground_laws.proofs.Counted.{on_outline}
use Rattle.mesh_laws.proofs.Legs.{fall}
use Rattle.mesh_laws.proofs.Listed.{piece_there}
use Rattle.mesh_lines_laws.specs.Chords.{ChordsNest}
use Rattle.mesh_lines_laws.proofs.Segments.{NotLeft, not_left_on}
use Rattle.plane_geom.specs.Geom.{IsOn, cross_of, turn_of}
use Rattle.plane_geom.specs.declared.Point.{Point}
use Rattle.plane_laws.specs.Borders.{total}
use Rattle.plane_laws.specs.SumLaws.{BoundarySum}
use Rattle.plane_laws.proofs.Algebra.{mul_pos}
use Rattle.plane_laws.proofs.Lines.{side_round}
use Rattle.plane_laws.proofs.Members.{In, contains, is_in}
use Rattle.plane_laws.proofs.Passing.{above, passing}
use Rattle.plane_strips.specs.Rational.{RationalPoint, place, scaled}
use Rattle.plane_strips.proofs.Means.{zero_from_mul}
use Rattle.plane_strips.proofs.Scaling.{cross_scaled, times_le}
use Rattle.check_laws.specs.Counts.{count_at, placed}
use Rattle.check_laws.proofs.Aligned.{aligned}
use Rattle.check_laws.proofs.Flat.{not_flat}
use Rattle.check_laws.proofs.Placed.{count_turns, not_left_scaled, placed_falls}

-- ---- turns and falls

-- a segment that has the point on its line or strictly right of it, and strictly right where it falls past its height, turns no less than it falls
turns_enough : (h y z x : ℤ) → x ≤ℤ pos 0 → (h <ℤ y → z ≤ℤ h → x <ℤ pos 0) → (above h y -ℤ above h z) ≤ℤ passing h y z x
turns_enough h y z x l g = grind (arith, ints)

-- one that rises past its height with the point on its line turns not at all, and falls by -1
turns_more : (h y z x : ℤ) → x ≡ pos 0 → y ≤ℤ h → h <ℤ z → ((above h y -ℤ above h z) +ℤ pos 1) ≤ℤ passing h y z x
turns_more h y z x e l m = grind (arith, ints)

at_least : {X : Type 0} (f g : X → ℤ) (xs : List X) → ((x : X) → In xs x → f x ≤ℤ g x) → total f xs ≤ℤ total g xs
at_least f g [] h = omega (arith, ints)
at_least f g (x ∷ xs) h = let a = h x (inl refl) in let r = at_least f g xs (λ y i. h y (inr i)) in omega (arith, ints, a, r)

one_more : {X : Type 0} (f g : X → ℤ) (xs : List X) → ((x : X) → In xs x → f x ≤ℤ g x) → (x : X) → In xs x → (f x +ℤ pos 1) ≤ℤ g x → (total f xs +ℤ pos 1) ≤ℤ total g xs
one_more f g [] h x i m = absurd i
one_more f g (y ∷ xs) h x i m = ⊎_elim
    (λ e. let a = subst (λ z. (f z +ℤ pos 1) ≤ℤ g z) (sym e) m in let r = at_least f g xs (λ z j. h z (inr j)) in omega (arith, ints, a, r))
    (λ j. let a = h y (inl refl) in let r = one_more f g xs (λ z k. h z (inr k)) x j m in omega (arith, ints, a, r))
    i

-- ---- numbers that are multiplied

module _ (w : ℤ) (w0 : pos 0 <ℤ w) where
  pub less_unscaled : (x y : ℤ) → (w *ℤ x) <ℤ (w *ℤ y) → x <ℤ y
  less_unscaled x y l = by_lt_z x y (λ k. k) (λ k. let e = times_le w w0 y x k in absurd (omega (arith, ints, l, e)))

  pub on_unscaled_line : (a b z : Point) → cross_of (scaled w a) (scaled w b) (scaled w z) ≡ pos 0 → cross_of a b z ≡ pos 0
  on_unscaled_line a b z e = zero_from_mul (w *ℤ w) (cross_of a b z) (mul_pos w w w0 w0) (sym (cross_scaled w w0 a b z) ∙ e)

-- ---- pieces

module _ (sum : BoundarySum Step Piece) (ways : WalksBothWays) (same : SamePiece) (convex : PiecesAreConvex) (nest : ChordsNest) (f : Field) (h : IsField f) (block : ℕ → ℕ → ℕ) (p : Piece) (there : Contains (whole_mesh f block).pieces p) where
  abbrev m : Mesh
  m = whole_mesh f block

  abbrev outer : List Step
  outer = boundary m (same_piece p)

  -- no end of a step lies left of another
  pub beside : (s x : Step) → In outer s → In outer x → NotLeft (walked m s).a (walked m s).b (walked m x).a × NotLeft (walked m s).a (walked m s).b (walked m x).b
  beside s x i j =
      let e = convex f block h p x there (contains outer x j) in
      let c = contains outer s i in (
        All-contains (λ y. cross_of (walked m y).a (walked m y).b (walked m x).a ≤ℤ pos 0) outer s e.0 c,
        All-contains (λ y. cross_of (walked m y).a (walked m y).b (walked m x).b ≤ℤ pos 0) outer s e.1 c,
      )

  in_rows : p.tri.row + 1 < f.rows
  in_rows = let c = (piece_there f (all_cells f) p (is_in m.pieces p there)).0 in let s = c.south in omega (arith, s)

  in_cols : p.tri.col + 1 < f.cols
  in_cols = let c = (piece_there f (all_cells f) p (is_in m.pieces p there)).0 in let e = c.east in omega (arith, e)

  not_back_along : (s d : Step) → In outer s → In outer d → (walked m s).a.y <ℤ (walked m s).b.y → (walked m d).b.y <ℤ (walked m d).a.y → cross_of (walked m d).a (walked m d).b (walked m s).a ≡ pos 0 → cross_of (walked m d).a (walked m d).b (walked m s).b ≡ pos 0 → ⊥
  not_back_along s d i j rises falls ea eb =
      let a = on_outline same f block p s i in
      let b = on_outline same f block p d j in
      not_flat nest f h block p in_rows in_cols
      s.sub s.forward (record { there = a.0; right = a.1 })
      d.sub d.forward (record { there = b.0; right = b.1 })
      rises falls (ea, eb)

  module _ (q : RationalPoint) (s : Step) (i : In outer s) (low : (q.w *ℤ (walked m s).a.y) <ℤ q.y) (high : q.y <ℤ (q.w *ℤ (walked m s).b.y)) (on : IsOn (placed q.w m s) (place q)) where
    abbrev z : Point
    z = place q

    rises : (walked m s).a.y <ℤ (walked m s).b.y
    rises = less_unscaled q.w q.positive (walked m s).a.y (walked m s).b.y (omega (arith, ints, low, high))

    -- the point is left of no step
    not_left : (d : Step) → In outer d → NotLeft (placed q.w m d).a (placed q.w m d).b z
    not_left d j =
        let b = beside d s j i in
        not_left_on (placed q.w m d).a (placed q.w m d).b (placed q.w m s) z on
        (not_left_scaled q.w q.positive (walked m d).a (walked m d).b (walked m s).a b.0)
        (not_left_scaled q.w q.positive (walked m d).a (walked m d).b (walked m s).b b.1)

    -- and on none that falls
    strictly_right : (d : Step) → In outer d → (walked m d).b.y <ℤ (walked m d).a.y → cross_of (placed q.w m d).a (placed q.w m d).b z <ℤ pos 0
    strictly_right d j falls = by_lt_z (cross_of (placed q.w m d).a (placed q.w m d).b z) (pos 0)
        (λ l. l)
        (λ l.
        let n = not_left d j in
        let b = beside d s j i in
        let e = aligned (placed q.w m d).a (placed q.w m d).b (placed q.w m s).a (placed q.w m s).b z low high on.line (omega (arith, ints, l, n))
        (not_left_scaled q.w q.positive (walked m d).a (walked m d).b (walked m s).a b.0)
        (not_left_scaled q.w q.positive (walked m d).a (walked m d).b (walked m s).b b.1) in
        absurd (not_back_along s d i j rises falls
        (on_unscaled_line q.w q.positive (walked m d).a (walked m d).b (walked m s).a e.0)
        (on_unscaled_line q.w q.positive (walked m d).a (walked m d).b (walked m s).b e.1)))

    higher : Point → ℤ
    higher x = above z.y x.y

    pub counts_one : pos 1 ≤ℤ count_at m q (same_piece p)
    unfolding higher
    counts_one =
        let each = λ (d : Step) (j : In outer d).
        let r = side_round z (placed q.w m d).a (placed q.w m d).b in
        let n = not_left d j in
        turns_enough z.y (placed q.w m d).a.y (placed q.w m d).b.y (cross_of z (placed q.w m d).a (placed q.w m d).b) (omega (arith, ints, r, n))
        (λ l k. let t = strictly_right d j (less_unscaled q.w q.positive (walked m d).b.y (walked m d).a.y (omega (arith, ints, l, k))) in omega (arith, ints, r, t)) in
        let r = side_round z (placed q.w m s).a (placed q.w m s).b in
        let e = on.line in
        let own = turns_more z.y (placed q.w m s).a.y (placed q.w m s).b.y (cross_of z (placed q.w m s).a (placed q.w m s).b) (omega (arith, ints, r, e)) (omega (arith, ints, low)) high in
        let more = one_more (λ d. fall higher (placed q.w m d)) (λ d. turn_of (placed q.w m d) z) outer each s i own in
        let none = placed_falls sum ways f block p there q.w higher in
        let is = count_turns q.w m z outer in
        omega (arith, ints, more, none, is)
