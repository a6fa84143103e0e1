-- No piece counts below 0 at a rational point.
use Rattle.std.proofs.Common.{◌⊎◌, ⊎_elim, inl, inr, pos, ◌≤ℤ◌, ◌<ℤ◌, List, [], ◌∷◌, refl, sym, subst, arith}
use Rattle.std.proofs.lemmas.Int.{ints, by_lt_z}
use Rattle.std.proofs.lemmas.List.Elements.{All-contains}
use Rattle.mesh_definitions.specs.Faces.{boundary}
use Rattle.mesh_definitions.specs.Laws.{WalksBothWays}
use Rattle.mesh_definitions.specs.Pieces.{same_piece, walked, whole_mesh}
use Rattle.mesh_definitions.specs.declared.Piece.{Piece}
use Rattle.mesh_definitions.specs.declared.Step.{Step}
use Rattle.mesh_ground_laws.specs.ClosedPieces.{PiecesAreConvex}
use Rattle.mesh_ground_laws.proofs.Counted.{falls_by, height}
use Rattle.mesh_laws.proofs.Legs.{fall}
use Rattle.mesh_lines_laws.proofs.Segments.{NotLeft}
use Rattle.plane_geom.specs.Geom.{cross_of, turn_of}
use Rattle.plane_geom.specs.declared.Point.{Point}
use Rattle.plane_geom.specs.declared.Seg.{Seg}
use Rattle.plane_laws.specs.Borders.{total}
use Rattle.plane_laws.specs.SumLaws.{BoundarySum}
use Rattle.plane_laws.proofs.Lines.{side_round}
use Rattle.plane_laws.proofs.Members.{In, contains}
use Rattle.plane_laws.proofs.Passing.{no_rise}
use Rattle.plane_laws.proofs.Sums.{total_agree}
use Rattle.plane_strips.specs.Rational.{place}
use Rattle.check_laws.specs.Counts.{NoneBelowAt, placed}
use Rattle.check_laws.proofs.Placed.{count_turns, not_left_scaled, placed_falls}

-- a segment that has the point not on its left counts no rise
right_turn : (p : Point) (s : Seg) → NotLeft s.a s.b p → pos 0 ≤ℤ turn_of s p
right_turn p s h = no_rise p.y s.a.y s.b.y (cross_of p s.a s.b) (subst (λ z. z ≤ℤ pos 0) (side_round p s.a s.b) h)

-- the point lies left of none of some segments, or strictly left of one
look : {X : Type 0} (lies : X → Seg) (p : Point) (xs : List X) → (pos 0 ≤ℤ total (λ x. turn_of (lies x) p) xs) ⊎ ((x : X) × In xs x × (pos 0 <ℤ cross_of (lies x).a (lies x).b p))
look lies p [] = inl (omega (arith, ints))
look lies p (x ∷ xs) =
    by_lt_z (pos 0) (cross_of (lies x).a (lies x).b p)
    (λ l. inr (x, inl refl, l))
    (λ l. ⊎_elim (λ r. inl (omega (arith, ints, r, right_turn p (lies x) l))) (λ k. inr (k.0, inr k.1, k.2)) (look lies p xs))

pub none_below : BoundarySum Step Piece → WalksBothWays → PiecesAreConvex → NoneBelowAt
none_below sum ways convex f block h q p there =
    let m = whole_mesh f block in
    let outer = boundary m (same_piece p) in
    let z = place q in
    subst (λ n. pos 0 ≤ℤ n) (sym (count_turns q.w m z outer)) (⊎_elim
    (λ l. l)
    (λ k.
    let s = k.0 in
    let a = (placed q.w m s).a in
    let b = (placed q.w m s).b in
    let beside = λ (x : Step) (i : In outer x).
    let e = convex f block h p x there (contains outer x i) in
    let c = contains outer s k.1 in
    let ra = All-contains (λ y. cross_of (walked m y).a (walked m y).b (walked m x).a ≤ℤ pos 0) outer s e.0 c in
    let rb = All-contains (λ y. cross_of (walked m y).a (walked m y).b (walked m x).b ≤ℤ pos 0) outer s e.1 c in
    falls_by a b z k.2 (placed q.w m x).a (placed q.w m x).b
    (not_left_scaled q.w q.positive (walked m s).a (walked m s).b (walked m x).a ra)
    (not_left_scaled q.w q.positive (walked m s).a (walked m s).b (walked m x).b rb) in
    let e = total_agree (λ x. turn_of (placed q.w m x) z) (λ x. fall (height a b z k.2) (placed q.w m x)) outer beside in
    let g = placed_falls sum ways f block p there q.w (height a b z k.2) in
    omega (arith, ints, e, g))
    (look (placed q.w m) z outer))
