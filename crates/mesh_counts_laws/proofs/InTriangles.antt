-- A piece counts nothing at a point beyond its triangle.
use Rattle.std.proofs.Common.{◌≡◌, ◌≢◌, ℕ, ◌+◌, ◌<◌, ℤ, pos, ◌+ℤ◌, ◌-ℤ◌, ◌*ℤ◌, ◌≤ℤ◌, ◌<ℤ◌, Bool, true, false, [], ◌∷◌, map, All, Contains, refl, sym, ap, subst, ◌∙◌, arith}
use Rattle.std.proofs.lemmas.Int.{ints, by_lt_z}
use Rattle.std.proofs.lemmas.List.Elements.{All-cons, All-nil}
use Rattle.mesh_definitions.specs.Field.{Field, IsField, point}
use Rattle.mesh_definitions.specs.Ground.{IsInTri}
use Rattle.mesh_definitions.specs.Laws.{WalksBothWays, piece_count}
use Rattle.mesh_definitions.specs.Mesh.{Walk, from, to, legs, all_cells}
use Rattle.mesh_definitions.specs.Pieces.{whole_mesh}
use Rattle.mesh_definitions.specs.declared.Piece.{Piece}
use Rattle.mesh_definitions.specs.declared.Step.{Step}
use Rattle.mesh_laws.proofs.Depths.{deepens}
use Rattle.mesh_laws.proofs.Legs.{crossed}
use Rattle.mesh_laws.proofs.Listed.{piece_there}
use Rattle.mesh_laws.proofs.Triangles.{tri, IsCell}
use Rattle.plane_laws.proofs.Members.{is_in}
use Rattle.plane_geom.specs.Geom.{cross_of}
use Rattle.plane_geom.specs.declared.Point.{Point}
use Rattle.plane_geom.specs.declared.Seg.{Seg}
use Rattle.plane_laws.specs.Outlines.{at}
use Rattle.plane_laws.specs.SumLaws.{BoundarySum}
use Rattle.plane_laws.proofs.Algebra.{ring, V, Sub, Mul, mul_nonpos, nonpos_from_mul}
use Rattle.plane_laws.proofs.Convex.{apart_from_left}
use Rattle.plane_laws.proofs.Counts.{turns_back}
use Rattle.plane_laws.proofs.Lines.{side_round, side_changes_evenly}
use Rattle.mesh_counts_laws.specs.Counts.{PiecesInTriangles}
use Rattle.mesh_counts_laws.proofs.Rounds.{ArePlaces, IsLeg, IsRound, graded_on, graded_back}
use Rattle.mesh_counts_laws.proofs.Slots.{IsGraded}
use Rattle.mesh_counts_laws.proofs.Sorted.{IsCount}
use Rattle.mesh_counts_laws.proofs.Triangles.{counts_of, piece_has, t, turn_at, upper_round, lower_round}

-- not left of the line from a to b
abbrev pub NotLeft : Point → Point → Point → Type 0
NotLeft a b w = cross_of a b w ≤ℤ pos 0

-- what lies between two points that aren't left of a line isn't
pub between_not_left : (a b u v : Point) (place : ℕ → Point) → IsGraded u v place → NotLeft a b u → NotLeft a b v → (k : ℕ) → NotLeft a b (place k)
between_not_left a b u v place g p q k =
    let s = g.slot k in
    let low = g.low k in
    let high = g.high k in
    let e = side_changes_evenly a b u g.step s g.n in
    let end : NotLeft a b (at u g.step g.n) = subst (NotLeft a b) (sym g.end) q in
    let x = mul_nonpos (g.n -ℤ s) (cross_of a b u) (omega (arith, ints, high)) p in
    let y = mul_nonpos s (cross_of a b (at u g.step g.n)) low end in
    let n = g.long in
    subst (NotLeft a b) (sym (g.is k)) (nonpos_from_mul g.n (cross_of a b (at u g.step s)) n (subst (λ z. z ≤ℤ pos 0) (sym e) (sum_nonpos ((g.n -ℤ s) *ℤ cross_of a b u) (s *ℤ cross_of a b (at u g.step g.n)) x y)))
  where
    sum_nonpos : (x y : ℤ) → x ≤ℤ pos 0 → y ≤ℤ pos 0 → (x +ℤ y) ≤ℤ pos 0
    sum_nonpos x y h k = omega (arith, ints, h, k)

-- an end of a segment isn't left of it
first_end : (a b : Point) → NotLeft a b a
first_end a b =
    let e : cross_of a b a ≡ pos 0 = ring (Sub (Mul (Sub (V b.x) (V a.x)) (Sub (V a.y) (V a.y))) (Mul (Sub (V b.y) (V a.y)) (Sub (V a.x) (V a.x)))) (V (pos 0)) (omega arith) in
    subst (λ z. z ≤ℤ pos 0) (sym e) (omega (arith, ints))

second_end : (a b : Point) → NotLeft a b b
second_end a b =
    let e : cross_of a b b ≡ pos 0 = ring (Sub (Mul (Sub (V b.x) (V a.x)) (Sub (V b.y) (V a.y))) (Mul (Sub (V b.y) (V a.y)) (Sub (V b.x) (V a.x)))) (V (pos 0)) (omega arith) in
    subst (λ z. z ≤ℤ pos 0) (sym e) (omega (arith, ints))

-- where p lies left of a line, outlines with no corner there count nothing
left_counts : (p a b : Point) → pos 0 <ℤ cross_of a b p → IsCount (NotLeft a b) (λ z. z ≡ pos 0) (t p)
left_counts p a b l = counts_of p (NotLeft a b) (λ z. z ≡ pos 0)
    (λ c d e g qc qd qe qg k. apart_from_left (c ∷ d ∷ e ∷ g ∷ []) p a b l (All-cons Q c (d ∷ e ∷ g ∷ []) qc (All-cons Q d (e ∷ g ∷ []) qd (All-cons Q e (g ∷ []) qe (All-cons Q g [] qg (All-nil Q))))))
    (λ c d e g i qc qd qe qg qi k. apart_from_left (c ∷ d ∷ e ∷ g ∷ i ∷ []) p a b l (All-cons Q c (d ∷ e ∷ g ∷ i ∷ []) qc (All-cons Q d (e ∷ g ∷ i ∷ []) qd (All-cons Q e (g ∷ i ∷ []) qe (All-cons Q g (i ∷ []) qg (All-cons Q i [] qi (All-nil Q)))))))
  where
    Q : Point → Type 0
    Q w = cross_of a b w ≤ℤ pos 0

module _ (f : Field) (h : IsField f) where
  pub leg_not_left : (a b : Point) (w : Walk) → IsLeg f h w → NotLeft a b (point f (from w)) → NotLeft a b (point f (to w)) → (k : ℕ) → NotLeft a b (crossed f w k)
  leg_not_left a b w l p q = by (deepens f w) refl
    where
      by : (d : Bool) → deepens f w ≡ d → (k : ℕ) → NotLeft a b (crossed f w k)
      by true d = between_not_left a b (point f (from w)) (point f (to w)) (crossed f w) (graded_on f h w l d) p q
      by false d = between_not_left a b (point f (to w)) (point f (from w)) (crossed f w) (graded_back f h w l d) q p

  -- three corners that aren't left of a line, and with them all crossings of their legs
  module _ (p a b : Point) (left : pos 0 <ℤ cross_of a b p) where
    abbrev Places : Walk → Walk → Walk → Type 0
    Places w1 w2 w3 = ArePlaces f h (NotLeft a b) (λ z. z ≡ pos 0) (turn_at p) (λ s. turns_back s p) (left_counts p a b left) w1 w2 w3

    all_places : (w1 w2 w3 : Walk) → IsRound f h w1 w2 w3 → NotLeft a b (point f (from w1)) → NotLeft a b (point f (from w2)) → NotLeft a b (point f (from w3)) → Places w1 w2 w3
    all_places w1 w2 w3 c x y z = record {
      first_corner = x;
      second_corner = y;
      third_corner = z;
      first_leg = leg_not_left a b w1 c.leg_first x (subst (λ n. NotLeft a b (point f n)) (sym c.on) y);
      second_leg = leg_not_left a b w2 c.leg_second y (subst (λ n. NotLeft a b (point f n)) (sym c.on_again) z);
      third_leg = leg_not_left a b w3 c.leg_third z (subst (λ n. NotLeft a b (point f n)) (sym c.round) x);
    }

  -- the corners of a triangle aren't left of its legs
  module _ (w1 w2 w3 : Walk) (c : IsRound f h w1 w2 w3) where
    abbrev a : Point
    a = point f (from w1)

    abbrev b : Point
    b = point f (from w2)

    abbrev d : Point
    d = point f (from w3)

    third_not_left : NotLeft a b d
    third_not_left = c.turns

    first_not_left : NotLeft b d a
    first_not_left = subst (λ z. z ≤ℤ pos 0) (sym (side_round a b d)) c.turns

    second_not_left : NotLeft d a b
    second_not_left = subst (λ z. z ≤ℤ pos 0) (side_round d a b) c.turns

module _ (sum : BoundarySum Step Piece) (ways : WalksBothWays) (f : Field) (h : IsField f) (block : ℕ → ℕ → ℕ) (p : Point) (q : Piece) (there : Contains (whole_mesh f block).pieces q) (some : piece_count (whole_mesh f block) p q ≢ pos 0) where
  module _ (w1 w2 w3 : Walk) (three : legs q.tri ≡ w1 ∷ w2 ∷ w3 ∷ []) (c : IsRound f h w1 w2 w3) where
    -- where all corners of the piece's triangle aren't left of a line, the point isn't
    not_left : (x y : Point) → NotLeft x y (point f (from w1)) → NotLeft x y (point f (from w2)) → NotLeft x y (point f (from w3)) → NotLeft x y p
    not_left x y k l m = by_lt_z (pos 0) (cross_of x y p)
        (λ left. absurd (some (piece_has sum ways f h p block (NotLeft x y) (λ z. z ≡ pos 0) (left_counts p x y left) q there (places left))))
        (λ right. right)
      where
        places : (left : pos 0 <ℤ cross_of x y p) → IsCell (all_cells f) q.tri.row q.tri.col → (v1 v2 v3 : Walk) → legs q.tri ≡ v1 ∷ v2 ∷ v3 ∷ [] → IsRound f h v1 v2 v3 → Places f h p x y left v1 v2 v3
        places left cell v1 v2 v3 same d =
            let e : w1 ∷ w2 ∷ w3 ∷ [] ≡ v1 ∷ v2 ∷ v3 ∷ [] = sym three ∙ same in
            let e1 : w1 ≡ v1 = cc (e) in
            let e2 : w2 ≡ v2 = cc (e) in
            let e3 : w3 ≡ v3 = cc (e) in
            all_places f h p x y left v1 v2 v3 d (subst (λ w. NotLeft x y (point f (from w))) e1 k) (subst (λ w. NotLeft x y (point f (from w))) e2 l) (subst (λ w. NotLeft x y (point f (from w))) e3 m)

    abbrev side : Walk → Seg
    side w = record { a = point f (from w); b = point f (to w) }

    abbrev Right : Seg → Type 0
    Right s = cross_of s.a s.b p ≤ℤ pos 0

    in_legs : IsInTri f q.tri p
    in_legs =
        let x = point f (from w1) in
        let y = point f (from w2) in
        let z = point f (from w3) in
        let first : Right (side w1) = subst (λ n. NotLeft x (point f n) p) (sym c.on) (not_left x y (first_end x y) (second_end x y) (third_not_left f h w1 w2 w3 c)) in
        let second : Right (side w2) = subst (λ n. NotLeft y (point f n) p) (sym c.on_again) (not_left y z (first_not_left f h w1 w2 w3 c) (first_end y z) (second_end y z)) in
        let third : Right (side w3) = subst (λ n. NotLeft z (point f n) p) (sym c.round) (not_left z x (second_end z x) (second_not_left f h w1 w2 w3 c) (first_end z x)) in
        subst (λ ws. All Right (map side ws)) (sym three) (All-cons Right (side w1) (side w2 ∷ side w3 ∷ []) first (All-cons Right (side w2) (side w3 ∷ []) second (All-cons Right (side w3) [] third (All-nil Right))))

  in_tri : IsInTri f q.tri p
  in_tri =
      let k = piece_there f (all_cells f) q (is_in (whole_mesh f block).pieces q there) in
      let south = k.0.south in
      let east = k.0.east in
      by (omega (arith, south)) (omega (arith, east)) q.tri.upper refl
    where
      by : q.tri.row + 1 < f.rows → q.tri.col + 1 < f.cols → (u : Bool) → q.tri.upper ≡ u → IsInTri f q.tri p
      by a b true e = in_legs _ _ _ (ap (λ u. legs (tri q.tri.row q.tri.col u)) e) (upper_round f h q.tri.row q.tri.col a b)
      by a b false e = in_legs _ _ _ (ap (λ u. legs (tri q.tri.row q.tri.col u)) e) (lower_round f h q.tri.row q.tri.col a b)

pub pieces_in_triangles : BoundarySum Step Piece → WalksBothWays → PiecesInTriangles
pieces_in_triangles sum ways f block h p q there some = in_tri sum ways f h block p q there some
