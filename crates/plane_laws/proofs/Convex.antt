-- The law of convex outlines, and lines that separate a point from an outline.
use Rattle.std.proofs.Common.{◌≡◌, ℤ, pos, ◌+ℤ◌, ◌-ℤ◌, ◌*ℤ◌, ◌≤ℤ◌, ◌<ℤ◌, List, [], ◌∷◌, ◌++◌, All, Contains, subst, arith, ◌⊎◌, inl, inr, ⊎_elim, sym, ◌∙◌}
use Rattle.std.proofs.lemmas.Int.{ints, by_lt_z}
use Rattle.std.proofs.lemmas.List.Elements.{All-head, All-tail, All-weaker, All-contains}
use Rattle.plane_geom.specs.Geom.{cross_of, turn_of, winding_number}
use Rattle.plane_geom.specs.Segments.{joins}
use Rattle.plane_geom.specs.declared.Point.{Point}
use Rattle.plane_geom.specs.declared.Seg.{Seg}
use Rattle.plane_laws.specs.Outlines.{Vector, seg, outline, NoneLeft, IsConvex}
use Rattle.plane_laws.proofs.Algebra.{ring, Poly, V, Add, Sub, Mul, mul_nonneg, mul_pos, pos_from_mul, neg_from_mul}
use Rattle.plane_laws.proofs.Counts.{count, count_is}
use Rattle.plane_laws.proofs.Passing.{above, passes_east, passes_west, no_rise}

-- the scalar product with a normal
abbrev pub along : Vector → ℤ → ℤ → ℤ
along n x y = n.x *ℤ x +ℤ n.y *ℤ y

-- a step down whose ends both lie strictly on one side of a line through the origin, with the normal n: the place where it passes the origin's height lies there too
pub meets_side : (n : Vector) (ux uy vx vy : ℤ) → pos 0 <ℤ uy → vy ≤ℤ pos 0 → pos 0 <ℤ along n ux uy → pos 0 <ℤ along n vx vy → pos 0 <ℤ (n.x *ℤ (uy *ℤ vx -ℤ ux *ℤ vy))
meets_side n ux uy vx vy h k p q =
    let a = mul_nonneg (pos 0 -ℤ vy) (along n ux uy) (omega (arith, ints)) (omega (arith, ints)) in
    let b = mul_pos uy (along n vx vy) h q in
    let s : Poly = Add (Mul (Sub (V (pos 0)) (V vy)) (Add (Mul (V n.x) (V ux)) (Mul (V n.y) (V uy)))) (Mul (V uy) (Add (Mul (V n.x) (V vx)) (Mul (V n.y) (V vy)))) in
    let t : Poly = Mul (V n.x) (Sub (Mul (V uy) (V vx)) (Mul (V ux) (V vy))) in
    subst (λ z. pos 0 <ℤ z) (ring s t (omega arith)) (omega (arith, ints))

-- a point lies strictly on one side of a line through p, with the normal n
abbrev pub Ahead : Vector → Point → Point → Type 0
Ahead n p w = pos 0 <ℤ along n (w.x -ℤ p.x) (w.y -ℤ p.y)

module _ (n : Vector) (p : Point) where
  -- a segment there turns past p as its ends lie higher or lower, where that side is to the east, and else not at all
  pub beside : (u v : Point) → pos 0 <ℤ n.x → Ahead n p u → Ahead n p v → turn_of (seg u v) p ≡ above p.y u.y -ℤ above p.y v.y
  beside u v l h k = passes_east p.y u.y v.y (cross_of p u v)
      (λ a b. let z = pos_from_mul n.x ((u.y -ℤ p.y) *ℤ (v.x -ℤ p.x) -ℤ (u.x -ℤ p.x) *ℤ (v.y -ℤ p.y)) (omega (arith, ints)) (meets_side n (u.x -ℤ p.x) (u.y -ℤ p.y) (v.x -ℤ p.x) (v.y -ℤ p.y) (omega (arith, ints)) (omega (arith, ints)) h k) in omega (arith, ints, z))
      (λ a b. let z = pos_from_mul n.x ((v.y -ℤ p.y) *ℤ (u.x -ℤ p.x) -ℤ (v.x -ℤ p.x) *ℤ (u.y -ℤ p.y)) (omega (arith, ints)) (meets_side n (v.x -ℤ p.x) (v.y -ℤ p.y) (u.x -ℤ p.x) (u.y -ℤ p.y) (omega (arith, ints)) (omega (arith, ints)) k h) in omega (arith, ints, z))

  pub behind : (u v : Point) → n.x ≤ℤ pos 0 → Ahead n p u → Ahead n p v → turn_of (seg u v) p ≡ pos 0
  behind u v l h k = passes_west p.y u.y v.y (cross_of p u v)
      (λ a b. let z = neg_from_mul n.x ((u.y -ℤ p.y) *ℤ (v.x -ℤ p.x) -ℤ (u.x -ℤ p.x) *ℤ (v.y -ℤ p.y)) l (meets_side n (u.x -ℤ p.x) (u.y -ℤ p.y) (v.x -ℤ p.x) (v.y -ℤ p.y) (omega (arith, ints)) (omega (arith, ints)) h k) in omega (arith, ints, z))
      (λ a b. let z = neg_from_mul n.x ((v.y -ℤ p.y) *ℤ (u.x -ℤ p.x) -ℤ (v.x -ℤ p.x) *ℤ (u.y -ℤ p.y)) l (meets_side n (v.x -ℤ p.x) (v.y -ℤ p.y) (u.x -ℤ p.x) (u.y -ℤ p.y) (omega (arith, ints)) (omega (arith, ints)) k h) in omega (arith, ints, z))

  walk_beside : (u : Point) (vs : List Point) (last : Point) → pos 0 <ℤ n.x → Ahead n p u → All (Ahead n p) vs → Ahead n p last → count p (joins (u ∷ (vs ++ last ∷ []))) ≡ above p.y u.y -ℤ above p.y last.y
  walk_beside u [] last l h e k = omega (arith, ints, beside u last l h k)
  walk_beside u (v ∷ vs) last l h e k =
      let head : Ahead n p v = All-head (Ahead n p) v vs e in
      omega (arith, ints, beside u v l h head, walk_beside v vs last l head (All-tail (Ahead n p) v vs e) k)

  walk_behind : (u : Point) (vs : List Point) (last : Point) → n.x ≤ℤ pos 0 → Ahead n p u → All (Ahead n p) vs → Ahead n p last → count p (joins (u ∷ (vs ++ last ∷ []))) ≡ pos 0
  walk_behind u [] last l h e k = omega (arith, ints, behind u last l h k)
  walk_behind u (v ∷ vs) last l h e k =
      let head : Ahead n p v = All-head (Ahead n p) v vs e in
      omega (arith, ints, behind u v l h head, walk_behind v vs last l head (All-tail (Ahead n p) v vs e) k)

  -- an outline on one side of a line through p does not go round p
  pub apart : (vs : List Point) → All (Ahead n p) vs → count p (outline vs) ≡ pos 0
  apart [] e = omega (arith, ints)
  apart (v ∷ vs) e =
      let head : Ahead n p v = All-head (Ahead n p) v vs e in
      let tail : All (Ahead n p) vs = All-tail (Ahead n p) v vs e in
      by_lt_z (pos 0) n.x (λ l. omega (arith, ints, walk_beside v vs v l head tail head)) (λ l. walk_behind v vs v l head tail head)

-- the normal of the line from a to b, away from its left side
normal : Point → Point → Vector
normal a b = record { x = b.y -ℤ a.y; y = a.x -ℤ b.x }

normal_is : (a b p w : Point) → cross_of a b p -ℤ cross_of a b w ≡ along (normal a b) (w.x -ℤ p.x) (w.y -ℤ p.y)
unfolding normal
normal_is a b p w = ring
    (Sub (Sub (Mul (Sub (V b.x) (V a.x)) (Sub (V p.y) (V a.y))) (Mul (Sub (V b.y) (V a.y)) (Sub (V p.x) (V a.x)))) (Sub (Mul (Sub (V b.x) (V a.x)) (Sub (V w.y) (V a.y))) (Mul (Sub (V b.y) (V a.y)) (Sub (V w.x) (V a.x)))))
    (Add (Mul (Sub (V b.y) (V a.y)) (Sub (V w.x) (V p.x))) (Mul (Sub (V a.x) (V b.x)) (Sub (V w.y) (V p.y))))
    (omega arith)

ahead : (a b p w : Point) → cross_of a b w <ℤ cross_of a b p → Ahead (normal a b) p w
ahead a b p w h = subst (λ z. pos 0 <ℤ z) (normal_is a b p w) (omega (arith, ints))

apart_left : (vs : List Point) (p a b : Point) → pos 0 <ℤ cross_of a b p → All (λ w. cross_of a b w ≤ℤ pos 0) vs → count p (outline vs) ≡ pos 0
apart_left vs p a b h e = apart (normal a b) p vs (All-weaker (λ w. cross_of a b w ≤ℤ pos 0) (Ahead (normal a b) p) (λ w k. ahead a b p w (omega (arith, ints))) vs e)

pub apart_from_left : (vs : List Point) (p a b : Point) → pos 0 <ℤ cross_of a b p → All (λ w. cross_of a b w ≤ℤ pos 0) vs → winding_number (outline vs) p ≡ pos 0
apart_from_left vs p a b h e = count_is (outline vs) p ∙ apart_left vs p a b h e

pub apart_on_line : (vs : List Point) (p a b : Point) → pos 0 ≤ℤ cross_of a b p → All (λ w. cross_of a b w <ℤ pos 0) vs → winding_number (outline vs) p ≡ pos 0
apart_on_line vs p a b h e = count_is (outline vs) p ∙ apart (normal a b) p vs (All-weaker (λ w. cross_of a b w <ℤ pos 0) (Ahead (normal a b) p) (λ w k. ahead a b p w (omega (arith, ints))) vs e)

pub convex_beyond_segment : (vs : List Point) (p : Point) (s : Seg) → IsConvex vs → Contains (outline vs) s → pos 0 <ℤ cross_of s.a s.b p → winding_number (outline vs) p ≡ pos 0
convex_beyond_segment vs p s h c l = apart_from_left vs p s.a s.b l (All-contains (NoneLeft vs) (outline vs) s h c)

-- p is not left of a segment, which then counts no rise
right_turn : (p : Point) (s : Seg) → cross_of s.a s.b p ≤ℤ pos 0 → pos 0 ≤ℤ turn_of s p
right_turn p s h =
    let e : cross_of p s.a s.b ≡ cross_of s.a s.b p = ring
    (Sub (Mul (Sub (V s.a.x) (V p.x)) (Sub (V s.b.y) (V p.y))) (Mul (Sub (V s.a.y) (V p.y)) (Sub (V s.b.x) (V p.x))))
    (Sub (Mul (Sub (V s.b.x) (V s.a.x)) (Sub (V p.y) (V s.a.y))) (Mul (Sub (V s.b.y) (V s.a.y)) (Sub (V p.x) (V s.a.x))))
    (omega arith) in
    no_rise p.y s.a.y s.b.y (cross_of p s.a s.b) (subst (λ z. z ≤ℤ pos 0) (sym e) h)

-- p is right of each segment, or strictly left of one
look : (p : Point) (segs : List Seg) (P : Seg → Type 0) → All P segs → (pos 0 ≤ℤ count p segs) ⊎ ((s : Seg) × P s × (pos 0 <ℤ cross_of s.a s.b p))
look p [] P h = inl (omega (arith, ints))
look p (s ∷ segs) P h =
    by_lt_z (pos 0) (cross_of s.a s.b p)
    (λ l. inr (s, All-head P s segs h, l))
    (λ l. ⊎_elim (λ r. inl (omega (arith, ints, r, right_turn p s l))) inr (look p segs P (All-tail P s segs h)))

pub convex_never_negative : (vs : List Point) (p : Point) → IsConvex vs → pos 0 ≤ℤ winding_number (outline vs) p
convex_never_negative vs p h = subst (λ z. pos 0 ≤ℤ z) (sym (count_is (outline vs) p))
    (⊎_elim (λ r. r) (λ w. omega (arith, ints, apart_left vs p w.0.a w.0.b w.2 w.1)) (look p (outline vs) (NoneLeft vs) h))
