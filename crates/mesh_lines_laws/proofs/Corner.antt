-- A point that is the corner of a quadrant, and segments in the quadrant.
use Rattle.std.proofs.Common.{◌≡◌, ◌≢◌, ◌⊎◌, ⊎_elim, inl, inr, ℤ, pos, negsuc, neg_ℤ, ◌+ℤ◌, ◌-ℤ◌, ◌*ℤ◌, ◌≤ℤ◌, ◌<ℤ◌, Bool, true, false, [], ◌∷◌, sym, ◌∙◌, arith}
use Rattle.std.proofs.lemmas.Int.{ints, by_lt_z}
use Rattle.std.proofs.lemmas.List.Elements.{All-nil, All-cons}
use Rattle.plane_geom.specs.Geom.{cross_of, is_between, turn_of, IsOn}
use Rattle.plane_geom.specs.declared.Point.{Point}
use Rattle.plane_geom.specs.declared.Seg.{Seg}
use Rattle.plane_laws.specs.Outlines.{Vector, seg, outline}
use Rattle.plane_laws.proofs.Algebra.{ring, V, Mul, Neg, mul_pos, mul_neg}
use Rattle.plane_laws.proofs.Convex.{apart}
use Rattle.plane_laws.proofs.Counts.{count, turns_back}
use Rattle.plane_laws.proofs.Lines.{side_round}
use Rattle.tri_mesh.proofs.Between.{inside}
use Rattle.tri_mesh.proofs.Signs.{level, upright}
use Rattle.mesh_lines_laws.proofs.Spots.{point_same}

-- z lies from o on, upwards or downwards
abbrev pub Toward : Bool → ℤ → ℤ → Type 0
Toward true o z = o ≤ℤ z
Toward false o z = z ≤ℤ o

-- a point of the quadrant of o that opens these ways
pub record InQuadrant (x y : Bool) (o p : Point) : Type 0 where
  pub wide : Toward x o.x p.x
  pub high : Toward y o.y p.y

-- between two numbers on one side of it o isn't, but at an end
at_end : (v : Bool) (o a b : ℤ) → Toward v o a → Toward v o b → is_between a b o ≡ true → (a ≡ o) ⊎ (b ≡ o)
at_end true o a b p q e = by_lt_z o a
    (λ l. by_lt_z o b
    (λ m. absurd (let k = inside (o +ℤ pos 1) ((a +ℤ b) -ℤ o) a b o e (omega (arith, ints, l)) (omega (arith, ints, m)) (omega (arith, ints, m)) (omega (arith, ints, l)) in let r = k.0 in omega (arith, ints, r)))
    (λ m. inr (omega (arith, ints, m, q))))
    (λ l. inl (omega (arith, ints, l, p)))
at_end false o a b p q e = by_lt_z a o
    (λ l. by_lt_z b o
    (λ m. absurd (let k = inside ((a +ℤ b) -ℤ o) (o -ℤ pos 1) a b o e (omega (arith, ints, m)) (omega (arith, ints, l)) (omega (arith, ints, l)) (omega (arith, ints, m)) in let r = k.1 in omega (arith, ints, r)))
    (λ m. inr (omega (arith, ints, m, q))))
    (λ l. inl (omega (arith, ints, l, p)))

-- a product of nothing has a factor of nothing
zero_factor : (x y : ℤ) → x *ℤ y ≡ pos 0 → (x ≡ pos 0) ⊎ (y ≡ pos 0)
zero_factor x y e = by_lt_z (pos 0) x
    (λ up. inr (by_lt_z (pos 0) y (λ l. absurd (let k = mul_pos x y up l in omega (arith, ints, k, e))) (λ m. by_lt_z y (pos 0) (λ l. absurd (let k = mul_neg x y up l in omega (arith, ints, k, e))) (λ l. omega (arith, ints, l, m)))))
    (λ not_up. by_lt_z x (pos 0)
    (λ down.
    let g : neg_ℤ x *ℤ y ≡ neg_ℤ (x *ℤ y) = ring (Mul (Neg (V x)) (V y)) (Neg (Mul (V x) (V y))) (omega arith) in
    let up : pos 0 <ℤ neg_ℤ x = omega (arith, ints, down) in
    inr (by_lt_z (pos 0) y (λ l. absurd (let k = mul_pos (neg_ℤ x) y up l in omega (arith, ints, k, e, g))) (λ m. by_lt_z y (pos 0) (λ l. absurd (let k = mul_neg (neg_ℤ x) y up l in omega (arith, ints, k, e, g))) (λ l. omega (arith, ints, l, m)))))
    (λ not_down. inl (omega (arith, ints, not_up, not_down))))

-- a segment in a quadrant that has the corner ends there
pub corner_end : (x y : Bool) (o : Point) (s : Seg) → InQuadrant x y o s.a → InQuadrant x y o s.b → IsOn s o → (s.a ≡ o) ⊎ (s.b ≡ o)
corner_end x y o s p q on = ⊎_elim
    (λ e. ⊎_elim
    (λ g. inl (point_same s.a o e g))
    (λ g.
    let k = upright o s.a s.b e in
    let z : (s.a.y -ℤ o.y) *ℤ (s.b.x -ℤ o.x) ≡ pos 0 = omega (arith, ints, line, k) in
    ⊎_elim (λ n. inl (point_same s.a o e (omega (arith, ints, n)))) (λ n. inr (point_same s.b o (omega (arith, ints, n)) g)) (zero_factor (s.a.y -ℤ o.y) (s.b.x -ℤ o.x) z))
    high)
    (λ e. ⊎_elim
    (λ g.
    let k = level o s.a s.b g in
    let z : (s.a.x -ℤ o.x) *ℤ (s.b.y -ℤ o.y) ≡ pos 0 = omega (arith, ints, line, k) in
    ⊎_elim (λ n. inl (point_same s.a o (omega (arith, ints, n)) g)) (λ n. inr (point_same s.b o e (omega (arith, ints, n)))) (zero_factor (s.a.x -ℤ o.x) (s.b.y -ℤ o.y) z))
    (λ g. inr (point_same s.b o e g))
    high)
    wide
  where
    line : cross_of o s.a s.b ≡ pos 0
    line = sym (side_round o s.a s.b) ∙ on.line

    wide : (s.a.x ≡ o.x) ⊎ (s.b.x ≡ o.x)
    wide = at_end x o.x s.a.x s.b.x p.wide q.wide on.wide

    high : (s.a.y ≡ o.y) ⊎ (s.b.y ≡ o.y)
    high = at_end y o.y s.a.y s.b.y p.high q.high on.high

-- ---- counts at the corner

abbrev sign : Bool → ℤ
sign true = pos 1
sign false = negsuc 0

-- the way into the quadrant
abbrev inwards : Bool → Bool → Vector
inwards x y = record { x = sign x; y = sign y }

abbrev Ahead : Bool → Bool → Point → Point → Type 0
Ahead x y o p = pos 0 <ℤ (sign x *ℤ (p.x -ℤ o.x) +ℤ sign y *ℤ (p.y -ℤ o.y))

not_both : (o p : Point) → p ≢ o → p.x ≡ o.x → p.y ≡ o.y → ⊥
not_both o p d e g = d (point_same p o e g)

ahead : (x y : Bool) (o p : Point) → InQuadrant x y o p → p ≢ o → Ahead x y o p
ahead true true o p i d = let w = i.wide in let h = i.high in by_lt_z o.x p.x (λ l. omega (arith, ints, l, h)) (λ l. by_lt_z o.y p.y (λ m. omega (arith, ints, m, w)) (λ m. absurd (not_both o p d (omega (arith, ints, l, w)) (omega (arith, ints, m, h)))))
ahead true false o p i d = let w = i.wide in let h = i.high in by_lt_z o.x p.x (λ l. omega (arith, ints, l, h)) (λ l. by_lt_z p.y o.y (λ m. omega (arith, ints, m, w)) (λ m. absurd (not_both o p d (omega (arith, ints, l, w)) (omega (arith, ints, m, h)))))
ahead false true o p i d = let w = i.wide in let h = i.high in by_lt_z p.x o.x (λ l. omega (arith, ints, l, h)) (λ l. by_lt_z o.y p.y (λ m. omega (arith, ints, m, w)) (λ m. absurd (not_both o p d (omega (arith, ints, l, w)) (omega (arith, ints, m, h)))))
ahead false false o p i d = let w = i.wide in let h = i.high in by_lt_z p.x o.x (λ l. omega (arith, ints, l, h)) (λ l. by_lt_z p.y o.y (λ m. omega (arith, ints, m, w)) (λ m. absurd (not_both o p d (omega (arith, ints, l, w)) (omega (arith, ints, m, h)))))

-- a point within the quadrant
abbrev within : Bool → Bool → Point → Point
within x y o = record { x = o.x +ℤ sign x; y = o.y +ℤ sign y }

within_ahead : (x y : Bool) (o : Point) → Ahead x y o (within x y o)
within_ahead true true o = omega (arith, ints)
within_ahead true false o = omega (arith, ints)
within_ahead false true o = omega (arith, ints)
within_ahead false false o = omega (arith, ints)

-- what a step to a point within the quadrant counts at the corner
abbrev pub height : Bool → Bool → Point → Point → ℤ
height x y o p = turn_of (seg p (within x y o)) o

-- a segment in the quadrant that doesn't touch the corner counts what its ends differ by
pub turn_is : (x y : Bool) (o : Point) (s : Seg) → InQuadrant x y o s.a → InQuadrant x y o s.b → s.a ≢ o → s.b ≢ o → turn_of s o ≡ height x y o s.a -ℤ height x y o s.b
turn_is x y o s p q d e =
    let w = within x y o in
    let P = Ahead x y o in
    let round : count o (outline (s.a ∷ s.b ∷ w ∷ [])) ≡ pos 0 = apart (inwards x y) o (s.a ∷ s.b ∷ w ∷ [])
    (All-cons P s.a (s.b ∷ w ∷ []) (ahead x y o s.a p d) (All-cons P s.b (w ∷ []) (ahead x y o s.b q e) (All-cons P w [] (within_ahead x y o) (All-nil P)))) in
    let back = turns_back (seg s.a w) o in
    sums (turn_of s o) (turn_of (seg s.b w) o) (turn_of (seg w s.a) o) (turn_of (seg s.a w) o) round back
  where
    sums : (a b c d : ℤ) → a +ℤ (b +ℤ (c +ℤ pos 0)) ≡ pos 0 → c ≡ neg_ℤ d → a ≡ d -ℤ b
    sums a b c d e g = omega (arith, ints, e, g)
