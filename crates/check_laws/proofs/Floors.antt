-- The outline of all pieces counts 0 or 1 at a rational point: upright and level segments turn there as at a whole point.
use Rattle.std.proofs.Common.{◌≡◌, ◌⊎◌, ⊎_elim, inl, inr, ℕ, ◌<◌, ℤ, pos, negsuc, map, ◌+ℤ◌, ◌-ℤ◌, ◌*ℤ◌, ◌≤ℤ◌, ◌<ℤ◌, int_lt, Bool, true, false, not, cond, ◌&&◌, Option, Some, None, refl, ap, ap₂, sym, ◌∙◌, arith}
use Rattle.std.proofs.lemmas.Int.{ints, by_lt_z}
use Rattle.std.specs.Int.{int_div_euclid}
use Rattle.mesh_counts_laws.specs.Counts.{IsSingle, OutlineIsCoverage}
use Rattle.mesh_definitions.specs.Faces.{borders, boundary}
use Rattle.mesh_definitions.specs.Field.{Field, IsField}
use Rattle.mesh_definitions.specs.Pieces.{back, left_of, walked, whole_mesh}
use Rattle.mesh_definitions.specs.declared.Piece.{Piece}
use Rattle.mesh_definitions.specs.declared.Step.{Step}
use Rattle.chart_definitions.specs.SoundEdges.{OnOutline}
use Rattle.chart_definitions.specs.SoundEdges.OnOutline.{East, North, South, West}
use Rattle.mesh_laws.proofs.Once.{step_sub}
use Rattle.mesh_lines_laws.specs.MeshLines.{FieldsKeepOutline}
use Rattle.plane_geom.specs.Geom.{cross_of, turn_of}
use Rattle.plane_geom.specs.declared.Point.{Point}
use Rattle.plane_geom.specs.declared.Seg.{Seg}
use Rattle.plane_laws.specs.Borders.{steps, within}
use Rattle.plane_laws.proofs.Algebra.{Add, Mul, Sub, V, ring, mul_neg, mul_nonneg, mul_nonpos, mul_pos}
use Rattle.plane_laws.proofs.Counts.{count_is}
use Rattle.plane_laws.proofs.Lists.{from_filter}
use Rattle.plane_laws.proofs.Members.{In, contains}
use Rattle.plane_laws.proofs.Passing.{above, passes_down, passes_level, passes_up}
use Rattle.plane_laws.proofs.Sums.{total-map, total_agree}
use Rattle.plane_strips.specs.Rational.{magnified, place, scaled}
use Rattle.plane_strips.proofs.Scaling.{lt_same, times_le}
use Rattle.check_laws.specs.Counts.{OutlineSingleAt, placed}
use Rattle.check_laws.proofs.Along.{walked_along}
use Rattle.check_laws.proofs.Outlined.{both_true}
use Rattle.check_laws.proofs.Placed.{count_turns}

-- ---- floors

-- the greatest number whose multiple is not above another
record Floor (w x : ℤ) : Type 0 where
  number : ℤ
  low : (w *ℤ number) ≤ℤ x
  high : x <ℤ (w *ℤ number +ℤ w)

low : (z : ℤ) (n : ℕ) → 0 < n → (pos n *ℤ int_div_euclid z (pos n)) ≤ℤ z
low (pos a) n h = omega (arith, ints)
low (negsuc a) n h = omega (arith, ints)

high : (z : ℤ) (n : ℕ) → 0 < n → z <ℤ (pos n *ℤ int_div_euclid z (pos n) +ℤ pos n)
high (pos a) n h = omega (arith, ints)
high (negsuc a) n h = omega (arith, ints)

floor : (w x : ℤ) → pos 0 <ℤ w → Floor w x
floor (pos n) x h = let l : 0 < n = omega (arith, ints) in record { number = int_div_euclid x (pos n); low = low x n l; high = high x n l }
floor (negsuc n) x h = absurd (omega (arith, ints))

module _ (w : ℤ) (w0 : pos 0 <ℤ w) where
  next : (y : ℤ) → w *ℤ (y +ℤ pos 1) ≡ w *ℤ y +ℤ w
  next y = ring (Mul (V w) (Add (V y) (V (pos 1)))) (Add (Mul (V w) (V y)) (V w)) (omega arith)

  module _ (x : ℤ) (n : Floor w x) where
    -- the number lies below a multiple exactly where its floor does
    less : (a : ℤ) → n.number <ℤ a → x <ℤ (w *ℤ a)
    less a l = let k = times_le w w0 (n.number +ℤ pos 1) a (omega (arith, ints)) in let e = next n.number in let g = n.high in omega (arith, ints, k, e, g)

    not_less : (a : ℤ) → a ≤ℤ n.number → (w *ℤ a) ≤ℤ x
    not_less a l = let k = times_le w w0 a n.number l in let g = n.low in omega (arith, ints, k, g)

    less_alike : (a : ℤ) → int_lt x (w *ℤ a) ≡ int_lt n.number a
    less_alike a = lt_same x (w *ℤ a) n.number a (less a) (not_less a)

    above_alike : (a : ℤ) → above x (w *ℤ a) ≡ above n.number a
    above_alike a = ap (λ t. cond t (pos 1) (pos 0)) (less_alike a)

-- ---- upright and level segments

-- both ends on one line from south to north, or from west to east
abbrev Straight : Seg → Type 0
Straight s = (s.a.x ≡ s.b.x) ⊎ (s.a.y ≡ s.b.y)

module _ (w : ℤ) (w0 : pos 0 <ℤ w) (p : Point) (nx : Floor w p.x) (ny : Floor w p.y) where
  abbrev floored : Point
  floored = record { x = nx.number; y = ny.number }

  level_turn : (s : Seg) → s.a.y ≡ s.b.y → turn_of (magnified w s) p ≡ turn_of s floored
  level_turn s e =
      passes_level p.y (w *ℤ s.a.y) (w *ℤ s.b.y) (cross_of p (scaled w s.a) (scaled w s.b)) (ap (λ y. w *ℤ y) e)
      ∙ sym (passes_level ny.number s.a.y s.b.y (cross_of floored s.a s.b) e)

  -- the side of an upright line, by how far east of the point it is and by how far it rises
  upright_side : (z a b : Point) → a.x ≡ b.x → cross_of z a b ≡ (a.x -ℤ z.x) *ℤ (b.y -ℤ a.y)
  upright_side z a b e =
      ap (λ x. (a.x -ℤ z.x) *ℤ (b.y -ℤ z.y) -ℤ (a.y -ℤ z.y) *ℤ (x -ℤ z.x)) (sym e)
      ∙ ring (Sub (Mul (Sub (V a.x) (V z.x)) (Sub (V b.y) (V z.y))) (Mul (Sub (V a.y) (V z.y)) (Sub (V a.x) (V z.x)))) (Mul (Sub (V a.x) (V z.x)) (Sub (V b.y) (V a.y))) (omega arith)

  -- an upright segment turns past a point that lies west of it as its ends lie higher or lower
  down : (z : Point) (s : Seg) → s.a.x ≡ s.b.x → s.b.y ≤ℤ s.a.y → turn_of s z ≡ cond (int_lt z.x s.a.x) (above z.y s.a.y -ℤ above z.y s.b.y) (pos 0)
  down z s e l =
      let k = upright_side z s.a s.b e in
      passes_down z.y s.a.y s.b.y (z.x -ℤ s.a.x) (cross_of z s.a s.b) l
      (λ m c. let r = mul_neg (s.a.x -ℤ z.x) (s.b.y -ℤ s.a.y) (omega (arith, ints, c)) (omega (arith, ints, m)) in omega (arith, ints, k, r))
      (λ m c. let r = mul_nonneg (z.x -ℤ s.a.x) (s.a.y -ℤ s.b.y) c (omega (arith, ints, m)) in let g = both_back (s.a.x -ℤ z.x) (s.b.y -ℤ s.a.y) (z.x -ℤ s.a.x) (s.a.y -ℤ s.b.y) (omega (arith, ints)) (omega (arith, ints)) in omega (arith, ints, k, r, g))
      ∙ ap (λ t. cond t (above z.y s.a.y -ℤ above z.y s.b.y) (pos 0)) (lt_same (z.x -ℤ s.a.x) (pos 0) z.x s.a.x (λ t. omega (arith, ints, t)) (λ t. omega (arith, ints, t)))
    where
      both_back : (x y u v : ℤ) → u ≡ pos 0 -ℤ x → v ≡ pos 0 -ℤ y → x *ℤ y ≡ u *ℤ v
      both_back x y u v e g = ring (Mul (V x) (V y)) (Mul (Sub (V (pos 0)) (V x)) (Sub (V (pos 0)) (V y))) (omega arith) ∙ sym (ap₂ ◌*ℤ◌ e g)

  up : (z : Point) (s : Seg) → s.a.x ≡ s.b.x → s.a.y ≤ℤ s.b.y → turn_of s z ≡ cond (int_lt z.x s.a.x) (above z.y s.a.y -ℤ above z.y s.b.y) (pos 0)
  up z s e l =
      let k = upright_side z s.a s.b e in
      passes_up z.y s.a.y s.b.y (s.a.x -ℤ z.x) (cross_of z s.a s.b) l
      (λ m c. let r = mul_pos (s.a.x -ℤ z.x) (s.b.y -ℤ s.a.y) c (omega (arith, ints, m)) in omega (arith, ints, k, r))
      (λ m c. let r = mul_nonpos (s.b.y -ℤ s.a.y) (s.a.x -ℤ z.x) (omega (arith, ints, m)) c in let g = turned_product (s.a.x -ℤ z.x) (s.b.y -ℤ s.a.y) in omega (arith, ints, k, r, g))
      ∙ ap (λ t. cond t (above z.y s.a.y -ℤ above z.y s.b.y) (pos 0)) (lt_same (pos 0) (s.a.x -ℤ z.x) z.x s.a.x (λ t. omega (arith, ints, t)) (λ t. omega (arith, ints, t)))
    where
      turned_product : (x y : ℤ) → x *ℤ y ≡ y *ℤ x
      turned_product x y = ring (Mul (V x) (V y)) (Mul (V y) (V x)) (omega arith)

  upright_turn_at : (z : Point) (s : Seg) → s.a.x ≡ s.b.x → turn_of s z ≡ cond (int_lt z.x s.a.x) (above z.y s.a.y -ℤ above z.y s.b.y) (pos 0)
  upright_turn_at z s e = by_lt_z s.a.y s.b.y (λ l. up z s e (omega (arith, ints, l))) (λ l. down z s e l)

  upright_turn : (s : Seg) → s.a.x ≡ s.b.x → turn_of (magnified w s) p ≡ turn_of s floored
  upright_turn s e =
      upright_turn_at p (magnified w s) (ap (λ x. w *ℤ x) e)
      ∙ (ap₂ (λ t n. cond t n (pos 0)) (less_alike w w0 p.x nx s.a.x) (ap₂ ◌-ℤ◌ (above_alike w w0 p.y ny s.a.y) (above_alike w w0 p.y ny s.b.y))
      ∙ sym (upright_turn_at floored s e))

  turn_floored : (s : Seg) → Straight s → turn_of (magnified w s) p ≡ turn_of s floored
  turn_floored s t = ⊎_elim (upright_turn s) (level_turn s) t

-- ---- the outline of all pieces

along_straight : (f : Field) (t : Seg) → OnOutline f t → Straight t
along_straight f t (West a b) = inl (a ∙ sym b)
along_straight f t (East a b) = inl (a ∙ sym b)
along_straight f t (North a b) = inr (a ∙ sym b)
along_straight f t (South a b) = inr (a ∙ sym b)

none_of : (o : Option Piece) → within (λ q. true) o ≡ false → o ≡ None
none_of None e = refl
none_of (Some q) e = absurd (cc (e))

module _ (keep : FieldsKeepOutline) (f : Field) (h : IsField f) (block : ℕ → ℕ → ℕ) where
  outer_straight : (s : Step) → In (boundary (whole_mesh f block) (λ q. true)) s → Straight (walked (whole_mesh f block) s)
  outer_straight s i =
      let m = whole_mesh f block in
      let k = from_filter (λ x. within (λ q. true) (m.right_of x) && not (within (λ q. true) (m.right_of (back x)))) (steps (borders m)) s i in
      let none = none_of (left_of m s) ((both_true (within (λ q. true) (m.right_of s)) (within (λ q. true) (m.right_of (back s))) k.1).1) in
      along_straight f (walked m s) (walked_along f m s ((keep f block h s (contains m.subs s.sub (step_sub m.subs s k.0))).0 (inr none)))

single_if : (b : Bool) (z : ℤ) → z ≡ cond b (pos 1) (pos 0) → IsSingle z
single_if true z e = inr e
single_if false z e = inl e

pub outline_single : FieldsKeepOutline → OutlineIsCoverage → OutlineSingleAt
outline_single keep exact f block h q =
    let m = whole_mesh f block in
    let outer = boundary m (λ p. true) in
    let nx = floor q.w q.x q.positive in
    let ny = floor q.w q.y q.positive in
    let z : Point = record { x = nx.number; y = ny.number } in
    let e = total_agree (λ s. turn_of (placed q.w m s) (place q)) (λ s. turn_of (walked m s) z) outer (λ s i. turn_floored q.w q.positive (place q) nx ny (walked m s) (outer_straight keep f h block s i)) in
    let g = count_is (map (walked m) outer) z ∙ total-map (λ s. turn_of s z) (walked m) outer in
    single_if _ _ (count_turns q.w m (place q) outer ∙ (e ∙ (sym g ∙ exact f block h z)))
