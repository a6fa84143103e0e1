-- The points where sub-segments end, by name: a node, or the crossing of a level and a link. A point has one name.
use Rattle.std.proofs.Common.{◌≡◌, ◌⊎◌, ⊎_elim, ℕ, ◌+◌, ◌-◌, ◌<◌, ◌≤◌, ℤ, pos, neg_ℤ, ◌+ℤ◌, ◌-ℤ◌, ◌*ℤ◌, ◌<ℤ◌, Bool, true, false, true≢false, refl, sym, ap, ap₂, subst, ◌∙◌, arith}
use Rattle.std.specs.Prelude.{int_div}
use Rattle.std.proofs.Math.IntN.{*ℤ-zero}
use Rattle.std.proofs.lemmas.Bool.{cases_order}
use Rattle.std.proofs.lemmas.Int.{ints, by_lt_z}
use Rattle.mesh_definitions.specs.Cuts.{Slope, slope, crossing, crossing_count, lattice, lattice_steps, slot_of, wanted}
use Rattle.mesh_definitions.specs.Field.{Field, IsField, point, band_at}
use Rattle.mesh_definitions.specs.Mesh.{first, second}
use Rattle.mesh_definitions.specs.declared.Link.{Link}
use Rattle.mesh_definitions.specs.declared.Way.TheVariants.{Across, Down, Slant}
use Rattle.mesh_definitions.specs.declared.Way.{Way}
use Rattle.depth_grid.specs.declared.node.NodeId.{NodeId}
use Rattle.plane_geom.specs.declared.Point.{Point}
use Rattle.plane_laws.proofs.Algebra.{mul_pos, mul_neg}
use Rattle.tri_mesh.specs.Fields.{upwards}
use Rattle.tri_mesh.proofs.Chording.{slope_ahead, slope_back, crossing_inside}
use Rattle.tri_mesh.proofs.Crossings.{slots_rise, crossing_few}
use Rattle.tri_mesh.proofs.Steps.{Cut, InField, crossing_cut, several}
use Rattle.mesh_lines_laws.proofs.Ranks.{Rises, Lies, lies_once, Along, along, less_is}

pub data Spot : Type 0 where
  At : NodeId → Spot
  On : Link → ℕ → Spot

-- level k lies above one of two bands and up to the other
abbrev pub Separates : ℕ → ℕ → ℕ → Type 0
Separates k a b = ((a < k) × (k ≤ b)) ⊎ ((b < k) × (k ≤ a))

abbrev pub link : Way → ℕ → ℕ → Link
link way i j = record { way = way; row = i; col = j }

-- whether a link's inner points lie between columns, and between rows
abbrev pub x_within : Way → Bool
x_within Across = true
x_within Down = false
x_within Slant = true

abbrev pub y_within : Way → Bool
y_within Across = false
y_within Down = true
y_within Slant = true

way_same : (v w : Way) → x_within v ≡ x_within w → y_within v ≡ y_within w → v ≡ w
way_same Across Across e g = refl
way_same Down Down e g = refl
way_same Slant Slant e g = refl
way_same Across Down e g = absurd (true≢false e)
way_same Across Slant e g = absurd (true≢false (sym g))
way_same Down Across e g = absurd (true≢false (sym e))
way_same Down Slant e g = absurd (true≢false (sym e))
way_same Slant Across e g = absurd (true≢false g)
way_same Slant Down e g = absurd (true≢false e)

way_inner : (w : Way) → x_within w ≡ false → y_within w ≡ false → ⊥
way_inner Across e g = true≢false e
way_inner Down e g = true≢false g
way_inner Slant e g = true≢false e

pub link_same : (l m : Link) → l.way ≡ m.way → l.row ≡ m.row → l.col ≡ m.col → l ≡ m
link_same l m e g k = ap (λ w. link w l.row l.col) e ∙ ap₂ (λ i j. link m.way i j) g k

pub node_same : (n m : NodeId) → n.row ≡ m.row → n.col ≡ m.col → n ≡ m
node_same n m e g = ap₂ (λ i j. let k : NodeId = record { row = i; col = j } in k) e g

pub point_same : (p q : Point) → p.x ≡ q.x → p.y ≡ q.y → p ≡ q
point_same p q e g = ap₂ (λ i j. let k : Point = record { x = i; y = j } in k) e g

along_back : (w o c : ℤ) → Along w o c → Along o w c
along_back w o c h = record { level = λ e. h.level (sym e) ∙ sym e; up = h.down; down = h.up }

-- equal points at two slots are no step apart
no_step : (w e t r : ℤ) → t <ℤ r → w +ℤ t *ℤ e ≡ w +ℤ r *ℤ e → e ≡ pos 0
no_step w e t r l same = by_lt_z (pos 0) e
    (λ up. absurd (let a = mul_pos (r -ℤ t) e (omega (arith, ints, l)) up in let d = less_is r t e in omega (arith, ints, a, d, same)))
    (λ not_up. by_lt_z e (pos 0)
    (λ down. absurd (let a = mul_neg (r -ℤ t) e (omega (arith, ints, l)) down in let d = less_is r t e in omega (arith, ints, a, d, same)))
    (λ not_down. omega (arith, ints, not_up, not_down)))

stays : (w e t : ℤ) → e ≡ pos 0 → w +ℤ t *ℤ e ≡ w
stays w e t z = let a : t *ℤ e ≡ pos 0 = ap (λ x. t *ℤ x) z ∙ *ℤ-zero t in omega (arith, ints, a)

module _ (f : Field) (h : IsField f) where
  abbrev pub InBoth : Link → Type 0
  InBoth l = InField f h (first l) × InField f h (second l)

  abbrev pub where_on : Link → ℕ → Point
  where_on l k = crossing f (slope f (first l) (second l)) k

  -- the point that a name stands for
  abbrev pub Holds : Spot → Point → Type 0
  Holds (At n) p = InField f h n × (p ≡ point f n)
  Holds (On l k) p = InBoth l × Separates k (band_at f (first l)) (band_at f (second l)) × (p ≡ where_on l k)

  cut_x : (w o c : Point) → Cut w o c → Along w.x o.x c.x
  cut_x w o c k = along w.x o.x c.x k.step.x k.n k.s k.some k.less (ap (λ p. p.x) k.end) (ap (λ p. p.x) k.is)

  cut_y : (w o c : Point) → Cut w o c → Along w.y o.y c.y
  cut_y w o c k = along w.y o.y c.y k.step.y k.n k.s k.some k.less (ap (λ p. p.y) k.end) (ap (λ p. p.y) k.is)

  -- how a crossing lies between the nodes of its link
  pub record Amid (a b : NodeId) (c : Point) : Type 0 where
    pub x : Along (f.x a.col) (f.x b.col) c.x
    pub y : Along (f.y a.row) (f.y b.row) c.y

  pub amid : (a b : NodeId) (k : ℕ) → InField f h a → InField f h b → Separates k (band_at f a) (band_at f b) → Amid a b (crossing f (slope f a b) k)
  amid a b k in_a in_b passes = ⊎_elim
      (λ l. subst (λ s. Amid a b (crossing f s k)) (sym (slope_ahead f a b (omega (arith, l.0, l.1))))
      (let c = crossing_cut f h a b k in_a in_b l.0 l.1 in record { x = cut_x _ _ _ c; y = cut_y _ _ _ c }))
      (λ l. subst (λ s. Amid a b (crossing f s k)) (sym (slope_back f b a (omega (arith, l.0, l.1))))
      (let c = crossing_cut f h b a k in_b in_a l.0 l.1 in record { x = along_back _ _ _ (cut_x _ _ _ c); y = along_back _ _ _ (cut_y _ _ _ c) }))
      passes

  abbrev pub down : ℕ → ℤ
  down i = neg_ℤ (f.y i)

  pub rises_down : Rises down f.rows
  rises_down i k l m = let s = h.southwards i k l m in omega (arith, ints, s)

  lies_x : (way : Way) (i j : ℕ) (p : Point) → InBoth (link way i j) → Amid (first (link way i j)) (second (link way i j)) p → Lies f.x f.cols j (x_within way) p.x
  lies_x Across i j p b a = let r = a.x.up (h.eastwards j (j + 1) (omega arith) b.1.col) in (b.1.col, r.0, r.1)
  lies_x Down i j p b a = (b.0.col, a.x.level refl)
  lies_x Slant i j p b a = let r = a.x.up (h.eastwards j (j + 1) (omega arith) b.1.col) in (b.1.col, r.0, r.1)

  lies_y : (way : Way) (i j : ℕ) (p : Point) → InBoth (link way i j) → Amid (first (link way i j)) (second (link way i j)) p → Lies down f.rows i (y_within way) (neg_ℤ p.y)
  lies_y Across i j p b a = (b.0.row, ap neg_ℤ (a.y.level refl))
  lies_y Down i j p b a = let r = a.y.down (h.southwards i (i + 1) (omega arith) b.1.row) in (b.1.row, omega (arith, ints, r.1), omega (arith, ints, r.0))
  lies_y Slant i j p b a = let r = a.y.up (h.southwards i (i + 1) (omega arith) b.0.row) in (b.0.row, omega (arith, ints, r.1), omega (arith, ints, r.0))

  abbrev pub row_of : Spot → ℕ
  row_of (At n) = n.row
  row_of (On l k) = l.row

  abbrev pub col_of : Spot → ℕ
  col_of (At n) = n.col
  col_of (On l k) = l.col

  abbrev pub x_in : Spot → Bool
  x_in (At n) = false
  x_in (On l k) = x_within l.way

  abbrev pub y_in : Spot → Bool
  y_in (At n) = false
  y_in (On l k) = y_within l.way

  pub place_x : (s : Spot) (p : Point) → Holds s p → Lies f.x f.cols (col_of s) (x_in s) p.x
  place_x (At n) p k = (k.0.col, ap (λ q. q.x) k.1)
  place_x (On l k) p b = subst (λ q. Lies f.x f.cols l.col (x_within l.way) q.x) (sym b.2) (lies_x l.way l.row l.col (where_on l k) b.0 (amid (first l) (second l) k b.0.0 b.0.1 b.1))

  pub place_y : (s : Spot) (p : Point) → Holds s p → Lies down f.rows (row_of s) (y_in s) (neg_ℤ p.y)
  place_y (At n) p k = (k.0.row, ap (λ q. neg_ℤ q.y) k.1)
  place_y (On l k) p b = subst (λ q. Lies down f.rows l.row (y_within l.way) (neg_ℤ q.y)) (sym b.2) (lies_y l.way l.row l.col (where_on l k) b.0 (amid (first l) (second l) k b.0.0 b.0.1 b.1))

  record SamePlace (s t : Spot) : Type 0 where
    row : row_of s ≡ row_of t
    col : col_of s ≡ col_of t
    across : x_in s ≡ x_in t
    along_y : y_in s ≡ y_in t

  same_place : (s t : Spot) (p : Point) → Holds s p → Holds t p → SamePlace s t
  same_place s t p a b =
      let x = lies_once f.x f.cols h.eastwards (col_of s) (col_of t) (x_in s) (x_in t) p.x (place_x s p a) (place_x t p b) in
      let y = lies_once down f.rows rises_down (row_of s) (row_of t) (y_in s) (y_in t) (neg_ℤ p.y) (place_y s p a) (place_y t p b) in
      record { row = y.0; col = x.0; across = x.1; along_y = y.1 }

  not_node : (n : NodeId) (l : Link) (k : ℕ) (p : Point) → Holds (At n) p → Holds (On l k) p → ⊥
  not_node n l k p a b = let s = same_place (At n) (On l k) p a b in way_inner l.way (sym s.across) (sym s.along_y)

  -- two levels that cross a slope at one point cross it at its shoaler node
  module _ (u v : NodeId) (in_u : InField f h u) (in_v : InField f h v) (k j : ℕ) (above : band_at f u < k) (less : k < j) (most : j ≤ band_at f v) where
    abbrev s : Slope
    s = upwards u v

    abbrev steps : ℕ
    steps = lattice_steps f s

    abbrev east : ℤ
    east = int_div (f.x v.col -ℤ f.x u.col) (pos steps)

    abbrev north : ℤ
    north = int_div (f.y v.row -ℤ f.y u.row) (pos steps)

    abbrev t : ℕ
    t = slot_of f s (k - band_at f u)

    abbrev r : ℕ
    r = slot_of f s (j - band_at f u)

    pub further : t < r
    further =
        let few = crossing_few f s h.levels.few in
        let much = several f h u v j in_u in_v (omega (arith, above, less)) most in
        slots_rise steps (crossing_count f s) (wanted f s) (k - band_at f u) (j - band_at f u) (omega (arith, above, less)) (omega (arith, most)) (omega (arith, few, much))

    at_end : crossing f s k ≡ crossing f s j → crossing f s k ≡ point f u
    at_end same =
        let a = crossing_inside f u v k above (omega (arith, less, most)) in
        let b = crossing_inside f u v j (omega (arith, above, less)) most in
        let e : lattice f s t ≡ lattice f s r = sym a ∙ (same ∙ b) in
        let l : pos t <ℤ pos r = omega (arith, ints, further) in
        let x = no_step (f.x u.col) east (pos t) (pos r) l (ap (λ p. p.x) e) in
        let y = no_step (f.y u.row) north (pos t) (pos r) l (ap (λ p. p.y) e) in
        a ∙ point_same (lattice f s t) (point f u) (stays (f.x u.col) east (pos t) x) (stays (f.y u.row) north (pos t) y)

  level_apart : (l : Link) (k j : ℕ) (p : Point) → k < j → Holds (On l k) p → Holds (On l j) p → ⊥
  level_apart l k j p less a b = ⊎_elim
      (λ c. ⊎_elim
      (λ d.
      let e = slope_ahead f (first l) (second l) (omega (arith, c.0, c.1)) in
      let same = sym (ap (λ s. crossing f s k) e) ∙ (sym a.2 ∙ (b.2 ∙ ap (λ s. crossing f s j) e)) in
      let g = at_end (first l) (second l) a.0.0 a.0.1 k j c.0 less d.1 same in
      not_node (first l) l k p (a.0.0, a.2 ∙ (ap (λ s. crossing f s k) e ∙ g)) a)
      (λ d. omega (arith, c.0, c.1, d.0, d.1)) b.1)
      (λ c. ⊎_elim
      (λ d. omega (arith, c.0, c.1, d.0, d.1))
      (λ d.
      let e = slope_back f (second l) (first l) (omega (arith, c.0, c.1)) in
      let same = sym (ap (λ s. crossing f s k) e) ∙ (sym a.2 ∙ (b.2 ∙ ap (λ s. crossing f s j) e)) in
      let g = at_end (second l) (first l) a.0.1 a.0.0 k j c.0 less d.1 same in
      not_node (second l) l k p (a.0.1, a.2 ∙ (ap (λ s. crossing f s k) e ∙ g)) a) b.1)
      a.1

  same_level : (l : Link) (k j : ℕ) (p : Point) → Holds (On l k) p → Holds (On l j) p → k ≡ j
  same_level l k j p a b = ⊎_elim
      (λ e. e)
      (λ far. absurd (⊎_elim (λ less. level_apart l k j p less a b) (λ less. level_apart l j k p less b a) far))
      (cases_order k j)

  -- a point has one name
  pub one_name : (s t : Spot) (p : Point) → Holds s p → Holds t p → s ≡ t
  one_name (At n) (At m) p a b = let s = same_place (At n) (At m) p a b in ap At (node_same n m s.row s.col)
  one_name (At n) (On l k) p a b = absurd (not_node n l k p a b)
  one_name (On l k) (At n) p a b = absurd (not_node n l k p b a)
  one_name (On l k) (On m j) p a b =
      let s = same_place (On l k) (On m j) p a b in
      let e = link_same l m (way_same l.way m.way s.across s.along_y) s.row s.col in
      let c : Holds (On m k) p = subst (λ z. Holds (On z k) p) e a in
      ap₂ On e (same_level m k j p c b)
