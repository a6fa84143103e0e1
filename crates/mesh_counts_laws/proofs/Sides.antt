-- The northern and eastern sides of the coverage are lines of the mesh.
use Rattle.std.proofs.Common.{◌≡◌, ◌⊎◌, ⊎_elim, inl, ℕ, zero, suc, ◌+◌, ◌-◌, ◌<◌, ◌≤◌, min, max, ℤ, pos, ◌-ℤ◌, ◌*ℤ◌, ◌≤ℤ◌, ◌<ℤ◌, neg_ℤ, Bool, true, false, cond, not, Option, Some, None, [], ◌∷◌, map, refl, sym, ap, ap₂, subst, ◌∙◌, arith}
use Rattle.std.specs.Prelude.{flat_map, int_le, int_lt, ◌&&◌, nat_le, nat_lt, option_map}
use Rattle.std.proofs.Math.IntN.{*ℤ-zero}
use Rattle.std.proofs.lemmas.Bool.Decides.{nat_tests}
use Rattle.std.proofs.lemmas.Int.{ints, by_lt_z}
use Rattle.plane_laws.proofs.Between.{Between, in_order, against, either_way, exchanged, parted}
use Rattle.mesh_definitions.specs.Cuts.{Slope, falls, slope, crossing, crossing_count, lattice, lattice_steps, slot_of, wanted}
use Rattle.mesh_definitions.specs.Faces.{OnLine, drawn, is_drawn, same_kind}
use Rattle.mesh_definitions.specs.Field.{Field, IsField, InCoverage, point, band_at, node_band}
use Rattle.mesh_definitions.specs.Mesh.{Walk, all_cells, first, second, has_cell, links, right_tri}
use Rattle.mesh_definitions.specs.Pieces.{whole_mesh, part_ends, part_bands, piece_at, span}
use Rattle.mesh_definitions.specs.declared.Link.{Link}
use Rattle.mesh_definitions.specs.declared.Sub.TheVariants.{Part}
use Rattle.mesh_definitions.specs.declared.Sub.{Sub}
use Rattle.mesh_definitions.specs.declared.Tri.{Tri}
use Rattle.mesh_definitions.specs.declared.Way.TheVariants.{Across, Down}
use Rattle.mesh_laws.proofs.Links.{field_across, field_down, link}
use Rattle.mesh_laws.proofs.Places.{in_range}
use Rattle.plane_geom.specs.Geom.{cross_of, IsOn}
use Rattle.plane_geom.specs.declared.Point.{Point}
use Rattle.plane_geom.specs.declared.Seg.{Seg}
use Rattle.plane_laws.proofs.Lists.{in_flat_map, in_filter}
use Rattle.plane_laws.specs.Outlines.{seg}
use Rattle.plane_laws.proofs.Members.{In, contains, in_map, in_left}
use Rattle.tri_mesh.proofs.Boxes.{slot_most, along_within}
use Rattle.tri_mesh.proofs.Signs.{level, upright}
use Rattle.mesh_counts_laws.specs.Counts.{OneWithin, OutlineIsCoverage}
use Rattle.mesh_counts_laws.proofs.Inside.{link_leg}
use Rattle.mesh_counts_laws.proofs.Parts.{at_first, at_last, between}
use Rattle.mesh_counts_laws.proofs.Rounds.{IsLeg, graded_slope}
use Rattle.mesh_counts_laws.proofs.Triangles.{sum_of_parts, turn_at}

-- ---- numbers between others

-- a number between the ends of numbers in order lies between two neighbours
some_step : (q : ℕ → ℤ) (z : ℤ) → ((a n : ℕ) → Between (q a) (q (a + 1 + n)) (q (a + 1))) → (a n : ℕ) → Between (q a) (q (a + 1 + n)) z → (k : ℕ) × (a ≤ k) × (k ≤ a + n) × Between (q k) (q (k + 1)) z
some_step q z ordered a zero h = let e : a + 1 + 0 ≡ a + 1 = omega arith in (a, omega arith, omega arith, subst (λ k. Between (q a) (q k) z) e h)
some_step q z ordered a (suc n) h =
    let e : a + 1 + suc n ≡ a + 1 + 1 + n = omega arith in
    ⊎_elim
    (λ l. (a, omega arith, omega arith, l))
    (λ r. let s = some_step q z ordered (a + 1) n (subst (λ k. Between (q (a + 1)) (q k) z) e r) in (s.0, omega (arith, s.1), omega (arith, s.2), s.3))
    (parted (q a) (q (a + 1)) (q (a + 1 + suc n)) z (ordered a (suc n)) h)

-- the step in which a number lies
find_step : (at : ℕ → ℤ) (n : ℕ) (z : ℤ) → at 0 ≤ℤ z → z ≤ℤ at (n + 1) → (k : ℕ) × (k ≤ n) × (at k ≤ℤ z) × (z ≤ℤ at (k + 1))
find_step at zero z l m = (0, omega arith, l, m)
find_step at (suc n) z l m =
    let e : n + 1 ≡ suc n = omega arith in
    by_lt_z z (at (n + 1))
    (λ less. let s = find_step at n z l (omega (arith, ints, less)) in (s.0, omega (arith, s.1), s.2, s.3))
    (λ no_less. (suc n, omega arith, subst (λ k. at k ≤ℤ z) e no_less, m))

-- ---- level and upright segments

level_line : (o a b : Point) → a.y ≡ o.y → b.y ≡ o.y → cross_of o a b ≡ pos 0
level_line o a b e k =
    let flat : b.y -ℤ o.y ≡ pos 0 = omega (arith, ints, k) in
    level o a b e ∙ (ap (λ z. (a.x -ℤ o.x) *ℤ z) flat ∙ *ℤ-zero (a.x -ℤ o.x))

upright_line : (o a b : Point) → a.x ≡ o.x → b.x ≡ o.x → cross_of o a b ≡ pos 0
upright_line o a b e k =
    let flat : b.x -ℤ o.x ≡ pos 0 = omega (arith, ints, k) in
    upright o a b e ∙ (ap (λ z. neg_ℤ ((a.y -ℤ o.y) *ℤ z)) flat ∙ ap neg_ℤ (*ℤ-zero (a.y -ℤ o.y)))

alike : (a b z : ℤ) → a ≡ b → z ≡ a → Between a b z
alike a b z e k = in_order a b z (omega (arith, ints, k)) (omega (arith, ints, e, k))

-- along one coordinate, where the other stays
record IsAxis (f : Field) (c d : Point → ℤ) : Type 0 where
  makes : (a b q : Point) → d b ≡ d a → d q ≡ d a → Between (c a) (c b) (c q) → IsOn (seg a b) q
  along : (s : Seg) (q : Point) → IsOn s q → Between (c s.a) (c s.b) (c q)
  across : (s : Seg) (q : Point) → IsOn s q → Between (d s.a) (d s.b) (d q)
  stays : (s : Slope) (k : ℕ) → d (point f s.u) ≡ d (point f s.v) → d (crossing f s k) ≡ d (point f s.u)

stay_between : (lo z : ℤ) → (lo ≤ℤ z) × (z ≤ℤ lo) → z ≡ lo
stay_between lo z h = omega (arith, ints, h.0, h.1)

module _ (f : Field) where
  stays_level : (s : Slope) (k : ℕ) → (point f s.u).y ≡ (point f s.v).y → (crossing f s k).y ≡ (point f s.u).y
  stays_level s k e = by (nat_le k (band_at f s.u)) (nat_lt (band_at f s.v) k)
    where
      t : ℕ
      t = slot_of f s (k - band_at f s.u)

      by : (x y : Bool) → (cond x (point f s.u) (cond y (point f s.v) (lattice f s (slot_of f s (k - band_at f s.u))))).y ≡ f.y s.u.row
      by true y = refl
      by false true = sym e
      by false false = stay_between (f.y s.u.row) _ (along_within (f.y s.u.row) (f.y s.u.row) (f.y s.u.row) (f.y s.v.row) (lattice_steps f s) (slot_of f s (k - band_at f s.u)) (slot_most (lattice_steps f s) (crossing_count f s) (wanted f s) (k - band_at f s.u)) (omega (arith, ints)) (omega (arith, ints)) (omega (arith, ints, e)) (omega (arith, ints, e)))

  stays_upright : (s : Slope) (k : ℕ) → (point f s.u).x ≡ (point f s.v).x → (crossing f s k).x ≡ (point f s.u).x
  stays_upright s k e = by (nat_le k (band_at f s.u)) (nat_lt (band_at f s.v) k)
    where
      by : (x y : Bool) → (cond x (point f s.u) (cond y (point f s.v) (lattice f s (slot_of f s (k - band_at f s.u))))).x ≡ f.x s.u.col
      by true y = refl
      by false true = sym e
      by false false = stay_between (f.x s.u.col) _ (along_within (f.x s.u.col) (f.x s.u.col) (f.x s.u.col) (f.x s.v.col) (lattice_steps f s) (slot_of f s (k - band_at f s.u)) (slot_most (lattice_steps f s) (crossing_count f s) (wanted f s) (k - band_at f s.u)) (omega (arith, ints)) (omega (arith, ints)) (omega (arith, ints, e)) (omega (arith, ints, e)))

  level_axis : IsAxis f (λ q. q.x) (λ q. q.y)
  level_axis = record {
    makes = λ a b q e k l. record { line = level_line a b q e k; wide = l; high = alike a.y b.y q.y (sym e) k };
    along = λ s q on. on.wide;
    across = λ s q on. on.high;
    stays = stays_level;
  }

  upright_axis : IsAxis f (λ q. q.y) (λ q. q.x)
  upright_axis = record {
    makes = λ a b q e k l. record { line = upright_line a b q e k; wide = alike a.x b.x q.x (sym e) k; high = l };
    along = λ s q on. on.high;
    across = λ s q on. on.wide;
    stays = stays_upright;
  }

-- ---- a point on a level or upright link lies on one of its parts

module _ (f : Field) (h : IsField f) (c d : Point → ℤ) (axis : IsAxis f c d) (p : Point) (l : Link) (leg : IsLeg f h (record { link = l; forward = true })) (flat : d (point f (first l)) ≡ d (point f (second l))) (on : IsOn (seg (point f (first l)) (point f (second l))) p) where
  abbrev s : Slope
  s = slope f (first l) (second l)

  abbrev w : Walk
  w = record { link = l; forward = true }

  abbrev OnPart : Type 0
  OnPart = (b : ℕ) × In (part_bands f l) b × IsOn (part_ends f l b) p

  whole_part : part_bands f l ≡ 0 ∷ [] → part_ends f l 0 ≡ seg (point f (first l)) (point f (second l)) → OnPart
  whole_part e k = (0, subst (λ bands. In bands 0) (sym e) (inl refl), subst (λ s. IsOn s p) (sym k) on)

  beside : d p ≡ d (point f (first l))
  beside = ⊎_elim (λ o. omega (arith, ints, o, flat)) (λ o. omega (arith, ints, o, flat)) (either_way (d (point f (first l))) (d (point f (second l))) (d p) (axis.across (seg (point f (first l)) (point f (second l))) p on))

  abbrev OfSlope : Slope → Type 0
  OfSlope s = (d (point f s.u) ≡ d (point f s.v)) × (d p ≡ d (point f s.u)) × Between (c (point f s.u)) (c (point f s.v)) (c p)

  of_slope : OfSlope s
  of_slope = by (falls f (first l) (second l))
    where
      by : (x : Bool) → OfSlope (cond x (record { u = second l; v = first l }) (record { u = first l; v = second l }))
      by true = (sym flat, beside ∙ flat, exchanged (c (point f (first l))) (c (point f (second l))) (c p) (axis.along (seg (point f (first l)) (point f (second l))) p on))
      by false = (flat, beside, axis.along (seg (point f (first l)) (point f (second l))) p on)

  abbrev at : ℕ → Point
  at k = crossing f s k

  known : (x y : ℕ) → node_band f (first l) ≡ Some x → node_band f (second l) ≡ Some y → OnPart
  known x y e k =
      let n = max x y - min x y in
      let g = turn_at p in
      let ordered = λ (a n : ℕ). axis.along (seg (at a) (at (a + 1 + n))) (at (a + 1)) (between g (sum_of_parts p) (point f s.u) (point f s.v) at (graded_slope f h w leg) a n) in
      let low : at (min x y) ≡ point f s.u = at_first f g w x y e k (min x y) (omega arith) in
      let high : at (min x y + 1 + n) ≡ point f s.v = at_last f g w x y e k (min x y + 1 + n) (omega arith) in
      let whole : Between (c (at (min x y))) (c (at (min x y + 1 + n))) (c p) = subst (λ q. Between (c q) (c (at (min x y + 1 + n))) (c p)) (sym low) (subst (λ q. Between (c (point f s.u)) (c q) (c p)) (sym high) of_slope.2) in
      let step = some_step (λ k. c (at k)) (c p) ordered (min x y) n whole in
      let b = step.0 in
      let bands : part_bands f l ≡ span (min x y) (max x y) = rw (e, k) refl in
      let part : part_ends f l b ≡ cond (falls f (first l) (second l)) (seg (at (b + 1)) (at b)) (seg (at b) (at (b + 1))) = rw (e, k) refl in
      (b, subst (λ bands. In bands b) (sym bands) (in_range (min x y) (max x y + 1 - min x y) b step.1 (let t = step.2 in omega (arith, t))), subst (λ s. IsOn s p) (sym part) (on_part b step.3 (falls f (first l) (second l))))
    where
      on_part : (b : ℕ) → Between (c (at b)) (c (at (b + 1))) (c p) → (x : Bool) → IsOn (cond x (seg (at (b + 1)) (at b)) (seg (at b) (at (b + 1)))) p
      on_part b t true = axis.makes (at (b + 1)) (at b) p (axis.stays s b of_slope.0 ∙ sym (axis.stays s (b + 1) of_slope.0)) (of_slope.1 ∙ sym (axis.stays s (b + 1) of_slope.0)) (exchanged (c (at b)) (c (at (b + 1))) (c p) t)
      on_part b t false = axis.makes (at b) (at (b + 1)) p (axis.stays s (b + 1) of_slope.0 ∙ sym (axis.stays s b of_slope.0)) (of_slope.1 ∙ sym (axis.stays s b of_slope.0)) t

  on_part : OnPart
  on_part = by (node_band f (first l)) (node_band f (second l)) refl refl
    where
      by : (x y : Option ℕ) → node_band f (first l) ≡ x → node_band f (second l) ≡ y → OnPart
      by None y e k = whole_part (rw e refl) (rw e refl)
      by (Some x) None e k = whole_part (rw (e, k) refl) (rw (e, k) refl)
      by (Some x) (Some y) e k = known x y e k

-- ---- the outer links of a mesh are drawn

module _ (f : Field) (h : IsField f) (block : ℕ → ℕ → ℕ) (p : Point) where
  -- a link with a triangle on its right alone
  record IsOuter (l : Link) : Type 0 where
    right : Tri
    beside : right_tri (all_cells f) (record { link = l; forward = true }) ≡ Some right
    beyond : right_tri (all_cells f) (record { link = l; forward = false }) ≡ None

  abbrev m_is_drawn : Sub → Bool
  m_is_drawn s = is_drawn (whole_mesh f block) s

  outer_drawn : (l : Link) (b : ℕ) → IsOuter l → m_is_drawn (Part l b) ≡ true
  outer_drawn l b o = ap₂ (λ x y. not (same_kind (whole_mesh f block) (option_map (piece_at f b) x) (option_map (piece_at f b) y))) o.beside o.beyond

  outer_line : (l : Link) (b : ℕ) → IsOuter l → In (links (all_cells f)) l → In (part_bands f l) b → IsOn (part_ends f l b) p → OnLine (whole_mesh f block) p
  outer_line l b o there i on =
      let m = whole_mesh f block in
      let parts = flat_map (λ l. map (Part l) (part_bands f l)) (links (all_cells f)) in
      let sub : In m.subs (Part l b) = in_left parts _ (Part l b) (in_flat_map (λ l. map (Part l) (part_bands f l)) (links (all_cells f)) l (Part l b) there (in_map (Part l) (part_bands f l) b i)) in
      record { segment = part_ends f l b; there = contains (map m.ends (drawn m)) (part_ends f l b) (in_map m.ends (drawn m) (Part l b) (in_filter (is_drawn m) m.subs (Part l b) sub (outer_drawn l b o))); on = on }

  cell_there : (i j : ℕ) → i < f.rows - 1 → j < f.cols - 1 → has_cell (all_cells f) i j ≡ true
  cell_there i j a b = grind (arith, nat_tests, a, b)

  cell_beyond : (i : ℕ) → has_cell (all_cells f) i (f.cols - 1) ≡ false
  cell_beyond i = grind (arith, nat_tests)

  found : (c : Bool) (t : Tri) → c ≡ true → cond c (Some t) None ≡ Some t
  found c t e = ap (λ b. cond b (Some t) None) e

  lost : (c : Bool) (t : Tri) → c ≡ false → cond c (Some t) None ≡ None
  lost c t e = ap (λ b. cond b (Some t) None) e

  north_outer : (j : ℕ) → j < f.cols - 1 → IsOuter (link Across 0 j)
  north_outer j b = record {
    right = record { row = 0; col = j; upper = true };
    beside = found (has_cell (all_cells f) 0 j) (record { row = 0; col = j; upper = true }) (cell_there 0 j (let k = h.some_rows in omega (arith, k)) b);
    beyond = refl;
  }

  east_outer : (i c : ℕ) → i < f.rows - 1 → f.cols - 1 ≡ suc c → IsOuter (link Down i (f.cols - 1))
  east_outer i c a e = record {
    right = record { row = i; col = c; upper = false };
    beside = subst (λ n. right_tri (all_cells f) (record { link = link Down i n; forward = true }) ≡ Some (record { row = i; col = c; upper = false })) (sym e) (found (has_cell (all_cells f) i c) (record { row = i; col = c; upper = false }) (cell_there i c a (omega (arith, e))));
    beyond = lost (has_cell (all_cells f) i (f.cols - 1)) (record { row = i; col = f.cols - 1; upper = true }) (cell_beyond i);
  }

  one_less : (n : ℕ) → 1 ≤ n → (c : ℕ) × (n ≡ suc c)
  one_less zero l = absurd (omega (arith, l))
  one_less (suc c) l = (c, refl)

  -- a point on the northern side is on a line
  on_north : InCoverage f p → p.y ≡ f.y 0 → OnLine (whole_mesh f block) p
  on_north c e =
      let last = one_less (f.cols - 1) (let k = h.some_cols in omega (arith, k)) in
      let n = last.0 in
      let step = find_step f.x n p.x c.west (let k : f.cols - 1 ≡ n + 1 = omega (arith, last.1) in subst (λ k. p.x ≤ℤ f.x k) k c.east) in
      let j = step.0 in
      let few : j < f.cols - 1 = omega (arith, step.1, last.1) in
      let l = link Across 0 j in
      let there = field_across f 0 j (omega arith) few in
      let leg = link_leg f h l (contains (links (all_cells f)) l there) in
      let a : Point = record { x = f.x j; y = f.y 0 } in
      let b : Point = record { x = f.x (j + 1); y = f.y 0 } in
      let on : IsOn (seg a b) p = (level_axis f).makes a b p refl e (in_order (f.x j) (f.x (j + 1)) p.x step.2 step.3) in
      let part = on_part f h (λ q. q.x) (λ q. q.y) (level_axis f) p l leg refl on in
      outer_line l part.0 (north_outer j few) there part.1 part.2

  -- and so is one on the eastern side
  on_east : InCoverage f p → p.x ≡ f.x (f.cols - 1) → OnLine (whole_mesh f block) p
  on_east c e =
      let last = one_less (f.rows - 1) (let k = h.some_rows in omega (arith, k)) in
      let n = last.0 in
      let cols = one_less (f.cols - 1) (let k = h.some_cols in omega (arith, k)) in
      let step = find_step (λ i. neg_ℤ (f.y i)) n (neg_ℤ p.y) (let k = c.north in omega (arith, ints, k)) (let k : f.rows - 1 ≡ n + 1 = omega (arith, last.1) in subst (λ k. neg_ℤ p.y ≤ℤ neg_ℤ (f.y k)) k (let s = c.south in omega (arith, ints, s))) in
      let i = step.0 in
      let few : i < f.rows - 1 = omega (arith, step.1, last.1) in
      let l = link Down i (f.cols - 1) in
      let there = field_down f i (f.cols - 1) few (omega arith) in
      let leg = link_leg f h l (contains (links (all_cells f)) l there) in
      let a : Point = record { x = f.x (f.cols - 1); y = f.y i } in
      let b : Point = record { x = f.x (f.cols - 1); y = f.y (i + 1) } in
      let on : IsOn (seg a b) p = (upright_axis f).makes a b p refl e (against (f.y i) (f.y (i + 1)) p.y (let s = step.3 in omega (arith, ints, s)) (let s = step.2 in omega (arith, ints, s))) in
      let part = on_part f h (λ q. q.y) (λ q. q.x) (upright_axis f) p l leg refl on in
      outer_line l part.0 (east_outer i cols.0 few cols.1) there part.1 part.2

within_sides : (a b c d x y : ℤ) → a ≤ℤ x → x <ℤ b → c ≤ℤ y → y <ℤ d → ((int_le a x && int_lt x b) && (int_le c y && int_lt y d)) ≡ true
within_sides a b c d x y k l m n = grind (arith, ints, k, l, m, n)

pub one_within : OutlineIsCoverage → OneWithin
one_within exact f block h p c off =
    let east : p.x <ℤ f.x (f.cols - 1) = by_lt_z p.x (f.x (f.cols - 1)) (λ l. l) (λ l. absurd (off (on_east f h block p c (let k = c.east in omega (arith, ints, k, l))))) in
    let north : p.y <ℤ f.y 0 = by_lt_z p.y (f.y 0) (λ l. l) (λ l. absurd (off (on_north f h block p c (let k = c.north in omega (arith, ints, k, l))))) in
    exact f block h p ∙ ap (λ b. cond b (pos 1) (pos 0)) (within_sides (f.x 0) (f.x (f.cols - 1)) (f.y (f.rows - 1)) (f.y 0) p.x p.y c.west east c.south north)
