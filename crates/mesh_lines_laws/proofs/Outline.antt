-- A step of the mesh of a field has nothing on one of its sides exactly where it runs along the outline of the coverage.
use Rattle.std.proofs.Common.{◌≡◌, ◌⊎◌, ⊎_elim, inl, inr, ℕ, zero, suc, ◌+◌, ◌-◌, ◌<◌, neg_ℤ, Bool, true, false, true≢false, cond, not, Option, Some, None, refl, sym, ap, subst, ◌∙◌, arith}
use Rattle.std.specs.Prelude.{option_map, ◌↔◌}
use Rattle.std.proofs.lemmas.Bool.{cases_lt}
use Rattle.std.proofs.lemmas.Int.{ints}
use Rattle.mesh_definitions.specs.Field.{Field, IsField}
use Rattle.mesh_definitions.specs.Mesh.{all_cells, has_cell, right_tri}
use Rattle.mesh_definitions.specs.Pieces.{Mesh, left_of, piece_at, whole_mesh}
use Rattle.mesh_definitions.specs.declared.Link.{Link}
use Rattle.mesh_definitions.specs.declared.Step.{Step}
use Rattle.mesh_definitions.specs.declared.Sub.TheVariants.{Part, Chord}
use Rattle.mesh_definitions.specs.declared.Sub.{Sub}
use Rattle.mesh_definitions.specs.declared.Tri.{Tri}
use Rattle.mesh_definitions.specs.declared.Way.TheVariants.{Across, Down, Slant}
use Rattle.mesh_definitions.specs.declared.Way.{Way}
use Rattle.chart_definitions.specs.SoundEdges.{OnOutline}
use Rattle.chart_definitions.specs.SoundEdges.OnOutline.{East, North, South, West}
use Rattle.depth_grid.specs.declared.node.NodeId.{NodeId}
use Rattle.mesh_laws.proofs.Subs.{link_there}
use Rattle.mesh_laws.proofs.Triangles.{cell_has, is_cell, tri, walk}
use Rattle.plane_geom.specs.declared.Point.{Point}
use Rattle.plane_geom.specs.declared.Seg.{Seg}
use Rattle.plane_laws.proofs.Members.{In, is_in}
use Rattle.mesh_lines_laws.specs.MeshLines.{FieldsKeepOutline}
use Rattle.mesh_lines_laws.proofs.Apart.{is_long, link_in, sub_spots}
use Rattle.mesh_lines_laws.proofs.Names.{IsEnd, LegOf, leg_col, leg_row}
use Rattle.mesh_lines_laws.proofs.PartEnds.{EndSpots, Touches}
use Rattle.mesh_lines_laws.proofs.Ranks.{Lies, lies_once}
use Rattle.mesh_lines_laws.proofs.Spots.{Holds, InBoth, Spot, col_of, down, link, link_same, place_x, place_y, point_same, rises_down, row_of, x_in, x_within, y_in, y_within}
use Rattle.mesh_lines_laws.proofs.Spots.Spot.{At, On}

-- ---- links and their ends

upright : (w : Way) → x_within w ≡ false → w ≡ Down
upright Across e = absurd (true≢false e)
upright Down e = refl
upright Slant e = absurd (true≢false e)

level : (w : Way) → y_within w ≡ false → w ≡ Across
level Across e = refl
level Down e = absurd (true≢false e)
level Slant e = absurd (true≢false e)

across_row : (i j : ℕ) (n : NodeId) → IsEnd (link Across i j) n → n.row ≡ i
across_row i j n e = ⊎_elim (λ a. ap (λ n. n.row) a) (λ a. ap (λ n. n.row) a) e

down_col : (i j : ℕ) (n : NodeId) → IsEnd (link Down i j) n → n.col ≡ j
down_col i j n e = ⊎_elim (λ a. ap (λ n. n.col) a) (λ a. ap (λ n. n.col) a) e

-- the two nodes of a diagonal differ in row and in column
slant_by_col : (i j : ℕ) (n m : NodeId) → IsEnd (link Slant i j) n → IsEnd (link Slant i j) m → n.col ≡ m.col → n ≡ m
slant_by_col i j n m a b e = ⊎_elim
    (λ x. ⊎_elim (λ y. x ∙ sym y) (λ y. absurd (let p = ap (λ n. n.col) x in let q = ap (λ n. n.col) y in omega (arith, p, q, e))) b)
    (λ x. ⊎_elim (λ y. absurd (let p = ap (λ n. n.col) x in let q = ap (λ n. n.col) y in omega (arith, p, q, e))) (λ y. x ∙ sym y) b)
    a

slant_by_row : (i j : ℕ) (n m : NodeId) → IsEnd (link Slant i j) n → IsEnd (link Slant i j) m → n.row ≡ m.row → n ≡ m
slant_by_row i j n m a b e = ⊎_elim
    (λ x. ⊎_elim (λ y. x ∙ sym y) (λ y. absurd (let p = ap (λ n. n.row) x in let q = ap (λ n. n.row) y in omega (arith, p, q, e))) b)
    (λ x. ⊎_elim (λ y. absurd (let p = ap (λ n. n.row) x in let q = ap (λ n. n.row) y in omega (arith, p, q, e))) (λ y. x ∙ sym y) b)
    a

-- two legs of one way are one
leg_same : (t : Tri) (l m : Link) → LegOf t l → LegOf t m → l.way ≡ m.way → l ≡ m
leg_same t l m a b e = link_same l m e (a.row ∙ (ap (leg_row t) e ∙ sym b.row)) (a.col ∙ (ap (leg_col t) e ∙ sym b.col))

-- ---- triangles beside links

no_cell : (b : Bool) (t : Tri) → cond b (Some t) None ≡ None → b ≡ false
no_cell true t e = absurd (cc (e))
no_cell false t e = refl

some_cell : (b : Bool) (t u : Tri) → cond b (Some t) None ≡ Some u → b ≡ true
some_cell true t u e = refl
some_cell false t u e = absurd (cc (e))

unmapped : {X Y : Type 0} (g : X → Y) (o : Option X) → option_map g o ≡ None → o ≡ None
unmapped g None e = refl
unmapped g (Some x) e = absurd (cc (e))

module _ (f : Field) (h : IsField f) where
  -- ---- segments at one column or at one row

  record AtCol (t : Seg) (j : ℕ) : Type 0 where
    col_in : j < f.cols
    outermost : (j ≡ 0) ⊎ (j ≡ f.cols - 1)
    one : t.a.x ≡ f.x j
    two : t.b.x ≡ f.x j

  record AtRow (t : Seg) (i : ℕ) : Type 0 where
    row_in : i < f.rows
    outermost : (i ≡ 0) ⊎ (i ≡ f.rows - 1)
    one : t.a.y ≡ f.y i
    two : t.b.y ≡ f.y i

  at_side : (t : Seg) → OnOutline f t → ((j : ℕ) × AtCol t j) ⊎ ((i : ℕ) × AtRow t i)
  at_side t (West a b) = let n = h.some_cols in inl (0, record { col_in = omega (arith, n); outermost = inl refl; one = a; two = b })
  at_side t (East a b) = let n = h.some_cols in inl (f.cols - 1, record { col_in = omega (arith, n); outermost = inr refl; one = a; two = b })
  at_side t (North a b) = let n = h.some_rows in inr (0, record { row_in = omega (arith, n); outermost = inl refl; one = a; two = b })
  at_side t (South a b) = let n = h.some_rows in inr (f.rows - 1, record { row_in = omega (arith, n); outermost = inr refl; one = a; two = b })

  same_col : (j k : ℕ) → j < f.cols → k < f.cols → f.x j ≡ f.x k → j ≡ k
  same_col j k l m e = (lies_once f.x f.cols h.eastwards j k false false (f.x j) (l, refl) (m, e)).0

  same_row : (i k : ℕ) → i < f.rows → k < f.rows → f.y i ≡ f.y k → i ≡ k
  same_row i k l m e = (lies_once (down f h) f.rows (rises_down f h) i k false false (neg_ℤ (f.y i)) (l, refl) (m, ap neg_ℤ e)).0

  -- a name at a place of columns isn't within a step of them
  at_col : (z : Spot) (p : Point) (j : ℕ) → j < f.cols → Holds f h z p → p.x ≡ f.x j → (col_of f h z ≡ j) × (x_in f h z ≡ false)
  at_col z p j l on e = lies_once f.x f.cols h.eastwards (col_of f h z) j (x_in f h z) false p.x (place_x f h z p on) (l, e)

  at_row : (z : Spot) (p : Point) (i : ℕ) → i < f.rows → Holds f h z p → p.y ≡ f.y i → (row_of f h z ≡ i) × (y_in f h z ≡ false)
  at_row z p i l on e = lies_once (down f h) f.rows (rises_down f h) (row_of f h z) i (y_in f h z) false (neg_ℤ p.y) (place_y f h z p on) (l, ap neg_ℤ e)

  -- ---- chords

  module _ (t : Tri) (k : ℕ) where
    record AtLeg (z : Spot) (w : Way) : Type 0 where
      leg : Link
      is : z ≡ On leg k
      of_tri : LegOf t leg
      way : leg.way ≡ w

    upright_leg : (z : Spot) (p : Point) (j : ℕ) → j < f.cols → Touches f (Chord t k) z → Holds f h z p → p.x ≡ f.x j → AtLeg z Down
    upright_leg (At n) p j l touches on e = absurd touches
    upright_leg (On m c) p j l touches on e = record { leg = m; is = ap (On m) touches.0; of_tri = touches.1; way = upright m.way (at_col (On m c) p j l on e).1 }

    level_leg : (z : Spot) (p : Point) (i : ℕ) → i < f.rows → Touches f (Chord t k) z → Holds f h z p → p.y ≡ f.y i → AtLeg z Across
    level_leg (At n) p i l touches on e = absurd touches
    level_leg (On m c) p i l touches on e = record { leg = m; is = ap (On m) touches.0; of_tri = touches.1; way = level m.way (at_row (On m c) p i l on e).1 }

    one_leg : (y z : Spot) (w : Way) → AtLeg y w → AtLeg z w → y ≡ z
    one_leg y z w a b = a.is ∙ (ap (λ l. On l k) (leg_same t a.leg b.leg a.of_tri b.of_tri (a.way ∙ sym b.way)) ∙ sym b.is)

    chord_inner : (s : Seg) → EndSpots f h (Chord t k) s → ¬ (OnOutline f s)
    chord_inner s e on = e.apart (⊎_elim
        (λ c. one_leg e.a e.b Down (upright_leg e.a s.a c.0 c.1.col_in e.ends_a e.at_a c.1.one) (upright_leg e.b s.b c.0 c.1.col_in e.ends_b e.at_b c.1.two))
        (λ r. one_leg e.a e.b Across (level_leg e.a s.a r.0 r.1.row_in e.ends_a e.at_a r.1.one) (level_leg e.b s.b r.0 r.1.row_in e.ends_b e.at_b r.1.two))
        (at_side s on))

  -- ---- parts of links

  across_y : (i j b : ℕ) (z : Spot) (p : Point) → Touches f (Part (link Across i j) b) z → Holds f h z p → p.y ≡ f.y i
  across_y i j b (At n) p touches on = ap (λ q. q.y) on.1 ∙ ap f.y (across_row i j n touches.0)
  across_y i j b (On l k) p touches on =
      let y : Lies (down f h) f.rows i false (neg_ℤ p.y) = subst (λ m. Lies (down f h) f.rows m.row (y_within m.way) (neg_ℤ p.y)) touches.0 (place_y f h (On l k) p on) in
      let e = y.1 in
      omega (arith, ints, e)

  down_x : (i j b : ℕ) (z : Spot) (p : Point) → Touches f (Part (link Down i j) b) z → Holds f h z p → p.x ≡ f.x j
  down_x i j b (At n) p touches on = ap (λ q. q.x) on.1 ∙ ap f.x (down_col i j n touches.0)
  down_x i j b (On l k) p touches on =
      let x : Lies f.x f.cols j false p.x = subst (λ m. Lies f.x f.cols m.col (x_within m.way) p.x) touches.0 (place_x f h (On l k) p on) in
      x.1

  module _ (i j b : ℕ) (s : Seg) where
    -- an end of a part of a diagonal that is in a column or in a row of nodes is a node
    record AtEnd (z : Spot) (place : NodeId → ℕ) (k : ℕ) : Type 0 where
      node : NodeId
      is : z ≡ At node
      end : IsEnd (link Slant i j) node
      at : place node ≡ k

    slant_col : (z : Spot) (p : Point) (c : ℕ) → c < f.cols → Touches f (Part (link Slant i j) b) z → Holds f h z p → p.x ≡ f.x c → AtEnd z (λ n. n.col) c
    slant_col (At n) p c l touches on e = record { node = n; is = refl; end = touches.0; at = (at_col (At n) p c l on e).0 }
    slant_col (On m k) p c l touches on e = absurd (true≢false (sym (ap (λ l. x_within l.way) touches.0) ∙ (at_col (On m k) p c l on e).1))

    slant_row : (z : Spot) (p : Point) (r : ℕ) → r < f.rows → Touches f (Part (link Slant i j) b) z → Holds f h z p → p.y ≡ f.y r → AtEnd z (λ n. n.row) r
    slant_row (At n) p r l touches on e = record { node = n; is = refl; end = touches.0; at = (at_row (At n) p r l on e).0 }
    slant_row (On m k) p r l touches on e = absurd (true≢false (sym (ap (λ l. y_within l.way) touches.0) ∙ (at_row (On m k) p r l on e).1))

    slant_inner : EndSpots f h (Part (link Slant i j) b) s → ¬ (OnOutline f s)
    slant_inner e on = e.apart (⊎_elim
        (λ c.
        let x = slant_col e.a s.a c.0 c.1.col_in e.ends_a e.at_a c.1.one in
        let y = slant_col e.b s.b c.0 c.1.col_in e.ends_b e.at_b c.1.two in
        x.is ∙ (ap At (slant_by_col i j x.node y.node x.end y.end (x.at ∙ sym y.at)) ∙ sym y.is))
        (λ r.
        let x = slant_row e.a s.a r.0 r.1.row_in e.ends_a e.at_a r.1.one in
        let y = slant_row e.b s.b r.0 r.1.row_in e.ends_b e.at_b r.1.two in
        x.is ∙ (ap At (slant_by_row i j x.node y.node x.end y.end (x.at ∙ sym y.at)) ∙ sym y.is))
        (at_side s on))

    module _ (block : ℕ → ℕ → ℕ) where
      across_inner : EndSpots f h (Part (link Across i j) b) s → 0 < i → i + 1 < f.rows → ¬ (OnOutline f s)
      across_inner e low high on =
          let one = across_y i j b e.a s.a e.ends_a e.at_a in
          let two = across_y i j b e.b s.b e.ends_b e.at_b in
          ⊎_elim
          (λ c. is_long f h block (Part (link Across i j) b) s e (point_same s.a s.b (c.1.one ∙ sym c.1.two) (one ∙ sym two)))
          (λ r. let same = same_row i r.0 (omega (arith, high)) r.1.row_in (sym one ∙ r.1.one) in ⊎_elim (λ z. omega (arith, same, z, low)) (λ z. omega (arith, same, z, high)) r.1.outermost)
          (at_side s on)

      down_inner : EndSpots f h (Part (link Down i j) b) s → 0 < j → j + 1 < f.cols → ¬ (OnOutline f s)
      down_inner e low high on =
          let one = down_x i j b e.a s.a e.ends_a e.at_a in
          let two = down_x i j b e.b s.b e.ends_b e.at_b in
          ⊎_elim
          (λ c. let same = same_col j c.0 (omega (arith, high)) c.1.col_in (sym one ∙ c.1.one) in ⊎_elim (λ z. omega (arith, same, z, low)) (λ z. omega (arith, same, z, high)) c.1.outermost)
          (λ r. is_long f h block (Part (link Down i j) b) s e (point_same s.a s.b (one ∙ sym two) (r.1.one ∙ sym r.1.two)))
          (at_side s on)

  -- a cell of the field has its triangles
  cell_there : (i j : ℕ) → i + 1 < f.rows → j + 1 < f.cols → has_cell (all_cells f) i j ≡ true
  cell_there i j l m = cell_has (all_cells f) i j (record { north = omega arith; south = omega (arith, l); west = omega arith; east = omega (arith, m) })

  not_there : (i j : ℕ) (u : Bool) → i + 1 < f.rows → j + 1 < f.cols → cond (has_cell (all_cells f) i j) (Some (tri i j u)) None ≡ None → ⊥
  not_there i j u l m e = true≢false (sym (cell_there i j l m) ∙ no_cell (has_cell (all_cells f) i j) (tri i j u) e)

  -- where a link has no triangle on a side, its parts run along the outline
  bare_along : (way : Way) (i j b : ℕ) (forward : Bool) (s : Seg) → InBoth f h (link way i j) → EndSpots f h (Part (link way i j) b) s → right_tri (all_cells f) (walk way i j forward) ≡ None → OnOutline f s
  bare_along Across i j b true s both e bare = ⊎_elim
      (λ l. absurd (not_there i j true (omega (arith, l)) both.1.col bare))
      (λ l.
      let last : i ≡ f.rows - 1 = let n = both.0.row in omega (arith, n, l) in
      South (across_y i j b e.a s.a e.ends_a e.at_a ∙ ap f.y last) (across_y i j b e.b s.b e.ends_b e.at_b ∙ ap f.y last))
      (cases_lt i (f.rows - 1))
  bare_along Across zero j b false s both e bare = North (across_y 0 j b e.a s.a e.ends_a e.at_a) (across_y 0 j b e.b s.b e.ends_b e.at_b)
  bare_along Across (suc i) j b false s both e bare = absurd (not_there i j false (let n = both.0.row in omega (arith, n)) both.1.col bare)
  bare_along Down i zero b true s both e bare = West (down_x i 0 b e.a s.a e.ends_a e.at_a) (down_x i 0 b e.b s.b e.ends_b e.at_b)
  bare_along Down i (suc j) b true s both e bare = absurd (not_there i j false both.1.row (let n = both.0.col in omega (arith, n)) bare)
  bare_along Down i j b false s both e bare = ⊎_elim
      (λ l. absurd (not_there i j true both.1.row (omega (arith, l)) bare))
      (λ l.
      let last : j ≡ f.cols - 1 = let n = both.0.col in omega (arith, n, l) in
      East (down_x i j b e.a s.a e.ends_a e.at_a ∙ ap f.x last) (down_x i j b e.b s.b e.ends_b e.at_b ∙ ap f.x last))
      (cases_lt j (f.cols - 1))
  bare_along Slant i j b true s both e bare = absurd (not_there i j false both.0.row both.1.col bare)
  bare_along Slant i j b false s both e bare = absurd (not_there i j true both.0.row both.1.col bare)

  -- where it has triangles on both, they don't
  both_inner : (block : ℕ → ℕ → ℕ) (way : Way) (i j b : ℕ) (s : Seg) (t u : Tri) → EndSpots f h (Part (link way i j) b) s → right_tri (all_cells f) (walk way i j true) ≡ Some t → right_tri (all_cells f) (walk way i j false) ≡ Some u → ¬ (OnOutline f s)
  both_inner block Across zero j b s t u e right left on = absurd (cc (left))
  both_inner block Across (suc i) j b s t u e right left on =
      let c = is_cell (all_cells f) (suc i) j (some_cell (has_cell (all_cells f) (suc i) j) (tri (suc i) j true) t right) in
      let south = c.south in
      across_inner (suc i) j b s block e (omega arith) (omega (arith, south)) on
  both_inner block Down i zero b s t u e right left on = absurd (cc (right))
  both_inner block Down i (suc j) b s t u e right left on =
      let c = is_cell (all_cells f) i (suc j) (some_cell (has_cell (all_cells f) i (suc j)) (tri i (suc j) true) u left) in
      let east = c.east in
      down_inner i (suc j) b s block e (omega arith) (omega (arith, east)) on
  both_inner block Slant i j b s t u e right left on = slant_inner i j b s e on

  module _ (block : ℕ → ℕ → ℕ) where
    abbrev mesh : Mesh
    mesh = whole_mesh f block

    abbrev Bare : Step → Type 0
    Bare s = (mesh.right_of s ≡ None) ⊎ (left_of mesh s ≡ None)

    abbrev beside : Link → Bool → Option Tri
    beside l forward = right_tri (all_cells f) (walk l.way l.row l.col forward)

    chord_law : (t : Tri) (k : ℕ) (forward : Bool) → EndSpots f h (Chord t k) (mesh.ends (Chord t k)) → Bare (record { sub = Chord t k; forward = forward }) ↔ OnOutline f (mesh.ends (Chord t k))
    chord_law t k forward e = (λ bare. ⊎_elim (λ r. absurd (cc (r))) (λ r. absurd (cc (r))) bare, λ on. absurd (chord_inner t k (mesh.ends (Chord t k)) e on))

    part_law : (l : Link) (b : ℕ) (forward : Bool) → InBoth f h l → EndSpots f h (Part l b) (mesh.ends (Part l b)) → Bare (record { sub = Part l b; forward = forward }) ↔ OnOutline f (mesh.ends (Part l b))
    part_law l b forward both e = (
      λ bare. ⊎_elim
          (λ r. bare_along l.way l.row l.col b forward s both e (unmapped (piece_at f b) (beside l forward) r))
          (λ r. bare_along l.way l.row l.col b (not forward) s both e (unmapped (piece_at f b) (beside l (not forward)) r))
          bare,
      λ on. by (beside l forward) (beside l (not forward)) refl refl on,
    )
      where
        s : Seg
        s = mesh.ends (Part l b)

        either : (forward : Bool) (t u : Tri) → beside l forward ≡ Some t → beside l (not forward) ≡ Some u → ¬ (OnOutline f s)
        either true t u x y = both_inner block l.way l.row l.col b s t u e x y
        either false t u x y = both_inner block l.way l.row l.col b s u t e y x

        by : (x y : Option Tri) → beside l forward ≡ x → beside l (not forward) ≡ y → OnOutline f s → Bare (record { sub = Part l b; forward = forward })
        by None y a c on = inl (ap (option_map (piece_at f b)) a)
        by (Some t) None a c on = inr (ap (option_map (piece_at f b)) c)
        by (Some t) (Some u) a c on = absurd (either forward t u a c on)

    outline_law : (u : Sub) (forward : Bool) → In mesh.subs u → Bare (record { sub = u; forward = forward }) ↔ OnOutline f (mesh.ends u)
    outline_law (Part l b) forward i = part_law l b forward (link_in f h block l (link_there f (all_cells f) block l b i)) (sub_spots f h block (Part l b) i)
    outline_law (Chord t k) forward i = chord_law t k forward (sub_spots f h block (Chord t k) i)

pub fields_keep_outline : FieldsKeepOutline
fields_keep_outline f block h s there = outline_law f h block s.sub s.forward (is_in (whole_mesh f block).subs s.sub there)
