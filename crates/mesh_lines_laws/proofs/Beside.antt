-- The outline of a piece lies in the cell of its triangle, and at a corner that it has the piece has the node's band.
use Rattle.std.proofs.Common.{◌≡◌, ⊎_elim, ℕ, ◌+◌, ◌-◌, ◌<◌, ◌≤◌, Bool, true, false, cond, Some, [], ◌∷◌, refl, sym, ap, subst, ◌∙◌, arith}
use Rattle.std.specs.Prelude.{is_some}
use Rattle.std.proofs.lemmas.Int.{ints}
use Rattle.mesh_definitions.proofs.Bands.{band_known}
use Rattle.mesh_definitions.specs.Field.{Field, IsField, point, band_at}
use Rattle.mesh_definitions.specs.Mesh.{all_cells, first, second, corners, surveyed, right_tri}
use Rattle.mesh_definitions.specs.Pieces.{whole_mesh, piece_at, walked}
use Rattle.mesh_definitions.specs.declared.Link.{Link}
use Rattle.mesh_definitions.specs.declared.Piece.{Piece}
use Rattle.mesh_definitions.specs.declared.Step.{Step}
use Rattle.mesh_definitions.specs.declared.Sub.TheVariants.{Part, Chord}
use Rattle.mesh_definitions.specs.declared.Sub.{Sub}
use Rattle.mesh_definitions.specs.declared.Tri.{Tri}
use Rattle.mesh_definitions.specs.declared.Way.TheVariants.{Across, Down, Slant}
use Rattle.mesh_definitions.specs.declared.Way.{Way}
use Rattle.depth_grid.specs.declared.node.NodeId.{NodeId}
use Rattle.mesh_laws.proofs.Listed.{piece}
use Rattle.mesh_laws.proofs.Once.{all_pass, right_is, mapped, chord_there}
use Rattle.mesh_laws.proofs.Triangles.{tri, IsCell}
use Rattle.plane_geom.specs.Segments.{turned}
use Rattle.plane_geom.specs.declared.Point.{Point}
use Rattle.plane_laws.proofs.Members.{In}
use Rattle.tri_mesh.proofs.Signs.{InCell}
use Rattle.mesh_lines_laws.proofs.Apart.{sub_spots}
use Rattle.mesh_lines_laws.proofs.ChordEnds.{IsTri}
use Rattle.mesh_lines_laws.proofs.Corner.{InQuadrant}
use Rattle.mesh_lines_laws.proofs.Names.{LegOf, leg_row, leg_col}
use Rattle.mesh_lines_laws.proofs.PartEnds.{Touches, EndSpots, turned_spots, known}
use Rattle.mesh_lines_laws.proofs.Ranks.{at_place, beside_step, cut_within}
use Rattle.mesh_lines_laws.proofs.Spots.{Spot, Holds, link, link_same, amid, down, rises_down, where_on}
use Rattle.mesh_lines_laws.proofs.Spots.Spot.{At, On}

-- a node at a corner of a cell
record AtCell (i j : ℕ) (n : NodeId) : Type 0 where
  north : i ≤ n.row
  south : n.row ≤ i + 1
  west : j ≤ n.col
  east : n.col ≤ j + 1

abbrev node : ℕ → ℕ → NodeId
node i j = record { row = i; col = j }

-- the four corners, by whether they lie south and east
corner_of : (i j : ℕ) (south east : Bool) → AtCell i j (node (cond south (i + 1) i) (cond east (j + 1) j))
corner_of i j true true = record { north = omega arith; south = omega arith; west = omega arith; east = omega arith }
corner_of i j true false = record { north = omega arith; south = omega arith; west = omega arith; east = omega arith }
corner_of i j false true = record { north = omega arith; south = omega arith; west = omega arith; east = omega arith }
corner_of i j false false = record { north = omega arith; south = omega arith; west = omega arith; east = omega arith }

one_of : {X : Type 0} (P : X → Type 0) (a b c x : X) → P a → P b → P c → In (a ∷ b ∷ c ∷ []) x → P x
one_of P a b c x p q r i = ⊎_elim (λ e. subst P e p) (λ j. ⊎_elim (λ e. subst P e q) (λ k. ⊎_elim (λ e. subst P e r) (λ n. absurd n) k) j) i

-- the corners of a triangle are corners of its cell
corner_at : (i j : ℕ) (u : Bool) (n : NodeId) → In (corners (tri i j u)) n → AtCell i j n
corner_at i j true n h = one_of (AtCell i j) (node i j) (node i (j + 1)) (node (i + 1) j) n (corner_of i j false false) (corner_of i j false true) (corner_of i j true false) h
corner_at i j false n h = one_of (AtCell i j) (node (i + 1) j) (node i (j + 1)) (node (i + 1) (j + 1)) n (corner_of i j true false) (corner_of i j false true) (corner_of i j true true) h

-- and so are the ends of its legs
record BothAt (i j : ℕ) (l : Link) : Type 0 where
  one : AtCell i j (first l)
  two : AtCell i j (second l)

ends_at : (i j : ℕ) (u : Bool) (w : Way) → BothAt i j (link w (leg_row (tri i j u) w) (leg_col (tri i j u) w))
ends_at i j true Across = record { one = corner_of i j false false; two = corner_of i j false true }
ends_at i j true Down = record { one = corner_of i j false false; two = corner_of i j true false }
ends_at i j true Slant = record { one = corner_of i j true false; two = corner_of i j false true }
ends_at i j false Across = record { one = corner_of i j true false; two = corner_of i j true true }
ends_at i j false Down = record { one = corner_of i j false true; two = corner_of i j true true }
ends_at i j false Slant = record { one = corner_of i j true false; two = corner_of i j false true }

leg_at : (t : Tri) (l : Link) → LegOf t l → BothAt t.row t.col l
leg_at t l k = subst (BothAt t.row t.col) (link_same (link l.way (leg_row t l.way) (leg_col t l.way)) l refl (sym k.row) (sym k.col)) (ends_at t.row t.col t.upper l.way)

module _ (f : Field) (h : IsField f) where
  node_in : (t : Tri) (n : NodeId) → IsTri f h t → AtCell t.row t.col n → InCell f t.row t.col (point f n)
  node_in t n c a =
      let x = at_place f.x f.cols h.eastwards t.col n.col a.west a.east c.col in
      let y = at_place (down f h) f.rows (rises_down f h) t.row n.row a.north a.south c.row in
      record { west = x.0; east = x.1; north = (let k = y.0 in omega (arith, ints, k)); south = (let k = y.1 in omega (arith, ints, k)) }

  -- a crossing of a link between corners of a cell lies in the cell
  crossing_in : (t : Tri) (l : Link) (k : ℕ) (p : Point) → IsTri f h t → BothAt t.row t.col l → Holds f h (On l k) p → InCell f t.row t.col p
  crossing_in t l k p c a on =
      let one = node_in t (first l) c a.one in
      let two = node_in t (second l) c a.two in
      let m = amid f h (first l) (second l) k on.0.0 on.0.1 on.1 in
      let q = where_on f h l k in
      let x = cut_within (f.x t.col) (f.x (t.col + 1)) (f.x (first l).col) (f.x (second l).col) q.x m.x one.west one.east two.west two.east in
      let y = cut_within (f.y (t.row + 1)) (f.y t.row) (f.y (first l).row) (f.y (second l).row) q.y m.y one.south one.north two.south two.north in
      subst (InCell f t.row t.col) (sym on.2) (record { west = x.0; east = x.1; south = y.0; north = y.1 })

  -- what a sub-segment with the piece q on a side keeps
  pub record Outlines (u : Sub) (q : Piece) : Type 0 where
    pub in_cell : (z : Spot) (p : Point) → Touches f u z → Holds f h z p → InCell f q.tri.row q.tri.col p
    pub of_band : (n : NodeId) → surveyed f q.tri ≡ true → Touches f u (At n) → q.band ≡ band_at f n

  end_in : (t : Tri) (l : Link) → IsTri f h t → BothAt t.row t.col l → (b : ℕ) (z : Spot) (p : Point) → Touches f (Part l b) z → Holds f h z p → InCell f t.row t.col p
  end_in t l c a b (At n) p k on = subst (InCell f t.row t.col) (sym on.1)
      (⊎_elim (λ e. subst (λ m. InCell f t.row t.col (point f m)) (sym e) (node_in t (first l) c a.one)) (λ e. subst (λ m. InCell f t.row t.col (point f m)) (sym e) (node_in t (second l) c a.two)) k.0)
  end_in t l c a b (On m j) p k on = crossing_in t m j p c (subst (BothAt t.row t.col) (sym k.0) a) on

  chord_in : (t : Tri) → IsTri f h t → (k : ℕ) (z : Spot) (p : Point) → Touches f (Chord t k) z → Holds f h z p → InCell f t.row t.col p
  chord_in t c k (At n) p a on = absurd a
  chord_in t c k (On m j) p a on = crossing_in t m j p c (leg_at t m a.1) on

  both_known : (t : Tri) (l : Link) → surveyed f t ≡ true → In (corners t) (first l) → In (corners t) (second l) → known f l ≡ true
  both_known t l e a b =
      let x = band_known f (first l) (all_pass (λ n. is_some (f.depth n)) (corners t) (first l) e a) in
      let y = band_known f (second l) (all_pass (λ n. is_some (f.depth n)) (corners t) (second l) e b) in
      rw (x, y) refl

  is_tri : (t : Tri) → IsCell (all_cells f) t.row t.col → IsTri f h t
  is_tri t c = let s = c.south in let e = c.east in record { row = omega (arith, s); col = omega (arith, e) }

  module _ (block : ℕ → ℕ → ℕ) where
    part_outlines : (l : Link) (b : ℕ) (forward : Bool) (q : Piece) → (whole_mesh f block).right_of (record { sub = Part l b; forward = forward }) ≡ Some q → Outlines (Part l b) q × IsTri f h q.tri
    part_outlines l b forward q e =
        let a = mapped (piece_at f b) (right_tri (all_cells f) (record { link = l; forward = forward })) q e in
        let t = a.0 in
        let k = right_is (all_cells f) l.way l.row l.col forward t a.1 in
        let c = is_tri t k.cell in
        let r : BothAt t.row t.col l = record { one = corner_at t.row t.col t.upper (first l) k.first; two = corner_at t.row t.col t.upper (second l) k.second } in
        subst (λ q. Outlines (Part l b) q × IsTri f h q.tri) a.2 (
          record {
            in_cell = end_in t l c r b;
            of_band = λ n s i. ap (λ x. cond x b 0) s ∙ (i.1 ∙ ap (λ x. cond x (band_at f n) 0) (both_known t l s k.first k.second));
          },
          c,
        )

    chord_outlines : (t : Tri) (k : ℕ) (forward : Bool) (q : Piece) → In (whole_mesh f block).subs (Chord t k) → (whole_mesh f block).right_of (record { sub = Chord t k; forward = forward }) ≡ Some q → Outlines (Chord t k) q × IsTri f h q.tri
    chord_outlines t k forward q i e =
        let a = chord_there f (all_cells f) t k i in
        let c = is_tri t a.0 in
        let g : piece t (cond forward k (k - 1)) ≡ q = cc (e) in
        subst (λ q. Outlines (Chord t k) q × IsTri f h q.tri) g (record { in_cell = chord_in t c k; of_band = λ n s i. absurd i }, c)

    pub outlines : (u : Sub) (forward : Bool) (q : Piece) → In (whole_mesh f block).subs u → (whole_mesh f block).right_of (record { sub = u; forward = forward }) ≡ Some q → Outlines u q × IsTri f h q.tri
    outlines (Part l b) forward q i e = part_outlines l b forward q e
    outlines (Chord t k) forward q i e = chord_outlines t k forward q i e

    -- the names of the ends of a step
    pub step_spots : (s : Step) → In (whole_mesh f block).subs s.sub → EndSpots f h s.sub (walked (whole_mesh f block) s)
    step_spots s i = by s.forward
      where
        e : EndSpots f h s.sub ((whole_mesh f block).ends s.sub)
        e = sub_spots f h block s.sub i

        by : (x : Bool) → EndSpots f h s.sub (cond x ((whole_mesh f block).ends s.sub) (turned ((whole_mesh f block).ends s.sub)))
        by true = e
        by false = turned_spots f h s.sub ((whole_mesh f block).ends s.sub) e

  -- a cell lies in a quadrant of each node
  pub record Opens (n : NodeId) (i j : ℕ) : Type 0 where
    pub x : Bool
    pub y : Bool
    pub holds : (p : Point) → InCell f i j p → InQuadrant x y (point f n) p

  pub opens : (n : NodeId) (i j : ℕ) → n.row < f.rows → n.col < f.cols → i + 1 < f.rows → j + 1 < f.cols → Opens n i j
  opens n i j a b c d =
      let x = beside_step f.x f.cols h.eastwards n.col j b d in
      let y = beside_step (down f h) f.rows (rises_down f h) n.row i a c in
      ⊎_elim
      (λ w. ⊎_elim
      (λ v. record { x = true; y = false; holds = λ p k. record { wide = (let z = k.west in omega (arith, ints, w, z)); high = (let z = k.north in omega (arith, ints, v, z)) } })
      (λ v. record { x = true; y = true; holds = λ p k. record { wide = (let z = k.west in omega (arith, ints, w, z)); high = (let z = k.south in omega (arith, ints, v, z)) } })
      y)
      (λ w. ⊎_elim
      (λ v. record { x = false; y = false; holds = λ p k. record { wide = (let z = k.east in omega (arith, ints, w, z)); high = (let z = k.north in omega (arith, ints, v, z)) } })
      (λ v. record { x = false; y = true; holds = λ p k. record { wide = (let z = k.east in omega (arith, ints, w, z)); high = (let z = k.south in omega (arith, ints, v, z)) } })
      y)
      x
