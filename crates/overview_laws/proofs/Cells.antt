-- The cell of a piece has each point at which the piece counts, and each point on its outline.
use Rattle.std.proofs.Common.{◌≡◌, ◌≢◌, ◌⊎◌, ⊎_elim, ℕ, ◌+◌, ◌-◌, ◌<◌, ◌≤◌, ℤ, pos, ◌-ℤ◌, ◌≤ℤ◌, ◌<ℤ◌, Bool, true, false, cond, Some, [], ◌∷◌, Contains, refl, sym, ap, subst, ◌∙◌, arith}
use Rattle.std.proofs.lemmas.Int.{ints, by_lt_z}
use Rattle.depth_grid.specs.declared.node.NodeId.{NodeId}
use Rattle.mesh_counts_laws.specs.Counts.{PiecesInTriangles}
use Rattle.mesh_definitions.specs.Faces.{steps_of}
use Rattle.mesh_definitions.specs.Field.{Field, IsField, point}
use Rattle.mesh_definitions.specs.Laws.{SamePiece, WalksBothWays, piece_count}
use Rattle.mesh_definitions.specs.Mesh.{Walk, all_cells, corners, first, from, right_tri, second, surveyed, to}
use Rattle.mesh_definitions.specs.Pieces.{Mesh, chord_ends, chord_levels, greatest_band, least_band, piece_at, span, walked, whole_mesh}
use Rattle.mesh_definitions.specs.declared.Link.{Link}
use Rattle.mesh_definitions.specs.declared.Piece.{Piece}
use Rattle.mesh_definitions.specs.declared.Step.{Step}
use Rattle.mesh_definitions.specs.declared.Sub.TheVariants.{Part, Chord}
use Rattle.mesh_definitions.specs.declared.Sub.{Sub}
use Rattle.mesh_definitions.specs.declared.Tri.{Tri}
use Rattle.mesh_ground_laws.proofs.Counted.{counts_nothing, on_outline}
use Rattle.mesh_ground_laws.proofs.Legs.{leg_there, legs_beside, part_not_left}
use Rattle.mesh_laws.proofs.Legs.{walked_part}
use Rattle.mesh_laws.proofs.Listed.{piece}
use Rattle.mesh_laws.proofs.Once.{chord_there, mapped, right_is, step_sub}
use Rattle.mesh_laws.proofs.Places.{in_range_low, in_range_high}
use Rattle.mesh_laws.proofs.Triangles.{tri}
use Rattle.mesh_lines_laws.proofs.Segments.{NotLeft, not_left_on}
use Rattle.plane_geom.specs.Geom.{IsOn, cross_of}
use Rattle.plane_geom.specs.Segments.{turned}
use Rattle.plane_geom.specs.declared.Point.{Point}
use Rattle.plane_geom.specs.declared.Seg.{Seg}
use Rattle.plane_laws.proofs.Members.{In, is_in}
use Rattle.plane_laws.specs.SumLaws.{BoundarySum}
use Rattle.tri_mesh.proofs.Boxes.{chord_box}
use Rattle.tri_mesh.proofs.Signs.{InCell, level, upright}

-- ---- corners of a cell

-- a node at a corner of a cell
pub record AtCell (i j : ℕ) (n : NodeId) : Type 0 where
  pub north : i ≤ n.row
  pub south : n.row ≤ i + 1
  pub west : j ≤ n.col
  pub east : n.col ≤ j + 1

abbrev node : ℕ → ℕ → NodeId
node i j = record { row = i; col = j }

one_of : {X : Type 0} (P : X → Type 0) (a b c x : X) → P a → P b → P c → In (a ∷ b ∷ c ∷ []) x → P x
one_of P a b c x p q r i = ⊎_elim (λ e. subst P e p) (λ j. ⊎_elim (λ e. subst P e q) (λ k. ⊎_elim (λ e. subst P e r) (λ n. absurd n) k) j) i

half_at : (i j : ℕ) (u : Bool) (n : NodeId) → In (corners (tri i j u)) n → AtCell i j n
half_at i j true n h = one_of (AtCell i j) (node i j) (node i (j + 1)) (node (i + 1) j) n
    (record { north = omega arith; south = omega arith; west = omega arith; east = omega arith })
    (record { north = omega arith; south = omega arith; west = omega arith; east = omega arith })
    (record { north = omega arith; south = omega arith; west = omega arith; east = omega arith }) h
half_at i j false n h = one_of (AtCell i j) (node (i + 1) j) (node i (j + 1)) (node (i + 1) (j + 1)) n
    (record { north = omega arith; south = omega arith; west = omega arith; east = omega arith })
    (record { north = omega arith; south = omega arith; west = omega arith; east = omega arith })
    (record { north = omega arith; south = omega arith; west = omega arith; east = omega arith }) h

-- the corners of a triangle are corners of its cell
pub corner_at : (t : Tri) (n : NodeId) → In (corners t) n → AtCell t.row t.col n
corner_at t n h = half_at t.row t.col t.upper n h

pub one_or_other : (i k : ℕ) → i ≤ k → k ≤ i + 1 → (k ≡ i) ⊎ (k ≡ i + 1)
one_or_other i k l m = grind arith

-- and lie in it
at_cell : (f : Field) (i j : ℕ) → f.x j <ℤ f.x (j + 1) → f.y (i + 1) <ℤ f.y i → (n : NodeId) → AtCell i j n → InCell f i j (point f n)
at_cell f i j wide high n a =
    let x : (f.x j ≤ℤ f.x n.col) × (f.x n.col ≤ℤ f.x (j + 1)) = ⊎_elim
    (λ e. subst (λ k. (f.x j ≤ℤ f.x k) × (f.x k ≤ℤ f.x (j + 1))) (sym e) (omega (arith, ints), omega (arith, ints, wide)))
    (λ e. subst (λ k. (f.x j ≤ℤ f.x k) × (f.x k ≤ℤ f.x (j + 1))) (sym e) (omega (arith, ints, wide), omega (arith, ints)))
    (one_or_other j n.col a.west a.east) in
    let y : (f.y (i + 1) ≤ℤ f.y n.row) × (f.y n.row ≤ℤ f.y i) = ⊎_elim
    (λ e. subst (λ k. (f.y (i + 1) ≤ℤ f.y k) × (f.y k ≤ℤ f.y i)) (sym e) (omega (arith, ints, high), omega (arith, ints)))
    (λ e. subst (λ k. (f.y (i + 1) ≤ℤ f.y k) × (f.y k ≤ℤ f.y i)) (sym e) (omega (arith, ints), omega (arith, ints, high)))
    (one_or_other i n.row a.north a.south) in
    record { west = x.0; east = x.1; south = y.0; north = y.1 }

-- ---- lines along the sides of a cell

abbrev on_axes : ℤ → ℤ → Point
on_axes x y = record { x = x; y = y }

-- the side of a line that leads north or south through x, and of one that leads east or west through y
north_line : (x : ℤ) (p : Point) → cross_of (on_axes x (pos 0)) (on_axes x (pos 1)) p ≡ x -ℤ p.x
north_line x p = let e = upright (on_axes x (pos 0)) (on_axes x (pos 1)) p refl in omega (arith, ints, e)

south_line : (x : ℤ) (p : Point) → cross_of (on_axes x (pos 1)) (on_axes x (pos 0)) p ≡ p.x -ℤ x
south_line x p = let e = upright (on_axes x (pos 1)) (on_axes x (pos 0)) p refl in omega (arith, ints, e)

east_line : (y : ℤ) (p : Point) → cross_of (on_axes (pos 0) y) (on_axes (pos 1) y) p ≡ p.y -ℤ y
east_line y p = let e = level (on_axes (pos 0) y) (on_axes (pos 1) y) p refl in omega (arith, ints, e)

west_line : (y : ℤ) (p : Point) → cross_of (on_axes (pos 1) y) (on_axes (pos 0) y) p ≡ y -ℤ p.y
west_line y p = let e = level (on_axes (pos 1) y) (on_axes (pos 0) y) p refl in omega (arith, ints, e)

module _ (f : Field) (h : IsField f) (block : ℕ → ℕ → ℕ) (q : Piece) (in_rows : q.tri.row + 1 < f.rows) (in_cols : q.tri.col + 1 < f.cols) where
  abbrev m : Mesh
  m = whole_mesh f block

  abbrev InIts : Point → Type 0
  InIts = InCell f q.tri.row q.tri.col

  wide : f.x q.tri.col <ℤ f.x (q.tri.col + 1)
  wide = h.eastwards q.tri.col (q.tri.col + 1) (omega arith) in_cols

  high : f.y (q.tri.row + 1) <ℤ f.y q.tri.row
  high = h.southwards q.tri.row (q.tri.row + 1) (omega arith) in_rows

  -- a point lies on the right of each line that has the cell there
  abbrev OnRight : Point → Type 0
  OnRight p = (a b : Point) → ((z : Point) → InIts z → NotLeft a b z) → NotLeft a b p

  -- then it lies in the cell
  in_box : (p : Point) → OnRight p → InIts p
  in_box p on =
      let west = on (on_axes (f.x q.tri.col) (pos 0)) (on_axes (f.x q.tri.col) (pos 1)) (λ z c. let e = north_line (f.x q.tri.col) z in let k = c.west in omega (arith, ints, e, k)) in
      let east = on (on_axes (f.x (q.tri.col + 1)) (pos 1)) (on_axes (f.x (q.tri.col + 1)) (pos 0)) (λ z c. let e = south_line (f.x (q.tri.col + 1)) z in let k = c.east in omega (arith, ints, e, k)) in
      let north = on (on_axes (pos 0) (f.y q.tri.row)) (on_axes (pos 1) (f.y q.tri.row)) (λ z c. let e = east_line (f.y q.tri.row) z in let k = c.north in omega (arith, ints, e, k)) in
      let south = on (on_axes (pos 1) (f.y (q.tri.row + 1))) (on_axes (pos 0) (f.y (q.tri.row + 1))) (λ z c. let e = west_line (f.y (q.tri.row + 1)) z in let k = c.south in omega (arith, ints, e, k)) in
      let w = north_line (f.x q.tri.col) p in
      let e = south_line (f.x (q.tri.col + 1)) p in
      let n = east_line (f.y q.tri.row) p in
      let s = west_line (f.y (q.tri.row + 1)) p in
      record { west = omega (arith, ints, west, w); east = omega (arith, ints, east, e); north = omega (arith, ints, north, n); south = omega (arith, ints, south, s) }

  -- ---- the outline

  corner_in : (n : NodeId) → In (corners q.tri) n → InIts (point f n)
  corner_in n i = let a = corner_at q.tri n i in at_cell f q.tri.row q.tri.col wide high n a

  abbrev EndsIn : Seg → Type 0
  EndsIn s = InIts s.a × InIts s.b

  way_in : (s : Seg) (forward : Bool) → EndsIn s → EndsIn (cond forward s (turned s))
  way_in s true e = e
  way_in s false e = (e.1, e.0)

  part_in : (l : Link) (k : ℕ) (forward : Bool) → m.right_of (record { sub = Part l k; forward = forward }) ≡ Some q → EndsIn (walked m (record { sub = Part l k; forward = forward }))
  part_in l k forward right =
      let w : Walk = record { link = l; forward = forward } in
      let x = mapped (piece_at f k) (right_tri (all_cells f) w) q right in
      let e : right_tri (all_cells f) w ≡ Some q.tri = x.1 ∙ ap (λ p. Some p.tri) x.2 in
      let c = right_is (all_cells f) l.way l.row l.col forward q.tri e in
      let leg = (legs_beside f h q.tri in_rows in_cols w (leg_there (all_cells f) l.way l.row l.col forward q.tri e)).0 in
      let one = corner_in (from w) (ends forward (first l) (second l) c.first c.second) in
      let other = corner_in (to w) (ends forward (second l) (first l) c.second c.first) in
      let both = λ (a b : Point) (on : (z : Point) → InIts z → NotLeft a b z). part_not_left f h w leg k a b (on (point f (from w)) one) (on (point f (to w)) other) in
      (in_box (walked_part f w k).a (λ a b on. (both a b on).0), in_box (walked_part f w k).b (λ a b on. (both a b on).1))
    where
      ends : (z : Bool) (a c : NodeId) → In (corners q.tri) a → In (corners q.tri) c → In (corners q.tri) (cond z a c)
      ends true a c i j = i
      ends false a c i j = j

  levels_in : (t : Tri) (k : ℕ) → In (chord_levels f t) k → (least_band f t < k) × (k ≤ greatest_band f t)
  levels_in t k i = by (surveyed f t) i
    where
      by : (x : Bool) → In (cond x (span (least_band f t + 1) (greatest_band f t)) []) k → (least_band f t < k) × (k ≤ greatest_band f t)
      by true j =
          let low = in_range_low (least_band f t + 1) (greatest_band f t + 1 - (least_band f t + 1)) k j in
          let most = in_range_high (least_band f t + 1) (greatest_band f t + 1 - (least_band f t + 1)) k j in
          (omega (arith, low), omega (arith, low, most))
      by false j = absurd j

  chord_in : (t : Tri) (k : ℕ) (forward : Bool) → In m.subs (Chord t k) → m.right_of (record { sub = Chord t k; forward = forward }) ≡ Some q → EndsIn (walked m (record { sub = Chord t k; forward = forward }))
  chord_in t k forward i right =
      let g : piece t (cond forward k (k - 1)) ≡ q = cc (right) in
      let e : t ≡ q.tri = ap (λ p. p.tri) g in
      let l = levels_in q.tri k (subst (λ v. In (chord_levels f v) k) e (chord_there f (all_cells f) t k i).1) in
      subst (λ v. EndsIn (cond forward (chord_ends f v k) (turned (chord_ends f v k)))) (sym e)
      (way_in (chord_ends f q.tri k) forward (chord_box f q.tri.row q.tri.col wide high q.tri.upper k l.0 l.1))

  -- both ends of a step of the outline lie in the cell
  ends_in : (u : Sub) (forward : Bool) → In m.subs u → m.right_of (record { sub = u; forward = forward }) ≡ Some q → EndsIn (walked m (record { sub = u; forward = forward }))
  ends_in (Part l k) forward i right = part_in l k forward right
  ends_in (Chord t k) forward i right = chord_in t k forward i right

  -- and so does each point of the step
  pub on_step_in : (p : Point) (s : Step) → Contains (steps_of m) s → m.right_of s ≡ Some q → IsOn (walked m s) p → InIts p
  on_step_in p s there right on =
      let e = ends_in s.sub s.forward (step_sub m.subs s (is_in (steps_of m) s there)) right in
      in_box p (λ a b all. not_left_on a b (walked m s) p on (all (walked m s).a e.0) (all (walked m s).b e.1))

  -- and each point at which the piece counts
  pub counts_in : BoundarySum Step Piece → WalksBothWays → SamePiece → PiecesInTriangles → (p : Point) → Contains m.pieces q → piece_count m p q ≢ pos 0 → InIts p
  counts_in sum ways same inside p there some = in_box p (λ a b all. by_lt_z (pos 0) (cross_of a b p)
      (λ left. absurd (some (counts_nothing sum ways same inside f h block p q there a b left (λ s i.
      let k = on_outline same f block q s i in
      let e = ends_in s.sub s.forward k.0 k.1 in
      (all (walked m s).a e.0, all (walked m s).b e.1)))))
      (λ l. l))
