-- Where a point lies in the cells that have it, and that all their triangles that have it give it one class.
use Rattle.std.proofs.Common.{◌≡◌, ◌⊎◌, ⊎_elim, ℕ, zero, suc, ◌+◌, ◌<◌, ◌≤◌, ℤ, pos, ◌-ℤ◌, ◌*ℤ◌, neg_ℤ, ◌≤ℤ◌, ◌<ℤ◌, Bool, true, false, cond, Some, None, [], ◌∷◌, refl, sym, ap, subst, ◌∙◌, arith}
use Rattle.std.proofs.lemmas.Bool.{cases_lt}
use Rattle.std.proofs.lemmas.Int.{ints, by_lt_z}
use Rattle.std.proofs.lemmas.List.Elements.{All-cons, All-nil}
use Rattle.plane_laws.proofs.Between.{against, in_order}
use Rattle.mesh_definitions.specs.Faces.{OnLine}
use Rattle.mesh_definitions.specs.Field.{Field, IsField, point}
use Rattle.mesh_definitions.specs.Ground.{IsGround, IsInTri}
use Rattle.mesh_definitions.specs.Mesh.{all_cells, has_cell, right_tri, tris}
use Rattle.mesh_definitions.specs.Pieces.{whole_mesh}
use Rattle.mesh_definitions.specs.declared.Class.{Class}
use Rattle.mesh_definitions.specs.declared.Tri.{Tri}
use Rattle.mesh_definitions.specs.declared.Way.TheVariants.{Across, Down, Slant}
use Rattle.depth_grid.specs.declared.node.NodeId.{NodeId}
use Rattle.mesh_laws.proofs.Links.{field_across, field_down, field_slant, link}
use Rattle.mesh_laws.proofs.Listed.{tri_there}
use Rattle.mesh_laws.proofs.Triangles.{IsCell, cell_has, tri, walk}
use Rattle.plane_geom.specs.Geom.{cross_of, IsOn}
use Rattle.plane_geom.specs.declared.Point.{Point}
use Rattle.plane_geom.specs.declared.Seg.{Seg}
use Rattle.plane_laws.specs.Outlines.{seg}
use Rattle.plane_laws.proofs.Algebra.{ring, V, Sub, Mul, Neg, mul_nonneg, mul_nonpos, nonpos_from_mul}
use Rattle.plane_laws.proofs.Lines.{side_back}
use Rattle.plane_laws.proofs.Members.{is_in}
use Rattle.tri_mesh.proofs.Signs.{InCell, in_upper, level, upright}
use Rattle.mesh_ground_laws.specs.Grounds.{FieldsHaveOneClass}
use Rattle.mesh_lines_laws.proofs.Segments.{nonneg_from_mul, on_upright, times_none}
use Rattle.mesh_lines_laws.proofs.ChordCorners.{ring_of}
use Rattle.mesh_ground_laws.proofs.Drawn.{cell_col, cell_row}
use Rattle.mesh_ground_laws.proofs.Agree.{class_by, gives_is, link_agrees}

-- ---- numbers

-- the side of a cell's diagonal, seen from its other corners
by_other_corner : (x0 x1 y0 y1 px py : ℤ) → (x1 -ℤ x0) *ℤ (py -ℤ y1) -ℤ (y0 -ℤ y1) *ℤ (px -ℤ x0) ≡ (x1 -ℤ x0) *ℤ (py -ℤ y0) -ℤ (y0 -ℤ y1) *ℤ (px -ℤ x1)
by_other_corner x0 x1 y0 y1 px py = ring
    (Sub (Mul (Sub (V x1) (V x0)) (Sub (V py) (V y1))) (Mul (Sub (V y0) (V y1)) (Sub (V px) (V x0))))
    (Sub (Mul (Sub (V x1) (V x0)) (Sub (V py) (V y0))) (Mul (Sub (V y0) (V y1)) (Sub (V px) (V x1))))
    (omega arith)

swapped : (a b c : ℤ) → (a -ℤ b) *ℤ c ≡ neg_ℤ ((b -ℤ a) *ℤ c)
swapped a b c = ring (Mul (Sub (V a) (V b)) (V c)) (Neg (Mul (Sub (V b) (V a)) (V c))) (omega arith)

-- ---- links

module _ (f : Field) where
  is_there : (i j : ℕ) → i + 1 < f.rows → j + 1 < f.cols → has_cell (all_cells f) i j ≡ true
  is_there i j a b = cell_has (all_cells f) i j (record { north = omega arith; south = omega (arith, a); west = omega arith; east = omega (arith, b) })

  found : (i j : ℕ) (u : Bool) → i + 1 < f.rows → j + 1 < f.cols → cond (has_cell (all_cells f) i j) (Some (tri i j u)) None ≡ Some (tri i j u)
  found i j u a b = ap (λ c. cond c (Some (tri i j u)) None) (is_there i j a b)

  -- the triangle west of a link that leads south, and the one north of a link that leads east
  west_of : (i j y : ℕ) → y ≡ j + 1 → i + 1 < f.rows → j + 1 < f.cols → right_tri (all_cells f) (walk Down i y true) ≡ Some (tri i j false)
  west_of i j zero e a b = absurd (omega (arith, e))
  west_of i j (suc y) e a b = let k : y ≡ j = omega (arith, e) in subst (λ n. cond (has_cell (all_cells f) i n) (Some (tri i n false)) None ≡ Some (tri i j false)) (sym k) (found i j false a b)

  north_of : (i j x : ℕ) → x ≡ i + 1 → i + 1 < f.rows → j + 1 < f.cols → right_tri (all_cells f) (walk Across x j false) ≡ Some (tri i j false)
  north_of i j zero e a b = absurd (omega (arith, e))
  north_of i j (suc x) e a b = let k : x ≡ i = omega (arith, e) in subst (λ n. cond (has_cell (all_cells f) n j) (Some (tri n j false)) None ≡ Some (tri i j false)) (sym k) (found i j false a b)

module _ (f : Field) (h : IsField f) (p : Point) where
  abbrev node : ℕ → ℕ → NodeId
  node row col = record { row = row; col = col }

  -- the side of a cell's diagonal on which p lies
  abbrev side : ℕ → ℕ → ℤ
  side i j = cross_of (point f (node (i + 1) j)) (point f (node i (j + 1))) p

  module _ (i j : ℕ) (a : i + 1 < f.rows) (b : j + 1 < f.cols) where
    abbrev W : ℤ
    W = f.x (j + 1) -ℤ f.x j

    abbrev H : ℤ
    H = f.y i -ℤ f.y (i + 1)

    wide : pos 0 <ℤ W
    wide = let l = h.eastwards j (j + 1) (omega arith) b in omega (arith, ints, l)

    high : pos 0 <ℤ H
    high = let l = h.southwards i (i + 1) (omega arith) a in omega (arith, ints, l)

    other : side i j ≡ W *ℤ (p.y -ℤ f.y i) -ℤ H *ℤ (p.x -ℤ f.x (j + 1))
    other = by_other_corner (f.x j) (f.x (j + 1)) (f.y i) (f.y (i + 1)) p.x p.y

    -- p lies in the cell of a triangle that has it, on the triangle's side of the diagonal
    record InHalf (u : Bool) : Type 0 where
      cell : InCell f i j p
      beside : cond u (pos 0 ≤ℤ side i j) (side i j ≤ℤ pos 0)

    upper_half : IsInTri f (tri i j true) p → InHalf true
    upper_half k =
        let c = ring_of f h i j a b true in
        let first = c.first p k in
        let second = c.second p k in
        let third = c.third p k in
        let e1 = level (point f (node i j)) (point f (node i (j + 1))) p refl in
        let e2 = side_back (point f (node (i + 1) j)) (point f (node i (j + 1))) p in
        let e3 = upright (point f (node (i + 1) j)) (point f (node i j)) p refl in
        let north = nonpos_from_mul W (p.y -ℤ f.y i) wide (omega (arith, ints, first, e1)) in
        let west = nonneg_from_mul H (p.x -ℤ f.x j) high (omega (arith, ints, third, e3)) in
        let d : pos 0 ≤ℤ side i j = omega (arith, ints, second, e2) in
        let o = other in
        let east = nonpos_from_mul H (p.x -ℤ f.x (j + 1)) high (omega (arith, ints, o, d, first, e1)) in
        let south = nonneg_from_mul W (p.y -ℤ f.y (i + 1)) wide (omega (arith, ints, d, third, e3)) in
        record {
          cell = record { west = omega (arith, ints, west); east = omega (arith, ints, east); north = omega (arith, ints, north); south = omega (arith, ints, south) };
          beside = d;
        }

    lower_half : IsInTri f (tri i j false) p → InHalf false
    lower_half k =
        let c = ring_of f h i j a b false in
        let d = c.first p k in
        let second = c.second p k in
        let third = c.third p k in
        let e2 = upright (point f (node i (j + 1))) (point f (node (i + 1) (j + 1))) p refl in
        let e3 = level (point f (node (i + 1) (j + 1))) (point f (node (i + 1) j)) p refl in
        let s2 = swapped (f.y (i + 1)) (f.y i) (p.x -ℤ f.x (j + 1)) in
        let s3 = swapped (f.x j) (f.x (j + 1)) (p.y -ℤ f.y (i + 1)) in
        let east = nonpos_from_mul H (p.x -ℤ f.x (j + 1)) high (omega (arith, ints, second, e2, s2)) in
        let south = nonneg_from_mul W (p.y -ℤ f.y (i + 1)) wide (omega (arith, ints, third, e3, s3)) in
        let o = other in
        let north = nonpos_from_mul W (p.y -ℤ f.y i) wide (omega (arith, ints, o, d, second, e2, s2)) in
        let west = nonneg_from_mul H (p.x -ℤ f.x j) high (omega (arith, ints, d, third, e3, s3)) in
        record {
          cell = record { west = omega (arith, ints, west); east = omega (arith, ints, east); north = omega (arith, ints, north); south = omega (arith, ints, south) };
          beside = d;
        }

    half : (u : Bool) → IsInTri f (tri i j u) p → InHalf u
    half true k = upper_half k
    half false k = lower_half k

    in_lower : InCell f i j p → side i j ≤ℤ pos 0 → IsInTri f (tri i j false) p
    in_lower c d =
        let e2 = upright (point f (node i (j + 1))) (point f (node (i + 1) (j + 1))) p refl in
        let e3 = level (point f (node (i + 1) (j + 1))) (point f (node (i + 1) j)) p refl in
        let s2 = swapped (f.y (i + 1)) (f.y i) (p.x -ℤ f.x (j + 1)) in
        let s3 = swapped (f.x j) (f.x (j + 1)) (p.y -ℤ f.y (i + 1)) in
        let east = c.east in
        let south = c.south in
        let hi = high in
        let wi = wide in
        let x = mul_nonpos H (p.x -ℤ f.x (j + 1)) (omega (arith, ints, hi)) (omega (arith, ints, east)) in
        let y = mul_nonneg W (p.y -ℤ f.y (i + 1)) (omega (arith, ints, wi)) (omega (arith, ints, south)) in
        let one = seg (point f (node (i + 1) j)) (point f (node i (j + 1))) in
        let two = seg (point f (node i (j + 1))) (point f (node (i + 1) (j + 1))) in
        let three = seg (point f (node (i + 1) (j + 1))) (point f (node (i + 1) j)) in
        All-cons Right one (two ∷ three ∷ []) d (All-cons Right two (three ∷ []) (omega (arith, ints, e2, s2, x)) (All-cons Right three [] (omega (arith, ints, e3, s3, y)) (All-nil Right)))
      where
        Right : Seg → Type 0
        Right s = cross_of s.a s.b p ≤ℤ pos 0

    -- on a side of the cell p lies on the side of the diagonal that the cell's side does
    at_east : InCell f i j p → p.x ≡ f.x (j + 1) → side i j ≤ℤ pos 0
    at_east c e =
        let o = other in
        let z = times_none H (p.x -ℤ f.x (j + 1)) (omega (arith, ints, e)) in
        let n = c.north in
        let wi = wide in
        let y = mul_nonpos W (p.y -ℤ f.y i) (omega (arith, ints, wi)) (omega (arith, ints, n)) in
        omega (arith, ints, o, z, y)

    at_south : InCell f i j p → p.y ≡ f.y (i + 1) → side i j ≤ℤ pos 0
    at_south c e =
        let z = times_none W (p.y -ℤ f.y (i + 1)) (omega (arith, ints, e)) in
        let n = c.west in
        let hi = high in
        let y = mul_nonneg H (p.x -ℤ f.x j) (omega (arith, ints, hi)) (omega (arith, ints, n)) in
        omega (arith, ints, z, y)

    at_west : InCell f i j p → p.x ≡ f.x j → pos 0 ≤ℤ side i j
    at_west c e =
        let z = times_none H (p.x -ℤ f.x j) (omega (arith, ints, e)) in
        let n = c.south in
        let wi = wide in
        let y = mul_nonneg W (p.y -ℤ f.y (i + 1)) (omega (arith, ints, wi)) (omega (arith, ints, n)) in
        omega (arith, ints, z, y)

    at_north : InCell f i j p → p.y ≡ f.y i → pos 0 ≤ℤ side i j
    at_north c e =
        let o = other in
        let z = times_none W (p.y -ℤ f.y i) (omega (arith, ints, e)) in
        let n = c.east in
        let hi = high in
        let y = mul_nonpos H (p.x -ℤ f.x (j + 1)) (omega (arith, ints, hi)) (omega (arith, ints, n)) in
        omega (arith, ints, o, z, y)

    upper_has : InCell f i j p → pos 0 ≤ℤ side i j → IsInTri f (tri i j true) p
    upper_has c d = in_upper f i j p c side_back d

  module _ (block : ℕ → ℕ → ℕ) (off : ¬ (OnLine (whole_mesh f block) p)) where
    abbrev Agree : Tri → Tri → Type 0
    Agree t u = class_by f t p ≡ class_by f u p

    module _ (i j : ℕ) (a : i + 1 < f.rows) (b : j + 1 < f.cols) where
      -- both triangles of a cell
      halves_agree : IsInTri f (tri i j true) p → IsInTri f (tri i j false) p → Agree (tri i j false) (tri i j true)
      halves_agree u l =
          let x = half i j a b true u in
          let y = half i j a b false l in
          let d : side i j ≡ pos 0 = (let p1 = x.beside in let p2 = y.beside in omega (arith, ints, p1, p2)) in
          let c = x.cell in
          let on : IsOn (seg (point f (node (i + 1) j)) (point f (node i (j + 1)))) p = record { line = d; wide = in_order (f.x j) (f.x (j + 1)) p.x c.west c.east; high = in_order (f.y (i + 1)) (f.y i) p.y c.south c.north } in
          link_agrees f h block p off (link Slant i j) (field_slant f i j (omega (arith, a)) (omega (arith, b))) on (tri i j false) (tri i j true) (found f i j false a b) (found f i j true a b) l u

      cell_agrees : (u v : Bool) → IsInTri f (tri i j u) p → IsInTri f (tri i j v) p → Agree (tri i j u) (tri i j v)
      cell_agrees true true k l = refl
      cell_agrees false false k l = refl
      cell_agrees true false k l = sym (halves_agree k l)
      cell_agrees false true k l = halves_agree l k

      -- a cell that has p has a triangle that does
      some_half : InCell f i j p → (u : Bool) × IsInTri f (tri i j u) p
      some_half c = by_lt_z (side i j) (pos 0) (λ l. (false, in_lower i j a b c (omega (arith, ints, l)))) (λ l. (true, upper_has i j a b c l))

    -- cells side by side
    next_east : (i j : ℕ) (a : i + 1 < f.rows) (b : j + 1 < f.cols) (c : j + 1 + 1 < f.cols) (u v : Bool) → IsInTri f (tri i j u) p → IsInTri f (tri i (j + 1) v) p → Agree (tri i j u) (tri i (j + 1) v)
    next_east i j a b c u v k l =
        let x = (half i j a b u k).cell in
        let y = (half i (j + 1) a c v l).cell in
        let e : p.x ≡ f.x (j + 1) = (let w = x.east in let z = y.west in omega (arith, ints, w, z)) in
        let lower = in_lower i j a b x (at_east i j a b x e) in
        let upper = upper_has i (j + 1) a c y (at_west i (j + 1) a c y e) in
        let on : IsOn (seg (point f (node i (j + 1))) (point f (node (i + 1) (j + 1)))) p = on_upright (point f (node i (j + 1))) (point f (node (i + 1) (j + 1))) p refl e (against (f.y i) (f.y (i + 1)) p.y x.south x.north) in
        cell_agrees i j a b u false k lower
        ∙ (link_agrees f h block p off (link Down i (j + 1)) (field_down f i (j + 1) (omega (arith, a)) (omega (arith, b))) on (tri i j false) (tri i (j + 1) true) (west_of f i j (j + 1) refl a b) (found f i (j + 1) true a c) lower upper
        ∙ cell_agrees i (j + 1) a c true v upper l)

    next_south : (i j : ℕ) (a : i + 1 < f.rows) (b : j + 1 < f.cols) (c : i + 1 + 1 < f.rows) (u v : Bool) → IsInTri f (tri i j u) p → IsInTri f (tri (i + 1) j v) p → Agree (tri i j u) (tri (i + 1) j v)
    next_south i j a b c u v k l =
        let x = (half i j a b u k).cell in
        let y = (half (i + 1) j c b v l).cell in
        let e : p.y ≡ f.y (i + 1) = (let w = x.south in let z = y.north in omega (arith, ints, w, z)) in
        let lower = in_lower i j a b x (at_south i j a b x e) in
        let upper = upper_has (i + 1) j c b y (at_north (i + 1) j c b y e) in
        let on : IsOn (seg (point f (node (i + 1) j)) (point f (node (i + 1) (j + 1)))) p = on_level (f.x j) (f.x (j + 1)) (f.y (i + 1)) p e x.west x.east in
        cell_agrees i j a b u false k lower
        ∙ (sym (link_agrees f h block p off (link Across (i + 1) j) (field_across f (i + 1) j (omega (arith, a)) (omega (arith, b))) on (tri (i + 1) j true) (tri i j false) (found f (i + 1) j true c b) (north_of f i j (i + 1) refl a b) upper lower)
        ∙ cell_agrees (i + 1) j c b true v upper l)
      where
        on_level : (x0 x1 y : ℤ) (q : Point) → q.y ≡ y → x0 ≤ℤ q.x → q.x ≤ℤ x1 → IsOn (seg (record { x = x0; y = y }) (record { x = x1; y = y })) q
        on_level x0 x1 y q e l m =
            let z = times_none (x1 -ℤ x0) (q.y -ℤ y) (omega (arith, ints, e)) in
            let i : y -ℤ y ≡ pos 0 = omega (arith, ints) in
            let g : (y -ℤ y) *ℤ (q.x -ℤ x0) ≡ pos 0 = ring (Mul (Sub (V y) (V y)) (V (q.x -ℤ x0))) (V (pos 0)) (omega arith) in
            record { line = omega (arith, ints, z, g); wide = in_order x0 x1 q.x l m; high = in_order y y q.y (omega (arith, ints, e)) (omega (arith, ints, e)) }

    -- of two places in order the second is the next one where the step from the first reaches it
    next : (at : ℕ → ℤ) (n : ℕ) → ((i k : ℕ) → i < k → k < n → at i <ℤ at k) → (j k : ℕ) → j < k → k < n → at k ≤ℤ at (j + 1) → k ≡ j + 1
    next at n rises j k l m reach = ⊎_elim
        (λ less. absurd (let r = rises (j + 1) k less m in omega (arith, ints, r, reach)))
        (λ more. omega (arith, more, l))
        (cases_lt (j + 1) k)

    row_agrees : (i j k : ℕ) (a : i + 1 < f.rows) (b : j + 1 < f.cols) (c : k + 1 < f.cols) (u v : Bool) → j < k → IsInTri f (tri i j u) p → IsInTri f (tri i k v) p → Agree (tri i j u) (tri i k v)
    row_agrees i j k a b c u v less in_j in_k =
        let x = (half i j a b u in_j).cell in
        let y = (half i k a c v in_k).cell in
        let e : k ≡ j + 1 = next f.x f.cols h.eastwards j k less (omega (arith, c)) (let w = x.east in let z = y.west in omega (arith, ints, w, z)) in
        subst (λ n. Agree (tri i j u) (tri i n v)) (sym e) (next_east i j a b (omega (arith, e, c)) u v in_j (subst (λ n. IsInTri f (tri i n v) p) e in_k))

    col_agrees : (i k j : ℕ) (a : i + 1 < f.rows) (c : k + 1 < f.rows) (b : j + 1 < f.cols) (u v : Bool) → i < k → IsInTri f (tri i j u) p → IsInTri f (tri k j v) p → Agree (tri i j u) (tri k j v)
    col_agrees i k j a c b u v less in_i in_k =
        let x = (half i j a b u in_i).cell in
        let y = (half k j c b v in_k).cell in
        let e : k ≡ i + 1 = next (λ n. neg_ℤ (f.y n)) f.rows (λ n m l s. let r = h.southwards n m l s in omega (arith, ints, r)) i k less (omega (arith, c)) (let w = x.south in let z = y.north in omega (arith, ints, w, z)) in
        subst (λ n. Agree (tri i j u) (tri n j v)) (sym e) (next_south i j a b (omega (arith, e, c)) u v in_i (subst (λ n. IsInTri f (tri n j v) p) e in_k))

    same_or_more : (i k : ℕ) → k ≤ i → (k ≡ i) ⊎ (k < i)
    same_or_more i k l = grind (arith, l)

    in_row : (i j k : ℕ) (a : i + 1 < f.rows) (b : j + 1 < f.cols) (c : k + 1 < f.cols) (u v : Bool) → IsInTri f (tri i j u) p → IsInTri f (tri i k v) p → Agree (tri i j u) (tri i k v)
    in_row i j k a b c u v in_j in_k = ⊎_elim
        (λ l. row_agrees i j k a b c u v l in_j in_k)
        (λ l. ⊎_elim
        (λ e. subst (λ n. IsInTri f (tri i n v) p → Agree (tri i j u) (tri i n v)) (sym e) (λ in_n. cell_agrees i j a b u v in_j in_n) in_k)
        (λ m. sym (row_agrees i k j a c b v u m in_k in_j))
        (same_or_more j k l))
        (cases_lt j k)

    in_col : (i k j : ℕ) (a : i + 1 < f.rows) (c : k + 1 < f.rows) (b : j + 1 < f.cols) (u v : Bool) → IsInTri f (tri i j u) p → IsInTri f (tri k j v) p → Agree (tri i j u) (tri k j v)
    in_col i k j a c b u v in_i in_k = ⊎_elim
        (λ l. col_agrees i k j a c b u v l in_i in_k)
        (λ l. ⊎_elim
        (λ e. subst (λ n. IsInTri f (tri n j v) p → Agree (tri i j u) (tri n j v)) (sym e) (λ in_n. cell_agrees i j a b u v in_i in_n) in_k)
        (λ m. sym (col_agrees k i j c a b v u m in_k in_i))
        (same_or_more i k l))
        (cases_lt i k)

    -- any two triangles that have p
    agree : (t u : Tri) → IsCell (all_cells f) t.row t.col → IsCell (all_cells f) u.row u.col → IsInTri f t p → IsInTri f u p → Agree t u
    agree t u ct cu in_t in_u =
        let a = cell_row f h block t.row t.col ct in
        let b = cell_col f h block t.row t.col ct in
        let c = cell_row f h block u.row u.col cu in
        let d = cell_col f h block u.row u.col cu in
        let x = (half t.row t.col a b t.upper in_t).cell in
        let y = (half u.row u.col c d u.upper in_u).cell in
        let middle : InCell f t.row u.col p = record { west = y.west; east = y.east; north = x.north; south = x.south } in
        let s = some_half t.row u.col a d middle in
        in_row t.row t.col u.col a b d t.upper s.0 in_t s.1 ∙ in_col t.row u.row u.col a c d s.0 u.upper s.1 in_u

    pub one_ground : (K L : Class) → IsGround f p K → IsGround f p L → K ≡ L
    one_ground K L g k =
        let ct = tri_there (all_cells f) g.tri (is_in (tris (all_cells f)) g.tri g.there) in
        let cu = tri_there (all_cells f) k.tri (is_in (tris (all_cells f)) k.tri k.there) in
        gives_is f g.tri p K g.gives ∙ (agree g.tri k.tri ct cu g.has k.has ∙ sym (gives_is f k.tri p L k.gives))

pub fields_have_one_class : FieldsHaveOneClass
fields_have_one_class f block h p K L off g k = one_ground f h p block off K L g k
