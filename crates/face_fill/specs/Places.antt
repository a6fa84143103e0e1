-- Places of triangles, and items of pieces.
use Rattle.std.proofs.Common.{◌≡◌, ℕ, zero, suc, ◌+◌, ◌-◌, ◌*◌, ◌/◌, ◌%◌, ◌<◌, ◌≤◌, Bool, true, false, cond, List, length, refl, ap, ap₂, ◌∙◌, subst, arith}
use Rattle.std.specs.Prelude.{nat_eq, slice_index}
use Rattle.std.proofs.lemmas.Nat.{mul-add-lt, div-mul-add, mod-mul-add, div_below, mod_below}
use Rattle.mesh_definitions.specs.Faces.{Joined}
use Rattle.mesh_definitions.specs.Field.{Field}
use Rattle.mesh_definitions.specs.Mesh.{has_cell}
use Rattle.mesh_definitions.specs.Pieces.{mesh_of, pieces_of}
use Rattle.mesh_definitions.specs.declared.Piece.{Piece}
use Rattle.mesh_definitions.specs.declared.Rect.{Rect}
use Rattle.mesh_definitions.specs.declared.Tri.{Tri}
use Rattle.face_fill.specs.Numbered.{first_band}
use Rattle.face_fill.specs.Items.{tri_of, piece_by, item_of, piece_of, count_at, AreItems}
use Rattle.tri_mesh.specs.TriNumbers.{tri_count, place_in, tri_at}
use Rattle.face_fill.specs.Legs.{in_rect, has_it}
use Rattle.face_fill.specs.Listed.{InMesh}

-- ---- places of triangles

module _ (r : Rect) where
  tri_there : (a b : ℕ) (u : Bool) → b < r.cols → tri_at r (2 * (a * r.cols + b) + cond u 0 1) ≡ tri_of (r.row + a) (r.col + b) u
  tri_there a b true l =
      let n = a * r.cols + b in
      let half : (2 * n + 0) / 2 ≡ n = omega arith in
      let rest : (2 * n + 0) % 2 ≡ 0 = omega arith in
      let row : (2 * n + 0) / 2 / r.cols ≡ a = ap (λ k. k / r.cols) half ∙ div-mul-add a r.cols b l in
      let col : (2 * n + 0) / 2 % r.cols ≡ b = ap (λ k. k % r.cols) half ∙ mod-mul-add a r.cols b l in
      ap₂ (λ i j. tri_of (r.row + i) (r.col + j) (nat_eq ((2 * n + 0) % 2) 0)) row col ∙ ap (λ k. tri_of (r.row + a) (r.col + b) (nat_eq k 0)) rest
  tri_there a b false l =
      let n = a * r.cols + b in
      let half : (2 * n + 1) / 2 ≡ n = omega arith in
      let rest : (2 * n + 1) % 2 ≡ 1 = omega arith in
      let row : (2 * n + 1) / 2 / r.cols ≡ a = ap (λ k. k / r.cols) half ∙ div-mul-add a r.cols b l in
      let col : (2 * n + 1) / 2 % r.cols ≡ b = ap (λ k. k % r.cols) half ∙ mod-mul-add a r.cols b l in
      ap₂ (λ i j. tri_of (r.row + i) (r.col + j) (nat_eq ((2 * n + 1) % 2) 0)) row col ∙ ap (λ k. tri_of (r.row + a) (r.col + b) (nat_eq k 0)) rest

  one_or_none : (u : Bool) → cond u 0 1 ≤ 1
  one_or_none true = omega arith
  one_or_none false = omega arith

  pub place_below : (t : Tri) → has_cell r t.row t.col ≡ true → place_in r t < tri_count r
  place_below t h =
      let c = in_rect r t.row t.col h in
      let l = mul-add-lt (t.row - r.row) r.cols (t.col - r.col) r.rows (omega (arith, c.north, c.south)) (omega (arith, c.west, c.east)) in
      omega (arith, l, one_or_none t.upper)

  pub tri_placed : (t : Tri) → has_cell r t.row t.col ≡ true → tri_at r (place_in r t) ≡ t
  tri_placed t h =
      let c = in_rect r t.row t.col h in
      let row : r.row + (t.row - r.row) ≡ t.row = omega (arith, c.north) in
      let col : r.col + (t.col - r.col) ≡ t.col = omega (arith, c.west) in
      tri_there (t.row - r.row) (t.col - r.col) t.upper (omega (arith, c.west, c.east)) ∙ ap₂ (λ i j. tri_of i j t.upper) row col

  some_cols : (k : ℕ) → k < tri_count r → 0 < r.cols
  some_cols k l = by r.cols l
    where
      by : (n : ℕ) → k < 2 * (r.rows * n) → 0 < n
      by zero l = omega (arith, l)
      by (suc n) l = omega arith

  pub tri_inside : (k : ℕ) → k < tri_count r → has_cell r (tri_at r k).row (tri_at r k).col ≡ true
  tri_inside k l =
      let some = some_cols k l in
      let row = div_below (k / 2) r.cols r.rows some (omega (arith, l)) in
      let col = mod_below (k / 2) r.cols some in
      has_it r (tri_at r k).row (tri_at r k).col (record { north = omega arith; south = omega (arith, row); west = omega arith; east = omega (arith, col) })

  pub place_back : (k : ℕ) → k < tri_count r → place_in r (tri_at r k) ≡ k
  place_back k l =
      let row : r.row + k / 2 / r.cols - r.row ≡ k / 2 / r.cols = omega arith in
      let col : r.col + k / 2 % r.cols - r.col ≡ k / 2 % r.cols = omega arith in
      let some = some_cols k l in
      ap₂ (λ i j. 2 * (i * r.cols + j) + cond (nat_eq (k % 2) 0) 0 1) row col ∙ whole (k % 2) refl some
    where
      whole : (b : ℕ) → k % 2 ≡ b → 0 < r.cols → 2 * (k / 2 / r.cols * r.cols + k / 2 % r.cols) + cond (nat_eq b 0) 0 1 ≡ k
      whole zero e some = omega (arith, e, some)
      whole (suc zero) e some = omega (arith, e, some)
      whole (suc (suc b)) e some = omega (arith, e)

-- ---- items of pieces

module _ (f : Field) (r : Rect) (block : ℕ → ℕ → ℕ) (starts counts owners : List ℕ) (h : AreItems f r block (tri_count r) starts counts owners) where
  -- how many pieces the triangle of a piece has
  count_there : (t : Tri) → has_cell r t.row t.col ≡ true → count_at f r (place_in r t) ≡ length (pieces_of f t)
  count_there t c = ap (λ u. length (pieces_of f u)) (tri_placed r t c)

  -- the counts are of all triangles
  pub counts_count : (t : Tri) → has_cell r t.row t.col ≡ true → slice_index counts (place_in r t) ≡ length (pieces_of f t)
  counts_count t c = h.counted (place_in r t) (place_below r t c) ∙ count_there t c

  -- a piece has an item
  pub item_in : (p : Piece) → InMesh f r p → item_of f r starts p < length owners
  item_in p m = omega (arith, count_there p.tri m.cell, m.low, m.high, h.within (place_in r p.tri) (place_below r p.tri m.cell))

  -- a piece is joined to the piece of its item
  pub piece_joined : (p : Piece) → InMesh f r p → Joined (mesh_of f r block) p (piece_of f r starts owners (item_of f r starts p))
  piece_joined p m =
      let k = place_in r p.tri in
      let n = count_there p.tri m.cell in
      let j = h.joined k (p.band - first_band f p.tri) (place_below r p.tri m.cell) (omega (arith, n, m.low, m.high)) in
      let b : first_band f p.tri + (p.band - first_band f p.tri) ≡ p.band = omega (arith, m.low) in
      let is : piece_by (tri_at r k) (first_band f (tri_at r k) + (p.band - first_band f p.tri)) ≡ p =
      ap (λ t. piece_by t (first_band f t + (p.band - first_band f p.tri))) (tri_placed r p.tri m.cell) ∙ ap (piece_by p.tri) b in
      subst (λ q. Joined (mesh_of f r block) q (piece_of f r starts owners (item_of f r starts p))) is j

  -- the piece of an item is one of the mesh
  pub piece_in : (i : ℕ) → i < length owners → InMesh f r (piece_of f r starts owners i)
  piece_in i l =
      let o = slice_index owners i in
      record {
        cell = tri_inside r o (h.below i l);
        low = omega arith;
        high = omega (arith, h.from i l, h.to i l);
      }

  -- and it has that item
  pub item_back : (i : ℕ) → i < length owners → item_of f r starts (piece_of f r starts owners i) ≡ i
  item_back i l =
      let o = slice_index owners i in
      let k : place_in r (tri_at r o) ≡ o = place_back r o (h.below i l) in
      let b : first_band f (tri_at r o) + (i - slice_index starts o) - first_band f (tri_at r o) ≡ i - slice_index starts o = omega arith in
      ap₂ (λ k n. slice_index starts k + n) k b ∙ omega (arith, h.from i l)
