-- What the faces of a whole field keep and say.
use Rattle.std.proofs.Common.{◌≡◌, ℕ, zero, suc, ◌+◌, ◌-◌, ◌<◌, ◌≤◌, true, cond, List, [], ◌∷◌, length, get_or, eqb, ltb, refl, sym, ap, ap₂, ◌∙◌, subst, arith}
use Rattle.std.specs.Prelude.{count_by}
use Rattle.std.proofs.lemmas.Bool.Decides.{nat_tests}
use Rattle.std.proofs.lemmas.List.Sums.{sum_by-cons, count_by-le-length}
use Rattle.mesh_definitions.specs.Faces.{IsGapless}
use Rattle.mesh_definitions.specs.Field.{Field}
use Rattle.mesh_definitions.specs.Mesh.{all_cells, has_cell}
use Rattle.mesh_definitions.specs.Pieces.{mesh_of, whole_mesh}
use Rattle.mesh_definitions.specs.declared.Class.TheVariants.{Unsurveyed}
use Rattle.mesh_definitions.specs.declared.Class.{Class}
use Rattle.mesh_definitions.specs.declared.Piece.{Piece}
use Rattle.mesh_definitions.specs.declared.Rect.{Rect}
use Rattle.mesh_definitions.specs.declared.Tri.{Tri}
use Rattle.face_fill.specs.Beside.{same_kind}
use Rattle.face_fill.specs.Filled.{number_of, AreKinds}
use Rattle.face_fill.specs.Legs.{has_it}
use Rattle.face_fill.specs.Listed.{of_list}
use Rattle.face_fill.specs.Numbered.{FacesView, view_of, first_band, face_in, AreSound, AreFaces}
use Rattle.face_fill.specs.Items.{tri_of, item_of, piece_of, AreItems}
use Rattle.face_fill.specs.Joins.{NumbersItems}
use Rattle.tri_mesh.specs.TriNumbers.{tri_place, place_in, tri_count}
use Rattle.face_fill.specs.Places.{item_in, piece_joined, counts_count}
use Rattle.face_fill.proofs.Numbering.{numbers_faces, gapless}

-- ---- there are no more numbers than items

count_split : (xs : List ℕ) (c : ℕ) → count_by (λ x. ltb x (suc c)) xs ≡ count_by (λ x. ltb x c) xs + count_by (λ x. eqb x c) xs
count_split [] c = refl
count_split (x ∷ xs) c =
    let i = count_split xs c in
    let a : count_by (λ x. ltb x (suc c)) (x ∷ xs) ≡ cond (ltb x (suc c)) 1 0 + count_by (λ x. ltb x (suc c)) xs = sum_by-cons (λ x. cond (ltb x (suc c)) 1 0) x xs in
    let b : count_by (λ x. ltb x c) (x ∷ xs) ≡ cond (ltb x c) 1 0 + count_by (λ x. ltb x c) xs = sum_by-cons (λ x. cond (ltb x c) 1 0) x xs in
    let d : count_by (λ x. eqb x c) (x ∷ xs) ≡ cond (eqb x c) 1 0 + count_by (λ x. eqb x c) xs = sum_by-cons (λ x. cond (eqb x c) 1 0) x xs in
    let e = one x c in
    omega (arith, a, b, d, e, i)
  where
    one : (x c : ℕ) → cond (ltb x (suc c)) 1 0 ≡ cond (ltb x c) 1 0 + cond (eqb x c) 1 0
    one x c = grind (arith, nat_tests)

some_count : (xs : List ℕ) (k c : ℕ) → k < length xs → get_or xs k 0 ≡ c → 1 ≤ count_by (λ x. eqb x c) xs
some_count [] k c l e = omega (arith, l)
some_count (x ∷ xs) zero c l e =
    let d : count_by (λ x. eqb x c) (x ∷ xs) ≡ cond (eqb x c) 1 0 + count_by (λ x. eqb x c) xs = sum_by-cons (λ x. cond (eqb x c) 1 0) x xs in
    let one : 1 ≤ cond (eqb x c) 1 0 = grind (arith, nat_tests) in
    omega (arith, d, one)
some_count (x ∷ xs) (suc k) c l e =
    let d : count_by (λ x. eqb x c) (x ∷ xs) ≡ cond (eqb x c) 1 0 + count_by (λ x. eqb x c) xs = sum_by-cons (λ x. cond (eqb x c) 1 0) x xs in
    let i = some_count xs k c (omega (arith, l)) e in
    omega (arith, d, i)

all_counted : (xs : List ℕ) (count : ℕ) → ((k : ℕ) → k < count → (p : ℕ) × (p < length xs) × (get_or xs p 0 ≡ k)) → count ≤ count_by (λ x. ltb x count) xs
all_counted xs zero h = omega arith
all_counted xs (suc c) h =
    let i = all_counted xs c (λ k l. h k (omega (arith, l))) in
    let u = h c (omega arith) in
    omega (arith, count_split xs c, i, some_count xs u.0 c u.1 u.2)

pub few_numbers : (f : Field) (r : Rect) (block : ℕ → ℕ → ℕ) (starts owners numbers : List ℕ) (count : ℕ) → NumbersItems f r block starts owners numbers count → count ≤ length owners
few_numbers f r block starts owners numbers count h =
    let a = all_counted numbers count (λ k l. let u = h.used k l in (u.0, omega (arith, u.1, h.each), u.2)) in
    omega (arith, a, count_by-le-length (λ x. ltb x count) numbers, h.each)

-- ---- what the faces keep

pub are_sound : (f : Field) (r : Rect) (block : ℕ → ℕ → ℕ) (starts counts owners numbers : List ℕ) (classes : List Class) (blocks : List ℕ) (count : ℕ)
    → r.rows ≤ 1024 → r.cols ≤ 1024 → length owners ≤ 67108864 → AreItems f r block (tri_count r) starts counts owners → NumbersItems f r block starts owners numbers count
    → AreKinds f r block starts owners numbers count (length owners) classes blocks → AreSound (view_of r.rows r.cols starts counts numbers classes blocks)
are_sound f r block starts counts owners numbers classes blocks count rows cols few h n k = record {
  few_rows = rows;
  few_cols = cols;
  starts = h.each_start;
  counts = h.each_count;
  within = λ i l. let m : i < tri_count r = omega (arith, l, h.each_start) in omega (arith, h.counted i m, h.within i m, n.each);
  known = λ i l. let b = n.below i (omega (arith, l, n.each)) in omega (arith, b, k.classes_full);
  blocks = k.blocks_full ∙ sym k.classes_full;
  few = omega (arith, few_numbers f r block starts owners numbers count n, few, k.classes_full);
  few_numbers = omega (arith, n.each, few);
}

-- ---- what they say

module _ (f : Field) (block : ℕ → ℕ → ℕ) (starts counts owners numbers : List ℕ) (classes : List Class) (blocks : List ℕ) (count : ℕ)
    (h : AreItems f (all_cells f) block (tri_count (all_cells f)) starts counts owners) (n : NumbersItems f (all_cells f) block starts owners numbers count)
    (k : AreKinds f (all_cells f) block starts owners numbers count (length owners) classes blocks) where
  abbrev view : FacesView
  view = view_of (f.rows - 1) (f.cols - 1) starts counts numbers classes blocks

  same_place : (t : Tri) → tri_place (f.cols - 1) t ≡ place_in (all_cells f) t
  same_place t =
      let row : t.row ≡ t.row - 0 = omega arith in
      let col : t.col ≡ t.col - 0 = omega arith in
      ap₂ (λ i j. tri_place (f.cols - 1) (tri_of i j t.upper)) row col

  same_face : (p : Piece) → face_in f view p ≡ number_of f (all_cells f) starts numbers p
  same_face p = ap (λ k. get_or numbers (get_or starts k 0 + (p.band - first_band f p.tri)) 0) (same_place p.tri)

  inside : (t : Tri) → t.row < f.rows - 1 → t.col < f.cols - 1 → has_cell (all_cells f) t.row t.col ≡ true
  inside t l m = has_it (all_cells f) t.row t.col (record { north = omega arith; south = omega (arith, l); west = omega arith; east = omega (arith, m) })

  pub are_faces : 2 ≤ f.rows → 2 ≤ f.cols → AreFaces f block (view_of (f.rows - 1) (f.cols - 1) starts counts numbers classes blocks)
  are_faces rows cols = record {
    rows = omega (arith, rows);
    cols = omega (arith, cols);
    pieces = λ t l m. ap (λ k. get_or counts k 0) (same_place t) ∙ counts_count f (all_cells f) block starts counts owners h t (inside t l m);
    faces = λ p q c d.
        let both = numbers_faces f (all_cells f) block starts counts owners h numbers count n p q c d in
        ((λ e. both.0 (sym (same_face p) ∙ (e ∙ same_face q))), (λ j. same_face p ∙ (both.1 j ∙ sym (same_face q))));
    gapless = gap;
    classes = λ p c.
        let m = of_list f (all_cells f) block p c in
        ap (λ x. get_or classes x Unsurveyed) (same_face p) ∙ (k.each_class (item_of f (all_cells f) starts p) (item_in f (all_cells f) block starts counts owners h p m) ∙ sym (ap (λ (x : Class × ℕ). x.0) (same_kind (mesh_of f (all_cells f) block) p (piece_of f (all_cells f) starts owners (item_of f (all_cells f) starts p)) (piece_joined f (all_cells f) block starts counts owners h p m))));
    blocks = λ p c.
        let m = of_list f (all_cells f) block p c in
        ap (λ x. get_or blocks x 0) (same_face p) ∙ (k.each_block (item_of f (all_cells f) starts p) (item_in f (all_cells f) block starts counts owners h p m) ∙ sym (ap (λ (x : Class × ℕ). x.1) (same_kind (mesh_of f (all_cells f) block) p (piece_of f (all_cells f) starts owners (item_of f (all_cells f) starts p)) (piece_joined f (all_cells f) block starts counts owners h p m))));
  }
    where
      gap : IsGapless (whole_mesh f block) (face_in f view) (length classes)
      gap =
          let g = gapless f (all_cells f) block starts counts owners h numbers count n in
          record {
            below = λ p c. let b = g.below p c in omega (arith, b, same_face p, k.classes_full);
            used = λ i l. let u = g.used i (omega (arith, l, k.classes_full)) in (u.0, u.1, same_face u.0 ∙ u.2);
          }

-- what numbers and kinds of items give for a rectangle of a field
pub record AreFilled (f : Field) (r : Rect) (block : ℕ → ℕ → ℕ) (starts counts owners numbers : List ℕ) (classes : List Class) (blocks : List ℕ) (count : ℕ) : Type 0 where
  pub items : AreItems f r block (tri_count r) starts counts owners
  pub parts : NumbersItems f r block starts owners numbers count
  pub kinds : AreKinds f r block starts owners numbers count (length owners) classes blocks

pub are_faces_of : (f g : Field) (r : Rect) (block cells : ℕ → ℕ → ℕ) (starts counts owners numbers : List ℕ) (classes : List Class) (blocks : List ℕ) (count rows cols : ℕ)
    → AreFilled f r block starts counts owners numbers classes blocks count → f ≡ g → r ≡ all_cells g → block ≡ cells → 2 ≤ g.rows → 2 ≤ g.cols → rows ≡ g.rows - 1 → cols ≡ g.cols - 1
    → AreFaces g cells (view_of rows cols starts counts numbers classes blocks)
are_faces_of f g r block cells starts counts owners numbers classes blocks count rows cols h field rect same some_rows some_cols at_rows at_cols =
    let P : Field → Rect → (ℕ → ℕ → ℕ) → Type 0 = λ f r block. AreFilled f r block starts counts owners numbers classes blocks count in
    let a : P g (all_cells g) cells = subst (P g (all_cells g)) same (subst (λ r. P g r block) rect (subst (λ f. P f r block) field h)) in
    let faces = are_faces g cells starts counts owners numbers classes blocks count a.items a.parts a.kinds some_rows some_cols in
    subst (λ n. AreFaces g cells (view_of n cols starts counts numbers classes blocks)) (sym at_rows)
    (subst (λ n. AreFaces g cells (view_of (g.rows - 1) n starts counts numbers classes blocks)) (sym at_cols) faces)
