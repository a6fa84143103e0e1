-- How many sub-segments there are at most.
use Rattle.std.proofs.Common.{◌≡◌, ℕ, suc, ◌+◌, ◌-◌, ◌*◌, ◌≤◌, min, max, Bool, true, false, cond, Some, None, List, [], ◌∷◌, ◌++◌, length, map, mul-le-mul, ℤ, refl, subst, arith}
use Rattle.std.specs.Prelude.{Option, flat_map, int_le}
use Rattle.std.specs.List.{range_with_len}
use Rattle.std.proofs.lemmas.List.{length-append, length-map}
use Rattle.std.proofs.lemmas.List.FromFn.{length-range_with_len}
use Rattle.std.proofs.lemmas.List.Sums.{count_by-le-length}
use Rattle.mesh_definitions.specs.Field.{Field, node_band}
use Rattle.mesh_definitions.specs.Mesh.{links, tris, first, second, each_place, surveyed}
use Rattle.mesh_definitions.specs.Pieces.{mesh_of, part_bands, chord_levels, least_band, greatest_band, span}
use Rattle.mesh_definitions.specs.declared.Link.{Link}
use Rattle.mesh_definitions.specs.declared.Rect.{Rect}
use Rattle.mesh_definitions.specs.declared.Sub.TheVariants.{Part, Chord}
use Rattle.mesh_definitions.specs.declared.Tri.{Tri}
use Rattle.mesh_definitions.specs.declared.Way.TheVariants.{Across, Down, Slant}
use Rattle.mesh_definitions.specs.declared.Way.{Way}
use Rattle.depth_grid.specs.declared.node.NodeId.{NodeId}
use Rattle.depth_rounding.specs.Bands.{band_of}
use Rattle.face_fill.specs.Beside.{of_option_map}
use Rattle.face_fill.specs.Items.{tri_of}
use Rattle.face_fill.proofs.Adding.{only}
use Rattle.face_fill.proofs.Known.{greatest_small}

flat_map_most : {X Y : Type 0} (g : X → List Y) (n : ℕ) → ((x : X) → length (g x) ≤ n) → (xs : List X) → length (flat_map g xs) ≤ length xs * n
flat_map_most g n h [] = omega arith
flat_map_most g n h (x ∷ xs) =
    let i = flat_map_most g n h xs in
    let a = h x in
    let l : length (g x ++ flat_map g xs) ≡ length (g x) + length (flat_map g xs) = length-append (g x) (flat_map g xs) in
    let s : suc (length xs) * n ≡ length xs * n + n = omega arith in
    omega (arith, i, a, l, s)

each_most : {X : Type 0} (make : ℕ → ℕ → List X) (n : ℕ) → ((i j : ℕ) → length (make i j) ≤ n) → (row rows col cols : ℕ) → length (each_place row rows col cols make) ≤ rows * (cols * n)
each_most make n h row rows col cols =
    let inner : (i : ℕ) → length (flat_map (make i) (range_with_len col cols)) ≤ cols * n = λ i. subst (λ k. length (flat_map (make i) (range_with_len col cols)) ≤ k * n) (length-range_with_len col cols) (flat_map_most (make i) n (h i) (range_with_len col cols)) in
    subst (λ k. length (flat_map (λ i. flat_map (make i) (range_with_len col cols)) (range_with_len row rows)) ≤ k * (cols * n)) (length-range_with_len row rows) (flat_map_most (λ i. flat_map (make i) (range_with_len col cols)) (cols * n) inner (range_with_len row rows))

module _ (f : Field) (few : length f.levels ≤ 20) where
  band_small : (n : NodeId) (b : ℕ) → node_band f n ≡ Some b → b ≤ 20
  band_small n b e =
      let x = of_option_map (band_of f.levels) (f.depth n) b e in
      let l = count_by-le-length (λ (level : ℤ). int_le level x.0) f.levels in
      omega (arith, l, x.2, few)

  parts_few : (l : Link) → length (part_bands f l) ≤ 21
  parts_few l = by (node_band f (first l)) (node_band f (second l)) refl refl
    where
      by : (x y : Option ℕ) → node_band f (first l) ≡ x → node_band f (second l) ≡ y → length (part_bands f l) ≤ 21
      by None y e g = rw e (omega arith)
      by (Some a) None e g = rw (e, g) (omega arith)
      by (Some a) (Some b) e g =
          let p = band_small (first l) a e in
          let q = band_small (second l) b g in
          let n : length (span (min a b) (max a b)) ≡ max a b + 1 - min a b = length-range_with_len (min a b) (max a b + 1 - min a b) in
          rw (e, g) (omega (arith, p, q, n))

  chords_few : (t : Tri) → length (chord_levels f t) ≤ 21
  chords_few t = by (surveyed f t)
    where
      by : (b : Bool) → length (cond b (span (least_band f t + 1) (greatest_band f t)) []) ≤ 21
      by true = let n : length (span (least_band f t + 1) (greatest_band f t)) ≡ greatest_band f t + 1 - (least_band f t + 1) = length-range_with_len (least_band f t + 1) (greatest_band f t + 1 - (least_band f t + 1)) in omega (arith, n, greatest_small f t, few)
      by false = omega arith

  pub subs_few : (r : Rect) (block : ℕ → ℕ → ℕ) → r.rows ≤ 1024 → r.cols ≤ 1024 → length (mesh_of f r block).subs ≤ 4294967295
  subs_few r block rows cols =
      let across = each_place r.row (r.rows + 1) r.col r.cols (only Across) in
      let down = each_place r.row r.rows r.col (r.cols + 1) (only Down) in
      let slant = each_place r.row r.rows r.col r.cols (only Slant) in
      let one : (way : Way) (i j : ℕ) → length (only way i j) ≤ 1 = λ way i j. omega arith in
      let a = each_most (only Across) 1 (one Across) r.row (r.rows + 1) r.col r.cols in
      let d = each_most (only Down) 1 (one Down) r.row r.rows r.col (r.cols + 1) in
      let s = each_most (only Slant) 1 (one Slant) r.row r.rows r.col r.cols in
      let t = each_most (λ i j. tri_of i j true ∷ tri_of i j false ∷ []) 2 (λ i j. omega arith) r.row r.rows r.col r.cols in
      let row_most : r.rows + 1 ≤ 1025 = omega (arith, rows) in
      let col_most : r.cols + 1 ≤ 1025 = omega (arith, cols) in
      let few_across : r.cols * 1 ≤ 1025 = omega (arith, cols) in
      let few_down : (r.cols + 1) * 1 ≤ 1025 = omega (arith, cols) in
      let few_rows : r.rows ≤ 1025 = omega (arith, rows) in
      let few_tris : r.cols * 2 ≤ 2050 = omega (arith, cols) in
      let x : (r.rows + 1) * (r.cols * 1) ≤ 1025 * 1025 = mul-le-mul row_most few_across in
      let y : r.rows * ((r.cols + 1) * 1) ≤ 1025 * 1025 = mul-le-mul few_rows few_down in
      let z : r.rows * (r.cols * 1) ≤ 1025 * 1025 = mul-le-mul few_rows few_across in
      let w : r.rows * (r.cols * 2) ≤ 1025 * 2050 = mul-le-mul few_rows few_tris in
      let l : length ((across ++ down) ++ slant) ≡ length (across ++ down) + length slant = length-append (across ++ down) slant in
      let k : length (across ++ down) ≡ length across + length down = length-append across down in
      let parts = flat_map_most (λ l. map (Part l) (part_bands f l)) 21 (λ l. let n = length-map (part_bands f l) (Part l) in omega (arith, n, parts_few l)) (links r) in
      let chords = flat_map_most (λ t. map (Chord t) (chord_levels f t)) 21 (λ t. let n = length-map (chord_levels f t) (Chord t) in omega (arith, n, chords_few t)) (tris r) in
      let n = length-append (flat_map (λ l. map (Part l) (part_bands f l)) (links r)) (flat_map (λ t. map (Chord t) (chord_levels f t)) (tris r)) in
      let links_most : length (links r) ≤ 3151875 = omega (arith, a, d, s, x, y, z, l, k) in
      let tris_most : length (tris r) ≤ 2101250 = omega (arith, t, w) in
      omega (arith, parts, chords, n, links_most, tris_most)
