-- Bands of the corners of triangles, from a table of nodes.
use Rattle.std.proofs.Common.{◌≡◌, ℕ, ◌+◌, ◌-◌, ◌*◌, ◌/◌, ◌%◌, ◌<◌, ◌≤◌, min, max, Bool, true, false, cond, ◌&&◌, Some, None, List, length, get_or, ℤ, pos, refl, sym, ap, ap₂, ◌∙◌, arith}
use Rattle.std.specs.Prelude.{Option, option_map, unwrap_or, is_some, count_by, int_le}
use Rattle.std.proofs.lemmas.List.Sums.{count_by-le-length}
use Rattle.std.proofs.lemmas.Nat.{mul-add-lt, div-mul-add, mod-mul-add}
use Rattle.mesh_definitions.specs.Field.{Field, band_at, node_band}
use Rattle.mesh_definitions.specs.Mesh.{surveyed}
use Rattle.mesh_definitions.specs.Pieces.{least_band, greatest_band, pieces_of}
use Rattle.mesh_definitions.specs.declared.Class.TheVariants.{Unsurveyed, Band}
use Rattle.mesh_definitions.specs.declared.Rect.{Rect}
use Rattle.mesh_definitions.specs.declared.Tri.{Tri}
use Rattle.mesh_definitions.specs.declared.Way.TheVariants.{Slant}
use Rattle.depth_grid.specs.declared.node.NodeId.{NodeId}
use Rattle.depth_rounding.specs.Bands.{band_of}
use Rattle.face_fill.specs.Corners.{node_of, AreNodeBands, ends_of_three, ends_of}
use Rattle.face_fill.specs.Numbered.{first_band}
use Rattle.face_fill.specs.Items.{tri_of}
use Rattle.face_fill.specs.declared.tables.Ends.{Ends}
use Rattle.face_fill.specs.Ends.{leg_ends, count_surveyed}

-- ---- the table

module _ (f : Field) (r : Rect) (bands : List (Option ℕ)) (h : AreNodeBands f r bands) (i j : ℕ) (north : r.row ≤ i) (south : i ≤ r.row + r.rows) (west : r.col ≤ j) (east : j ≤ r.col + r.cols) where
  pub node_below : (i - r.row) * (r.cols + 1) + (j - r.col) < length bands
  node_below = let l = mul-add-lt (i - r.row) (r.cols + 1) (j - r.col) (r.rows + 1) (omega (arith, north, south)) (omega (arith, west, east)) in omega (arith, l, h.full)

  pub node_there : get_or bands ((i - r.row) * (r.cols + 1) + (j - r.col)) None ≡ node_band f (node_of i j)
  node_there =
      let l : j - r.col < r.cols + 1 = omega (arith, west, east) in
      let row : r.row + ((i - r.row) * (r.cols + 1) + (j - r.col)) / (r.cols + 1) ≡ i = ap (λ n. r.row + n) (div-mul-add (i - r.row) (r.cols + 1) (j - r.col) l) ∙ omega (arith, north) in
      let col : r.col + ((i - r.row) * (r.cols + 1) + (j - r.col)) % (r.cols + 1) ≡ j = ap (λ n. r.col + n) (mod-mul-add (i - r.row) (r.cols + 1) (j - r.col) l) ∙ omega (arith, west) in
      h.each ((i - r.row) * (r.cols + 1) + (j - r.col)) node_below ∙ ap₂ (λ i j. node_band f (node_of i j)) row col

-- ---- the least and the greatest band

abbrev ends_by : ℕ → ℕ → Option Ends
ends_by a b = Some (record { least = a; greatest = b })

three : (g : ℤ → ℕ) (most : ℕ) → ((x : ℤ) → g x ≤ most) → (a b c : Option ℤ) → ends_of_three (option_map g a) (option_map g b) (option_map g c)
    ≡ cond (is_some a && (is_some b && (is_some c && true))) (Some (record { least = min (min (min most (g (unwrap_or a (pos 0)))) (g (unwrap_or b (pos 0)))) (g (unwrap_or c (pos 0))); greatest = max (max (max 0 (g (unwrap_or a (pos 0)))) (g (unwrap_or b (pos 0)))) (g (unwrap_or c (pos 0))) })) None
three g most h None b c = refl
three g most h (Some x) None c = refl
three g most h (Some x) (Some y) None = refl
three g most h (Some x) (Some y) (Some z) =
    let l : min (min (g x) (g y)) (g z) ≡ min (min (min most (g x)) (g y)) (g z) = omega (arith, h x) in
    let m : max (max (g x) (g y)) (g z) ≡ max (max (max 0 (g x)) (g y)) (g z) = omega arith in
    ap₂ (λ l m. let e : Option Ends = Some (record { least = l; greatest = m }) in e) l m

count_most : (p : ℤ → Bool) (xs : List ℤ) → count_by p xs ≤ length xs
count_most p xs = count_by-le-length p xs

module _ (f : Field) (i k : ℕ) where
  pub upper_ends : ends_of_three (node_band f (node_of i k)) (node_band f (node_of i (k + 1))) (node_band f (node_of (i + 1) k)) ≡ ends_of f (tri_of i k true)
  upper_ends = three (band_of f.levels) (length f.levels) (λ x. count_most (λ level. int_le level x) f.levels) (f.depth (node_of i k)) (f.depth (node_of i (k + 1))) (f.depth (node_of (i + 1) k))

  pub lower_ends : ends_of_three (node_band f (node_of (i + 1) k)) (node_band f (node_of i (k + 1))) (node_band f (node_of (i + 1) (k + 1))) ≡ ends_of f (tri_of i k false)
  lower_ends = three (band_of f.levels) (length f.levels) (λ x. count_most (λ level. int_le level x) f.levels) (f.depth (node_of (i + 1) k)) (f.depth (node_of i (k + 1))) (f.depth (node_of (i + 1) (k + 1)))

pub ends_known : (f : Field) (t : Tri) (e : Ends) → ends_of f t ≡ Some e → (surveyed f t ≡ true) × (e.least ≡ least_band f t) × (e.greatest ≡ greatest_band f t)
ends_known f t e h = by (surveyed f t) refl h
  where
    by : (b : Bool) → surveyed f t ≡ b → cond b (Some (record { least = least_band f t; greatest = greatest_band f t })) None ≡ Some e → (surveyed f t ≡ true) × (e.least ≡ least_band f t) × (e.greatest ≡ greatest_band f t)
    by true s g =
        let k : record { least = least_band f t; greatest = greatest_band f t } ≡ e = cc (g) in
        (s, sym (ap (λ (e : Ends). e.least) k), sym (ap (λ (e : Ends). e.greatest) k))
    by false s g = cc (g)

pub ends_unknown : (f : Field) (t : Tri) → ends_of f t ≡ None → surveyed f t ≡ false
ends_unknown f t h = by (surveyed f t) refl h
  where
    by : (b : Bool) → surveyed f t ≡ b → cond b (ends_by (least_band f t) (greatest_band f t)) None ≡ None → surveyed f t ≡ false
    by true s g = cc (g)
    by false s g = s

-- ---- how many pieces there are

pub count_from_ends : (f : Field) (t : Tri) (e : Ends) → ends_of f t ≡ Some e → e.greatest - e.least + 1 ≡ length (pieces_of f t)
count_from_ends f t e h =
    let k = ends_known f t e h in
    let n = count_surveyed f t k.0 in
    let ends = leg_ends f t k.0 Slant in
    omega (arith, k.1, k.2, n.1, ends.low_one, ends.high_one)

pub greatest_small : (f : Field) (t : Tri) → greatest_band f t ≤ length f.levels
greatest_small f t = by t.row t.col t.upper
  where
    small : (n : NodeId) → band_at f n ≤ length f.levels
    small n = count_most (λ level. int_le level (unwrap_or (f.depth n) (pos 0))) f.levels

    by : (i k : ℕ) (u : Bool) → greatest_band f (tri_of i k u) ≤ length f.levels
    by i k true = omega (arith, small (node_of i k), small (node_of i (k + 1)), small (node_of (i + 1) k))
    by i k false = omega (arith, small (node_of (i + 1) k), small (node_of i (k + 1)), small (node_of (i + 1) (k + 1)))

-- ---- the band of a piece

-- a piece's band is at most as many as there are levels
pub band_small : (f : Field) (t : Tri) (k b : ℕ) → k < length (pieces_of f t) → cond (surveyed f t) (Band (first_band f t + k)) Unsurveyed ≡ Band b → b ≤ length f.levels
band_small f t k b below e = by (surveyed f t) refl e
  where
    by : (s : Bool) → surveyed f t ≡ s → cond s (Band (cond s (least_band f t) 0 + k)) Unsurveyed ≡ Band b → b ≤ length f.levels
    by true s g =
        let same : least_band f t + k ≡ b = cc (g) in
        let n = count_surveyed f t s in
        omega (arith, same, n.1, below, greatest_small f t)
    by false s g = cc (g)
