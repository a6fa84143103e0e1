-- The triangles beside a link and their pieces at the link's parts.
use Rattle.std.proofs.Common.{◌≡◌, ℕ, zero, suc, ◌+◌, ◌-◌, ◌++◌, ◌<◌, ◌≤◌, min, max, Bool, true, false, cond, Some, None, List, [], ◌∷◌, length, map, ℤ, refl, sym, ap, ap₂, ◌∙◌, subst, arith}
use Rattle.std.specs.Prelude.{Option, option_map, IfSome}
use Rattle.std.specs.List.{range_with_len, flat_map}
use Rattle.std.proofs.lemmas.Bool.{eq-eqb}
use Rattle.std.proofs.lemmas.Bool.Decides.{nat_tests}
use Rattle.std.proofs.lemmas.List.{length-map}
use Rattle.std.proofs.lemmas.List.FromFn.{length-range_with_len}
use Rattle.std.proofs.lemmas.List.Sums.{count_by-le-length}
use Rattle.face_fill.specs.Ends.{HasEnds}
use Rattle.boundary_arcs.specs.Collecting.{AreOneFace, Fits, HasPlace, HasTri, IsIn, beside_of, if_drawn, link_drawn, part_seen, place_at, same_side, seen_between, side_of, walk_along}
use Rattle.boundary_arcs.specs.declared.link_sides.Beside.{Beside}
use Rattle.boundary_arcs.proofs.Ends.{lies_beside}
use Rattle.boundary_arcs.proofs.Spans.{same_range}
use Rattle.mesh_definitions.specs.Field.{Field, band_at, node_band}
use Rattle.mesh_definitions.specs.Mesh.{all_cells, first, second, right_tri, surveyed}
use Rattle.mesh_definitions.specs.Pieces.{greatest_band, least_band, part_bands, part_ends, piece_at, pieces_of, span}
use Rattle.mesh_definitions.specs.declared.Link.{Link}
use Rattle.mesh_definitions.specs.declared.Tri.{Tri}
use Rattle.depth_rounding.specs.Bands.{band_of}
use Rattle.face_fill.specs.Numbered.{FacesView, face_at, face_in, first_band, piece_count}
use Rattle.tri_mesh.specs.Triangles.{piece_of}
use Rattle.tri_mesh.specs.declared.kinds.Pieces.{Pieces}

-- ---- how many pieces a triangle has

pub count_surveyed : (f : Field) (t : Tri) → surveyed f t ≡ true → (first_band f t ≡ least_band f t) × (length (pieces_of f t) ≡ greatest_band f t + 1 - least_band f t)
count_surveyed f t e =
    let n : length (pieces_of f t) ≡ greatest_band f t + 1 - least_band f t = rw e (length-map (span (least_band f t) (greatest_band f t)) (piece_of t) ∙ length-range_with_len (least_band f t) (greatest_band f t + 1 - least_band f t)) in
    (rw e refl, n)

pub count_unsurveyed : (f : Field) (t : Tri) → surveyed f t ≡ false → (first_band f t ≡ 0) × (length (pieces_of f t) ≡ 1)
count_unsurveyed f t e = (rw e refl, rw e refl)

-- ---- what the code knows of a triangle beside a link

pub count_as_coded : (f : Field) (t : Tri) (p : Pieces) → pieces_of f t ≡ map (piece_of t) (range_with_len p.first p.count) → length (pieces_of f t) ≡ p.count
count_as_coded f t p e = ap length e ∙ (length-map (range_with_len p.first p.count) (piece_of t) ∙ length-range_with_len p.first p.count)

abbrev beside_by : Tri → Bool → ℕ → ℕ → Beside
beside_by t s a n = record { tri = t; pieces = record { surveyed = s; first = a; count = n } }

pub pieces_known : (f : Field) (t : Tri) (p : Pieces) → p.surveyed ≡ surveyed f t → p.first ≡ cond p.surveyed (least_band f t) 0 → pieces_of f t ≡ map (piece_of t) (range_with_len p.first p.count)
    → (let b : Beside = record { tri = t; pieces = p } in b) ≡ beside_of f t
pieces_known f t p s a e =
    let first : p.first ≡ first_band f t = a ∙ ap (λ b. cond b (least_band f t) 0) s in
    ap (λ b. beside_by t b p.first p.count) s ∙ (ap (λ n. beside_by t (surveyed f t) n p.count) first ∙ ap (λ n. beside_by t (surveyed f t) (first_band f t) n) (sym (count_as_coded f t p e)))

-- the triangles beside links are in the field, and faces have pieces for them
pub beside_is_in : (f : Field) (l : Link) (forward : Bool) (o : Option Tri) → o ≡ right_tri (all_cells f) (walk_along l forward) → IfSome o (IsIn f)
beside_is_in f l forward None e = tt
beside_is_in f l forward (Some t) e =
    let inside = (lies_beside f (all_cells f) l forward t (sym e)).inside in
    record { row = grind (arith, nat_tests); col = grind (arith, nat_tests) }

pub beside_has_pieces : (f : Field) (v : FacesView) → Fits f v → (l : Link) (forward : Bool) (o : Option Tri) → o ≡ right_tri (all_cells f) (walk_along l forward) → IfSome o (HasTri v)
beside_has_pieces f v fits l forward None e = tt
beside_has_pieces f v fits l forward (Some t) e =
    let here = beside_is_in f l forward (Some t) e in
    record { row = omega (arith, here.row, fits.rows); col = omega (arith, here.col, fits.cols) }

-- ---- the bands of a link's parts

-- a band that a link between two nodes with data has is one of the triangle's
part_within : (f : Field) (t : Tri) (l : Link) (s n b : ℕ) → HasEnds f t l → part_bands f l ≡ range_with_len s n → s ≤ b → b < s + n → (least_band f t ≤ b) × (b ≤ greatest_band f t)
part_within f t l s n b h e low high =
    let x = band_at f (first l) in
    let y = band_at f (second l) in
    let span : range_with_len (min x y) (max x y + 1 - min x y) ≡ range_with_len s n = rw (h.one, h.two) at e in
    let same = same_range (min x y) (max x y + 1 - min x y) s n span (omega (arith, low, high)) in
    (omega (arith, same.0, h.low_one, h.low_two, low), omega (arith, same.0, same.1, h.high_one, h.high_two, low, high))

band_small : (f : Field) (d : Option ℤ) (b : ℕ) → option_map (band_of f.levels) d ≡ Some b → b ≤ length f.levels
band_small f None b e = cc (e)
band_small f (Some c) b e =
    let same : band_of f.levels c ≡ b = cc (e) in
    subst (λ k. k ≤ length f.levels) same (count_by-le-length _ f.levels)

-- no band is above the number of levels
pub parts_small : (f : Field) (l : Link) (s n : ℕ) → part_bands f l ≡ range_with_len s n → 1 ≤ n → s + n ≤ length f.levels + 1
parts_small f l s n e some = by (node_band f (first l)) (node_band f (second l)) refl refl
  where
    one : range_with_len 0 1 ≡ range_with_len s n → s + n ≤ length f.levels + 1
    one h = let same = same_range 0 1 s n h (omega (arith, some)) in omega (arith, same.0, same.1)

    by : (x y : Option ℕ) → node_band f (first l) ≡ x → node_band f (second l) ≡ y → s + n ≤ length f.levels + 1
    by None y h g = one (rw h at e)
    by (Some a) None h g = one (rw (h, g) at e)
    by (Some a) (Some b) h g =
        let span : range_with_len (min a b) (max a b + 1 - min a b) ≡ range_with_len s n = rw (h, g) at e in
        let same = same_range (min a b) (max a b + 1 - min a b) s n span (omega (arith, some)) in
        omega (arith, same.0, same.1, band_small f (f.depth (first l)) a h, band_small f (f.depth (second l)) b g)

-- ---- the piece beside a part

module _ (f : Field) (v : FacesView) (fits : Fits f v) (l : Link) (s n b : ℕ) (e : part_bands f l ≡ range_with_len s n) (low : s ≤ b) (high : b < s + n) where
  pub has_place : (forward : Bool) (t : Tri) → right_tri (all_cells f) (walk_along l forward) ≡ Some t → HasPlace v b (beside_of f t)
  has_place forward t h =
      let lies = lies_beside f (all_cells f) l forward t h in
      let inside = lies.inside in
      let rows = fits.rows in
      let cols = fits.cols in
      let row : t.row < v.rows = grind (arith, nat_tests) in
      let col : t.col < v.cols = grind (arith, nat_tests) in
      let count = fits.pieces t row col in
      by (surveyed f t) refl row col count (λ q. part_within f t l s n b (lies.ends q) e low high)
    where
      by : (q : Bool) → surveyed f t ≡ q → t.row < v.rows → t.col < v.cols → piece_count v t ≡ length (pieces_of f t) → (surveyed f t ≡ true → (least_band f t ≤ b) × (b ≤ greatest_band f t)) → HasPlace v b (beside_of f t)
      by true q row col count within =
          let w = within q in
          let k = count_surveyed f t q in
          record { row = row; col = col; low = rw q (omega (arith, w.0)); piece = rw q (omega (arith, count, k.1, w.0, w.1)) }
      by false q row col count within =
          let k = count_unsurveyed f t q in
          record { row = row; col = col; low = rw q (omega arith); piece = rw q (omega (arith, count, k.1)) }

  pub has_places : (forward : Bool) (o : Option Beside) → o ≡ option_map (beside_of f) (right_tri (all_cells f) (walk_along l forward)) → IfSome o (HasPlace v b)
  has_places forward o h = subst (λ x. IfSome x (HasPlace v b)) (sym h) (by (right_tri (all_cells f) (walk_along l forward)) refl)
    where
      by : (x : Option Tri) → right_tri (all_cells f) (walk_along l forward) ≡ x → IfSome (option_map (beside_of f) x) (HasPlace v b)
      by None g = tt
      by (Some t) g = has_place forward t g

-- the face beside a part is that of its piece
pub face_as_coded : (f : Field) (v : FacesView) (l : Link) (b : ℕ) (forward : Bool) (o : Option Beside) → o ≡ option_map (beside_of f) (right_tri (all_cells f) (walk_along l forward))
    → option_map (λ s. face_at v s.tri (place_at b s)) o ≡ side_of f v l b forward
face_as_coded f v l b forward o h = ap (option_map (λ s. face_at v s.tri (place_at b s))) h ∙ by (right_tri (all_cells f) (walk_along l forward))
  where
    by : (x : Option Tri) → option_map (λ s. face_at v s.tri (place_at b s)) (option_map (beside_of f) x) ≡ option_map (λ t. face_in f v (piece_at f b t)) x
    by None = refl
    by (Some t) = refl

-- a part between the faces beside it is as it is to be seen
pub part_as_coded : (f : Field) (v : FacesView) (l : Link) (b : ℕ) (o p : Option Beside) (x y : Option ℕ)
    → o ≡ option_map (beside_of f) (right_tri (all_cells f) (walk_along l false)) → p ≡ option_map (beside_of f) (right_tri (all_cells f) (walk_along l true))
    → x ≡ option_map (λ s. face_at v s.tri (place_at b s)) o → y ≡ option_map (λ s. face_at v s.tri (place_at b s)) p
    → seen_between (part_ends f l b) x y ≡ part_seen f v l b
part_as_coded f v l b o p x y on_left on_right e h =
    ap₂ (seen_between (part_ends f l b)) (e ∙ face_as_coded f v l b false o on_left) (h ∙ face_as_coded f v l b true p on_right)

-- ---- a link within a face

-- the parts of a link are a row of bands
parts_in_a_row : (f : Field) (l : Link) → (s : ℕ) × (n : ℕ) × (part_bands f l ≡ range_with_len s n)
parts_in_a_row f l = by (node_band f (first l)) (node_band f (second l)) refl refl
  where
    by : (x y : Option ℕ) → node_band f (first l) ≡ x → node_band f (second l) ≡ y → (s : ℕ) × (n : ℕ) × (part_bands f l ≡ range_with_len s n)
    by None y h g = (0, 1, rw h refl)
    by (Some a) None h g = (0, 1, rw (h, g) refl)
    by (Some a) (Some b) h g = (min a b, max a b + 1 - min a b, rw (h, g) refl)

nothing_from : {X : Type 0} (g : ℕ → List X) (s n : ℕ) → ((b : ℕ) → s ≤ b → b < s + n → g b ≡ []) → flat_map g (range_with_len s n) ≡ []
nothing_from g s zero e = refl
nothing_from g s (suc n) e =
    ap₂ (λ x y. x ++ y) (e s (omega arith) (omega arith)) (nothing_from g (s + 1) n (λ b low high. e b (omega (arith, low)) (omega (arith, high))))

module _ (f : Field) (v : FacesView) (fits : Fits f v) (l : Link) (left right : Option Tri) (on_left : left ≡ right_tri (all_cells f) (walk_along l false)) (on_right : right ≡ right_tri (all_cells f) (walk_along l true)) (one : AreOneFace v left right) where
  left_tri : right_tri (all_cells f) (walk_along l false) ≡ Some one.a
  left_tri = sym on_left ∙ one.on_left

  right_tri' : right_tri (all_cells f) (walk_along l true) ≡ Some one.b
  right_tri' = sym on_right ∙ one.on_right

  part_within_face : (s n b : ℕ) → part_bands f l ≡ range_with_len s n → s ≤ b → b < s + n → if_drawn (part_seen f v l b) ≡ []
  part_within_face s n b e low high =
      let p = (has_place f v fits l s n b e low high false one.a left_tri).piece in
      let q = (has_place f v fits l s n b e low high true one.b right_tri').piece in
      let first_a : place_at b (beside_of f one.a) ≡ 0 = omega (arith, p, one.one_a) in
      let first_b : place_at b (beside_of f one.b) ≡ 0 = omega (arith, q, one.one_b) in
      let x : side_of f v l b false ≡ Some (face_at v one.a 0) = ap (option_map (λ t. face_in f v (piece_at f b t))) left_tri ∙ ap (λ i. Some (face_at v one.a i)) first_a in
      let y : side_of f v l b true ≡ Some (face_at v one.b 0) = ap (option_map (λ t. face_in f v (piece_at f b t))) right_tri' ∙ ap (λ i. Some (face_at v one.b i)) first_b in
      let same : same_side (side_of f v l b false) (side_of f v l b true) ≡ true = ap₂ same_side x y ∙ eq-eqb (face_at v one.a 0) (face_at v one.b 0) one.same in
      ap (λ k. cond k [] (part_seen f v l b ∷ [])) same

  pub nothing_within_face : link_drawn f v l ≡ []
  nothing_within_face =
      let r = parts_in_a_row f l in
      ap (flat_map (λ b. if_drawn (part_seen f v l b))) r.2 ∙ nothing_from (λ b. if_drawn (part_seen f v l b)) r.0 r.1 (λ b low high. part_within_face r.0 r.1 b r.2 low high)
