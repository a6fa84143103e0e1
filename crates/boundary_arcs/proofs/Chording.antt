-- The levels that cross a triangle, and the pieces on the sides of their chords.
use Rattle.std.proofs.Common.{◌≡◌, ℕ, ◌+◌, ◌-◌, ◌<◌, ◌≤◌, Bool, true, false, cond, ◌&&◌, Some, None, List, [], ◌∷◌, length, map, min, refl, sym, ap, ap₂, ◌∙◌, arith}
use Rattle.std.specs.Prelude.{Option, nat_lt, nat_le, fold}
use Rattle.std.specs.List.{range_with_len, flat_map}
use Rattle.std.proofs.lemmas.Bool.Decides.{nat_tests}
use Rattle.std.proofs.lemmas.List.Concat.{flat_map_single}
use Rattle.boundary_arcs.specs.Collecting.{Crosses, Fits, chord_seen, seen_between, tri_drawn, piece_by}
use Rattle.boundary_arcs.proofs.Sides.{count_as_coded, count_surveyed, count_unsurveyed}
use Rattle.mesh_definitions.specs.Field.{Field, band_at}
use Rattle.mesh_definitions.specs.Mesh.{corners, surveyed}
use Rattle.mesh_definitions.specs.Pieces.{chord_ends, chord_levels, greatest_band, least_band, pieces_of, span}
use Rattle.mesh_definitions.specs.declared.Tri.{Tri}
use Rattle.face_fill.specs.Numbered.{FacesView, face_at, face_in, first_band, piece_count}
use Rattle.plane_geom.specs.declared.Seg.{Seg}
use Rattle.tri_mesh.specs.Triangles.{piece_of}
use Rattle.tri_mesh.specs.declared.kinds.Pieces.{Pieces}

-- the least band is at most the number of levels
least_of : {X : Type 0} (g : X → ℕ) (xs : List X) (a : ℕ) → fold (λ b x. min b (g x)) a xs ≤ a
least_of g [] a = omega arith
least_of g (x ∷ xs) a = let rest = least_of g xs (min a (g x)) in omega (arith, rest)

least_small : (f : Field) (t : Tri) → least_band f t ≤ length f.levels
least_small f t = least_of (band_at f) (corners t) (length f.levels)

-- what the code knows of the levels that cross a triangle
pub record KnowsLevels (f : Field) (t : Tri) (first count : ℕ) : Type 0 where
  pub is_first : first ≡ first_band f t
  pub small : first ≤ length f.levels
  pub levels : chord_levels f t ≡ range_with_len (first + 1) (count - 1)
  pub each : (i : ℕ) → i < count - 1 → Crosses f t (first + 1 + i)

pub knows_levels : (f : Field) (t : Tri) (p : Pieces) → p.surveyed ≡ surveyed f t → p.first ≡ cond p.surveyed (least_band f t) 0 → pieces_of f t ≡ map (piece_of t) (range_with_len p.first p.count) → KnowsLevels f t p.first p.count
knows_levels f t p s a e = by (surveyed f t) refl
  where
    same : p.first ≡ first_band f t
    same = a ∙ ap (λ b. cond b (least_band f t) 0) s

    count : length (pieces_of f t) ≡ p.count
    count = count_as_coded f t p e

    by : (b : Bool) → surveyed f t ≡ b → KnowsLevels f t p.first p.count
    by true q =
        let k = count_surveyed f t q in
        let from : least_band f t + 1 ≡ p.first + 1 = omega (arith, same, k.0) in
        let many : greatest_band f t + 1 - (least_band f t + 1) ≡ p.count - 1 = omega (arith, count, k.1) in
        record {
          is_first = same;
          small = omega (arith, same, k.0, least_small f t);
          levels = rw q (ap₂ range_with_len from many);
          each = λ i l. record { known = q; above = omega (arith, same, k.0); most = omega (arith, same, k.0, k.1, count, l) };
        }
    by false q =
        let k = count_unsurveyed f t q in
        let none : 0 ≡ p.count - 1 = omega (arith, count, k.1) in
        record {
          is_first = same;
          small = omega (arith, same, k.0);
          levels = rw q (ap (range_with_len (p.first + 1)) none);
          each = λ i l. absurd (omega (arith, count, k.1, l));
        }

-- the pieces on the sides of a chord are pieces of the triangle
pub record HasSidePieces (v : FacesView) (t : Tri) (first k : ℕ) : Type 0 where
  pub above : first < k
  pub shoaler : k - 1 - first < piece_count v t
  pub deeper : k - first < piece_count v t

pub has_side_pieces : (f : Field) (v : FacesView) (t : Tri) (first k : ℕ) → Fits f v → t.row < v.rows → t.col < v.cols → first ≡ first_band f t → Crosses f t k → HasSidePieces v t first k
has_side_pieces f v t first k fits row col e c =
    let n = count_surveyed f t c.known in
    let count = fits.pieces t row col in
    record {
      above = omega (arith, e, n.0, c.above);
      shoaler = omega (arith, e, n.0, n.1, count, c.above, c.most);
      deeper = omega (arith, e, n.0, n.1, count, c.above, c.most);
    }

-- a level that crosses has a chord
pub crossing_test : (f : Field) (t : Tri) (k : ℕ) → Crosses f t k → (surveyed f t && (nat_lt (least_band f t) k && nat_le k (greatest_band f t))) ≡ true
crossing_test f t k c =
    let known = c.known in
    let above = c.above in
    let most = c.most in
    rw known (grind (arith, nat_tests))

pub chord_there : (f : Field) (t : Tri) (k : ℕ) (o : Option Seg) → Crosses f t k → o ≡ cond (surveyed f t && (nat_lt (least_band f t) k && nat_le k (greatest_band f t))) (Some (chord_ends f t k)) None → o ≡ Some (chord_ends f t k)
chord_there f t k o c e = e ∙ ap (λ b. cond b (Some (chord_ends f t k)) None) (crossing_test f t k c)

-- a chord between the faces of its pieces is as it is to be seen
pub chord_as_coded : (f : Field) (v : FacesView) (t : Tri) (first k a b : ℕ) (s : Seg) → first ≡ first_band f t → s ≡ chord_ends f t k → a ≡ face_at v t (k - 1 - first) → b ≡ face_at v t (k - first)
    → seen_between s (Some a) (Some b) ≡ chord_seen f v t k
chord_as_coded f v t first k a b s e h l r =
    ap (λ x. seen_between x (Some a) (Some b)) h
    ∙ (ap (λ x. seen_between (chord_ends f t k) (Some x) (Some b)) (l ∙ ap (λ n. face_at v t (k - 1 - n)) e)
    ∙ ap (λ x. seen_between (chord_ends f t k) (Some (face_in f v (piece_by t (k - 1)))) (Some x)) (r ∙ ap (λ n. face_at v t (k - n)) e))

-- the chords of a triangle, level by level
pub chords_one_by_one : (f : Field) (v : FacesView) (t : Tri) (first count : ℕ) → chord_levels f t ≡ range_with_len (first + 1) (count - 1) → flat_map (λ k. chord_seen f v t k ∷ []) (range_with_len (first + 1) (count - 1)) ≡ tri_drawn f v t
chords_one_by_one f v t first count e = flat_map_single (chord_seen f v t) (range_with_len (first + 1) (count - 1)) ∙ ap (map (chord_seen f v t)) (sym e)

-- a triangle of one piece has no chord
pub no_chord : (f : Field) (v : FacesView) (t : Tri) → Fits f v → t.row < v.rows → t.col < v.cols → piece_count v t ≡ 1 → tri_drawn f v t ≡ []
no_chord f v t fits row col one = by (surveyed f t) refl
  where
    count : length (pieces_of f t) ≡ 1
    count = sym (fits.pieces t row col) ∙ one

    by : (b : Bool) → surveyed f t ≡ b → map (chord_seen f v t) (cond b (span (least_band f t + 1) (greatest_band f t)) []) ≡ []
    by true q =
        let k = count_surveyed f t q in
        let none : greatest_band f t + 1 - (least_band f t + 1) ≡ 0 = omega (arith, count, k.1) in
        ap (λ n. map (chord_seen f v t) (range_with_len (least_band f t + 1) n)) none
    by false q = refl
