-- The drawn sub-segments in the order in which they are collected, and what is added to a net on the way.
use Rattle.std.specs.List.{AllZip, range_with_len}
use Rattle.std.specs.Prelude.{◌≡◌, ◌≢◌, ℕ, ◌+◌, ◌-◌, ◌*◌, ◌^◌, ◌<◌, ◌≤◌, ◌++◌, eqb, Bool, true, false, cond, Option, Some, None, List, [], ◌∷◌, length, map, flat_map, option_map, slice_get, AllPairs}
use Rattle.boundary_arcs.specs.Nets.{Shows}
use Rattle.boundary_arcs.specs.declared.link_sides.Beside.{Beside}
use Rattle.boundary_arcs.specs.declared.net.Drawn.{Drawn}
use Rattle.boundary_arcs.specs.declared.net.Net.{Net}
use Rattle.mesh_definitions.specs.Field.{Field}
use Rattle.mesh_definitions.specs.Mesh.{Walk, all_cells, first, second, right_tri, surveyed}
use Rattle.mesh_definitions.specs.Pieces.{chord_ends, chord_levels, greatest_band, least_band, part_bands, part_ends, piece_at, pieces_of}
use Rattle.mesh_definitions.specs.declared.Link.{Link}
use Rattle.mesh_definitions.specs.declared.Piece.{Piece}
use Rattle.mesh_definitions.specs.declared.Tri.{Tri}
use Rattle.mesh_definitions.specs.declared.Way.{Way}
use Rattle.face_fill.specs.Numbered.{FacesView, face_at, face_in, first_band, piece_count}
use Rattle.plane_geom.specs.declared.Point.{Point}
use Rattle.plane_geom.specs.declared.Seg.{Seg}

-- ---- what is collected

abbrev pub link_at : Way → ℕ → ℕ → Link
link_at way i j = record { way = way; row = i; col = j }

abbrev pub walk_along : Link → Bool → Walk
walk_along l forward = record { link = l; forward = forward }

abbrev pub tri_at : ℕ → ℕ → Bool → Tri
tri_at i j upper = record { row = i; col = j; upper = upper }

abbrev pub piece_by : Tri → ℕ → Piece
piece_by t b = record { tri = t; band = b }

abbrev pub seen_between : Seg → Option ℕ → Option ℕ → Drawn
seen_between seg left right = record { seg = seg; left = left; right = right }

-- the face on the right of the part of a link in a band, walked from its first node or back
abbrev pub side_of : Field → FacesView → Link → ℕ → Bool → Option ℕ
side_of f v l b forward = option_map (λ t. face_in f v (piece_at f b t)) (right_tri (all_cells f) (walk_along l forward))

-- the part of a link in a band
abbrev pub part_seen : Field → FacesView → Link → ℕ → Drawn
part_seen f v l b = seen_between (part_ends f l b) (side_of f v l b false) (side_of f v l b true)

-- whether one face lies on both sides, or none does
abbrev pub same_side : Option ℕ → Option ℕ → Bool
same_side None None = true
same_side None (Some b) = false
same_side (Some a) None = false
same_side (Some a) (Some b) = eqb a b

-- what lies between different sides is drawn
abbrev pub if_drawn : Drawn → List Drawn
if_drawn d = cond (same_side d.left d.right) [] (d ∷ [])

-- the drawn parts of a link, of a row of links, and of all links of one way
abbrev pub link_drawn : Field → FacesView → Link → List Drawn
link_drawn f v l = flat_map (λ b. if_drawn (part_seen f v l b)) (part_bands f l)

abbrev pub row_drawn : Field → FacesView → Way → ℕ → ℕ → List Drawn
row_drawn f v way cols i = flat_map (λ j. link_drawn f v (link_at way i j)) (range_with_len 0 cols)

abbrev pub way_drawn : Field → FacesView → Way → ℕ → ℕ → List Drawn
way_drawn f v way rows cols = flat_map (row_drawn f v way cols) (range_with_len 0 rows)

-- the chord of a level in a triangle, the chords of a triangle, of a row of cells, and of all
abbrev pub chord_seen : Field → FacesView → Tri → ℕ → Drawn
chord_seen f v t k = seen_between (chord_ends f t k) (Some (face_in f v (piece_by t (k - 1)))) (Some (face_in f v (piece_by t k)))

abbrev pub tri_drawn : Field → FacesView → Tri → List Drawn
tri_drawn f v t = map (chord_seen f v t) (chord_levels f t)

abbrev pub cell_drawn : Field → FacesView → ℕ → ℕ → List Drawn
cell_drawn f v i j = tri_drawn f v (tri_at i j true) ++ tri_drawn f v (tri_at i j false)

abbrev pub cells_drawn : Field → FacesView → ℕ → ℕ → List Drawn
cells_drawn f v cols i = flat_map (cell_drawn f v i) (range_with_len 0 cols)

abbrev pub chords_drawn : Field → FacesView → ℕ → ℕ → List Drawn
chords_drawn f v rows cols = flat_map (cells_drawn f v cols) (range_with_len 0 rows)

-- ---- triangles beside links

-- a triangle with its pieces
abbrev pub beside_of : Field → Tri → Beside
beside_of f t = record { tri = t; pieces = record { surveyed = surveyed f t; first = first_band f t; count = length (pieces_of f t) } }

-- the place in a triangle of its piece at the part of a link in a band
abbrev pub place_at : ℕ → Beside → ℕ
place_at b s = cond s.pieces.surveyed b 0 - s.pieces.first

-- the triangle has such a piece
pub record HasPlace (v : FacesView) (b : ℕ) (s : Beside) : Type 0 where
  pub row : s.tri.row < v.rows
  pub col : s.tri.col < v.cols
  pub low : s.pieces.first ≤ cond s.pieces.surveyed b 0
  pub piece : place_at b s < piece_count v s.tri

-- a triangle is one of a field, or one that faces have pieces for
pub record IsIn (f : Field) (t : Tri) : Type 0 where
  pub row : t.row + 1 < f.rows
  pub col : t.col + 1 < f.cols

pub record HasTri (v : FacesView) (t : Tri) : Type 0 where
  pub row : t.row < v.rows
  pub col : t.col < v.cols

-- two triangles that are one piece each, of one face
pub record AreOneFace (v : FacesView) (left right : Option Tri) : Type 0 where
  pub a : Tri
  pub b : Tri
  pub on_left : left ≡ Some a
  pub on_right : right ≡ Some b
  pub one_a : piece_count v a ≡ 1
  pub one_b : piece_count v b ≡ 1
  pub same : face_at v a 0 ≡ face_at v b 0

-- faces have as many rows and columns of cells as a field and as many pieces in each triangle
pub record Fits (f : Field) (v : FacesView) : Type 0 where
  pub rows : v.rows + 1 ≡ f.rows
  pub cols : v.cols + 1 ≡ f.cols
  pub pieces : (t : Tri) → t.row < v.rows → t.col < v.cols → piece_count v t ≡ length (pieces_of f t)

-- both nodes of a link are nodes of a field
pub record IsInField (f : Field) (l : Link) : Type 0 where
  pub first_row : (first l).row < f.rows
  pub first_col : (first l).col < f.cols
  pub second_row : (second l).row < f.rows
  pub second_col : (second l).col < f.cols

-- a level crosses a triangle
pub record Crosses (f : Field) (t : Tri) (k : ℕ) : Type 0 where
  pub known : surveyed f t ≡ true
  pub above : least_band f t < k
  pub most : k ≤ greatest_band f t

-- ---- what is added to a net

-- a point has a number now, those that had one have it still, and there is at most one point more
pub record IsNumbered (old new : List Point) (p : Point) (k : ℕ) : Type 0 where
  pub there : slice_get new k ≡ Some p
  pub stay : (i : ℕ) (q : Point) → slice_get old i ≡ Some q → slice_get new i ≡ Some q
  pub once : AllPairs ◌≢◌ new
  pub few : length new ≤ length old + 1

-- there is room for so many lines more
pub record HasRoom (n : ℕ) (net : Net) : Type 0 where
  pub lines : length net.lines.items + n ≤ 2 ^ 27
  pub points : length net.points.keys + 2 * n ≤ 2 ^ 28

-- a net shows drawn sub-segments line by line, between points that stand once each
pub record ShowsAll (net : Net) (subs : List Drawn) : Type 0 where
  pub each : AllZip (Shows net.points.keys) net.lines.items subs
  pub once : AllPairs ◌≢◌ net.points.keys

-- at most so many lines more, and whatever the old net shows, the new one shows that and then these sub-segments
pub record Adds (most : ℕ) (old new : Net) (subs : List Drawn) : Type 0 where
  pub lines : length new.lines.items ≤ length old.lines.items + most
  pub points : length new.points.keys ≤ length old.points.keys + 2 * most
  pub shows : (before : List Drawn) → ShowsAll old before → ShowsAll new (before ++ subs)
