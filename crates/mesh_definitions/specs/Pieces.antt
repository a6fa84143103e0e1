-- Pieces of triangles, sub-segments of the mesh, and what lies on their sides.
use Rattle.std.specs.Prelude.{ℕ, pos, ◌+◌, ◌-◌, nat_lt, nat_le, Bool, true, not, cond, ◌&&◌, eqb, Option, Some, None, List, [], ◌∷◌, ◌++◌, map, flat_map, find, option_map, fold, min, max, length}
use Rattle.std.specs.List.{range_with_len}
use Rattle.mesh_definitions.specs.Cuts.{falls, slope, crossing}
use Rattle.mesh_definitions.specs.Field.{Field, point, node_band, band_at}
use Rattle.mesh_definitions.specs.Mesh.{Walk, all_cells, first, second, from, to, legs, corners, surveyed, right_tri, links, tris}
use Rattle.mesh_definitions.specs.declared.Class.TheVariants.{Unsurveyed, Band}
use Rattle.mesh_definitions.specs.declared.Class.{Class}
use Rattle.mesh_definitions.specs.declared.Link.{Link}
use Rattle.mesh_definitions.specs.declared.Piece.{Piece}
use Rattle.mesh_definitions.specs.declared.Rect.{Rect}
use Rattle.mesh_definitions.specs.declared.Step.{Step}
use Rattle.mesh_definitions.specs.declared.Sub.TheVariants.{Part, Chord}
use Rattle.mesh_definitions.specs.declared.Sub.{Sub}
use Rattle.mesh_definitions.specs.declared.Tri.{Tri}
use Rattle.plane_geom.specs.Segments.{turned}
use Rattle.plane_geom.specs.declared.Point.{Point}
use Rattle.plane_geom.specs.declared.Seg.{Seg}

-- A mesh by what the rules of the chart ask of it: its pieces and sub-segments, each once; a piece's class and block; where a sub-segment lies; and the piece on the right of a step, none beyond the border.
pub record Mesh : Type 0 where
  pub pieces : List Piece
  pub subs : List Sub
  pub class : Piece → Class
  pub block : Piece → ℕ
  pub ends : Sub → Seg
  pub right_of : Step → Option Piece

-- a sub-segment walked in its own direction, and a step walked back
abbrev pub ahead : Sub → Step
ahead s = record { sub = s; forward = true }

abbrev pub back : Step → Step
back s = record { sub = s.sub; forward = not s.forward }

abbrev pub left_of : Mesh → Step → Option Piece
left_of m s = m.right_of (back s)

-- where a step lies
abbrev pub walked : Mesh → Step → Seg
walked m s = cond s.forward (m.ends s.sub) (turned (m.ends s.sub))

-- whether two pieces are the same
abbrev pub same_piece : Piece → Piece → Bool
same_piece p q = ((eqb p.tri.row q.tri.row && eqb p.tri.col q.tri.col) && cond p.tri.upper q.tri.upper (not q.tri.upper)) && eqb p.band q.band

-- the numbers from a to b, both counted
abbrev pub span : ℕ → ℕ → List ℕ
span a b = range_with_len a (b + 1 - a)

-- the least and the greatest band of a surveyed triangle's nodes
abbrev pub least_band : Field → Tri → ℕ
least_band f t = fold (λ b n. min b (band_at f n)) (length f.levels) (corners t)

abbrev pub greatest_band : Field → Tri → ℕ
greatest_band f t = fold (λ b n. max b (band_at f n)) 0 (corners t)

-- one piece for each band of a surveyed triangle, and one for an unsurveyed triangle
abbrev pub pieces_of : Field → Tri → List Piece
pieces_of f t = map (λ b. let p : Piece = record { tri = t; band = b } in p) (cond (surveyed f t) (span (least_band f t) (greatest_band f t)) (0 ∷ []))

-- one chord for each level above the least band and up to the greatest
abbrev pub chord_levels : Field → Tri → List ℕ
chord_levels f t = cond (surveyed f t) (span (least_band f t + 1) (greatest_band f t)) []

-- one part of a link for each band from one node's to the other's; one part where a node has no data
abbrev pub part_bands : Field → Link → List ℕ
part_bands f l = go (node_band f (first l)) (node_band f (second l))
  where
    go : Option ℕ → Option ℕ → List ℕ
    go None b = 0 ∷ []
    go (Some a) None = 0 ∷ []
    go (Some a) (Some b) = span (min a b) (max a b)

-- where the part of a link in one band lies, from the first node to the second
abbrev pub part_ends : Field → Link → ℕ → Seg
part_ends f l b = go (node_band f (first l)) (node_band f (second l))
  where
    whole : Seg
    whole = record { a = point f (first l); b = point f (second l) }

    up : Seg
    up = record { a = crossing f (slope f (first l) (second l)) b; b = crossing f (slope f (first l) (second l)) (b + 1) }

    go : Option ℕ → Option ℕ → Seg
    go None y = whole
    go (Some x) None = whole
    go (Some x) (Some y) = cond (falls f (first l) (second l)) (turned up) up

-- the leg on which the walk round a triangle crosses level k going deeper, and the one on which it comes back
abbrev pub enters : Field → Tri → ℕ → Option Walk
enters f t k = find (λ w. nat_lt (band_at f (from w)) k && nat_le k (band_at f (to w))) (legs t)

abbrev pub leaves : Field → Tri → ℕ → Option Walk
leaves f t k = find (λ w. nat_le k (band_at f (from w)) && nat_lt (band_at f (to w)) k) (legs t)

-- where the chord of level k lies: from where the walk comes back to where it goes deeper, so that the deep side is on the right
abbrev pub chord_ends : Field → Tri → ℕ → Seg
chord_ends f t k = record { a = on (leaves f t k); b = on (enters f t k) }
  where
    on : Option Walk → Point
    on None = record { x = pos 0; y = pos 0 }
    on (Some w) = crossing f (slope f (first w.link) (second w.link)) k

-- the piece of a triangle at the part of a link in one band
abbrev pub piece_at : Field → ℕ → Tri → Piece
piece_at f b t = record { tri = t; band = cond (surveyed f t) b 0 }

-- the mesh of a rectangle of cells by itself, with a block number for each cell
abbrev pub mesh_of : Field → Rect → (ℕ → ℕ → ℕ) → Mesh
mesh_of f r block = record {
  pieces = flat_map (pieces_of f) (tris r);
  subs = flat_map (λ l. map (Part l) (part_bands f l)) (links r) ++ flat_map (λ t. map (Chord t) (chord_levels f t)) (tris r);
  class = λ p. cond (surveyed f p.tri) (Band p.band) Unsurveyed;
  block = λ p. block p.tri.row p.tri.col;
  ends = lies;
  right_of = λ s. beside s.sub s.forward;
}
  where
    lies : Sub → Seg
    lies (Part l b) = part_ends f l b
    lies (Chord t k) = chord_ends f t k

    beside : Sub → Bool → Option Piece
    beside (Part l b) forward = option_map (piece_at f b) (right_tri r (record { link = l; forward = forward }))
    beside (Chord t k) forward = Some (record { tri = t; band = cond forward k (k - 1) })

-- the mesh of a whole field
abbrev pub whole_mesh : Field → (ℕ → ℕ → ℕ) → Mesh
whole_mesh f block = mesh_of f (all_cells f) block
