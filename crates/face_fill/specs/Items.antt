-- The pieces of a rectangle of cells as numbered items; pieces that are the only ones of their triangles share an item where these stand side by side.
use Rattle.std.specs.Prelude.{◌≡◌, ◌<◌, ◌≤◌, ℕ, ◌+◌, ◌-◌, ◌*◌, nat_le, eqb, min, max, not, ◌&&◌, Bool, true, false, cond, Option, List, length, slice_index}
use Rattle.mesh_definitions.specs.Faces.{Joined}
use Rattle.mesh_definitions.specs.Field.{Field, band_at}
use Rattle.mesh_definitions.specs.Mesh.{Walk, first, second, right_tri, surveyed}
use Rattle.mesh_definitions.specs.Pieces.{pieces_of, mesh_of}
use Rattle.mesh_definitions.specs.declared.Link.{Link}
use Rattle.mesh_definitions.specs.declared.Piece.{Piece}
use Rattle.mesh_definitions.specs.declared.Rect.{Rect}
use Rattle.mesh_definitions.specs.declared.Tri.{Tri}
use Rattle.mesh_definitions.specs.declared.Way.TheVariants.{Across, Down, Slant}
use Rattle.mesh_definitions.specs.declared.Way.{Way}
use Rattle.face_fill.specs.Numbered.{first_band}
use Rattle.tri_mesh.specs.TriNumbers.{place_in, tri_at}

abbrev pub tri_of : ℕ → ℕ → Bool → Tri
tri_of i j u = record { row = i; col = j; upper = u }

abbrev pub walk_of : Way → ℕ → ℕ → Bool → Walk
walk_of way i j forward = record { link = record { way = way; row = i; col = j }; forward = forward }

abbrev pub piece_by : Tri → ℕ → Piece
piece_by t b = record { tri = t; band = b }

-- the leg of a triangle that runs a way, walked with the triangle on its right: an upper triangle lies south of its level leg, east of its upright leg and north-west of its slanting leg, a lower one north, west and south-east of them
abbrev pub leg : Tri → Way → Walk
leg t Across = cond t.upper (walk_of Across t.row t.col true) (walk_of Across (t.row + 1) t.col false)
leg t Down = cond t.upper (walk_of Down t.row t.col false) (walk_of Down t.row (t.col + 1) true)
leg t Slant = walk_of Slant t.row t.col (not t.upper)

abbrev pub turned_walk : Walk → Walk
turned_walk w = record { link = w.link; forward = not w.forward }

-- the triangle beyond a leg, none beyond the rectangle
abbrev pub beyond : Rect → Tri → Way → Option Tri
beyond r t way = right_tri r (turned_walk (leg t way))

-- two triangles are of one block, and both surveyed or neither
abbrev pub alike : Field → (ℕ → ℕ → ℕ) → Tri → Tri → Bool
alike f block t u = eqb (block t.row t.col) (block u.row u.col) && cond (surveyed f t) (surveyed f u) (not (surveyed f u))

-- a band lies between those of a link's two nodes, both counted
abbrev pub passes : Field → Link → ℕ → Bool
passes f l b = nat_le (min (band_at f (first l)) (band_at f (second l))) b && nat_le b (max (band_at f (first l)) (band_at f (second l)))

-- the item of a piece, where starts has the first item of each triangle
abbrev pub item_of : Field → Rect → List ℕ → Piece → ℕ
item_of f r starts p = slice_index starts (place_in r p.tri) + (p.band - first_band f p.tri)

-- the piece that an item has of the triangle by whose number it is owned
abbrev pub piece_of : Field → Rect → List ℕ → List ℕ → ℕ → Piece
piece_of f r starts owners i = piece_by (tri_at r (slice_index owners i)) (first_band f (tri_at r (slice_index owners i)) + (i - slice_index starts (slice_index owners i)))

-- how many pieces a triangle by its number has
abbrev pub count_at : Field → Rect → ℕ → ℕ
count_at f r k = length (pieces_of f (tri_at r k))

-- the items of the first n triangles of a rectangle: each triangle has its pieces' items one after another, with the number of pieces; each item is owned by a triangle that has it; and each piece is joined to the owner's piece of its item
pub record AreItems (f : Field) (r : Rect) (block : ℕ → ℕ → ℕ) (n : ℕ) (starts counts owners : List ℕ) : Type 0 where
  pub each_start : length starts ≡ n
  pub each_count : length counts ≡ n
  pub counted : (k : ℕ) → k < n → slice_index counts k ≡ count_at f r k
  pub within : (k : ℕ) → k < n → slice_index starts k + count_at f r k ≤ length owners
  pub below : (i : ℕ) → i < length owners → slice_index owners i < n
  pub from : (i : ℕ) → i < length owners → slice_index starts (slice_index owners i) ≤ i
  pub to : (i : ℕ) → i < length owners → i < slice_index starts (slice_index owners i) + count_at f r (slice_index owners i)
  pub joined : (k b : ℕ) → k < n → b < count_at f r k → Joined (mesh_of f r block) (piece_by (tri_at r k) (first_band f (tri_at r k) + b)) (piece_of f r starts owners (slice_index starts k + b))
  pub few : length owners ≤ 21 * n
