-- Numbers of items by the joining of pieces across links.
use Rattle.std.specs.Prelude.{◌≡◌, ◌<◌, ◌≤◌, ℕ, ◌+◌, List, length, slice_index, Some, true, false, Contains}
use Rattle.disjoint_sets.specs.Sets.{IsTogether}
use Rattle.mesh_definitions.specs.Faces.{IsAdjacent, Joined, kind}
use Rattle.mesh_definitions.specs.Field.{Field}
use Rattle.mesh_definitions.specs.Mesh.{right_tri}
use Rattle.mesh_definitions.specs.Pieces.{mesh_of, part_bands, piece_at}
use Rattle.mesh_definitions.specs.declared.Link.{Link}
use Rattle.mesh_definitions.specs.declared.Piece.{Piece}
use Rattle.mesh_definitions.specs.declared.Rect.{Rect}
use Rattle.mesh_definitions.specs.declared.Tri.{Tri}
use Rattle.mesh_definitions.specs.declared.Way.{Way}
use Rattle.face_fill.specs.BandTableView.{field_by}
use Rattle.face_fill.specs.Items.{item_of, piece_of}
use Rattle.face_fill.specs.PieceTableView.{block_by}
use Rattle.face_fill.specs.TallyView.{link_of, mesh_by}
use Rattle.face_fill.specs.declared.tables.PieceTable.{PieceTable}

-- each item has a number below `count`, each of these is some item's; items of one number have joined pieces, and adjacent pieces have items of one number
pub record NumbersItems (f : Field) (r : Rect) (block : ℕ → ℕ → ℕ) (starts owners numbers : List ℕ) (count : ℕ) : Type 0 where
  pub each : length numbers ≡ length owners
  pub below : (i : ℕ) → i < length owners → slice_index numbers i < count
  pub used : (k : ℕ) → k < count → (i : ℕ) × (i < length owners) × (slice_index numbers i ≡ k)
  pub joined : (i j : ℕ) → i < length owners → j < length owners → slice_index numbers i ≡ slice_index numbers j → Joined (mesh_of f r block) (piece_of f r starts owners i) (piece_of f r starts owners j)
  pub met : (p q : Piece) → IsAdjacent (mesh_of f r block) p q → slice_index numbers (item_of f r starts p) ≡ slice_index numbers (item_of f r starts q)

-- the numbers of the items of a table
abbrev pub AreItemNumbers : PieceTable → List ℕ → ℕ → Type 0
AreItemNumbers p numbers count = NumbersItems (field_by p.nodes) p.nodes.rect (block_by p.blocks) p.items.starts.items p.items.owners.items numbers count

-- the item of a piece of a table
abbrev pub item_by : PieceTable → Piece → ℕ
item_by p q = item_of (field_by p.nodes) p.nodes.rect p.items.starts.items q

-- the piece of an item of a table
abbrev pub piece_from : PieceTable → ℕ → Piece
piece_from p i = piece_of (field_by p.nodes) p.nodes.rect p.items.starts.items p.items.owners.items i

-- sets of items have joined pieces
abbrev pub JoinPieces : PieceTable → List ℕ → Type 0
JoinPieces p parents = (i j : ℕ) → IsTogether parents i j → Joined (mesh_by p) (piece_from p i) (piece_from p j)

-- the pieces of one kind on the sides of a part of a link are of one set
abbrev pub AreMetAt : PieceTable → List ℕ → Link → ℕ → Type 0
AreMetAt p parents l b = (t u : Tri) → right_tri p.nodes.rect (record { link = l; forward = true }) ≡ Some t → right_tri p.nodes.rect (record { link = l; forward = false }) ≡ Some u
    → kind (mesh_by p) (piece_at (field_by p.nodes) b t) ≡ kind (mesh_by p) (piece_at (field_by p.nodes) b u)
    → IsTogether parents (item_by p (piece_at (field_by p.nodes) b t)) (item_by p (piece_at (field_by p.nodes) b u))

-- the same at each part of a link
abbrev pub AreMet : PieceTable → List ℕ → Link → Type 0
AreMet p parents l = (b : ℕ) → Contains (part_bands (field_by p.nodes) l) b → AreMetAt p parents l b

-- the same at so many links eastwards, and at so many rows of them
abbrev pub AreRowMet : PieceTable → List ℕ → Way → ℕ → ℕ → Type 0
AreRowMet p parents way i n = (j : ℕ) → p.nodes.rect.col ≤ j → j < p.nodes.rect.col + n → AreMet p parents (link_of way i j)

abbrev pub AreWayMet : PieceTable → List ℕ → Way → ℕ → ℕ → Type 0
AreWayMet p parents way n w = (i : ℕ) → p.nodes.rect.row ≤ i → i < p.nodes.rect.row + n → AreRowMet p parents way i w

-- sets of as many items grow, and go on to have joined pieces where they had
pub record Grows (p : PieceTable) (old new : List ℕ) : Type 0 where
  pub each : length new ≡ length old
  pub keeps : (i j : ℕ) → IsTogether old i j → IsTogether new i j
  pub joined : JoinPieces p old → JoinPieces p new
