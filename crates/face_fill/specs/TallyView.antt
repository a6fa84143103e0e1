-- Meshes and numbers of tables of pieces of the code.
use Rattle.std.specs.Prelude.{◌≡◌, ℕ, ◌<◌, List, [], ◌∷◌, length, map, flat_map, slice_index, Option, Some, None}
use Rattle.std.specs.List.{range_with_len}
use Rattle.mesh_definitions.specs.Pieces.{Mesh, mesh_of, part_bands, chord_levels}
use Rattle.mesh_definitions.specs.declared.Link.{Link}
use Rattle.mesh_definitions.specs.declared.Piece.{Piece}
use Rattle.mesh_definitions.specs.declared.Sub.TheVariants.{Part, Chord}
use Rattle.mesh_definitions.specs.declared.Sub.{Sub}
use Rattle.mesh_definitions.specs.declared.Tri.{Tri}
use Rattle.mesh_definitions.specs.declared.Way.{Way}
use Rattle.face_fill.specs.Filled.{number_of}
use Rattle.face_fill.specs.BandTableView.{field_by}
use Rattle.face_fill.specs.PieceTableView.{block_by, item_count}
use Rattle.face_fill.specs.Items.{item_of, tri_of}
use Rattle.face_fill.specs.Listed.{InMesh}
use Rattle.face_fill.specs.Tallies.{Adds}
use Rattle.face_fill.specs.declared.tables.PieceTable.{PieceTable}
use Rattle.face_fill.specs.declared.tables.Tally.{Tally}
use Rattle.std.specs.Prelude.{true, false}

abbrev pub mesh_by : PieceTable → Mesh
mesh_by p = mesh_of (field_by p.nodes) p.nodes.rect (block_by p.blocks)

abbrev pub number_by : PieceTable → List ℕ → Piece → ℕ
number_by p numbers = number_of (field_by p.nodes) p.nodes.rect p.items.starts.items numbers

-- each item has a number below count
pub record AreNumbers (p : PieceTable) (numbers : List ℕ) (count : ℕ) : Type 0 where
  pub full : length numbers ≡ item_count p
  pub below : (i : ℕ) → i < item_count p → slice_index numbers i < count

-- counters of a table after more sub-segments
abbrev pub AddsTo : PieceTable → List ℕ → List Sub → Tally → Tally → Type 0
AddsTo p numbers more old new = Adds (mesh_by p) (number_by p numbers) more old new

abbrev pub link_of : Way → ℕ → ℕ → Link
link_of way i j = record { way = way; row = i; col = j }

-- the parts of a link, and those of so many links eastwards
abbrev pub parts_of : PieceTable → Link → List Sub
parts_of p l = map (Part l) (part_bands (field_by p.nodes) l)

abbrev pub row_parts : PieceTable → Way → ℕ → ℕ → List Sub
row_parts p way i n = flat_map (λ j. parts_of p (link_of way i j)) (range_with_len p.nodes.rect.col n)

abbrev pub way_parts : PieceTable → Way → ℕ → ℕ → List Sub
way_parts p way n w = flat_map (λ i. row_parts p way i w) (range_with_len p.nodes.rect.row n)

-- the chords of a triangle, and those of so many cells eastwards
abbrev pub chords_of : PieceTable → Tri → List Sub
chords_of p t = map (Chord t) (chord_levels (field_by p.nodes) t)

abbrev pub cell_chords : PieceTable → ℕ → ℕ → List Sub
cell_chords p i j = flat_map (chords_of p) (tri_of i j true ∷ tri_of i j false ∷ [])

abbrev pub row_chords : PieceTable → ℕ → ℕ → List Sub
row_chords p i n = flat_map (cell_chords p i) (range_with_len p.nodes.rect.col n)

abbrev pub all_chords : PieceTable → ℕ → List Sub
all_chords p n = flat_map (λ i. row_chords p i p.nodes.rect.cols) (range_with_len p.nodes.rect.row n)

-- two triangles are given, and all their pieces have one item
abbrev pub ShareAnItem : PieceTable → Option Tri → Option Tri → Type 0
ShareAnItem p None o = ⊥
ShareAnItem p (Some t) None = ⊥
ShareAnItem p (Some t) (Some u) = (a b : Piece) → InMesh (field_by p.nodes) p.nodes.rect a → InMesh (field_by p.nodes) p.nodes.rect b → a.tri ≡ t → b.tri ≡ u
    → item_of (field_by p.nodes) p.nodes.rect p.items.starts.items a ≡ item_of (field_by p.nodes) p.nodes.rect p.items.starts.items b
