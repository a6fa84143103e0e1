-- Drawn links and chords, and those that are near a point.
use Rattle.std.specs.Prelude.{◌≡◌, ◌⊎◌, ℕ, ℤ, ◌+◌, Bool, true, not, Option, List, [], ◌∷◌, Contains, option_map}
use Rattle.mesh_definitions.specs.Faces.{is_drawn, same_kind}
use Rattle.mesh_definitions.specs.Field.{Field, point}
use Rattle.mesh_definitions.specs.Ground.{chords}
use Rattle.mesh_definitions.specs.Mesh.{Walk, first, second, all_cells, links, tris}
use Rattle.mesh_definitions.specs.Pieces.{piece_at, whole_mesh}
use Rattle.mesh_definitions.specs.declared.Link.{Link}
use Rattle.mesh_definitions.specs.declared.Sub.TheVariants.{Part}
use Rattle.mesh_definitions.specs.declared.Tri.{Tri}
use Rattle.mesh_definitions.specs.declared.Way.TheVariants.{Across, Down, Slant}
use Rattle.mesh_definitions.specs.declared.Way.{Way}
use Rattle.plane_geom.specs.Geom.{IsOn, OnSome}
use Rattle.plane_geom.specs.declared.Point.{Point}
use Rattle.plane_geom.specs.declared.Seg.{Seg}

-- where a link lies
abbrev pub laid : Field → Link → Seg
laid f l = record { a = point f (first l); b = point f (second l) }

-- a link walked forwards or back
abbrev pub walked_link : Link → Bool → Walk
walked_link l forward = record { link = l; forward = forward }

-- whether what lies on two sides differs in survey or in block, or only one side has a triangle
abbrev pub parts_kinds : Field → (ℕ → ℕ → ℕ) → Option Tri → Option Tri → Bool
parts_kinds f block a b = not (same_kind (whole_mesh f block) (option_map (piece_at f 0) a) (option_map (piece_at f 0) b))

-- whether a link is drawn: all its parts are, or none
abbrev pub is_link_drawn : Field → (ℕ → ℕ → ℕ) → Link → Bool
is_link_drawn f block l = is_drawn (whole_mesh f block) (Part l 0)

-- a link is drawn and has p
pub record DrawnAt (f : Field) (block : ℕ → ℕ → ℕ) (p : Point) (l : Link) : Type 0 where
  pub drawn : is_link_drawn f block l ≡ true
  pub on : IsOn (laid f l) p

-- p lies on a drawn link of the mesh, or on a chord of one of its triangles
pub data OnDrawn (f : Field) (block : ℕ → ℕ → ℕ) (p : Point) : Type 0 where
  OnLink : (l : Link) → Contains (links (all_cells f)) l → DrawnAt f block p l → OnDrawn f block p
  OnChord : (t : Tri) → Contains (tris (all_cells f)) t → OnSome (chords f t) p → OnDrawn f block p

-- the links of a cell: its northern and western sides, its diagonal, its southern and eastern sides
abbrev pub links_of : ℕ → ℕ → List Link
links_of i j = link Across i j ∷ link Down i j ∷ link Slant i j ∷ link Across (i + 1) j ∷ link Down i (j + 1) ∷ []
  where
    link : Way → ℕ → ℕ → Link
    link way i j = record { way = way; row = i; col = j }

-- p lies on a drawn link of a cell
pub record LinksDraw (f : Field) (block : ℕ → ℕ → ℕ) (p : Point) (i j : ℕ) : Type 0 where
  pub link : Link
  pub there : Contains (links_of i j) link
  pub at : DrawnAt f block p link

-- p lies on a drawn link or a chord of a cell
pub data CellDraws (f : Field) (block : ℕ → ℕ → ℕ) (p : Point) (i j : ℕ) : Type 0 where
  ByLink : LinksDraw f block p i j → CellDraws f block p i j
  ByChord : (upper : Bool) → OnSome (chords f (record { row = i; col = j; upper = upper })) p → CellDraws f block p i j

-- k is a found row or column of cells, or the one before it where z lies between the two
abbrev pub IsBeside : (ℕ → ℤ) → ℤ → ℕ → ℕ → Type 0
IsBeside at z found k = (k ≡ found) ⊎ ((k + 1 ≡ found) × (at found ≡ z))

-- p lies on a line of a cell of a row, in a column or the one before it
pub record RowDraws (f : Field) (block : ℕ → ℕ → ℕ) (p : Point) (i found : ℕ) : Type 0 where
  pub col : ℕ
  pub beside : IsBeside f.x p.x found col
  pub draws : CellDraws f block p i col

-- the same in a row or the one before it
pub record NearDraws (f : Field) (block : ℕ → ℕ → ℕ) (p : Point) (found_row found_col : ℕ) : Type 0 where
  pub row : ℕ
  pub beside : IsBeside f.y p.y found_row row
  pub draws : RowDraws f block p row found_col
