-- What finds the items of a triangle.
use Rattle.std.specs.Prelude.{◌≡◌, slice_index, true}
use Rattle.mesh_definitions.specs.Mesh.{has_cell, surveyed}
use Rattle.face_fill.specs.BandTableView.{field_by}
use Rattle.face_fill.specs.Numbered.{first_band}
use Rattle.face_fill.specs.declared.tables.PieceTable.{PieceTable}
use Rattle.face_fill.specs.declared.tables.Seat.{Seat}
use Rattle.tri_mesh.specs.TriNumbers.{place_in}

-- it is right of its triangle, which is one of the table's
pub record IsSeat (p : PieceTable) (s : Seat) : Type 0 where
  pub inside : has_cell p.nodes.rect s.tri.row s.tri.col ≡ true
  pub start : s.start ≡ slice_index p.items.starts.items (place_in p.nodes.rect s.tri)
  pub first : s.first ≡ first_band (field_by p.nodes) s.tri
  pub surveyed : s.surveyed ≡ surveyed (field_by p.nodes) s.tri
