-- Items numbered by their classes.
use Rattle.std.specs.Prelude.{◌≡◌, ℕ, ◌+◌, ◌<◌, List, length, slice_index}
use Rattle.mesh_definitions.specs.declared.Class.TheVariants.{Unsurveyed, Band}
use Rattle.mesh_definitions.specs.declared.Class.{Class}
use Rattle.face_fill.specs.BandTableView.{field_by}
use Rattle.face_fill.specs.Items.{piece_of}
use Rattle.face_fill.specs.TallyView.{mesh_by}
use Rattle.face_fill.specs.declared.tables.PieceTable.{PieceTable}

-- the number of a class: 0 for unsurveyed ground, else one more than the band
abbrev pub number_of_class : Class → ℕ
number_of_class Unsurveyed = 0
number_of_class (Band b) = b + 1

-- the class of an item
abbrev pub class_by : PieceTable → ℕ → Class
class_by p item = (mesh_by p).class (piece_of (field_by p.nodes) p.nodes.rect p.items.starts.items p.items.owners.items item)

-- the first n items have the numbers of their classes
pub record AreClassed (p : PieceTable) (n : ℕ) (numbers : List ℕ) : Type 0 where
  pub full : length numbers ≡ n
  pub each : (i : ℕ) → i < n → slice_index numbers i ≡ number_of_class (class_by p i)
  pub few : (i : ℕ) → i < n → slice_index numbers i < 22
