-- What a table of bands of the code shows.
use Rattle.mesh_definitions.specs.Field.{Field}
use Rattle.tri_mesh.specs.Fields.{field_in}
use Rattle.face_fill.specs.Corners.{AreNodeBands}
use Rattle.face_fill.specs.declared.tables.BandTable.{BandTable}

-- the field whose nodes it has
abbrev pub field_by : BandTable → Field
field_by n = field_in n.ch.now n.levels.now

abbrev pub HasNodeBands : BandTable → Type 0
HasNodeBands n = AreNodeBands (field_by n) n.rect n.bands.items
