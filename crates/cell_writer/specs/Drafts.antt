-- What the fields of a record that is being made hold.
use Rattle.std.specs.Prelude.{◌≡◌, ◌++◌, List}
use Rattle.cell_writer.specs.declared.draft.Draft.{Draft}
use Rattle.iso8211_codec.specs.Layout.{MakeRecord, tags_of, lens_of, bytes_of}
use Rattle.iso8211_codec.specs.Reading.{Part}

-- these fields
pub record Holds (parts : List Part) (d : Draft) : Type 0 where
  pub tags : d.tags.items ≡ tags_of parts
  pub lens : d.lens.items ≡ lens_of parts
  pub bodies : d.bodies.items ≡ bytes_of parts

-- these fields after those that were there
pub record Adds (parts : List Part) (old new : Draft) : Type 0 where
  pub tags : new.tags.items ≡ old.tags.items ++ tags_of parts
  pub lens : new.lens.items ≡ old.lens.items ++ lens_of parts
  pub bodies : new.bodies.items ≡ old.bodies.items ++ bytes_of parts

-- fields that make a record
pub record IsMade (d : Draft) : Type 0 where
  pub parts : List Part
  pub holds : Holds parts d
  pub made : MakeRecord parts
