-- What contracts see of the fields of a record.
use Rattle.std.specs.Prelude.{List, map}
use Rattle.iso8211_codec.specs.Reading.{Seen}
use Rattle.iso8211_codec.specs.Views.{field_view}
use Rattle.iso8211_codec.specs.declared.record.Field.{Field}

-- the fields of a record, as they are seen without their places in memory
abbrev pub views : List Field → List Seen
views fields = map field_view fields
