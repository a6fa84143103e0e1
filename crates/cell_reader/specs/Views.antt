-- What contracts see of what was read.
use Rattle.std.specs.Prelude.{option_map}
use Rattle.s57_records.specs.Fields.{dsid_values, dspm_values}
use Rattle.cell_reader.specs.Headers.{DataSet}
use Rattle.cell_reader.specs.Records.{ReadRecords}
use Rattle.cell_reader.specs.declared.gathered.Gathered.{Gathered}
use Rattle.cell_reader.specs.declared.header.Identity.{Identity}

abbrev pub data_set_view : Identity → DataSet
data_set_view i = record { identity = dsid_values i.identity; structure = i.structure }

abbrev pub contents_of : Gathered → ReadRecords
contents_of g = record {
  data_set = option_map data_set_view g.identity;
  units = option_map dspm_values g.units;
  isolated = g.isolated.items;
  connected = g.connected.items;
  edges = g.edges.items;
  features = g.features.items;
}
