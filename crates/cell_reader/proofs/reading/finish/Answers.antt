use Rattle.std.proofs.Common.{◌≡◌, ap, subst}
use Rattle.std.specs.Option.{option_map}
use Rattle.chart_model.specs.Whole.{IsWellFormed}
use Rattle.chart_model.specs.declared.records.Parts.{Parts}
use Rattle.s57_records.specs.Fields.{dspm_values}
use Rattle.cell_reader.specs.Reading.{parts_of}
use Rattle.cell_reader.specs.Views.{data_set_view, contents_of}
use Rattle.cell_reader.proofs.Sounds.{well_formed}
use Rattle.cell_reader.proofs.reading.finish.Goals as goal

pub join-requires : goal.join-requires
join-requires c =
    let parts : Parts = record { header = c.in_ok-header.header; isolated = c.over.result; connected = c.over-2.result; edges = c.over-3.result; features = c.over-4.result } in
    let is : parts_of c.in_ok-header.header (contents_of c.args.all) ≡ parts = cc in
    subst IsWellFormed is (well_formed c.args.size (contents_of c.args.all) c.in-Some-Some.identity.identity c.in-Some-Some.identity.structure c.in-Some-Some.units c.in_ok-header.header
    c.requires.limit c.requires.sound (ap (option_map data_set_view) c.in-Some-Some.is-0) (ap (option_map dspm_values) c.in-Some-Some.is-1) c.in_ok-header.ensures)
