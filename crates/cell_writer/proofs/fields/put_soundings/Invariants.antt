use Rattle.std.proofs.Common.{◌≡◌, ◌++◌, drop, map, take}
use Rattle.std.specs.List.{All, flat_map}
use Rattle.cell_writer.specs.Layout.{sounding_values}
use Rattle.chart_model.specs.declared.records.Sounding.{Sounding}
use Rattle.s57_records.specs.Fields.{sg3d}
use Rattle.s57_records.specs.Formats.{AllFit, field_of}
use Rattle.cell_writer.proofs.fields.put_soundings.Given as goal

-- what is there and the groups to come are all of them, and the values so far fit
abbrev pub invariant-loop-sounding : goal.invariant-loop-sounding
invariant-loop-sounding l = record {
  items : l.bodies.items ++ flat_map (field_of sg3d) (map sounding_values (drop l.sounding-index l.soundings)) ≡ l.fn.bodies.items ++ flat_map (field_of sg3d) (map sounding_values l.soundings);
  fits : All (λ (s : Sounding). AllFit sg3d (sounding_values s)) (take l.sounding-index l.soundings);
}
