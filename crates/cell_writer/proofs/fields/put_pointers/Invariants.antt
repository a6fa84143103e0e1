use Rattle.std.proofs.Common.{◌≡◌, ◌++◌, drop, map, take}
use Rattle.std.specs.List.{All, flat_map}
use Rattle.cell_writer.specs.Layout.{pointer_values}
use Rattle.chart_model.specs.declared.records.Pointer.{Pointer}
use Rattle.s57_records.specs.Fields.{fspt}
use Rattle.s57_records.specs.Formats.{AllFit, field_of}
use Rattle.cell_writer.proofs.fields.put_pointers.Given as goal

-- what is there and the groups to come are all of them, and the values so far fit
abbrev pub invariant-loop-pointer : goal.invariant-loop-pointer
invariant-loop-pointer l = record {
  items : l.bodies.items ++ flat_map (field_of fspt) (map pointer_values (drop l.pointer-index l.pointers)) ≡ l.fn.bodies.items ++ flat_map (field_of fspt) (map pointer_values l.pointers);
  fits : All (λ (p : Pointer). AllFit fspt (pointer_values p)) (take l.pointer-index l.pointers);
}
