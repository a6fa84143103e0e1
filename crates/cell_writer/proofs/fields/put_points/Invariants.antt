use Rattle.std.proofs.Common.{◌≡◌, ◌++◌, drop, map, take}
use Rattle.std.specs.List.{All, flat_map}
use Rattle.cell_writer.specs.Layout.{point_values}
use Rattle.plane_geom.specs.declared.Point.{Point}
use Rattle.s57_records.specs.Fields.{sg2d}
use Rattle.s57_records.specs.Formats.{AllFit, field_of}
use Rattle.cell_writer.proofs.fields.put_points.Given as goal

-- what is there and the groups to come are all of them, and the values so far fit
abbrev pub invariant-loop-point : goal.invariant-loop-point
invariant-loop-point l = record {
  items : l.bodies.items ++ flat_map (field_of sg2d) (map point_values (drop l.point-index l.points)) ≡ l.fn.bodies.items ++ flat_map (field_of sg2d) (map point_values l.points);
  fits : All (λ (p : Point). AllFit sg2d (point_values p)) (take l.point-index l.points);
}
