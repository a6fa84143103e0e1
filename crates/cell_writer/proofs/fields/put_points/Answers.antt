use Rattle.std.proofs.Common.{List, get_or, map, refl, pos}
use Rattle.std.specs.List.{flat_map}
use Rattle.std.proofs.lemmas.List.{get_or_default}
use Rattle.plane_geom.specs.declared.Point.{Point}
use Rattle.cell_writer.specs.Layout.{point_values}
use Rattle.s57_records.specs.Fields.{sg2d}
use Rattle.s57_records.specs.Formats.{AllFit, field_of}
use Rattle.cell_writer.proofs.Loops.{all_through, more, one_more}
use Rattle.cell_writer.proofs.fields.put_points.Goals as goal

pub loop-point-preserved : goal.loop-point-preserved
loop-point-preserved c =
    let k = c.loop-point.point-index in
    let none : Point = record { x = pos 0; y = pos 0 } in
    let x : Point = get_or c.args.points.now k none in
    let is = get_or_default c.args.points.now k none x c.loop-point-test.true in
    record {
      items = more (λ (ys : List Point). flat_map (field_of sg2d) (map point_values ys)) (λ (y : Point). field_of sg2d (point_values y)) c.args.points.now k x _ _ _
          c.loop-point-test.true is refl c.in_ok-put_point.ensures.items c.loop-point.invariant.items;
      fits = one_more (λ (y : Point). AllFit sg2d (point_values y)) c.args.points.now k x c.loop-point-test.true is c.loop-point.invariant.fits c.in_ok-put_point.ensures.fits;
    }

pub returns-clause-fits : goal.returns-clause-fits
returns-clause-fits c = all_through (λ (y : Point). AllFit sg2d (point_values y)) c.args.points.now c.loop-point.point-index c.loop-point-test.false c.loop-point.invariant.fits
