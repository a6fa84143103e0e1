use Rattle.std.proofs.Common.{List, get_or, map, refl}
use Rattle.std.specs.List.{flat_map}
use Rattle.std.proofs.lemmas.List.{get_or_default}
use Rattle.chart_model.specs.declared.records.Pointer.{Pointer}
use Rattle.cell_writer.specs.Layout.{pointer_values}
use Rattle.s57_records.specs.Fields.{fspt}
use Rattle.s57_records.specs.Formats.{AllFit, field_of}
use Rattle.cell_writer.proofs.Loops.{all_through, more, one_more}
use Rattle.cell_writer.proofs.fields.put_pointers.Goals as goal

pub loop-pointer-preserved : goal.loop-pointer-preserved
loop-pointer-preserved c =
    let k = c.loop-pointer.pointer-index in
    let none : Pointer = record { rcnm = 0; rcid = 0; ornt = 0; usag = 0; mask = 0 } in
    let x : Pointer = get_or c.args.pointers.now k none in
    let is = get_or_default c.args.pointers.now k none x c.loop-pointer-test.true in
    record {
      items = more (λ (ys : List Pointer). flat_map (field_of fspt) (map pointer_values ys)) (λ (y : Pointer). field_of fspt (pointer_values y)) c.args.pointers.now k x _ _ _
          c.loop-pointer-test.true is refl c.in_ok-put_pointer.ensures.items c.loop-pointer.invariant.items;
      fits = one_more (λ (y : Pointer). AllFit fspt (pointer_values y)) c.args.pointers.now k x c.loop-pointer-test.true is c.loop-pointer.invariant.fits c.in_ok-put_pointer.ensures.fits;
    }

pub returns-clause-fits : goal.returns-clause-fits
returns-clause-fits c = all_through (λ (y : Pointer). AllFit fspt (pointer_values y)) c.args.pointers.now c.loop-pointer.pointer-index c.loop-pointer-test.false c.loop-pointer.invariant.fits
