use Rattle.std.proofs.Common.{List, get_or, map, refl, pos}
use Rattle.std.specs.List.{flat_map}
use Rattle.std.proofs.lemmas.List.{get_or_default}
use Rattle.chart_model.specs.declared.records.Sounding.{Sounding}
use Rattle.cell_writer.specs.Layout.{sounding_values}
use Rattle.s57_records.specs.Fields.{sg3d}
use Rattle.s57_records.specs.Formats.{AllFit, field_of}
use Rattle.cell_writer.proofs.Loops.{more, one_more}
use Rattle.cell_writer.proofs.fields.put_soundings.Goals as goal

pub loop-sounding-preserved : goal.loop-sounding-preserved
loop-sounding-preserved c =
    let none : Sounding = record { at = record { x = pos 0; y = pos 0 }; depth = pos 0 } in
    let k = c.loop-sounding.sounding-index in
    let s : Sounding = get_or c.args.soundings.now k none in
    let is = get_or_default c.args.soundings.now k none s c.loop-sounding-test.true in
    record {
      items = more (λ (xs : List Sounding). flat_map (field_of sg3d) (map sounding_values xs)) (λ (x : Sounding). field_of sg3d (sounding_values x)) c.args.soundings.now k s _ _ _
          c.loop-sounding-test.true is refl c.in_ok-put_sounding.ensures.items c.loop-sounding.invariant.items;
      fits = one_more (λ (x : Sounding). AllFit sg3d (sounding_values x)) c.args.soundings.now k s c.loop-sounding-test.true is c.loop-sounding.invariant.fits c.in_ok-put_sounding.ensures.fits;
    }
