-- Each record of made parts is short enough, by the laws of blocks by need and of records.
use Rattle.std.proofs.Common.{◌≡◌, true, IfOk}
use Rattle.std.specs.Prelude.{Result, Ok, Err}
use Rattle.std.specs.declared.alloc.AllocError.{AllocError}
use Rattle.cell_writer.specs.Layout.{fits_of}
use Rattle.mesh_definitions.specs.Field.{field_of}
use Rattle.chart_model.specs.declared.records.Parts.{Parts}
use Rattle.built_parts.specs.Made.{AreMade}
use Rattle.depth_grid.specs.Grid.{GridView}
use Rattle.record_size_laws.specs.Records.{MadePartsFit}
use Rattle.record_size_laws.specs.ByNeed.{FacesAreShort, OutlinesAreShort, SmallIsShort}
use Rattle.rule_sheet.specs.Values.{IsSheet, SheetView}
use Rattle.record_size_laws.specs.SmallRectangles.{SmallRectangles}

module _ (small : SmallRectangles) (faces : FacesAreShort) (outlines : OutlinesAreShort) (fit : MadePartsFit) (g : GridView) (s : SheetView) (sheet : IsSheet s) where
  made_fit : (c : Parts) → AreMade g s c → fits_of c ≡ true
  made_fit c m =
      let short : SmallIsShort (field_of m.view s.levels) = small (field_of m.view s.levels) sheet.levels.few in
      fit g s c sheet m (record {
        faces = faces (field_of m.view s.levels) m.blocks m.rect m.block m.faces short m.by_need m.faces_are;
        outlines = outlines (field_of m.view s.levels) m.blocks m.rect m.block short m.by_need;
      })

  pub parts_fit : (r : Result Parts AllocError) → IfOk r (AreMade g s) → IfOk r (λ c. fits_of c ≡ true)
  parts_fit (Ok c) m = made_fit c m
  parts_fit (Err e) m = tt
