use Rattle.std.proofs.Common.{◌≡◌, Ok, take, sym, subst, ◌∙◌}
use Rattle.toml.specs.View.{table_view}
use Rattle.depth_rounding.specs.Views.{levels_view, from_view, steps_view}
use Rattle.rule_sheet.specs.Values.{SheetView}
use Rattle.rule_sheet.specs.Rows.{radii_of}
use Rattle.rule_sheet.proofs.TableLaws.{AreRead, rows-table, lists-read, disc-read}
use Rattle.rule_sheet.proofs.reading.sheet_from.Goals as goal

pub invariant_of-result-clause-is_sheet : goal.invariant_of-result-clause-is_sheet
invariant_of-result-clause-is_sheet c =
    let ms = table_view c.args.table.now in
    let bands = c.in_ok-bands.bands in
    let radii = c.in_ok-radii.radii in
    let lists = lists-read ms (record { step_from = from_view bands; steps = steps_view bands }) c.in_ok-bands.ensures in
    let disc = disc-read ms c.in_ok-disc.disc (sym c.in_ok-disc.ensures) in
    let sheet : SheetView = record {
      positive = c.in_ok-positive.positive;
      levels = levels_view c.in_ok-levels.levels;
      step_from = from_view bands;
      steps = steps_view bands;
      aspect = c.in_ok-disc.disc.aspect;
      disc_radius = c.in_ok-disc.disc.radius;
      sounding_radius = take radii.count radii.radius;
      name = take c.in_ok-name.name_len c.in_ok-name.name;
      edition = c.in_ok-edition.field-0;
      issued = c.in_ok-issued.issued;
      agency = c.in_ok-agency.field-0;
      scale = c.in_ok-scale.scale;
      usage = c.in_ok-usage.field-0;
      vertical_datum = c.in_ok-vertical_datum.field-0;
      sounding_datum = c.in_ok-sounding_datum.field-0;
      catzoc = c.in_ok-catzoc.catzoc;
    } in
    let rows : AreRead ms c.in_ok-version.version sheet = record {
      version = sym c.in_ok-version.ensures.value;
      positive = c.in_ok-positive.ensures;
      levels = c.in_ok-levels.ensures;
      step_from = lists.0;
      steps = lists.1;
      aspect = disc.0;
      disc_radius = disc.1;
      sounding_radius = subst (λ n. radii_of n ms ≡ Ok sheet.sounding_radius) c.count.ensures c.in_ok-radii.ensures.value;
      name = c.in_ok-name.ensures.value;
      edition = sym c.in_ok-edition.ensures.value;
      issued = c.in_ok-issued.ensures;
      agency = sym c.in_ok-agency.ensures.value;
      scale = sym c.in_ok-scale.ensures.value;
      usage = sym c.in_ok-usage.ensures.value;
      vertical_datum = sym c.in_ok-vertical_datum.ensures.value;
      sounding_datum = sym c.in_ok-sounding_datum.ensures.value;
      catzoc = sym c.in_ok-catzoc.ensures;
      known = sym c.knows_all.ensures ∙ c.if-not-knows_all.false;
    } in
    (rows-table ms c.in_ok-version.version sheet rows).is_sheet
