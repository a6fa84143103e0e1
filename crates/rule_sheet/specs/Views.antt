-- What a sheet of the code shows.
use Rattle.std.specs.Prelude.{take}
use Rattle.depth_rounding.specs.Views.{levels_view, from_view, steps_view}
use Rattle.rule_sheet.specs.declared.sheet.Sheet.{Sheet}
use Rattle.rule_sheet.specs.Values.{SheetView}

abbrev pub sheet_view : Sheet → SheetView
sheet_view s = record { positive = s.positive; levels = levels_view s.levels; step_from = from_view s.bands; steps = steps_view s.bands; aspect = s.disc.aspect; disc_radius = s.disc.radius; sounding_radius = take s.radii.count s.radii.radius; name = take s.name_len s.name; edition = s.edition; issued = s.issued; agency = s.agency; scale = s.scale; usage = s.usage; vertical_datum = s.vertical_datum; sounding_datum = s.sounding_datum; catzoc = s.catzoc }
