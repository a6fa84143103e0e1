-- The sample sheet.
use Rattle.std.specs.Prelude.{codes, ℤ, pos, List, [], ◌∷◌, None}
use Rattle.rule_sheet.specs.Values.{SheetView}
use Rattle.rule_sheet.specs.declared.sheet.Sense2.TheVariants.{Down}

-- levels in decimetres
abbrev pub sample_levels : List ℤ
sample_levels = pos 0 ∷ pos 20 ∷ pos 50 ∷ pos 80 ∷ pos 100 ∷ pos 120 ∷ pos 150 ∷ pos 200 ∷ pos 250 ∷ pos 300 ∷ pos 350 ∷ pos 400 ∷ []

-- the values of the sample sheet
abbrev pub sample_values : SheetView
sample_values = record {
  positive = Down;
  levels = sample_levels;
  step_from = pos 210 ∷ pos 310 ∷ [];
  steps = pos 1 ∷ pos 5 ∷ pos 10 ∷ [];
  aspect = 616;
  disc_radius = 3000;
  sounding_radius = 6000 ∷ [];
  name = codes "XX5SMPLE";
  edition = 1;
  issued = codes "20240131";
  agency = 7;
  scale = 12000;
  usage = 5;
  vertical_datum = 3;
  sounding_datum = 23;
  catzoc = None;
}
