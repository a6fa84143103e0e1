-- A sheet as plain values, and what every sheet keeps.
use Rattle.std.specs.Prelude.{◌≡◌, ℕ, ◌+◌, ◌<◌, ◌≤◌, ℤ, Bool, true, ◌&&◌, ◌||◌, ◌==◌, nat_le, List, length, Option, Some, slice_index_or}
use Rattle.std.specs.List.{list_all}
use Rattle.std.specs.Char.{is_ascii_digit, is_ascii_uppercase}
use Rattle.depth_rounding.specs.Bands.{AreLevels}
use Rattle.depth_rounding.specs.Steps.{AreSteps}
use Rattle.rule_sheet.specs.declared.sheet.Sense2.{Sense2}

-- a rule sheet: levels and steps in decimetres, radii in thousandths of a row's height, texts as bytes
pub record SheetView : Type 0 where
  pub positive : Sense2
  pub levels : List ℤ
  pub step_from : List ℤ
  pub steps : List ℤ
  pub aspect : ℕ
  pub disc_radius : ℕ
  pub sounding_radius : List ℕ
  pub name : List ℕ
  pub edition : ℕ
  pub issued : List ℕ
  pub agency : ℕ
  pub scale : ℕ
  pub usage : ℕ
  pub vertical_datum : ℕ
  pub sounding_datum : ℕ
  pub catzoc : Option ℕ

-- 1 to 8 bytes, each a capital letter or a digit
abbrev pub is_cell_name : List ℕ → Bool
is_cell_name name = (nat_le 1 (length name) && nat_le (length name) 8) && list_all (λ byte. is_ascii_uppercase byte || is_ascii_digit byte) name

-- eight digits
abbrev pub is_day : List ℕ → Bool
is_day day = length day == 8 && list_all is_ascii_digit day

abbrev pub Within : ℕ → ℕ → ℕ → Type 0
Within low high n = (low ≤ n) × (n ≤ high)

-- the ranges and orders of a sheet's values
pub record IsSheet (s : SheetView) : Type 0 where
  pub levels : AreLevels s.levels
  pub steps : AreSteps s.step_from s.steps
  pub aspect : Within 100 1000 s.aspect
  pub disc_radius : s.disc_radius ≤ 64000
  pub sounding_radius : (k : ℕ) → k < length s.sounding_radius → slice_index_or s.sounding_radius k 0 ≤ 64000
  pub one_or_each : (length s.sounding_radius == 1 || length s.sounding_radius == length s.levels + 1) ≡ true
  pub name : is_cell_name s.name ≡ true
  pub edition : Within 1 999 s.edition
  pub issued : is_day s.issued ≡ true
  pub agency : Within 1 65535 s.agency
  pub scale : Within 1 100000000 s.scale
  pub usage : Within 1 6 s.usage
  pub vertical_datum : Within 1 254 s.vertical_datum
  pub sounding_datum : Within 1 254 s.sounding_datum
  pub catzoc : (zone : ℕ) → s.catzoc ≡ Some zone → Within 1 6 zone
