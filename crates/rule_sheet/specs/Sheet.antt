-- The sheet that a text stands for, and its first fault where it stands for none.
use Rattle.std.specs.Prelude.{◌≡◌, codes, ℕ, ℤ, pos, Bool, true, false, ◌⊎◌, List, [], ◌∷◌, length, map, Option, Some, None, Ok, Err}
use Rattle.std.specs.Str.{IsUtf8}
use Rattle.toml.specs.Data.{Data, integer, string, Members, get_member}
use Rattle.toml.specs.Parse.{parse_document}
use Rattle.depth_grid.specs.declared.disc.Reach.{Reach}
use Rattle.readings.specs.Readings.{◌>>=◌, GivesUnless}
use Rattle.rule_sheet.specs.declared.fault.SheetFault.{SheetFault}
use Rattle.rule_sheet.specs.declared.fault.SheetFault.TheVariants as fault
use Rattle.rule_sheet.specs.declared.key.Key.{Key}
use Rattle.rule_sheet.specs.declared.key.Key.TheVariants.{Version, Positive, Levels, StepFrom, Steps, Aspect, DiscRadius, SoundingRadius, Name, Edition, Issued, Agency, Scale, Usage, VerticalDatum, SoundingDatum, Catzoc}
use Rattle.rule_sheet.specs.declared.sheet.Sense2.{Sense2}
use Rattle.rule_sheet.specs.declared.sheet.Sense2.TheVariants.{Down, Up}
use Rattle.rule_sheet.specs.Keys.{name_of, keys_of, all_known}
use Rattle.rule_sheet.specs.Values.{SheetView, IsSheet}
use Rattle.rule_sheet.specs.Rows.{Read, checked, number_of, as_integers, levels_of, step_from_of, steps_of, radii_of, sense_of, cell_name_of, issued_of, catzoc_of}

-- TOML reads the text as this table
abbrev pub Reads : List ℕ → Members → Type 0
Reads text table = IsUtf8 text × (parse_document text ≡ Some table)

-- the table's value at a key
abbrev pub at_key : Members → Key → Option Data
at_key table key = get_member (name_of key) table

abbrev pub HasNumber : Members → Key → ℕ → Type 0
HasNumber table key n = at_key table key ≡ Some (integer (pos n))

abbrev pub HasText : Members → Key → List ℕ → Type 0
HasText table key text = at_key table key ≡ Some (string text)

pub record HasIntegers (table : Members) (key : Key) (zs : List ℤ) : Type 0 where
  pub value : Data
  pub is_there : at_key table key ≡ Some value
  pub integers : as_integers value ≡ Some zs

-- the key isn't there, and the value is the default
abbrev pub IsDefault : {X : Type 0} → Members → Key → X → X → Type 0
IsDefault table key default x = (at_key table key ≡ None) × (x ≡ default)

abbrev pub sense_name : Sense2 → List ℕ
sense_name Down = codes "down"
sense_name Up = codes "up"

-- a sheet with a category of zone of confidence is of version 2
abbrev pub version_of : Option ℕ → ℕ
version_of None = 1
version_of (Some zone) = 2

-- the table has these values, each at its key or by its default, in the ranges and orders of a sheet, and no other key
pub record IsTableOf (table : Members) (sheet : SheetView) : Type 0 where
  pub version : HasNumber table Version (version_of sheet.catzoc)
  pub positive : HasText table Positive (sense_name sheet.positive)
  pub levels : HasIntegers table Levels sheet.levels
  pub step_from : HasIntegers table StepFrom sheet.step_from ⊎ IsDefault table StepFrom (pos 210 ∷ pos 310 ∷ []) sheet.step_from
  pub steps : HasIntegers table Steps sheet.steps ⊎ IsDefault table Steps (pos 1 ∷ pos 5 ∷ pos 10 ∷ []) sheet.steps
  pub aspect : HasNumber table Aspect sheet.aspect ⊎ IsDefault table Aspect 1000 sheet.aspect
  pub disc_radius : HasNumber table DiscRadius sheet.disc_radius ⊎ IsDefault table DiscRadius 0 sheet.disc_radius
  pub sounding_radius : HasIntegers table SoundingRadius (map pos sheet.sounding_radius)
  pub name : HasText table Name sheet.name
  pub edition : HasNumber table Edition sheet.edition
  pub issued : HasText table Issued sheet.issued
  pub agency : HasNumber table Agency sheet.agency
  pub scale : HasNumber table Scale sheet.scale
  pub usage : HasNumber table Usage sheet.usage
  pub vertical_datum : HasNumber table VerticalDatum sheet.vertical_datum
  pub sounding_datum : HasNumber table SoundingDatum sheet.sounding_datum
  pub catzoc : (zone : ℕ) → sheet.catzoc ≡ Some zone → HasNumber table Catzoc zone
  pub known : all_known (keys_of (version_of sheet.catzoc)) table ≡ true
  pub is_sheet : IsSheet sheet

-- the text stands for a sheet of these values
pub record StandsFor (text : List ℕ) (sheet : SheetView) : Type 0 where
  pub table : Members
  pub reads : Reads text table
  pub is_table : IsTableOf table sheet

-- the steps of a sheet: where they begin, and the steps
pub record StepLists : Type 0 where
  pub step_from : List ℤ
  pub steps : List ℤ

abbrev pub step_lists_of : Members → Read StepLists
step_lists_of table = do
  step_from ← step_from_of table
  steps ← steps_of step_from table
  Ok (record { step_from = step_from; steps = steps })

abbrev pub disc_of : Members → Read Reach
disc_of table = do
  aspect ← number_of Aspect 100 1000 (Some (pos 1000)) table
  radius ← number_of DiscRadius 0 64000 (Some (pos 0)) table
  Ok (record { aspect = aspect; radius = radius })

-- the sheet that a table is, or its first fault: row by row, and then names that no row has
unfoldable pub sheet_of : Members → Read SheetView
sheet_of table = do
  version ← number_of Version 1 2 None table
  positive ← sense_of table
  levels ← levels_of table
  lists ← step_lists_of table
  disc ← disc_of table
  sounding_radius ← radii_of (length levels) table
  name ← cell_name_of table
  edition ← number_of Edition 1 999 None table
  issued ← issued_of table
  agency ← number_of Agency 1 65535 None table
  scale ← number_of Scale 1 100000000 None table
  usage ← number_of Usage 1 6 None table
  vertical_datum ← number_of VerticalDatum 1 254 None table
  sounding_datum ← number_of SoundingDatum 1 254 None table
  catzoc ← catzoc_of version table
  checked (all_known (keys_of version) table) fault.Unknown (record { positive = positive; levels = levels; step_from = lists.step_from; steps = lists.steps; aspect = disc.aspect; disc_radius = disc.radius; sounding_radius = sounding_radius; name = name; edition = edition; issued = issued; agency = agency; scale = scale; usage = usage; vertical_datum = vertical_datum; sounding_datum = sounding_datum; catzoc = catzoc })

-- want of memory, which no text gives
abbrev pub is_memory : SheetFault → Bool
is_memory fault.NoMemory = true
is_memory e = false

-- what a function returned, seen by a view, is what the definition gives, unless memory ran out
abbrev pub Gives : {X Y : Type 0} → (X → Y) → Read X → Read Y → Type 0
Gives view result read = GivesUnless is_memory view result read

-- it failed, and the cause is the text as TOML or memory
abbrev pub IsTomlOrMemory : {X : Type 0} → Read X → Type 0
IsTomlOrMemory (Err fault.Toml) = Unit {0}
IsTomlOrMemory (Err fault.NoMemory) = Unit {0}
IsTomlOrMemory _ = ⊥
