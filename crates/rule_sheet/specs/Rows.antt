-- What each row of the sheet reads from a table: its value, or its first fault. Within a row the faults come as `Missing`, `Kind`, `Range`, `Order`.
use Rattle.std.specs.Prelude.{codes, ℕ, ◌+◌, ℤ, pos, negsuc, unsigned_abs, int_le, int_lt, int_rem, Bool, true, ◌&&◌, ◌||◌, ◌==◌, nat_le, List, [], ◌∷◌, length, drop, map, Option, Some, None, Result, Ok, Err, if◌then◌else◌}
use Rattle.std.specs.List.{list_all}
use Rattle.std.specs.Ordering.{int_eq}
use Rattle.std.specs.Str.{bytes_eq}
use Rattle.toml.specs.Data.{Data, as_integer, as_str, array, Items, no_items, item, Members, get_member}
use Rattle.readings.specs.Readings.{◌>>=◌}
use Rattle.depth_rounding.specs.Steps.{is_step}
use Rattle.rule_sheet.specs.declared.fault.SheetFault.{SheetFault}
use Rattle.rule_sheet.specs.declared.fault.SheetFault.TheVariants as fault
use Rattle.rule_sheet.specs.declared.key.Key.{Key}
use Rattle.rule_sheet.specs.declared.key.Key.TheVariants.{Positive, Levels, StepFrom, Steps, SoundingRadius, Name, Issued, Catzoc}
use Rattle.rule_sheet.specs.declared.sheet.Sense2.{Sense2}
use Rattle.rule_sheet.specs.declared.sheet.Sense2.TheVariants.{Down, Up}
use Rattle.rule_sheet.specs.Keys.{name_of}
use Rattle.rule_sheet.specs.Values.{is_cell_name, is_day}

-- a value, or a fault that ends the reading
abbrev pub Read : Type 0 → Type 0
Read X = Result X SheetFault

-- the value where the test holds, else the fault
abbrev pub checked : {X : Type 0} → Bool → SheetFault → X → Read X
checked test e x = if test then Ok x else Err e

-- what is there, else the fault
abbrev pub there : {X : Type 0} → SheetFault → Option X → Read X
there e None = Err e
there e (Some x) = Ok x

-- a value of some kind at a key, or its default
abbrev pub kind_of : {X : Type 0} → Key → (Data → Option X) → Option X → Option Data → Read X
kind_of key kind default None = there (fault.Missing key) default
kind_of key kind default (Some d) = there (fault.Kind key) (kind d)

abbrev pub value_of : {X : Type 0} → Key → (Data → Option X) → Option X → Members → Read X
value_of key kind default table = kind_of key kind default (get_member (name_of key) table)

-- an integer as a number from low to high
abbrev pub ranged : Key → ℕ → ℕ → ℤ → Read ℕ
ranged key low high (pos n) = checked (nat_le low n && nat_le n high) (fault.Range key) n
ranged key low high (negsuc n) = Err (fault.Range key)

abbrev pub number_of : Key → ℕ → ℕ → Option ℤ → Members → Read ℕ
number_of key low high default table = do
  z ← value_of key as_integer default table
  ranged key low high z

-- the integers of an array, where each item is one
abbrev pub join : Option ℤ → Option (List ℤ) → Option (List ℤ)
join (Some z) (Some zs) = Some (z ∷ zs)
join _ _ = None

abbrev pub integers_in : Items → Option (List ℤ)
integers_in no_items = Some []
integers_in (item d ds) = join (as_integer d) (integers_in ds)

abbrev pub as_integers : Data → Option (List ℤ)
as_integers (array ds) = integers_in ds
as_integers _ = None

-- each is from low to high
abbrev pub all_between : ℤ → ℤ → List ℤ → Bool
all_between low high zs = list_all (λ z. int_le low z && int_le z high) zs

-- each is above the one before it
abbrev pub rises_from : ℤ → List ℤ → Bool
rises_from z [] = true
rises_from z (y ∷ ys) = int_lt z y && rises_from y ys

abbrev pub rises : List ℤ → Bool
rises [] = true
rises (z ∷ zs) = rises_from z zs

abbrev pub levels_of : Members → Read (List ℤ)
levels_of table = do
  zs ← value_of Levels as_integers None table
  levels ← checked (nat_le (length zs) 20 && all_between (negsuc 119998) (pos 119999) zs) (fault.Range Levels) zs
  checked (rises levels) (fault.Order Levels) levels

abbrev pub step_from_of : Members → Read (List ℤ)
step_from_of table = do
  zs ← value_of StepFrom as_integers (Some (pos 210 ∷ pos 310 ∷ [])) table
  step_from ← checked (nat_le (length zs) 8 && all_between (negsuc 119999) (pos 120000) zs) (fault.Range StepFrom) zs
  checked (rises step_from) (fault.Order StepFrom) step_from

-- each is a multiple of the step beside it
abbrev pub are_multiples : List ℤ → List ℤ → Bool
are_multiples (z ∷ zs) (step ∷ steps) = int_eq (int_rem z step) (pos 0) && are_multiples zs steps
are_multiples _ _ = true

-- a first step, and then one for each depth at which a further step begins
abbrev pub steps_fit : List ℤ → List ℤ → Bool
steps_fit step_from steps = length steps == length step_from + 1 && are_multiples step_from (drop 1 steps)

abbrev pub steps_of : List ℤ → Members → Read (List ℤ)
steps_of step_from table = do
  zs ← value_of Steps as_integers (Some (pos 1 ∷ pos 5 ∷ pos 10 ∷ [])) table
  steps ← checked ((nat_le 1 (length zs) && nat_le (length zs) 9) && list_all is_step zs) (fault.Range Steps) zs
  checked (steps_fit step_from steps) (fault.Order Steps) steps

-- one radius, or one for each band between so many levels
abbrev pub radii_of : ℕ → Members → Read (List ℕ)
radii_of levels table = do
  zs ← value_of SoundingRadius as_integers None table
  radii ← checked ((nat_le 1 (length zs) && nat_le (length zs) 21) && all_between (pos 0) (pos 64000) zs) (fault.Range SoundingRadius) (map unsigned_abs zs)
  checked (length radii == 1 || length radii == levels + 1) (fault.Order SoundingRadius) radii

abbrev pub sense_named : List ℕ → Read Sense2
sense_named name = if bytes_eq name (codes "down") then Ok Down else checked (bytes_eq name (codes "up")) (fault.Range Positive) Up

abbrev pub sense_of : Members → Read Sense2
sense_of table = do
  name ← value_of Positive as_str None table
  sense_named name

abbrev pub cell_name_of : Members → Read (List ℕ)
cell_name_of table = do
  name ← value_of Name as_str None table
  checked (is_cell_name name) (fault.Range Name) name

abbrev pub issued_of : Members → Read (List ℕ)
issued_of table = do
  day ← value_of Issued as_str None table
  checked (is_day day) (fault.Range Issued) day

-- only version 2 has the key
abbrev pub catzoc_of : ℕ → Members → Read (Option ℕ)
catzoc_of version table = if version == 2 then (number_of Catzoc 1 6 None table >>= (λ zone. Ok (Some zone))) else Ok None
