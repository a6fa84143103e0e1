-- What short numbers and the no-data value are in millimetres.
use Rattle.std.specs.Prelude.{◌≡◌, ℕ, ◌*◌, ◌^◌, ◌<◌, ◌≤◌, true, ℤ, unsigned_abs, List, Option, Some, None}
use Rattle.exact_num.specs.Number.{Number, signed, magnitude}
use Rattle.exact_num.specs.Whole.{IsWholePart}
use Rattle.exact_num.specs.Text.{number_of}
use Rattle.exact_num.specs.Value.{floor_at}
use Rattle.grid_reader.specs.declared.short.Thousandths.{Thousandths}
use Rattle.grid_reader.specs.declared.millimetres.NoDataFloor.{NoDataFloor}
use Rattle.grid_reader.specs.Marks.{Mark}

-- the number's sign, the whole thousandths of its magnitude, and whether more is left
pub record HasThousandths (n : Number) (t : Thousandths) : Type 0 where
  pub sign : n.negative ≡ t.negative
  pub whole : IsWholePart (magnitude n 3) (10 ^ n.lowered) t.whole t.left
  pub few : t.whole ≤ 10 ^ 16

-- the word is a number with these thousandths
pub record IsShort (word : List ℕ) (t : Thousandths) : Type 0 where
  pub number : Number
  pub read : number_of word ≡ Some number
  pub value : HasThousandths number t

-- the number is exactly so many thousandths
pub record IsMillimetres (n : Number) (z : ℤ) : Type 0 where
  pub count : ℕ
  pub value : z ≡ signed n.negative count
  pub whole : magnitude n 3 ≡ count * 10 ^ n.lowered

-- the no-data value in millimetres, rounded down; none where it is no number, or one beyond all short numbers
abbrev pub TellsNoData : Mark → Option NoDataFloor → Type 0
TellsNoData None None = Unit {0}
TellsNoData None (Some f) = ⊥
TellsNoData (Some m) None = 10 ^ 18 < unsigned_abs (floor_at m 3)
TellsNoData (Some m) (Some f) = (f.millimetres ≡ floor_at m 3) × (f.exact ≡ true → IsMillimetres m f.millimetres)
