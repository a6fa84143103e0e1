-- An index of a list of numbers: each number with its place, in order of number and then place.
use Rattle.std.specs.Prelude.{◌≡◌, ℕ, ◌<◌, ◌≤◌, ◌-◌, List, length, All, Contains, slice_index, slice_index_or}
use Rattle.chart_model.specs.declared.index.Entry.{Entry}

-- the entries of the first n numbers, as they stand
pub record AreFirst (numbers : List ℕ) (n : ℕ) (entries : List Entry) : Type 0 where
  pub as_long : length entries ≡ n
  pub each : (k : ℕ) (d : Entry) → k < n → slice_index_or entries k d ≡ record { number = slice_index numbers k; place = k }

-- an entry tells a number that stands at its place
pub record IsEntry (numbers : List ℕ) (e : Entry) : Type 0 where
  pub below : e.place < length numbers
  pub is : slice_index numbers e.place ≡ e.number

-- a comes before b, or is the same
pub record IsUpTo (a b : Entry) : Type 0 where
  pub number : a.number ≤ b.number
  pub place : a.number ≡ b.number → a.place ≤ b.place

-- entries in order
abbrev pub AreOrdered : List Entry → Type 0
AreOrdered entries = (i j : ℕ) (d : Entry) → i ≤ j → j < length entries → IsUpTo (slice_index_or entries i d) (slice_index_or entries j d)

pub record IsIndex (numbers : List ℕ) (entries : List Entry) : Type 0 where
  pub as_long : length entries ≡ length numbers
  pub right : All (IsEntry numbers) entries
  pub complete : (k : ℕ) → k < length numbers → Contains entries (record { number = slice_index numbers k; place = k })
  pub ordered : AreOrdered entries

-- where a number is to be found: all entries before have lower numbers, and none from there on
pub record IsLowerBound (entries : List Entry) (number : ℕ) (at : ℕ) : Type 0 where
  pub within : at ≤ length entries
  pub before : (k : ℕ) (d : Entry) → k < at → (slice_index_or entries k d).number < number
  pub after : (k : ℕ) (d : Entry) → at ≤ k → k < length entries → number ≤ (slice_index_or entries k d).number

-- whether a number stands first at a place
pub record IsFirstAt (entries : List Entry) (number : ℕ) (at : ℕ) : Type 0 where
  pub within : at < length entries
  pub here : (d : Entry) → (slice_index_or entries at d).number ≡ number
  pub lower : (d : Entry) → 0 < at → (slice_index_or entries (at - 1) d).number < number
