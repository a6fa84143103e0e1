-- Records in slots, some of which may be empty, and the way from a number to the slot of its record.
use Rattle.std.specs.Prelude.{◌≡◌, ℕ, Option, Some, None, List, filter_map, option_map, slice_index_or}
use Rattle.std.specs.BTreeMap.{BTreeMap, get}
use Rattle.std.specs.Ordering.{nat_cmp}

-- the records that stand in slots, in their order
abbrev pub records_in : {X : Type 0} → List (Option X) → List X
records_in slots = filter_map (λ slot. slot) slots

-- the number of the record in the slot at an index; none where it is empty or there is no such slot
abbrev pub number_at : {X : Type 0} → (X → ℕ) → List (Option X) → ℕ → Option ℕ
number_at number slots p = option_map number (slice_index_or slots p None)

-- where a map has the place of a number
abbrev pub place_of : BTreeMap ℕ ℕ → ℕ → Option ℕ
place_of places n = get nat_cmp places n

-- Numbers lead to the slots of their records, and each record's number leads to its slot. So no two records have one number.
pub record Leads {X : Type 0} (number : X → ℕ) (slots : List (Option X)) (place : ℕ → Option ℕ) : Type 0 where
  pub right : (n p : ℕ) → place n ≡ Some p → number_at number slots p ≡ Some n
  pub whole : (n p : ℕ) → number_at number slots p ≡ Some n → place n ≡ Some p
