-- The laws of whole charts and of their tallies.
use Rattle.std.specs.Prelude.{◌≡◌, None}
use Rattle.chart_model.specs.Tally.{IsTally, tally_of}
use Rattle.chart_model.specs.Whole.{IsWellFormed, IsWhole, first_fault}
use Rattle.chart_model.specs.declared.counts.Tally.{Tally}
use Rattle.chart_model.specs.declared.records.Parts.{Parts}

-- Parts are whole exactly where they keep the conditions and no cause of refusal is due.
pub record WholeLaws : Type 0 where
  -- nothing is due at whole parts
  pub none_due : (c : Parts) → IsWhole c → first_fault c ≡ None
  -- parts that keep the conditions, and at which nothing is due, are whole
  pub whole_from : (c : Parts) → IsWellFormed c → first_fault c ≡ None → IsWhole c

-- The sums of a tally are the lengths of the lists of what is counted, and no other tally says these lengths.
pub record TallyLaws : Type 0 where
  pub right : (c : Parts) → IsTally c (tally_of c)
  pub only : (c : Parts) (t : Tally) → IsTally c t → t ≡ tally_of c
