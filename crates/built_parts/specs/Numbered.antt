-- The numbers and names of features by their places.
use Rattle.std.specs.Prelude.{◌≡◌, ℕ, ◌+◌, ◌<◌, List, length, slice_index_or}
use Rattle.chart_model.specs.declared.records.Feature.{Feature}

-- a feature has this number, and is named by its agency and its number
pub record IsNumbered (agency number : ℕ) (f : Feature) : Type 0 where
  pub rcid : f.rcid ≡ number
  pub rver : f.rver ≡ 1
  pub agen : f.agen ≡ agency
  pub fidn : f.fidn ≡ number
  pub fids : f.fids ≡ 1

-- each has the number of its place, counted from 1
abbrev pub AreNumbered : ℕ → List Feature → Type 0
AreNumbered agency fs = (k : ℕ) (d : Feature) → k < length fs → IsNumbered agency (k + 1) (slice_index_or fs k d)
