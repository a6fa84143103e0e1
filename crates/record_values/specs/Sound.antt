-- What holds of the values that records give, so that they may be a chart's.
use Rattle.std.specs.Prelude.{◌≤◌, List, ◌∷◌, length, IsTrue, All}
use Rattle.chart_model.specs.Whole.{IsText, has_some, is_made}
use Rattle.chart_model.specs.Tally.{soundings_of}
use Rattle.chart_model.specs.declared.records.Attribute.{Attribute}
use Rattle.chart_model.specs.declared.records.Feature.{Feature}
use Rattle.chart_model.specs.declared.records.Isolated.{Isolated}
use Rattle.s57_records.specs.Formats.{Format, A, Value, T}

-- the texts among these values, of subfields that 0x1F ends, don't have that byte
abbrev pub HasTexts : List Format → List Value → Type 0
HasTexts (A ∷ fs) (T text ∷ vs) = IsText text × HasTexts fs vs
HasTexts (f ∷ fs) (v ∷ vs) = HasTexts fs vs
HasTexts _ _ = Unit {0}

abbrev pub AreTexts : List Attribute → Type 0
AreTexts attributes = All (λ (a : Attribute). IsText a.text) attributes

-- a record of at most 99,999 bytes has at most 12,500 soundings, points or pointers
pub record IsSoundIsolated (n : Isolated) : Type 0 where
  pub some : IsTrue (has_some n)
  pub few : length (soundings_of n) ≤ 12500

pub record IsSoundFeature (f : Feature) : Type 0 where
  pub texts : AreTexts f.attributes
  pub made : IsTrue (is_made f)
  pub few : length f.pointers ≤ 12500
