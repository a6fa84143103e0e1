-- The numbers of a chart's records, list by list, and a number that stands twice.
use Rattle.std.specs.Prelude.{ℕ, Bool, cond, eqb, Option, Some, None, List, [], ◌∷◌, ◌++◌, map}
use Rattle.std.specs.List.{list_any}
use Rattle.chart_model.specs.declared.records.Connected.{Connected}
use Rattle.chart_model.specs.declared.records.Edge.{Edge}
use Rattle.chart_model.specs.declared.records.Feature.{Feature}
use Rattle.chart_model.specs.declared.records.Isolated.{Isolated}
use Rattle.chart_model.specs.declared.records.Parts.{Parts}

abbrev pub isolated_numbers : Parts → List ℕ
isolated_numbers c = map (λ (n : Isolated). n.rcid) c.isolated

abbrev pub connected_numbers : Parts → List ℕ
connected_numbers c = map (λ (k : Connected). k.rcid) c.connected

abbrev pub edge_numbers : Parts → List ℕ
edge_numbers c = map (λ (e : Edge). e.rcid) c.edges

abbrev pub feature_numbers : Parts → List ℕ
feature_numbers c = map (λ (f : Feature). f.rcid) c.features

-- whether a number stands in a list
abbrev pub has : List ℕ → ℕ → Bool
has ns n = list_any (λ m. eqb m n) ns

-- the first number of a list that stood before, in the list or in another before it
abbrev pub repeated_after : List ℕ → List ℕ → Option ℕ
repeated_after before [] = None
repeated_after before (n ∷ ns) = cond (has before n) (Some n) (repeated_after (before ++ n ∷ []) ns)

-- the first number of a list that stood in it before
abbrev pub repeated : List ℕ → Option ℕ
repeated ns = repeated_after [] ns
