-- Whether the edges of an area close: at each connected node an even number of them ends.
use Rattle.std.specs.Prelude.{ℕ, ◌%◌, Bool, ◌&&◌, eqb, count_by, Option, List, [], ◌∷◌, find, flat_map, option_to_list}
use Rattle.std.specs.List.{list_any}
use Rattle.chart_model.specs.Lines.{edge_at}
use Rattle.chart_model.specs.declared.records.Connected.{Connected}
use Rattle.chart_model.specs.declared.records.Edge.{Edge}
use Rattle.chart_model.specs.declared.records.Feature.{Feature}
use Rattle.chart_model.specs.declared.records.Parts.{Parts}
use Rattle.chart_model.specs.declared.records.Pointer.{Pointer}
use Rattle.s57_codes.specs.Catalogue.{prim_area}

-- the numbers of the nodes at the two ends of the edge that a pointer names
abbrev pub pointer_ends : Parts → Pointer → List ℕ
pointer_ends c p = flat_map (λ (e : Edge). e.first ∷ e.last ∷ []) (option_to_list (edge_at c p.rcid))

-- those of all pointers, pointer by pointer
abbrev pub ends : Parts → List Pointer → List ℕ
ends c ps = flat_map (pointer_ends c) ps

-- whether a number stands an odd number of times in a list
abbrev pub is_odd_in : List ℕ → ℕ → Bool
is_odd_in ns n = eqb (count_by (λ m. eqb m n) ns % 2) 1

-- whether some connected node has an odd number of ends
abbrev pub is_open : Parts → List Pointer → Bool
is_open c ps = list_any (λ (k : Connected). is_odd_in (ends c ps) k.rcid) c.connected

-- whether a feature is an area that doesn't close
abbrev pub is_open_area : Parts → Feature → Bool
is_open_area c f = eqb f.prim prim_area && is_open c f.pointers

-- the first such feature
abbrev pub open_area : Parts → Option Feature
open_area c = find (is_open_area c) c.features
