-- Why parts in which no number stands twice are no chart.
use Rattle.std.proofs.Common.{◌≡◌, ◌≢◌, ℕ, true, Some, None, Option, Err, List, sym, ap, ap₂, ◌∙◌, subst, ⊎_elim}
use Rattle.std.specs.List.{AllPairs}
use Rattle.std.specs.Option.{option_map, option_or}
use Rattle.chart_model.proofs.Wholeness.{none_from_once}
use Rattle.chart_model.specs.Numbers.{isolated_numbers, connected_numbers, edge_numbers, feature_numbers}
use Rattle.chart_model.specs.Whole.{first_fault, first_twice, twice, Refuses}
use Rattle.chart_model.specs.declared.fault.PartFault.{PartFault}
use Rattle.chart_model.specs.declared.fault.PartFault.TheVariants.{Twice, NoMemory}
use Rattle.chart_model.specs.declared.records.Parts.{Parts}
use Rattle.readings.proofs.Steps.{unless}
use Rattle.s57_codes.specs.Catalogue.{rcnm_connected_node, rcnm_edge, rcnm_feature, rcnm_isolated_node}
use Rattle.update_reader.specs.Faults.{Gives, is_memory, of_part}
use Rattle.update_apply.specs.Applied.{first_cause, none_due}
use Rattle.update_apply.specs.Law.{HasOnce}

not_twice : (rcnm : ℕ) (ns : List ℕ) → AllPairs ◌≢◌ ns → twice rcnm ns ≡ None
not_twice rcnm ns once = ap (option_map (Twice rcnm)) (none_from_once ns once)

neither : {X : Type 0} (a b : Option X) → a ≡ None → b ≡ None → option_or a b ≡ None
neither a b e f = ap₂ option_or e f

none_twice : (c : Parts) → HasOnce c → first_twice c ≡ None
none_twice c once =
    neither (twice rcnm_isolated_node (isolated_numbers c)) _ (not_twice rcnm_isolated_node (isolated_numbers c) once.isolated)
    (neither (twice rcnm_connected_node (connected_numbers c)) _ (not_twice rcnm_connected_node (connected_numbers c) once.connected)
    (neither (twice rcnm_edge (edge_numbers c)) _ (not_twice rcnm_edge (edge_numbers c) once.edges)
    (not_twice rcnm_feature (feature_numbers c) once.features)))

-- no other cause is left
cause_is : (c : Parts) → HasOnce c → first_fault c ≡ first_cause c
cause_is c once = ap (λ o. option_or o (first_cause c)) (none_twice c once)

pub refused : (c : Parts) (e : PartFault) → HasOnce c → Refuses (first_fault c) e → Gives {X = Parts} (λ x. true) (Err (of_part e)) (none_due (first_cause c))
refused c e once h =
    ⊎_elim (λ (m : e ≡ NoMemory). subst (λ (f : PartFault). Gives {X = Parts} (λ x. true) (Err (of_part f)) (none_due (first_cause c))) (sym m) tt)
    (λ (d : first_fault c ≡ Some e). unless (is_memory (of_part e)) (ap none_due (sym (cause_is c once) ∙ d))) h
