use Rattle.std.proofs.Common.{◌≡◌, pos, Some, ◌+◌, to_z, of_z, w32, FitsSigned, sym, ◌∙◌, ap, rules}
use Rattle.std.specs.Prelude.{unwrap_or}
use Rattle.std.proofs.lemmas.Int.{to_z-of_z}
use Rattle.mesh_definitions.specs.Field.{Field}
use Rattle.tri_mesh.specs.Fields.{field_in, upwards}
use Rattle.tri_mesh.specs.declared.crossing_rule.Rise.{Rise}
use Rattle.tri_mesh.proofs.Crossings.{same_slot, same_count}
use Rattle.tri_mesh.proofs.crossing_rule.slots_between.Goals as goal

pub returns-in-Some-Some-clause-count : goal.returns-in-Some-Some-clause-count
returns-in-Some-Some-clause-count c =
    let f : Field = field_in c.args.ch.now c.args.levels.now in
    let r : Rise = record { steps = c.steps_of_line-steps.result; low = to_z w32 (of_z w32 c.in-Some-Some.low); high = to_z w32 (of_z w32 c.in-Some-Some.high) } in
    let low_fits : FitsSigned w32 c.in-Some-Some.low = search rules in
    let high_fits : FitsSigned w32 c.in-Some-Some.high = search rules in
    let low_same : to_z w32 (of_z w32 c.in-Some-Some.low) ≡ c.in-Some-Some.low = simp to_z-of_z in
    let high_same : to_z w32 (of_z w32 c.in-Some-Some.high) ≡ c.in-Some-Some.high = simp to_z-of_z in
    let low : f.depth c.args.u ≡ Some r.low = sym c.c.ensures.value ∙ (c.in-Some-Some.is-0 ∙ ap Some (sym low_same)) in
    let high : f.depth c.args.v ≡ Some r.high = sym c.c-2.ensures.value ∙ (c.in-Some-Some.is-1 ∙ ap Some (sym high_same)) in
    c.slots_up.ensures.count ∙ same_count f (upwards c.args.u c.args.v) r low high

pub returns-in-Some-Some-clause-each : goal.returns-in-Some-Some-clause-each
returns-in-Some-Some-clause-each c = λ i h.
    let f : Field = field_in c.args.ch.now c.args.levels.now in
    let r : Rise = record { steps = c.steps_of_line-steps.result; low = to_z w32 (of_z w32 c.in-Some-Some.low); high = to_z w32 (of_z w32 c.in-Some-Some.high) } in
    let low_fits : FitsSigned w32 c.in-Some-Some.low = search rules in
    let high_fits : FitsSigned w32 c.in-Some-Some.high = search rules in
    let low_same : to_z w32 (of_z w32 c.in-Some-Some.low) ≡ c.in-Some-Some.low = simp to_z-of_z in
    let high_same : to_z w32 (of_z w32 c.in-Some-Some.high) ≡ c.in-Some-Some.high = simp to_z-of_z in
    let low : f.depth c.args.u ≡ Some r.low = sym c.c.ensures.value ∙ (c.in-Some-Some.is-0 ∙ ap Some (sym low_same)) in
    let high : f.depth c.args.v ≡ Some r.high = sym c.c-2.ensures.value ∙ (c.in-Some-Some.is-1 ∙ ap Some (sym high_same)) in
    c.slots_up.ensures.each i h ∙ sym (same_slot f (upwards c.args.u c.args.v) r (sym c.steps_of_line-steps.ensures.value) (ap (λ d. unwrap_or d (pos 0)) low) (ap (λ d. unwrap_or d (pos 0)) high) (i + 1))
