use Rattle.std.proofs.Common.{not, refl, sym, ap, ◌∙◌}
use Rattle.chart_model.proofs.Finding.{find_map_goes, find_map_stops}
use Rattle.chart_model.specs.References.{stands, pointer_name}
use Rattle.chart_model.specs.declared.lost.Name.{Name}
use Rattle.chart_model.proofs.lost.lost_of_feature.Goals as goal

pub returns-then-not-is_there : goal.returns-then-not-is_there
returns-then-not-is_there c = find_map_stops (λ (n : Name). not (stands c.args.parts.now n)) pointer_name c.args.feature.now.pointers c.as_slice-pointers.result.now c.loop-pointer.pointer-index _ _ c.as_slice-pointers.ensures c.loop-pointer-test.true refl c.loop-pointer.invariant (ap not (sym c.is_there.ensures ∙ c.if-not-is_there.true))

pub loop-pointer-preserved : goal.loop-pointer-preserved
loop-pointer-preserved c = find_map_goes (λ (n : Name). not (stands c.args.parts.now n)) pointer_name c.args.feature.now.pointers c.as_slice-pointers.result.now c.loop-pointer.pointer-index _ _ c.as_slice-pointers.ensures c.loop-pointer-test.true refl c.loop-pointer.invariant (ap not (sym c.is_there.ensures ∙ c.if-not-is_there.false))
