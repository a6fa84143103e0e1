use Rattle.std.proofs.Common.{◌∙◌, ◌+◌, ◌*◌, ◌≤◌, ◌^◌, false, unsigned_abs, subst, sym, arith, to_z}
use Rattle.boundary_arcs.specs.Views.{arcs_view}
use Rattle.ring_builder.proofs.AreaSums.{both_small, parts_more, sum_back}
use Rattle.ring_builder.proofs.areas.area.Goals as goal
use mir.Syntax.{w128}

pub loop-part-preserved : goal.loop-part-preserved
loop-part-preserved c =
    let inv = c.loop-part.invariant in
    let i = c.loop-part.part-index in
    let sum = to_z w128 c.loop-part.sum-bits in
    let r = c.part_area-sum.result in
    let room : (i + 1) * 2 ^ 94 ≤ 2 ^ 126 = omega arith in
    let e = sum_back sum r i (2 ^ 94) inv.small c.part_area-sum.ensures.small room in
    record {
      value = e ∙ parts_more (arcs_view c.args.arcs.now).arcs c.args.parts.now i (record { arc = 0; forward = false }) sum r (omega arith) inv.value c.part_area-sum.ensures.value;
      small = subst (λ z. unsigned_abs z ≤ (i + 1) * 2 ^ 94) (sym e) (both_small sum r i (2 ^ 94) inv.small c.part_area-sum.ensures.small room);
    }
