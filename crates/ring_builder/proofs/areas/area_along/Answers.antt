use Rattle.std.proofs.Common.{◌∙◌, ◌+◌, ◌*◌, ◌≤◌, ◌^◌, pos, unsigned_abs, subst, sym, arith, to_z}
use Rattle.plane_geom.specs.declared.Point.{Point}
use Rattle.ring_builder.proofs.AreaSums.{along_more, both_small, sum_back}
use Rattle.ring_builder.proofs.areas.area_along.Goals as goal
use mir.Syntax.{w128}

pub loop-at-preserved : goal.loop-at-preserved
loop-at-preserved c =
    let inv = c.loop-at.invariant in
    let i = c.loop-at.at in
    let origin : Point = record { x = pos 0; y = pos 0 } in
    let sum = to_z w128 c.loop-at.sum-bits in
    let r = c.strip-sum.result in
    let room : (i + 1) * 2 ^ 66 ≤ 2 ^ 126 = omega arith in
    let e = sum_back sum r i (2 ^ 66) inv.small c.strip-sum.ensures.small room in
    record {
      value = e ∙ along_more c.args.points.now i origin origin sum r (omega arith) (omega arith) inv.value c.strip-sum.ensures.value;
      small = subst (λ z. unsigned_abs z ≤ (i + 1) * 2 ^ 66) (sym e) (both_small sum r i (2 ^ 66) inv.small c.strip-sum.ensures.small room);
    }
