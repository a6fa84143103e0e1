use Rattle.std.proofs.Common.{◌∙◌, arith}
use Rattle.boundary_arcs.specs.Edges.{arc_of}
use Rattle.chart_compile.proofs.Placing.{adds_length, adds_next, contour_short}
use Rattle.chart_compile.specs.Topology.{arcs_in, faces_in, levels_in}
use Rattle.built_parts.specs.Contours.{contour_at, level_on}
use Rattle.chart_compile.proofs.contours.add_contours.Goals as goal

pub loop-k-preserved : goal.loop-k-preserved
loop-k-preserved c =
    let levels = levels_in c.args.topology.now in
    let v = faces_in c.args.topology.now in
    let arcs = arcs_in c.args.topology.now in
    let a = arc_of arcs c.loop-k.k in
    let more = adds_length (contour_at levels v a c.loop-k.k) _ _ c.in_ok-add_contour.ensures.added in
    let short = contour_short levels c.loop-k.k (level_on v a.left a.right) in
    record {
      added = adds_next (λ k. contour_at levels v (arc_of arcs k) k) c.loop-k.k _ _ _ c.loop-k.invariant.added c.in_ok-add_contour.ensures.added;
      few = omega (arith, more, short, c.loop-k.invariant.few);
      same = c.in_ok-add_contour.ensures.same ∙ c.loop-k.invariant.same;
    }
