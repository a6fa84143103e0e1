use Rattle.std.proofs.Common.{◌≤◌, ◌^◌, length, arith}
use Rattle.chart_compile.proofs.Sizes.{few_arcs}
use Rattle.chart_compile.proofs.nodes.edge.Goals as goal

pub overflow_cast-result : goal.overflow_cast-result
overflow_cast-result c =
    let s = c.args.arcs.now in
    let few : length s.arcs.items ≤ 2 ^ 27 = few_arcs s.nodes.items s.arcs.items s.faces s.agree in
    omega (arith, few, c.requires)

pub overflow_add-result : goal.overflow_add-result
overflow_add-result c =
    let s = c.args.arcs.now in
    let few : length s.arcs.items ≤ 2 ^ 27 = few_arcs s.nodes.items s.arcs.items s.faces s.agree in
    omega (arith, few, c.requires)
