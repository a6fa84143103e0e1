use Rattle.std.proofs.Common.{◌≡◌, arith, length, min}
use Rattle.std.proofs.lemmas.List.{take_min}
use Rattle.chart_compile.proofs.nodes.prefix.Goals as goal

pub returns : goal.returns
returns c =
    let nodes = c.args.nodes.now in
    let e : c.min.result ≡ min 2000 (length nodes) = omega (arith, c.min.ensures) in
    rw e (take_min 2000 nodes)
