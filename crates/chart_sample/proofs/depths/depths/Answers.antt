use Rattle.std.proofs.Common.{◌≡◌, ◌++◌, ◌∷◌, [], ◌*◌, map, ap, ap₂, ◌∙◌, arith}
use Rattle.std.specs.List.{range_with_len}
use Rattle.std.proofs.lemmas.List.FromFn.{map-range_with_len_more}
use Rattle.chart_sample.specs.Depths.{node_depth}
use Rattle.chart_sample.proofs.depths.depths.Goals as goal

pub loop-node-preserved : goal.loop-node-preserved
loop-node-preserved c =
    let more = map-range_with_len_more (node_depth c.args.n c.args.cols) 0 c.loop-node.node c.loop-node.node (omega arith) in
    let joined = ap₂ (λ xs x. xs ++ x ∷ []) c.loop-node.invariant c.depth.ensures in
    cc c.in_ok-push.ensures.items

pub returns : goal.returns
returns c =
    let all : c.loop-node.node ≡ c.args.rows * c.args.cols = omega arith in
    c.loop-node.invariant ∙ ap (λ k. map (node_depth c.args.n c.args.cols) (range_with_len 0 k)) all
