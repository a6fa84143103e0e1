use Rattle.std.proofs.Common.{◌≡◌, ◌++◌, ◌∷◌, [], ◌+◌, ◌^◌, pos, ap₂, sym, ◌∙◌, arith, FitsSigned, w32, rules}
use Rattle.std.specs.Int.{w128}
use Rattle.std.proofs.lemmas.Int.{to_z-of_z}
use Rattle.std.proofs.lemmas.List.FromFn.{map-range_with_len_more}
use Rattle.grid_reader.specs.Shape.{position, positions}
use Rattle.chart_sample.proofs.places.places.Goals as goal

pub loop-cells-preserved : goal.loop-cells-preserved
loop-cells-preserved c =
    let first_fits : FitsSigned w128 c.args.first = c.ranges.first in
    let place_fits : FitsSigned w32 c.place.result = search rules in
    let more = map-range_with_len_more (position c.args.first (pos (10 ^ 20))) 0 c.loop-cells.cells c.loop-cells.cells (omega arith) in
    let pushed : c.push.new.self.items ≡ c.loop-cells.places.items ++ c.place.result ∷ [] = simp to_z-of_z at c.in_ok-push.ensures.items in
    let front : c.loop-cells.places.items ≡ positions c.args.first (pos (10 ^ 20)) c.loop-cells.cells = simp to_z-of_z at c.loop-cells.invariant in
    let place : c.place.result ≡ position c.args.first (pos (10 ^ 20)) c.loop-cells.cells = simp to_z-of_z at c.place.ensures in
    let all : c.push.new.self.items ≡ positions c.args.first (pos (10 ^ 20)) (c.loop-cells.cells + 1) = pushed ∙ ap₂ (λ xs x. xs ++ x ∷ []) front place ∙ sym more in
    simp to_z-of_z all
