use Rattle.std.proofs.Common.{◌≡◌, ◌∙◌, ◌++◌, ◌+◌, ◌∷◌, [], ap, ap₂, sym, arith, map, false, true, FitsSigned, w32, rules}
use Rattle.std.specs.Int.{w128}
use Rattle.std.proofs.lemmas.Int.{to_z-of_z}
use Rattle.std.proofs.lemmas.List.FromFn.{map-range_with_len_more}
use Rattle.std.specs.List.{range_with_len}
use Rattle.depth_grid.specs.Snap.{snapped}
use Rattle.grid_reader.specs.Shape.{further, position, is_within, all_within}
use Rattle.grid_reader.proofs.Spread.{one_beyond, one_within}
use Rattle.grid_reader.proofs.shape.spread.Goals as goal

pub returns-in-None : goal.returns-in-None
returns-in-None c =
    let first_fits : FitsSigned w128 c.args.first = c.ranges.first in
    let cell_fits : FitsSigned w128 c.args.cell = c.ranges.cell in
    let doubled_fits : FitsSigned w128 c.doubled_place.result = search rules in
    let doubled : c.doubled_place.result ≡ further c.args.first c.args.cell c.loop-cells.cells = simp to_z-of_z at c.doubled_place.ensures.value in
    let beyond : is_within c.args.most (snapped c.doubled_place.result) ≡ false = simp to_z-of_z at c.in-None.ensures.beyond in
    one_beyond c.args.most c.args.first c.args.cell c.args.count c.loop-cells.cells c.loop-cells-test.true (ap (λ z. is_within c.args.most (snapped z)) (sym doubled) ∙ beyond)

pub loop-cells-preserved : goal.loop-cells-preserved
loop-cells-preserved c =
    let first_fits : FitsSigned w128 c.args.first = c.ranges.first in
    let cell_fits : FitsSigned w128 c.args.cell = c.ranges.cell in
    let doubled_fits : FitsSigned w128 c.doubled_place.result = search rules in
    let place_fits : FitsSigned w32 c.in-Some.place = search rules in
    let cells = c.loop-cells.cells in
    let f = position c.args.first c.args.cell in
    let doubled : c.doubled_place.result ≡ further c.args.first c.args.cell cells = simp to_z-of_z at c.doubled_place.ensures.value in
    let place : c.in-Some.place ≡ snapped c.doubled_place.result = simp to_z-of_z at c.in-Some.ensures.place in
    let within : is_within c.args.most (snapped c.doubled_place.result) ≡ true = simp to_z-of_z at c.in-Some.ensures.within in
    let front : c.loop-cells.places.items ≡ map f (range_with_len 0 cells) = simp to_z-of_z at c.loop-cells.invariant.places in
    let so_far : all_within c.args.most (map f (range_with_len 0 cells)) ≡ true = simp to_z-of_z at c.loop-cells.invariant.within in
    let pushed : c.push.new.self.items ≡ c.loop-cells.places.items ++ c.in-Some.place ∷ [] = simp to_z-of_z at c.in_ok-push-in-Some.ensures.items in
    let more : c.push.new.self.items ≡ map f (range_with_len 0 (cells + 1)) =
    pushed ∙ ap₂ (λ xs x. xs ++ x ∷ []) front (place ∙ ap snapped doubled) ∙ sym (map-range_with_len_more f 0 cells cells (omega arith)) in
    let one : is_within c.args.most (f cells) ≡ true = ap (λ z. is_within c.args.most (snapped z)) (sym doubled) ∙ within in
    simp to_z-of_z (record { places = more; within = one_within c.args.most c.args.first c.args.cell cells so_far one })
