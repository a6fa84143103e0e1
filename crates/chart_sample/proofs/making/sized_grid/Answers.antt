use Rattle.std.proofs.Common.{◌≡◌, ◌*◌, ◌^◌, length, ap, ap₂, sym, subst, ◌∙◌, lit≤, pos}
use Rattle.std.specs.Prelude.{reverse}
use Rattle.std.proofs.lemmas.List.{length-reverse}
use Rattle.depth_grid.specs.Grid.{ArePlaces, Rises, Falls, AreDepths, depth_at}
use Rattle.depth_grid.specs.Views.{grid_view}
use Rattle.grid_reader.specs.Shape.{positions}
use Rattle.grid_reader.proofs.Placed.{positions_count}
use Rattle.chart_sample.proofs.Lined.{cell, columns, eastwards, rows, southwards}
use Rattle.chart_sample.proofs.Noded.{depths_count, are_depths, depth_of_node, is_sized}
use Rattle.chart_sample.proofs.making.sized_grid.Goals as goal

pub new-requires-clause-columns : goal.new-requires-clause-columns
new-requires-clause-columns c = subst (λ zs. ArePlaces zs 1800000000) (sym c.in_ok-xs.ensures) (columns (8 * 10 ^ 24) c.args.cols (lit≤ tt) c.requires.cols c.requires.few_cols)

pub new-requires-clause-rows : goal.new-requires-clause-rows
new-requires-clause-rows c =
    let ys : c.reverse.new.self.items ≡ reverse (positions (pos (104 * 10 ^ 24)) cell c.args.rows) = c.reverse.ensures.items ∙ ap reverse c.in_ok-ys.ensures in
    subst (λ zs. ArePlaces zs 900000000) (sym ys) (rows (104 * 10 ^ 24) c.args.rows (lit≤ tt) c.requires.rows c.requires.few_rows)

pub new-requires-clause-eastwards : goal.new-requires-clause-eastwards
new-requires-clause-eastwards c = subst Rises (sym c.in_ok-xs.ensures) (eastwards (8 * 10 ^ 24) c.args.cols (lit≤ tt) c.requires.cols c.requires.few_cols)

pub new-requires-clause-southwards : goal.new-requires-clause-southwards
new-requires-clause-southwards c =
    let ys : c.reverse.new.self.items ≡ reverse (positions (pos (104 * 10 ^ 24)) cell c.args.rows) = c.reverse.ensures.items ∙ ap reverse c.in_ok-ys.ensures in
    subst Falls (sym ys) (southwards (104 * 10 ^ 24) c.args.rows (lit≤ tt) c.requires.rows c.requires.few_rows)

pub new-requires-clause-full : goal.new-requires-clause-full
new-requires-clause-full c =
    let ys : length c.reverse.new.self.items ≡ c.args.rows = ap length (c.reverse.ensures.items ∙ ap reverse c.in_ok-ys.ensures) ∙ length-reverse _ ∙ positions_count (pos (104 * 10 ^ 24)) cell c.args.rows in
    let xs : length c.in_ok-xs.xs.items ≡ c.args.cols = ap length c.in_ok-xs.ensures ∙ positions_count (pos (8 * 10 ^ 24)) cell c.args.cols in
    ap length c.in_ok-depths.ensures ∙ depths_count c.args.n c.args.rows c.args.cols ∙ ap₂ (λ a b. a * b) (sym ys) (sym xs)

pub new-requires-clause-limited : goal.new-requires-clause-limited
new-requires-clause-limited c = subst AreDepths (sym c.in_ok-depths.ensures) (are_depths c.args.n c.args.rows c.args.cols c.requires.cols c.requires.few_rows c.requires.few_cols)

pub returns-clause-view : goal.returns-clause-view
returns-clause-view c =
    let xs = c.new.ensures.xs ∙ c.in_ok-xs.ensures in
    let ys = c.new.ensures.ys ∙ c.reverse.ensures.items ∙ ap reverse c.in_ok-ys.ensures in
    let ds = c.new.ensures.depths ∙ c.in_ok-depths.ensures in
    is_sized c.args.n c.args.rows c.args.cols (grid_view c.new.result) xs ys ds

pub returns-clause-depths : goal.returns-clause-depths
returns-clause-depths c =
    let xs = c.new.ensures.xs ∙ c.in_ok-xs.ensures in
    let ys = c.new.ensures.ys ∙ c.reverse.ensures.items ∙ ap reverse c.in_ok-ys.ensures in
    let ds = c.new.ensures.depths ∙ c.in_ok-depths.ensures in
    let view = is_sized c.args.n c.args.rows c.args.cols (grid_view c.new.result) xs ys ds in
    λ row col r l. ap (λ g. depth_at g row col) view ∙ depth_of_node c.args.n c.args.rows c.args.cols row col r l
