use Rattle.std.proofs.Common.{◌≡◌, ◌≤◌, ℕ, length, vec_len, subst, ap, ◌∙◌, arith}
use Rattle.std.specs.Prelude.{vec_capacity}
use Rattle.cell_writer.specs.Layout.{layout}
use Rattle.cell_writer.specs.Sized.{IsSized}
use Rattle.cell_writer.proofs.Fitting.{are_short}
use Rattle.cell_writer.proofs.Rooms.{kept_from}
use Rattle.cell_writer.proofs.Whole.{all_records}
use Rattle.cell_writer.proofs.writing.write_cell.Goals as goal

pub write_data_set-requires-clause-short : goal.write_data_set-requires-clause-short
write_data_set-requires-clause-short c = rw c.parts-parts.ensures.same (are_short c.args.chart.now c.requires).data_set

pub write_parameters-requires-clause-short : goal.write_parameters-requires-clause-short
write_parameters-requires-clause-short c = rw c.parts-parts.ensures.same (are_short c.args.chart.now c.requires).parameters

pub write_lists-requires-clause-vectors : goal.write_lists-requires-clause-vectors
write_lists-requires-clause-vectors c = rw c.parts-parts.ensures.same (are_short c.args.chart.now c.requires).vectors

pub write_lists-requires-clause-features : goal.write_lists-requires-clause-features
write_lists-requires-clause-features c = rw c.parts-parts.ensures.same (are_short c.args.chart.now c.requires).features

pub returns-clause-cell : goal.returns-clause-cell
returns-clause-cell c =
    let same = c.parts-parts.ensures.same in
    all_records c.args.chart.now c.write_first.new.out.items c.write_data_set.new.out.items c.write_parameters.new.out.items c.write_lists.new.out.items
    (rw c.in_ok-cell.ensures.empty at c.in_ok-write_first.ensures.items) (rw same at c.in_ok-write_data_set.ensures.items) (rw same at c.in_ok-write_parameters.ensures.items) (rw same at c.in_ok-write_lists.ensures.items)

pub returns-clause-room : goal.returns-clause-room
returns-clause-room c =
    let cell = c.write_lists.new.out in
    let is : cell.items ≡ layout c.args.chart.now = returns-clause-cell c in
    let n : ℕ = length (layout c.args.chart.now) in
    let begun : vec_len c.write_first.new.out ≤ n → vec_capacity c.write_first.new.out ≡ n = λ fits. c.in_ok-write_first.ensures.room (omega (arith, c.in_ok-cell.ensures.exact, fits)) ∙ c.in_ok-cell.ensures.exact in
    let data_set = kept_from n c.write_first.new.out c.write_data_set.new.out _ c.in_ok-write_data_set.ensures.items begun c.in_ok-write_data_set.ensures.room in
    let parameters = kept_from n c.write_data_set.new.out c.write_parameters.new.out _ c.in_ok-write_parameters.ensures.items data_set c.in_ok-write_parameters.ensures.room in
    let lists = kept_from n c.write_parameters.new.out cell _ c.in_ok-write_lists.ensures.items parameters c.in_ok-write_lists.ensures.room in
    lists (omega (arith, cell.ok.0, ap length is))

pub returns-clause-sized : goal.returns-clause-sized
returns-clause-sized c = subst IsSized c.parts-parts.ensures.same (record {
  identity = c.in_ok-write_data_set.ensures.identity;
  structure = c.in_ok-write_data_set.ensures.structure;
  units = c.in_ok-write_parameters.ensures.fits;
  isolated = c.in_ok-write_lists.ensures.isolated;
  connected = c.in_ok-write_lists.ensures.connected;
  edges = c.in_ok-write_lists.ensures.edges;
  features = c.in_ok-write_lists.ensures.features;
})
