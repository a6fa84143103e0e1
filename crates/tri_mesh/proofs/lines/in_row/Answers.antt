use Rattle.std.proofs.Common.{ℕ, inl, refl}
use Rattle.std.proofs.lemmas.Bool.{false≢true}
use Rattle.mesh_definitions.specs.Field.{Field}
use Rattle.tri_mesh.specs.Cells.{block_in}
use Rattle.tri_mesh.specs.Fields.{field_in}
use Rattle.tri_mesh.specs.Views.{blocks_view}
use Rattle.tri_mesh.proofs.Drawing.{not_by, row_west, row_none, row_last}
use Rattle.tri_mesh.proofs.lines.in_row.Goals as goal

pub returns-then-in_cell : goal.returns-then-in_cell
returns-then-in_cell c = (λ _. record { col = c.args.col; beside = inl refl; draws = c.in_cell.ensures.0 c.if-in_cell.true }, λ _. refl)

pub returns-then-not-meets_west : goal.returns-then-not-meets_west
returns-then-not-meets_west c =
    let f : Field = field_in c.args.ch.now c.args.levels.now in
    let block : ℕ → ℕ → ℕ = block_in (blocks_view c.args.blocks.now) in
    (λ e. absurd (false≢true e), λ d. absurd (row_none f block c.args.p c.args.row c.args.col d (not_by c.in_cell.result c.if-in_cell.false c.in_cell.ensures.1) (not_by c.meets_west.result c.if-not-meets_west.true c.meets_west.ensures.1)))

pub returns : goal.returns
returns c =
    let f : Field = field_in c.args.ch.now c.args.levels.now in
    let block : ℕ → ℕ → ℕ = block_in (blocks_view c.args.blocks.now) in (
      λ t. row_west f block c.args.p c.args.row c.args.col (c.meets_west.ensures.0 c.if-not-meets_west.false) (c.in_cell-2.ensures.0 t),
      λ d. c.in_cell-2.ensures.1 (row_last f block c.args.p c.args.row c.args.col d (not_by c.in_cell.result c.if-in_cell.false c.in_cell.ensures.1)),
    )
