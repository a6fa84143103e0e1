use Rattle.std.proofs.Common.{ℕ, inl, refl}
use Rattle.std.proofs.lemmas.Bool.{false≢true}
use Rattle.mesh_definitions.specs.Field.{Field}
use Rattle.tri_mesh.specs.Cells.{block_in}
use Rattle.tri_mesh.specs.Fields.{field_in}
use Rattle.tri_mesh.specs.Views.{blocks_view}
use Rattle.tri_mesh.proofs.Drawing.{not_by, near_north, near_none, near_last}
use Rattle.tri_mesh.proofs.lines.lines_near.Goals as goal

pub returns-then-in_row : goal.returns-then-in_row
returns-then-in_row c = (λ _. record { row = c.args.row; beside = inl refl; draws = c.in_row.ensures.0 c.if-in_row.true }, λ _. refl)

pub returns-then-not-meets_north : goal.returns-then-not-meets_north
returns-then-not-meets_north c =
    let f : Field = field_in c.args.ch.now c.args.levels.now in
    let block : ℕ → ℕ → ℕ = block_in (blocks_view c.args.blocks.now) in
    (λ e. absurd (false≢true e), λ d. absurd (near_none f block c.args.p c.args.row c.args.col d (not_by c.in_row.result c.if-in_row.false c.in_row.ensures.1) (not_by c.meets_north.result c.if-not-meets_north.true c.meets_north.ensures.1)))

pub returns : goal.returns
returns c =
    let f : Field = field_in c.args.ch.now c.args.levels.now in
    let block : ℕ → ℕ → ℕ = block_in (blocks_view c.args.blocks.now) in (
      λ t. near_north f block c.args.p c.args.row c.args.col (c.meets_north.ensures.0 c.if-not-meets_north.false) (c.in_row-2.ensures.0 t),
      λ d. c.in_row-2.ensures.1 (near_last f block c.args.p c.args.row c.args.col d (not_by c.in_row.result c.if-in_row.false c.in_row.ensures.1)),
    )
