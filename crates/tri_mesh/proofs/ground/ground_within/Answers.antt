use Rattle.std.proofs.Common.{◌≡◌, ◌⊎◌, ℕ, ◌+◌, ◌<ℤ◌, length, w32, FitsSigned, subst, rules}
use Rattle.std.proofs.lemmas.Int.{to_z-of_z}
use Rattle.mesh_definitions.specs.Field.{Field}
use Rattle.depth_grid.specs.Grid.{GridView, place}
use Rattle.tri_mesh.specs.Cells.{block_in}
use Rattle.tri_mesh.specs.Fields.{field_in}
use Rattle.tri_mesh.specs.Views.{blocks_view}
use Rattle.tri_mesh.proofs.Near.{Found, drawn_near}
use Rattle.tri_mesh.proofs.ground.ground_within.Goals as goal

pub returns-clause-line : goal.returns-clause-line
returns-clause-line c =
    let f : Field = field_in c.args.ch.now c.args.levels.now in
    let block : ℕ → ℕ → ℕ = block_in (blocks_view c.args.blocks.now) in
    let p = c.args.p in
    let row = c.row_of-row.result in
    let col = c.column_of-col.result in
    let x_fits : FitsSigned w32 p.x = search rules in
    let y_fits : FitsSigned w32 p.y = search rules in
    let eastern = simp to_z-of_z at c.column_of-col.ensures.eastern in
    let southern = simp to_z-of_z at c.row_of-row.ensures.southern in
    let found : Found f p row col = record {
      rises = c.args.ch.now.grid.now.eastwards;
      falls = c.args.ch.now.grid.now.southwards;
      in_rows = search rules;
      in_cols = search rules;
      west = search rules;
      east = search rules;
      eastern = subst (λ (g : GridView). (col + 2 ≡ length g.xs) ⊎ (p.x <ℤ place g.xs (col + 1))) c.grid-2.ensures eastern;
      north = search rules;
      south = search rules;
      southern = subst (λ (g : GridView). (row + 2 ≡ length g.ys) ⊎ (place g.ys (row + 1) <ℤ p.y)) c.grid.ensures southern;
    } in
    (c.ground_in.ensures.line, λ d. c.ground_in.ensures.near (drawn_near f block p row col found d))
