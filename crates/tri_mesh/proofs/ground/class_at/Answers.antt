use Rattle.std.proofs.Common.{ℕ, ◌≤◌, refl, arith}
use Rattle.mesh_definitions.specs.Field.{Field}
use Rattle.depth_rounding.specs.Views.{levels_view}
use Rattle.tri_mesh.specs.Cells.{block_in}
use Rattle.tri_mesh.specs.Fields.{field_in}
use Rattle.tri_mesh.specs.Views.{blocks_view}
use Rattle.tri_mesh.proofs.Drawing.{not_by}
use Rattle.tri_mesh.proofs.Near.{drawn_covered}
use Rattle.tri_mesh.proofs.ground.class_at.Goals as goal

pub ground_within-requires-clause-within : goal.ground_within-requires-clause-within
ground_within-requires-clause-within c = (c.covers.ensures (levels_view c.args.levels.now)).0 c.if-covers.true

pub returns-then-covers-clause-outside : goal.returns-then-covers-clause-outside
returns-then-covers-clause-outside c = (λ e. absurd (c.ground_within.ensures.covered e), λ n. absurd (n ((c.covers.ensures (levels_view c.args.levels.now)).0 c.if-covers.true)))

pub returns-else-covers-clause-outside : goal.returns-else-covers-clause-outside
returns-else-covers-clause-outside c = (λ _. not_by c.covers.result c.if-covers.false (c.covers.ensures (levels_view c.args.levels.now)).1, λ _. refl)

pub returns-else-covers-clause-line : goal.returns-else-covers-clause-line
returns-else-covers-clause-line c =
    let f : Field = field_in c.args.ch.now c.args.levels.now in
    let block : ℕ → ℕ → ℕ = block_in (blocks_view c.args.blocks.now) in
    let grid = c.args.ch.now.grid.now in
    let rows : 1 ≤ f.rows = omega (arith, grid.rows.several) in
    let cols : 1 ≤ f.cols = omega (arith, grid.columns.several) in (
      λ e. absurd (cc (e)),
      λ d. absurd (not_by c.covers.result c.if-covers.false (c.covers.ensures (levels_view c.args.levels.now)).1 (drawn_covered f block c.args.p rows cols grid.eastwards grid.southwards d)),
    )
