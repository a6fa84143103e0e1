use Rattle.std.proofs.Common.{◌≡◌, subst, arith}
use Rattle.std.proofs.lemmas.Grind.{common_steps}
use Rattle.std.specs.Prelude.{IsTrue, ◌↔◌}
use Rattle.mesh_definitions.specs.Mesh.{has_cell}
use Rattle.tri_mesh.specs.Cells.{all_of, rect_of, block_in}
use Rattle.tri_mesh.specs.Views.{blocks_view}
use Rattle.tri_mesh.proofs.Splitting.{has_it}
use Rattle.tri_mesh.proofs.blocks.Blocks.block_of.Goals as goal

pub returns-clause-has : goal.returns-clause-has
returns-clause-has c = λ k h.
    let v = blocks_view c.args.self.now in
    let there : IsTrue (has_cell (all_of v) c.args.row c.args.col) = has_it (all_of v) c.args.row c.args.col (record { north = omega arith; south = omega (arith, c.requires.row); west = omega arith; east = omega (arith, c.requires.col) }) in
    let same : block_in v c.args.row c.args.col ≡ c.index.result.now = grind (arith, common_steps) in
    subst (λ n. IsTrue (has_cell (rect_of v k) c.args.row c.args.col) ↔ (n ≡ k)) same (c.args.self.now.agree.blocks.holds c.args.row c.args.col k there h)
