use Rattle.std.proofs.Common.{arith}
use Rattle.tri_mesh.specs.Views.{blocks_view}
use Rattle.tri_mesh.proofs.Splitting.{few_blocks}
use Rattle.tri_mesh.proofs.blocks.Blocks.count.Goals as goal

pub overflow_cast-result : goal.overflow_cast-result
overflow_cast-result c = let k = few_blocks (blocks_view c.args.self.now) c.args.self.now.agree in omega (arith, k, c.len.ensures)

pub returns-clause-few : goal.returns-clause-few
returns-clause-few c = let k = few_blocks (blocks_view c.args.self.now) c.args.self.now.agree in omega (arith, k, c.len.ensures)
