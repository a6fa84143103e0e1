use Rattle.block_laws.proofs.Blocks.{blocks_have_one_ring}
use Rattle.block_laws.proofs.blocks_have_one_ring.Goals as goal

pub returns : goal.returns
returns k = record {
  one = blocks_have_one_ring (λ f block h. let a = k.mesh_lines.ensures.lines f block h in record { long = a.long });
}
