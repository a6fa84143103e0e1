use Rattle.std.proofs.Common.{to_z, of_z, w32, rules, arith}
use Rattle.shoal_buffer.proofs.RowLemmas.{least_beside_is}
use Rattle.shoal_buffer.proofs.rows.between.Goals as goal

pub returns : goal.returns
returns c = least_beside_is c.args.row.now c.args.at (to_z w32 (of_z w32 c.lesser-2.result)) (omega (arith, c.requires.east)) (search rules)
