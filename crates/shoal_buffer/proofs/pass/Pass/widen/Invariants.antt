use Rattle.std.proofs.Common.{◌≡◌, ◌-◌, ◌≤◌}
use Rattle.shoal_buffer.specs.Passes.{AreCoresOf}
use Rattle.shoal_buffer.proofs.pass.Pass.widen.Given as goal

abbrev pub invariant-loop-cores : goal.invariant-loop-cores
invariant-loop-cores l = record {
  cores : AreCoresOf l.self l.cores;
  less : l.reserve ≤ l.cores.reserve;
  most : l.cores.reserve ≤ l.fn.cores.reserve;
  row : l.cores.row ≡ l.fn.cores.row;
  north : l.cores.north ≡ l.fn.cores.north;
  south : l.cores.south ≡ l.fn.cores.south;
}

abbrev pub decreases-loop-cores : goal.decreases-loop-cores
decreases-loop-cores l = l.cores.reserve - l.reserve
