use Rattle.std.proofs.Common.{◌≡◌, ◌-◌, ◌≤◌}
use Rattle.shoal_buffer.specs.Passes.{AreCoresOf, IsChordOf}
use Rattle.shoal_buffer.proofs.pass.Pass.grow_to_discs.Given as goal

abbrev pub invariant-loop-cores : goal.invariant-loop-cores
invariant-loop-cores l = record {
  cores : AreCoresOf l.self l.cores;
  row : l.cores.row ≡ l.row;
  level : l.cores.north ≡ l.cores.south;
  inside : l.cores.south ≤ l.self.discs.away;
  chord : IsChordOf l.self l.cores.south l.cores.reserve;
}

abbrev pub decreases-loop-cores : goal.decreases-loop-cores
decreases-loop-cores l = l.self.discs.away - l.cores.south
