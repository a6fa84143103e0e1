use Rattle.std.proofs.Common.{map}
use Rattle.chains.specs.Tracing.{Rests, HasOpen}
use Rattle.chains.proofs.take_open_chains.Given as goal

abbrev pub invariant-loop-i : goal.invariant-loop-i
invariant-loop-i l = record {
  rests : Rests l.lines l.used.items l.path.items (map (λ c. c.items) l.chains.items);
  taken : HasOpen l.lines l.i l.used.items;
}
