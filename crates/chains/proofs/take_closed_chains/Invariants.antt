use Rattle.std.proofs.Common.{ℕ, ◌<◌, length, map}
use Rattle.chains.specs.Tracing.{IsUsed, Rests, HasOpen}
use Rattle.chains.proofs.take_closed_chains.Given as goal

abbrev pub invariant-loop-i : goal.invariant-loop-i
invariant-loop-i l = record {
  rests : Rests l.lines l.used.items l.path.items (map (λ c. c.items) l.chains.items);
  opened : HasOpen l.lines (length l.lines) l.used.items;
  taken : (a : ℕ) → a < l.i → IsUsed l.used.items a;
}
