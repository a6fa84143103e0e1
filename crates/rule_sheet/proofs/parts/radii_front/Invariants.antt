use Rattle.std.proofs.Common.{◌≡◌, length, take, map, unsigned_abs}
use Rattle.rule_sheet.proofs.parts.radii_front.Given as goal

abbrev pub invariant-loop-k : goal.invariant-loop-k
invariant-loop-k l = record { room : length l.front ≡ 21; same : take l.k l.front ≡ map unsigned_abs (take l.k l.zs) }
