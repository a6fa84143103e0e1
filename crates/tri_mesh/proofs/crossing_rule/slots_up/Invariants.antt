use Rattle.std.proofs.Common.{◌≡◌, ℕ, ◌+◌, ◌-◌, ◌<◌, get_or}
use Rattle.depth_rounding.specs.Views.{levels_view}
use Rattle.tri_mesh.specs.Numbers.{slot_between}
use Rattle.tri_mesh.proofs.crossing_rule.slots_up.Given as goal

abbrev pub invariant-loop-i : goal.invariant-loop-i
invariant-loop-i l = record {
  now : l.slot ≡ slot_between (levels_view l.levels) l.rise l.i;
  room : l.slot + (l.count - l.i) < l.rise.steps;
  each : (k : ℕ) → k < l.i → get_or l.into k 0 ≡ slot_between (levels_view l.levels) l.rise (k + 1);
}
