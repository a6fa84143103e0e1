use Rattle.std.proofs.Common.{◌≡◌, ◌≤◌, ◌-◌, ◌+◌, length, drop, take}
use Rattle.grid_reader.specs.Words.{words}
use Rattle.grid_reader.specs.Values.{depths_of}
use Rattle.grid_reader.proofs.Depths.{with_front}
use Rattle.grid_reader.proofs.values.read_depths.Given as goal

abbrev pub invariant-loop-found : goal.invariant-loop-found
invariant-loop-found l = record {
  within : l.at ≤ length l.text;
  depths : depths_of l.sense l.nodata (take l.nodes (words l.from (drop l.from l.text))) ≡ with_front l.depths.items (depths_of l.sense l.nodata (take (l.nodes - l.found) (words l.at (drop l.at l.text))));
  behind : drop l.nodes (words l.from (drop l.from l.text)) ≡ drop (l.nodes - l.found) (words l.at (drop l.at l.text));
  count : length (words l.from (drop l.from l.text)) ≡ l.found + length (words l.at (drop l.at l.text));
}
