use Rattle.std.proofs.Common.{◌≡◌, ◌≤◌, ◌-◌, length, drop}
use Rattle.grid_reader.specs.Words.{words}
use Rattle.grid_reader.specs.Header.{pairs, values, found_from}
use Rattle.grid_reader.specs.Reading.{nothing}
use Rattle.grid_reader.proofs.header.read_pairs.Given as goal

abbrev pub invariant-loop-pair : goal.invariant-loop-pair
invariant-loop-pair l = record {
  within : l.end ≤ length l.text;
  found : found_from (length l.text) nothing (pairs (words 0 l.text)) ≡ found_from (length l.text) l.found (pairs (words l.end (drop l.end l.text)));
  later : values (words 0 l.text) ≡ values (words l.end (drop l.end l.text));
}

abbrev pub decreases-loop-pair : goal.decreases-loop-pair
decreases-loop-pair l = length l.text - l.end
