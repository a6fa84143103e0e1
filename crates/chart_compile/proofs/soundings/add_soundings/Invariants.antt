use Rattle.std.proofs.Common.{◌≡◌, ◌+◌, ◌≤◌, length, map}
use Rattle.std.specs.List.{range_with_len}
use Rattle.built_parts.specs.Contours.{sounding_content}
use Rattle.built_parts.specs.Contents.{Adds}
use Rattle.chart_compile.proofs.soundings.add_soundings.Given as goal

abbrev pub invariant-loop-k : goal.invariant-loop-k
invariant-loop-k l = record {
  added : Adds (map sounding_content (range_with_len 0 l.k)) l.initial.features.list.items l.features.list.items;
  few : length l.features.list.items ≤ length l.initial.features.list.items + l.k;
  same : l.features.agency ≡ l.initial.features.agency;
}
