-- A chart's sides made ready for looking points up.
use Rattle.std.specs.Prelude.{ℕ, ◌+◌, ℤ, List, flat_map, length, map}
use Rattle.chart_model.specs.declared.records.Parts.{Parts}
use Rattle.chart_query.specs.Buckets.{AreBuckets}
use Rattle.chart_query.specs.Sides.{high_of, low_of, sides_from}
use Rattle.chart_query.specs.Split.{buckets_of, entry_of, IsSplit}
use Rattle.chart_query.specs.Strips.{AreHeights, strip}
use Rattle.chart_query.specs.declared.sides.Side.{Side}
use Rattle.chart_query.specs.declared.split.Entry.{Entry}

-- all sides of a chart
abbrev pub sides_in : Parts → List Side
sides_in c = sides_from c 0 c.features

-- the entries of one side: the nodes for the strips that it crosses, and the bucket of its higher end's height
abbrev pub side_entries : List ℤ → List ℕ → ℕ → Side → List Entry
side_entries heights bases after s = map (entry_of s) (buckets_of bases after (strip heights (low_of s)) (strip heights (high_of s)))

abbrev pub entries_of : List ℤ → List ℕ → ℕ → List Side → List Entry
entries_of heights bases after sides = flat_map (side_entries heights bases after) sides

-- a chart's sides in the buckets of a split of the strips between the heights of their ends
pub record IsReady (c : Parts) (heights : List ℤ) (bases : List ℕ) (after : ℕ) (ends : List ℕ) (sides : List Side) : Type 0 where
  pub strips : AreHeights (sides_in c) heights
  pub split : IsSplit bases 1 (length heights) after
  pub buckets : AreBuckets (entries_of heights bases after (sides_in c)) (after + length heights + 1) ends sides
