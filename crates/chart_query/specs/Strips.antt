-- Heights, and the strips between them.
use Rattle.std.specs.Prelude.{ℕ, ◌≤◌, ◌^◌, ℤ, int_le, List, length, All, Contains, count_by}
use Rattle.std.specs.List.Sorted.{IsSorted}
use Rattle.std.specs.Ordering.{int_cmp}
use Rattle.chart_query.specs.declared.sides.Side.{Side}

-- the heights of a side's ends are among these
abbrev pub HasEnds : List ℤ → Side → Type 0
HasEnds heights s = Contains heights s.segment.a.y × Contains heights s.segment.b.y

-- the heights of the ends of some sides, in order
pub record AreHeights (sides : List Side) (heights : List ℤ) : Type 0 where
  pub sorted : IsSorted int_cmp heights
  pub few : length heights ≤ 2 ^ 32
  pub ends : All (HasEnds heights) sides

-- the number of the strip that y is in: how many heights are not above y. Strip k goes from its height, included, to the
-- next one, left out
abbrev pub strip : List ℤ → ℤ → ℕ
strip heights y = count_by (λ h. int_le h y) heights
