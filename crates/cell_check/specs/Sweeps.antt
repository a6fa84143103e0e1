-- How far a walk over the strips has come.
use Rattle.std.specs.Ordering.{int_eq}
use Rattle.std.specs.Prelude.{ℕ, ◌+◌, ◌<◌, ◌≤◌, ℤ, ◌≤ℤ◌, ◌<ℤ◌, Bool, not, int_lt, List, length, map, filter, take, drop, slice_index_or, All, IsPermutation}
use Rattle.cell_check.specs.Joints.{IsSound, line_of}
use Rattle.cell_check.specs.declared.holders.Counts.{Counts}
use Rattle.cell_check.specs.declared.line.Line.{Line}
use Rattle.cell_check.specs.declared.order.Height.{Height}
use Rattle.cell_check.specs.declared.sweep.Sweep.{Sweep}
use Rattle.plane_strips.specs.Strips.{upward}

-- l goes on above the height y
abbrev pub goes_above : ℤ → Line → Bool
goes_above y l = int_lt y (upward l.seg).b.y

-- the height at which l begins
abbrev pub begin_of : Line → ℤ
begin_of l = (upward l.seg).a.y

-- of two lists, the lines that go on above a height are the same
abbrev pub HaveSameAbove : ℤ → List Line → List Line → Type 0
HaveSameAbove y ls ms = IsPermutation (filter (goes_above y) ls) (filter (goes_above y) ms)

-- lines in the order in which they begin
abbrev pub BeginInOrder : List Line → Type 0
BeginInOrder ls = (k : ℕ) (d : Line) → k + 1 < length ls → begin_of (slice_index_or ls k d) ≤ℤ begin_of (slice_index_or ls (k + 1) d)

-- all of these lines have begun at the height y
abbrev pub HaveBegun : ℤ → List Line → Type 0
HaveBegun y ls = All (λ l. begin_of l ≤ℤ y) ls

-- none of these lines has begun at the height y
abbrev pub HaveNotBegun : ℤ → List Line → Type 0
HaveNotBegun y ls = All (λ l. y <ℤ begin_of l) ls

-- the row is sound, and has the lines that have begun, but for those that don't go on above y
pub record IsSweep (c : Counts) (rising : List Line) (y : ℤ) (s : Sweep) : Type 0 where
  pub within : s.begun ≤ length rising
  pub sound : IsSound c s.row.items
  pub same : HaveSameAbove y (take s.begun rising) (map line_of s.row.items)

-- at most so many of these lines don't go on above the height y
abbrev pub EndAtMost : ℕ → ℤ → List Line → Type 0
EndAtMost n y ls = length (filter (λ l. not (goes_above y l)) ls) ≤ n

-- it is that of the strip above y: it has the lines that have begun, and no others than those that go on
pub record IsSwept (c : Counts) (rising : List Line) (y : ℤ) (s : Sweep) : Type 0 where
  pub sweep : IsSweep c rising y s
  pub first : HaveBegun y (take s.begun rising)
  pub rest : HaveNotBegun y (drop s.begun rising)
  pub few : length s.row.items + s.ended ≤ s.begun
  pub ended : EndAtMost s.ended y rising

-- a walk came to the strip above y, and found its row sound
pub record HasSweep (c : Counts) (rising : List Line) (y : ℤ) : Type 0 where
  pub sweep : Sweep
  pub is : IsSwept c rising y sweep

-- it did so at each strip of some heights
abbrev pub AreSwept : Counts → List Line → List Height → Type 0
AreSwept c rising hs = (k : ℕ) (d : Height) → k + 1 < length hs → (slice_index_or hs k d).y <ℤ (slice_index_or hs (k + 1) d).y → HasSweep c rising (slice_index_or hs k d).y

-- heights from south to north
abbrev pub Ascend : List Height → Type 0
Ascend hs = (k : ℕ) (d : Height) → k + 1 < length hs → (slice_index_or hs k d).y ≤ℤ (slice_index_or hs (k + 1) d).y

-- the height at which l ends
abbrev pub top_of : Line → Height
top_of l = record { y = (upward l.seg).b.y }

-- whether the ends of l stand at different heights
abbrev pub does_rise : Line → Bool
does_rise l = not (int_eq l.seg.a.y l.seg.b.y)
