-- Where a chart's points stand in its picture, in whole numbers.
use Rattle.std.specs.Prelude.{ℕ, ◌+◌, ◌-◌, ◌*◌, ◌/◌, ◌^◌, ◌≤◌, max, min, cond, ℤ, pos, neg_ℤ, int_lt, ◌+ℤ◌, ◌-ℤ◌, unsigned_abs, fold}
use Rattle.chart_model.specs.Tally.{soundings_of}
use Rattle.chart_model.specs.declared.records.Connected.{Connected}
use Rattle.chart_model.specs.declared.records.Edge.{Edge}
use Rattle.chart_model.specs.declared.records.Isolated.{Isolated}
use Rattle.chart_model.specs.declared.records.Parts.{Parts}
use Rattle.chart_model.specs.declared.records.Sounding.{Sounding}
use Rattle.chart_picture.specs.declared.frame.Bounds.{Bounds}
use Rattle.chart_picture.specs.declared.frame.Frame.{Frame}
use Rattle.plane_geom.specs.declared.Point.{Point}

-- ---- how far the points reach

unfoldable pub lesser : ℤ → ℤ → ℤ
lesser a b = cond (int_lt b a) b a

unfoldable pub greater : ℤ → ℤ → ℤ
greater a b = cond (int_lt a b) b a

unfoldable pub widened : Bounds → Point → Bounds
widened b p = record { west = lesser b.west p.x; east = greater b.east p.x; south = lesser b.south p.y; north = greater b.north p.y }

-- bounds of no point
abbrev pub nowhere : Bounds
nowhere = record { west = pos 2147483647; east = neg_ℤ (pos 2147483648); south = pos 2147483647; north = neg_ℤ (pos 2147483648) }

-- by a connected node, by what lies inside an edge, by the soundings of an isolated node
abbrev pub by_connected : Bounds → Connected → Bounds
by_connected b k = widened b k.at

unfoldable pub by_edge : Bounds → Edge → Bounds
by_edge b e = fold widened b e.inner

abbrev pub by_sounding : Bounds → Sounding → Bounds
by_sounding b s = widened b s.at

unfoldable pub by_isolated : Bounds → Isolated → Bounds
by_isolated b n = fold by_sounding b (soundings_of n)

-- the least bounds that hold all connected nodes, edges and soundings
unfoldable pub bounds_of : Parts → Bounds
bounds_of c = fold by_isolated (fold by_edge (fold by_connected nowhere c.connected) c.edges) c.isolated

-- ---- scale

-- how wide a degree of longitude is at a latitude in hundredths of a degree, in thousandths of a degree of latitude: the
-- cosine by Bhaskara's fraction, which is off by at most two thousandths
unfoldable pub width_at : ℕ → ℕ
width_at m = 1000 * (324000000 - 4 * (m * m)) / (324000000 + m * m)

-- the middle latitude in hundredths of a degree, whichever its sign
unfoldable pub middle_of : Bounds → ℕ
middle_of b = unsigned_abs (b.south +ℤ b.north) / 200000

-- how far two numbers lie apart
unfoldable pub distance : ℤ → ℤ → ℕ
distance a b = unsigned_abs (a -ℤ b)

-- a millimetre on paper at the scale of 1 to cscl, where the longest side has 10,000 units and a degree of latitude is
-- 111,120 m: at least 10 and at most 200
unfoldable pub mm_of : ℕ → ℕ → ℕ
mm_of cscl longest = min (max (cscl * 10 ^ 8 / (111120 * longest)) 10) 200

-- the frame of bounds, from the width of a degree, and from how far they reach across and up in ten-millionths of a
-- degree of latitude
unfoldable pub frame_by : Bounds → ℕ → ℕ → ℕ → ℕ → Frame
frame_by b width across up cscl =
    let longest : ℕ = max (max across up) 1 in
    record {
      west = b.west;
      east = b.east;
      south = b.south;
      north = b.north;
      width = width;
      longest = longest;
      across = across * 10000 / longest;
      up = up * 10000 / longest;
      mm = mm_of cscl longest;
      metres = across * 11112 / 10 ^ 6;
    }

unfoldable pub frame_of : Parts → Frame
frame_of c =
    let b : Bounds = bounds_of c in
    let width : ℕ = width_at (middle_of b) in
    frame_by b width (distance b.east b.west * width / 1000) (distance b.north b.south) c.header.cscl

-- what numbers of a frame fit
pub record IsFrame (f : Frame) : Type 0 where
  pub width : f.width ≤ 1000
  pub some : 1 ≤ f.longest
  pub across : f.across ≤ 2 ^ 46
  pub up : f.up ≤ 2 ^ 46
  pub least : 10 ≤ f.mm
  pub most : f.mm ≤ 200
  pub longest : f.longest ≤ 2 ^ 33
  pub metres : f.metres ≤ 2 ^ 26

-- ---- places

-- units east of the west, and south of the north, both rounded down
unfoldable pub right_of : Frame → ℤ → ℕ
right_of f x = distance x f.west * f.width * 10 / f.longest

unfoldable pub down_of : Frame → ℤ → ℕ
down_of f y = distance f.north y * 10000 / f.longest
