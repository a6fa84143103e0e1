-- The grid that a text stands for, in the words of the ESRI ASCII grid: a header of pairs of a key and a value, and then the nodes' values row by row from the north.
use Rattle.std.specs.Prelude.{◌≡◌, ◌≢◌, codes, ℕ, ◌+◌, ◌-◌, ◌*◌, ◌^◌, ◌<◌, ◌≤◌, ℤ, pos, ◌≤ℤ◌, unsigned_abs, true, false, List, length, Option, Some, None, IsSome, slice_get, slice_index_or, ◌⊎◌}
use Rattle.exact_num.specs.Number.{Number}
use Rattle.exact_num.specs.Text.{number_of}
use Rattle.exact_num.specs.Value.{floor_at, whole_of}
use Rattle.depth_grid.specs.Grid.{GridView, place}
use Rattle.grid_reader.specs.declared.key.Key.{Key}
use Rattle.grid_reader.specs.declared.key.Key.TheVariants.{Ncols, Nrows, XCorner, XCenter, YCorner, YCenter, CellSize, NoData}
use Rattle.grid_reader.specs.declared.key.GridKey.{GridKey}
use Rattle.grid_reader.specs.declared.key.GridKey.TheVariants as grid_key
use Rattle.grid_reader.specs.declared.sense.Sense.{Sense}
use Rattle.grid_reader.specs.declared.found.Origin.{Origin}
use Rattle.grid_reader.specs.Words.{Word}
use Rattle.grid_reader.specs.Runs.{AreWords}
use Rattle.grid_reader.specs.Keys.{key_of}
use Rattle.grid_reader.specs.Marks.{Mark, mark_of}
use Rattle.grid_reader.specs.Shape.{doubled, position}
use Rattle.grid_reader.specs.Values.{is_nodata, downwards}

-- the i-th word as a key, if it is there and is one
abbrev pub key_in : Option Word → Option Key
key_in None = None
key_in (Some w) = key_of w.bytes

abbrev pub key_at : List Word → ℕ → Option Key
key_at ws i = key_in (slice_get ws i)

-- the i-th word as a number or `nan`, if it is there and is one
abbrev pub mark_in : Option Word → Option Mark
mark_in None = None
mark_in (Some w) = mark_of w.bytes

abbrev pub mark_at : List Word → ℕ → Option Mark
mark_at ws i = mark_in (slice_get ws i)

-- the key in any spelling: the corner's and the centre's are one. The no-data value is the one key that no grid has to have
abbrev pub meant : Key → Option GridKey
meant Ncols = Some grid_key.Ncols
meant Nrows = Some grid_key.Nrows
meant XCorner = Some grid_key.X
meant XCenter = Some grid_key.X
meant YCorner = Some grid_key.Y
meant YCenter = Some grid_key.Y
meant CellSize = Some grid_key.CellSize
meant NoData = None

-- a key's value is there and is a number; the no-data value may be `nan`
abbrev pub IsValue : Key → Option Mark → Type 0
IsValue key None = ⊥
IsValue key (Some None) = key ≡ NoData
IsValue key (Some (Some n)) = Unit {0}

-- the words begin with so many pairs of a key and a value, and no more; no key stands twice
pub record IsHeader (ws : List Word) (pairs : ℕ) : Type 0 where
  pub keys : (k : ℕ) → k < pairs → IsSome (key_at ws (2 * k))
  pub ends : key_at ws (2 * pairs) ≡ None
  pub values : (k : ℕ) (key : Key) → k < pairs → key_at ws (2 * k) ≡ Some key → IsValue key (mark_at ws (2 * k + 1))
  pub once : (i k : ℕ) (a b : Key) → i < k → k < pairs → key_at ws (2 * i) ≡ Some a → key_at ws (2 * k) ≡ Some b → meant a ≢ meant b

-- one of the pairs gives a key this value
pub record HasValue (ws : List Word) (pairs : ℕ) (key : Key) (mark : Mark) : Type 0 where
  pub pair : ℕ
  pub within : pair < pairs
  pub spelled : key_at ws (2 * pair) ≡ Some key
  pub valued : mark_at ws (2 * pair + 1) ≡ Some mark

-- a number of nodes, whole and from 2 to 1,025
pub record HasSide (ws : List Word) (pairs : ℕ) (key : Key) (nodes : ℕ) : Type 0 where
  pub number : Number
  pub given : HasValue ws pairs key (Some number)
  pub whole : whole_of number ≡ Some (pos nodes)
  pub several : 2 ≤ nodes
  pub few : nodes ≤ 1025

-- where the columns or the rows begin: at a cell's corner, or at its centre
abbrev pub HasOrigin : List Word → ℕ → Key → Key → Origin → Type 0
HasOrigin ws pairs corner center o = (HasValue ws pairs corner (Some o.value) × (o.corner ≡ true)) ⊎ (HasValue ws pairs center (Some o.value) × (o.corner ≡ false))

-- the cell size in units of 10^-24 degree, from 10^-5 to 1 degree
pub record HasCell (ws : List Word) (pairs : ℕ) (cell : ℤ) : Type 0 where
  pub number : Number
  pub given : HasValue ws pairs CellSize (Some number)
  pub size : floor_at number 24 ≡ cell
  pub least : pos (10 ^ 19) ≤ℤ cell
  pub most : cell ≤ℤ pos (10 ^ 24)

-- the no-data value: where none is given, -9999
abbrev pub HasNodata : List Word → ℕ → Mark → Type 0
HasNodata ws pairs nodata = HasValue ws pairs NoData nodata ⊎ (((k : ℕ) → k < pairs → key_at ws (2 * k) ≢ Some NoData) × (nodata ≡ number_of (codes "-9999")))

-- the values of a header
pub record Extent : Type 0 where
  pub cols : ℕ
  pub rows : ℕ
  pub x : Origin
  pub y : Origin
  pub cell : ℤ
  pub nodata : Mark

pub record HasExtent (ws : List Word) (pairs : ℕ) (e : Extent) : Type 0 where
  pub cols : HasSide ws pairs Ncols e.cols
  pub rows : HasSide ws pairs Nrows e.rows
  pub x : HasOrigin ws pairs XCorner XCenter e.x
  pub y : HasOrigin ws pairs YCorner YCenter e.y
  pub cell : HasCell ws pairs e.cell
  pub nodata : HasNodata ws pairs e.nodata

-- each column and each row has the position of its place, within 180 and 90 degrees; rows are counted from the north
pub record HasPlaces (e : Extent) (g : GridView) : Type 0 where
  pub cols : length g.xs ≡ e.cols
  pub rows : length g.ys ≡ e.rows
  pub xs : (k : ℕ) → k < e.cols → place g.xs k ≡ position (doubled e.x e.cell) e.cell k
  pub ys : (k : ℕ) → k < e.rows → place g.ys k ≡ position (doubled e.y e.cell) e.cell (e.rows - 1 - k)
  pub longitudes : (k : ℕ) → k < e.cols → unsigned_abs (place g.xs k) ≤ 1800000000
  pub latitudes : (k : ℕ) → k < e.rows → unsigned_abs (place g.ys k) ≤ 900000000

-- the depth that a value gives a node, in millimetres and rounded down: none for `nan` and for the no-data value, else within 12,000 metres
abbrev pub IsDepthOf : Sense → Mark → Option Mark → Option ℤ → Type 0
IsDepthOf sense nodata None d = ⊥
IsDepthOf sense nodata (Some None) d = d ≡ None
IsDepthOf sense nodata (Some (Some n)) None = is_nodata nodata n ≡ true
IsDepthOf sense nodata (Some (Some n)) (Some z) = (is_nodata nodata n ≡ false) × (z ≡ floor_at (downwards sense n) 3) × (unsigned_abs z ≤ 12000000)

-- one value for each node stands behind the header, and nothing else
pub record HasDepths (sense : Sense) (ws : List Word) (pairs : ℕ) (e : Extent) (g : GridView) : Type 0 where
  pub count : length ws ≡ 2 * pairs + e.rows * e.cols
  pub nodes : length g.depths ≡ e.rows * e.cols
  pub each : (k : ℕ) → k < e.rows * e.cols → IsDepthOf sense e.nodata (mark_at ws (2 * pairs + k)) (slice_index_or g.depths k None)

-- the text stands for this grid
pub record StandsFor (sense : Sense) (text : List ℕ) (g : GridView) : Type 0 where
  pub ws : List Word
  pub words : AreWords text ws
  pub pairs : ℕ
  pub header : IsHeader ws pairs
  pub extent : Extent
  pub values : HasExtent ws pairs extent
  pub places : HasPlaces extent g
  pub depths : HasDepths sense ws pairs extent g
