-- A generalised grid with levels of contours, as the mesh sees it.
use Rattle.std.specs.Prelude.{◌≡◌, ℕ, ℤ, pos, neg_ℤ, ◌-◌, ◌<◌, ◌≤◌, ◌<ℤ◌, ◌≤ℤ◌, int_rem, Option, Some, List, length, option_map, unwrap_or}
use Rattle.depth_grid.specs.Grid.{GridView, place}
use Rattle.depth_grid.specs.declared.node.NodeId.{NodeId}
use Rattle.depth_rounding.specs.Bands.{AreLevels, band_of}
use Rattle.plane_geom.specs.declared.Point.{Point}
use Rattle.shoal_buffer.specs.Charted.{ChartedView, c_at, AreOpened, AreShoaled}

-- how many rows and columns of nodes there are, the places of these in ten-millionths of a degree, each node's charted depth in decimetres where it has data, and the levels in rising order
pub record Field : Type 0 where
  pub rows : ℕ
  pub cols : ℕ
  pub x : ℕ → ℤ
  pub y : ℕ → ℤ
  pub depth : NodeId → Option ℤ
  pub levels : List ℤ

-- the field of a generalised grid
abbrev pub field_of : ChartedView → List ℤ → Field
field_of v levels = record {
  rows = length v.grid.ys;
  cols = length v.grid.xs;
  x = place v.grid.xs;
  y = place v.grid.ys;
  depth = λ n. c_at v n.row n.col;
  levels = levels;
}

-- v is a grid generalised by discs of this aspect and radius and rounded by these steps
pub record IsGeneralised (g : GridView) (aspect radius : ℕ) (step_from steps : List ℤ) (v : ChartedView) : Type 0 where
  pub grid : v.grid ≡ g
  pub opened : AreOpened g aspect radius v.opened
  pub charted : AreShoaled step_from steps v.opened v.charted

-- what the field of every generalised grid keeps: 2 to 1,025 rows and columns, x rising and y falling, in multiples of 32 and within the earth's degrees, and charted depths within 12,000 metres
pub record IsField (f : Field) : Type 0 where
  pub some_rows : 2 ≤ f.rows
  pub few_rows : f.rows ≤ 1025
  pub some_cols : 2 ≤ f.cols
  pub few_cols : f.cols ≤ 1025
  pub eastwards : (i k : ℕ) → i < k → k < f.cols → f.x i <ℤ f.x k
  pub southwards : (i k : ℕ) → i < k → k < f.rows → f.y k <ℤ f.y i
  pub whole_x : (j : ℕ) → j < f.cols → int_rem (f.x j) (pos 32) ≡ pos 0
  pub whole_y : (i : ℕ) → i < f.rows → int_rem (f.y i) (pos 32) ≡ pos 0
  pub east_west : (j : ℕ) → j < f.cols → (neg_ℤ (pos 1800000000) ≤ℤ f.x j) × (f.x j ≤ℤ pos 1800000000)
  pub north_south : (i : ℕ) → i < f.rows → (neg_ℤ (pos 900000000) ≤ℤ f.y i) × (f.y i ≤ℤ pos 900000000)
  pub depths : (n : NodeId) (c : ℤ) → f.depth n ≡ Some c → (neg_ℤ (pos 120000) ≤ℤ c) × (c ≤ℤ pos 120000)
  pub levels : AreLevels f.levels

-- where a node stands
abbrev pub point : Field → NodeId → Point
point f n = record { x = f.x n.col; y = f.y n.row }

-- p lies in the coverage: the closed rectangle of the outermost nodes
pub record InCoverage (f : Field) (p : Point) : Type 0 where
  pub west : f.x 0 ≤ℤ p.x
  pub east : p.x ≤ℤ f.x (f.cols - 1)
  pub south : f.y (f.rows - 1) ≤ℤ p.y
  pub north : p.y ≤ℤ f.y 0

-- a node's charted depth and band where it is known to have data
abbrev pub depth_at : Field → NodeId → ℤ
depth_at f n = unwrap_or (f.depth n) (pos 0)

abbrev pub band_at : Field → NodeId → ℕ
band_at f n = band_of f.levels (depth_at f n)

-- a node's band, none without data
abbrev pub node_band : Field → NodeId → Option ℕ
node_band f n = option_map (band_of f.levels) (f.depth n)
