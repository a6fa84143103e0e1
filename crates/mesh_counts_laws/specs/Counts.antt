-- Laws of the winding numbers of the mesh of a field, and of where its lines lie.
use Rattle.std.specs.Prelude.{◌≡◌, ◌≢◌, ◌⊎◌, ℕ, ℤ, pos, ◌-◌, ◌≤ℤ◌, int_le, int_lt, Bool, ◌&&◌, cond, map, Contains}
use Rattle.mesh_definitions.specs.Faces.{OnLine, boundary}
use Rattle.mesh_definitions.specs.Field.{Field, InCoverage, IsField}
use Rattle.mesh_definitions.specs.Ground.{IsInTri}
use Rattle.mesh_definitions.specs.Laws.{outline_count, piece_count}
use Rattle.mesh_definitions.specs.Pieces.{walked, whole_mesh}
use Rattle.mesh_definitions.specs.declared.Piece.{Piece}
use Rattle.plane_geom.specs.Geom.{winding_number}
use Rattle.plane_geom.specs.declared.Point.{Point}

-- a point on a line of the mesh of a field lies in the field's coverage
abbrev pub LinesInside : Type 0
LinesInside = (f : Field) (block : ℕ → ℕ → ℕ) → IsField f → (p : Point) → OnLine (whole_mesh f block) p → InCoverage f p

-- no piece of it counts below 0
abbrev pub PiecesFromZero : Type 0
PiecesFromZero = (f : Field) (block : ℕ → ℕ → ℕ) → IsField f → (p : Point) (q : Piece) → Contains (whole_mesh f block).pieces q → pos 0 ≤ℤ piece_count (whole_mesh f block) p q

-- a piece counts at the points of its closed triangle alone
abbrev pub PiecesInTriangles : Type 0
PiecesInTriangles = (f : Field) (block : ℕ → ℕ → ℕ) → IsField f → (p : Point) (q : Piece) → Contains (whole_mesh f block).pieces q → piece_count (whole_mesh f block) p q ≢ pos 0 → IsInTri f q.tri p

-- the outline of all pieces counts 1 from the western and southern sides of the coverage to its eastern and northern ones, these left out, and 0 at all other points
abbrev pub OutlineIsCoverage : Type 0
OutlineIsCoverage = (f : Field) (block : ℕ → ℕ → ℕ) → IsField f → (p : Point) →
    outline_count (whole_mesh f block) p ≡ cond ((int_le (f.x 0) p.x && int_lt p.x (f.x (f.cols - 1))) && (int_le (f.y (f.rows - 1)) p.y && int_lt p.y (f.y 0))) (pos 1) (pos 0)

-- so it counts 0 beyond the coverage
abbrev pub NoneBeyond : Type 0
NoneBeyond = (f : Field) (block : ℕ → ℕ → ℕ) → IsField f → (p : Point) → ¬ (InCoverage f p) → outline_count (whole_mesh f block) p ≡ pos 0

-- and 1 in it, at points on no line
abbrev pub OneWithin : Type 0
OneWithin = (f : Field) (block : ℕ → ℕ → ℕ) → IsField f → (p : Point) → InCoverage f p → ¬ (OnLine (whole_mesh f block) p) → outline_count (whole_mesh f block) p ≡ pos 1

-- a winding number is 0 or 1
abbrev pub IsSingle : ℤ → Type 0
IsSingle z = (z ≡ pos 0) ⊎ (z ≡ pos 1)

-- each piece counts 0 or 1 at every point, on the lines too
abbrev pub PiecesCountOnce : Type 0
PiecesCountOnce = (f : Field) (block : ℕ → ℕ → ℕ) → IsField f → (p : Point) (q : Piece) → Contains (whole_mesh f block).pieces q → IsSingle (piece_count (whole_mesh f block) p q)

-- so does the directed boundary of each set of pieces, such as a face
abbrev pub SetsCountOnce : Type 0
SetsCountOnce = (f : Field) (block : ℕ → ℕ → ℕ) → IsField f → (F : Piece → Bool) (p : Point) →
    IsSingle (winding_number (map (walked (whole_mesh f block)) (boundary (whole_mesh f block) F)) p)

-- and no two pieces count at one point
abbrev pub PiecesCountApart : Type 0
PiecesCountApart = (f : Field) (block : ℕ → ℕ → ℕ) → IsField f → (p : Point) (q r : Piece) → Contains (whole_mesh f block).pieces q → Contains (whole_mesh f block).pieces r →
    piece_count (whole_mesh f block) p q ≢ pos 0 → piece_count (whole_mesh f block) p r ≢ pos 0 → q ≡ r
