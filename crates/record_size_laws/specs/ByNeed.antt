-- In blocks by need each face and each block has a short boundary.
use Rattle.std.specs.Prelude.{ℕ, ◌<◌, ◌≤◌, eqb, length}
use Rattle.mesh_definitions.specs.Blocks.{AreByNeed, Asks, IsSubRect}
use Rattle.mesh_definitions.specs.Faces.{boundary}
use Rattle.mesh_definitions.specs.Field.{Field}
use Rattle.mesh_definitions.specs.Mesh.{all_cells}
use Rattle.mesh_definitions.specs.Pieces.{whole_mesh}
use Rattle.mesh_definitions.specs.declared.Rect.{Rect}
use Rattle.face_fill.specs.Numbered.{AreFaces, FacesView, face_in}

-- a rectangle of at most 16 by 16 cells asks for at most 12,000 steps
abbrev pub SmallIsShort : Field → Type 0
SmallIsShort f = (r : Rect) (n : ℕ) → r.rows ≤ 16 → r.cols ≤ 16 → IsSubRect r (all_cells f) → Asks f r n → n ≤ 12000

-- each face's boundary has at most 12,000 steps
abbrev pub FacesAreShort : Type 0
FacesAreShort = (f : Field) (count : ℕ) (rect : ℕ → Rect) (block : ℕ → ℕ → ℕ) (v : FacesView) → SmallIsShort f → AreByNeed f count rect block → AreFaces f block v →
    (k : ℕ) → k < length v.classes → length (boundary (whole_mesh f block) (λ p. eqb (face_in f v p) k)) ≤ 12000

-- and so has each block's outline
abbrev pub OutlinesAreShort : Type 0
OutlinesAreShort = (f : Field) (count : ℕ) (rect : ℕ → Rect) (block : ℕ → ℕ → ℕ) → SmallIsShort f → AreByNeed f count rect block →
    (b : ℕ) → b < count → length (boundary (whole_mesh f block) (λ p. eqb (block p.tri.row p.tri.col) b)) ≤ 12000
