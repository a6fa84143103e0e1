use Rattle.std.proofs.Common.{ℕ, ◌≤◌, length, arith}
use Rattle.mesh_definitions.specs.Blocks.Asks.{Outline, Face}
use Rattle.mesh_definitions.specs.Blocks.{Asks}
use Rattle.mesh_definitions.specs.Field.{Field}
use Rattle.mesh_definitions.specs.declared.Rect.{Rect}
use Rattle.record_size_laws.proofs.SmallRectangles.Faces.{face_short}
use Rattle.record_size_laws.proofs.SmallRectangles.Outline.{outline_short}
use Rattle.record_size_laws.proofs.small_rectangles_ask_little.Goals as goal

-- the outline and each face are short
by_cases : (f : Field) → length f.levels ≤ 20 → (r : Rect) (n : ℕ) → r.rows ≤ 16 → r.cols ≤ 16 → Asks f r n → n ≤ 12000
by_cases f few r n low narrow Outline = let k = outline_short f few r low narrow (λ i j. 0) in omega (arith, k)
by_cases f few r n low narrow (Face face numbers p there) = let k = face_short f few r low narrow (λ i j. 0) face numbers p there in omega (arith, k)

pub returns : goal.returns
returns c = record { short = λ f few r n low narrow inside asked. by_cases f few r n low narrow asked }
