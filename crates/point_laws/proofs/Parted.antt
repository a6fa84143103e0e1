-- Blocks by need part the cells of a field in one way.
use Rattle.std.proofs.Common.{◌≡◌, ℕ, true, refl, sym, ap, subst, ◌∙◌}
use Rattle.mesh_definitions.specs.Blocks.{AreByNeed}
use Rattle.mesh_definitions.specs.Field.{Field}
use Rattle.mesh_definitions.specs.Mesh.{all_cells, has_cell}
use Rattle.mesh_definitions.specs.declared.Rect.{Rect}
use Rattle.point_laws.proofs.Below.{same_block}
use Rattle.point_laws.specs.Once.{NeedPartsOnce}

module _ (f : Field) where
  -- a cell is in the rectangle of its block's number
  own_rect : (n : ℕ) (rect : ℕ → Rect) (block : ℕ → ℕ → ℕ) → AreByNeed f n rect block → (i j : ℕ) →
      has_cell (all_cells f) i j ≡ true → has_cell (rect (block i j)) i j ≡ true
  own_rect n rect block a i j c = (a.blocks.holds i j (block i j) c (a.blocks.below i j c)).1 refl

  -- a cell's block is the same rectangle, by whichever numbering
  same_rect : (n m : ℕ) (rect second : ℕ → Rect) (block other : ℕ → ℕ → ℕ) → AreByNeed f n rect block → AreByNeed f m second other → (i j : ℕ) →
      has_cell (all_cells f) i j ≡ true → rect (block i j) ≡ second (other i j)
  same_rect n m rect second block other a b i j c = same_block f i j (rect (block i j)) (second (other i j))
      (a.each (block i j) (a.blocks.below i j c)) (b.each (other i j) (b.blocks.below i j c))
      (own_rect n rect block a i j c) (own_rect m second other b i j c)

  -- two cells of one number in one numbering have one number in any other
  go_together : (n m : ℕ) (rect second : ℕ → Rect) (block other : ℕ → ℕ → ℕ) → AreByNeed f n rect block → AreByNeed f m second other → (i j k l : ℕ) →
      has_cell (all_cells f) i j ≡ true → has_cell (all_cells f) k l ≡ true → block i j ≡ block k l → other i j ≡ other k l
  go_together n m rect second block other a b i j k l c d e =
      let same : second (other i j) ≡ second (other k l) = sym (same_rect n m rect second block other a b i j c) ∙ (ap rect e ∙ same_rect n m rect second block other a b k l d) in
      (b.blocks.holds i j (other k l) c (b.blocks.below k l d)).0 (subst (λ (r : Rect). has_cell r i j ≡ true) same (own_rect m second other b i j c))

-- so blocks by need part the cells in one way
pub need_parts_once : NeedPartsOnce
need_parts_once f n m rect second block other a b i j k l c d = (
  go_together f n m rect second block other a b i j k l c d,
  go_together f m n second rect other block b a i j k l c d,
)
