-- A rectangle that isn't cut asks for at most 12,000 steps.
use Rattle.std.proofs.Common.{◌≡◌, ⊎_elim, ◌⊎◌, inl, inr, ℕ, zero, suc, ◌+◌, ◌<◌, ◌≤◌, Bool, length, filter, arith}
use Rattle.std.proofs.lemmas.Bool.{cases_lt}
use Rattle.std.proofs.lemmas.List.Sums.{count_by-le-length, length-filter}
use Rattle.mesh_definitions.specs.Blocks.Asks.{Face, Outline}
use Rattle.mesh_definitions.specs.Blocks.{Asks, IsCut, IsSubRect, alone}
use Rattle.mesh_definitions.specs.Faces.{boundary, steps_of}
use Rattle.mesh_definitions.specs.Field.{Field}
use Rattle.mesh_definitions.specs.Mesh.{all_cells}
use Rattle.mesh_definitions.specs.Pieces.{Mesh, back}
use Rattle.mesh_definitions.specs.declared.Piece.{Piece}
use Rattle.mesh_definitions.specs.declared.Rect.{Rect}
use Rattle.mesh_definitions.specs.declared.Step.{Step}
use Rattle.record_size_laws.specs.ByNeed.{SmallIsShort}
use Rattle.plane_laws.specs.Borders.{within}
use Rattle.std.specs.Prelude.{not, ◌&&◌}

-- ---- the greatest of bounded numbers, under two negations

-- n is asked for, and no greater number is
record IsGreatest (P : ℕ → Type 0) (n : ℕ) : Type 0 where
  asked : P n
  most : (k : ℕ) → P k → k ≤ n

-- numbers of which one is known, and which have a bound, can't be without a greatest one
some_greatest : (P : ℕ → Type 0) (a d : ℕ) → P a → ((k : ℕ) → P k → k ≤ a + d) → ((n : ℕ) → IsGreatest P n → ⊥) → ⊥
some_greatest P a zero p bound none = none a (record { asked = p; most = λ k h. let l = bound k h in omega (arith, l) })
some_greatest P a (suc d) p bound none = some_greatest P a d p smaller none
  where
    smaller : (k : ℕ) → P k → k ≤ a + d
    smaller k h = ⊎_elim
        (λ l. let m = bound k h in absurd (none k (record { asked = h; most = λ j g. let n = bound j g in omega (arith, l, n) })))
        (λ l. l)
        (cases_lt (a + d) k)

-- ---- what a rectangle asks for

-- no boundary has more steps than the mesh
boundary_bounded : (m : Mesh) (F : Piece → Bool) → length (boundary m F) ≤ length (steps_of m)
boundary_bounded m F =
    let test : Step → Bool = λ x. within F (m.right_of x) && not (within F (m.right_of (back x))) in
    let e : length (filter test (steps_of m)) ≡ _ = length-filter test (steps_of m) in
    let l = count_by-le-length test (steps_of m) in
    omega (arith, e, l)

asks_bounded : (f : Field) (r : Rect) (k : ℕ) → Asks f r k → k ≤ length (steps_of (alone f r))
asks_bounded f r k Outline = boundary_bounded (alone f r) _
asks_bounded f r k (Face face numbers p i) = boundary_bounded (alone f r) _

-- a rectangle that isn't cut though it has a long side asks for at most 12,000 steps
long_short : (f : Field) (r : Rect) (n : ℕ) → ¬ (IsCut f r) → (16 < r.rows) ⊎ (16 < r.cols) → Asks f r n → n ≤ 12000
long_short f r n uncut long asks = ⊎_elim
    (λ over. absurd (some_greatest (Asks f r) n (length (steps_of (alone f r))) asks
    (λ k h. let l = asks_bounded f r k h in omega (arith, l))
    (λ g h. let l = h.most n asks in uncut (record { need = g; is = record { asked = h.asked; most = h.most }; much = omega (arith, l, over); long = long }))))
    (λ l. l)
    (cases_lt 12000 n)

-- and so does each that isn't cut, if the small ones do
pub kept_short : (f : Field) (r : Rect) (n : ℕ) → SmallIsShort f → ¬ (IsCut f r) → IsSubRect r (all_cells f) → Asks f r n → n ≤ 12000
kept_short f r n small uncut inside asks = ⊎_elim
    (λ l. long_short f r n uncut (inl l) asks)
    (λ rows. ⊎_elim
    (λ l. long_short f r n uncut (inr l) asks)
    (λ cols. small r n rows cols inside asks)
    (cases_lt 16 r.cols))
    (cases_lt 16 r.rows)
