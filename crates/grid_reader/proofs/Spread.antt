-- Positions, one more at a time.
use Rattle.std.proofs.Common.{◌≡◌, ℕ, ℤ, ◌+◌, ◌<◌, pos, true, false, ◌&&◌, List, [], ◌∷◌, get_or, map, Result, Ok, Err, ap, ap₂, ◌∙◌, arith, cond}
use Rattle.std.specs.List.{range_with_len}
use Rattle.std.proofs.lemmas.List.FromFn.{get_or-map-range_with_len, length-map-range_with_len, map-range_with_len_more}
use Rattle.std.proofs.lemmas.List.Folds.{list_all_at, list_all-append}
use Rattle.grid_reader.specs.declared.fault.GridFault.{GridFault}
use Rattle.grid_reader.specs.declared.fault.GridFault.TheVariants as fault
use Rattle.grid_reader.specs.Shape.{position, positions, is_within, all_within, positions_within}

-- a position too far from 0 among them
pub one_beyond : (most : ℕ) (origin cell : ℤ) (count cells : ℕ) → cells < count → is_within most (position origin cell cells) ≡ false → positions_within most origin cell count ≡ Err fault.Position
one_beyond most origin cell count cells h out =
    let f = position origin cell in
    let at : is_within most (get_or (map f (range_with_len 0 count)) cells (pos 0)) ≡ false = ap (is_within most) (get_or-map-range_with_len f 0 count cells cells (pos 0) h (omega arith)) ∙ out in
    let none : all_within most (positions origin cell count) ≡ false =
    list_all_at (is_within most) (positions origin cell count) cells (pos 0) (omega (arith, length-map-range_with_len f 0 count)) at in
    let good : Result (List ℤ) GridFault = Ok (positions origin cell count) in
    ap (λ b. cond b good (Err fault.Position)) none

-- and one more within
pub one_within : (most : ℕ) (origin cell : ℤ) (cells : ℕ) → all_within most (map (position origin cell) (range_with_len 0 cells)) ≡ true → is_within most (position origin cell cells) ≡ true → all_within most (map (position origin cell) (range_with_len 0 (cells + 1))) ≡ true
one_within most origin cell cells h one =
    let f = position origin cell in
    ap (all_within most) (map-range_with_len_more f 0 cells cells (omega arith))
    ∙ list_all-append (is_within most) (map f (range_with_len 0 cells)) (f cells ∷ [])
    ∙ ap₂ (λ a b. a && (b && true)) h one
