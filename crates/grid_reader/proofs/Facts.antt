-- What a grid that was read keeps.
use Rattle.std.proofs.Common.{◌≡◌, ℕ, zero, suc, ◌≤◌, ◌^◌, ℤ, pos, neg_ℤ, ◌≤ℤ◌, Bool, true, false, ◌&&◌, nat_lt, int_le, List, [], ◌∷◌, length, take, drop, cond, Option, Some, None, Result, Ok, Err, refl, sym, ap, subst, arith, length-take}
use Rattle.std.proofs.lemmas.Int.{ints}
use Rattle.std.proofs.lemmas.Bool.Decides.{nat_tests}
use Rattle.exact_num.specs.Value.{floor_at}
use Rattle.depth_grid.specs.Grid.{ArePlaces, AreDepths}
use Rattle.grid_reader.specs.declared.fault.GridFault.{GridFault}
use Rattle.grid_reader.specs.declared.fault.GridFault.TheVariants as fault
use Rattle.grid_reader.specs.declared.found.Found.{Found}
use Rattle.grid_reader.specs.declared.found.Needs.{Needs}
use Rattle.grid_reader.specs.declared.sense.Sense.{Sense}
use Rattle.grid_reader.specs.Words.{Word}
use Rattle.grid_reader.specs.Marks.{Mark, mark_of}
use Rattle.readings.specs.Readings.{◌>>=◌}
use Rattle.grid_reader.specs.Shape.{Lines, doubled, needs_of, places_of, places_found, StepsUp, StepsDown}
use Rattle.grid_reader.specs.Values.{limited, depth_from, depth_of, depths_of, just, node_depths, is_nodata, downwards}
use Rattle.readings.proofs.Steps.{bind_ok}
use Rattle.grid_reader.proofs.PlaceLaws.{AreAt, all_at, lays}
use Rattle.grid_reader.proofs.Placed.{steps_up, are_places, reverse_places, reverse_steps}

-- what positions that were found keep
pub record IsRow (zs : List ℤ) (most : ℕ) : Type 0 where
  pub places : ArePlaces zs most
  pub steps : StepsUp zs

row : (most : ℕ) (origin cell : ℤ) (count : ℕ) (zs : List ℤ) → 2 ≤ count → count ≤ 1025 → pos (10 ^ 19) ≤ℤ cell → AreAt most origin cell count zs → IsRow zs most
row most origin cell count zs several few big at =
    let all = all_at most origin cell count zs at in
    subst (λ ps. IsRow ps most) (sym all.0) (record { places = are_places most origin cell count several few all.1; steps = steps_up origin cell count big })

pub record AreLines (lines : Lines) : Type 0 where
  pub xs : IsRow lines.xs 1800000000
  pub ys : ArePlaces lines.ys 900000000
  pub steps : StepsDown lines.ys

are_lines : (n : Needs) (lines : Lines) → places_of n ≡ Ok lines → AreLines lines
are_lines n lines h =
    let y = lays n lines h in
    let p = y.placed in
    let big : pos (10 ^ 19) ≤ℤ y.cell = p.cell_is.least in
    let xs = row 1800000000 (doubled n.x y.cell) y.cell y.cols lines.xs p.cols_are.several p.cols_are.few big p.xs_are in
    let ys = row 900000000 (doubled n.y y.cell) y.cell y.rows y.ys p.rows_are.several p.rows_are.few big p.ys_are in
    let turned = sym y.turned in
    record {
      xs = xs;
      ys = subst (λ zs. ArePlaces zs 900000000) turned (reverse_places y.ys 900000000 ys.places);
      steps = subst StepsDown turned (reverse_steps y.ys ys.steps);
    }

pub found_lines : (f : Found) (lines : Lines) → places_found f ≡ Ok lines → AreLines lines
found_lines f lines h = let n = bind_ok (needs_of f) places_of lines h in are_lines n.0 lines n.2

abbrev IsLimited : Option ℤ → Type 0
IsLimited d = (z : ℤ) → d ≡ Some z → (neg_ℤ (pos 12000000) ≤ℤ z) × (z ≤ℤ pos 12000000)

limits : (at : ℕ) (z : ℤ) (d : Option ℤ) → limited at z ≡ Ok d → IsLimited d
limits at z d h = tested (int_le (neg_ℤ (pos 12000000)) z) (int_le z (pos 12000000)) refl refl h
  where
    tested : (a b : Bool) → int_le (neg_ℤ (pos 12000000)) z ≡ a → int_le z (pos 12000000) ≡ b → cond (a && b) (Ok (Some z)) (Err (fault.Depth at)) ≡ Ok d → IsLimited d
    tested true true e f h = λ y k. (let same : z ≡ y = cc in (grind (arith, ints), grind (arith, ints)))
    tested true false e f h = cc
    tested false b e f h = cc

mark_limits : (sense : Sense) (nodata : Mark) (at : ℕ) (m : Option Mark) (d : Option ℤ) → depth_from sense nodata at m ≡ Ok d → IsLimited d
mark_limits sense nodata at None d h = cc
mark_limits sense nodata at (Some None) d h = λ z k. cc
mark_limits sense nodata at (Some (Some n)) d h = tested (is_nodata nodata n) h
  where
    tested : (a : Bool) → cond a (Ok None) (limited at (floor_at (downwards sense n) 3)) ≡ Ok d → IsLimited d
    tested true h = λ z k. cc
    tested false h = limits at (floor_at (downwards sense n) 3) d h

no_depths : AreDepths []
no_depths k d e = cc

more_depths : (d : Option ℤ) (ds : List (Option ℤ)) → IsLimited d → AreDepths ds → AreDepths (d ∷ ds)
more_depths d ds first rest zero z e = first z e
more_depths d ds first rest (suc k) z e = rest k z e

abbrev no_words : List Word
no_words = []

pub just_these : (found nodes : ℕ) (us : List Word) (xs ds : List (Option ℤ)) → just found nodes us xs ≡ Ok ds → (us ≡ []) × (nodes ≤ found) × (xs ≡ ds)
just_these found nodes (w ∷ ws) xs ds h = cc
just_these found nodes [] xs ds h = tested (nat_lt found nodes) refl h
  where
    tested : (a : Bool) → nat_lt found nodes ≡ a → cond a (Err (fault.TooFew found)) (Ok xs) ≡ Ok ds → (no_words ≡ []) × (nodes ≤ found) × (xs ≡ ds)
    tested true e h = cc
    tested false e h = (refl, grind (arith, nat_tests), cc)

module _ (sense : Sense) (nodata : Mark) where
  abbrev with_depth : List Word → Option ℤ → Result (List (Option ℤ)) GridFault
  with_depth ws d = depths_of sense nodata ws >>= (λ ds. Ok (d ∷ ds))

  limited_depths : (ws : List Word) (ds : List (Option ℤ)) → depths_of sense nodata ws ≡ Ok ds → (length ds ≡ length ws) × AreDepths ds
  limited_depths [] ds h =
      let none : List (Option ℤ) = [] in
      let same : none ≡ ds = cc in
      subst (λ xs. (length xs ≡ 0) × AreDepths xs) same (refl, no_depths)
  limited_depths (w ∷ ws) ds h =
      let a = bind_ok (depth_of sense nodata w) (with_depth ws) ds h in
      let b = bind_ok (depths_of sense nodata ws) (λ rest. Ok (a.0 ∷ rest)) ds a.2 in
      let rest = limited_depths ws b.0 b.1 in
      let first = mark_limits sense nodata w.at (mark_of w.bytes) a.0 a.1 in
      let both : List (Option ℤ) = a.0 ∷ b.0 in
      let same : both ≡ ds = cc (b.2) in
      subst (λ xs. (length xs ≡ suc (length ws)) × AreDepths xs) same (ap suc rest.0, more_depths a.0 b.0 first rest.1)

  pub good_depths : (nodes : ℕ) (ws : List Word) (ds : List (Option ℤ)) → node_depths sense nodata nodes ws ≡ Ok ds → (length ds ≡ nodes) × AreDepths ds
  good_depths nodes ws ds h =
      let a = bind_ok (depths_of sense nodata (take nodes ws)) (just (length ws) nodes (drop nodes ws)) ds h in
      let all = limited_depths (take nodes ws) a.0 a.1 in
      let just = just_these (length ws) nodes (drop nodes ws) a.0 ds a.2 in
      let size : length a.0 ≡ nodes = omega (arith, all.0, just.1, length-take nodes ws) in
      subst (λ xs. (length xs ≡ nodes) × AreDepths xs) just.2 (size, all.1)
