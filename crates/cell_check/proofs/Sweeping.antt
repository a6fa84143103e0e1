-- A walk over the strips, from stretch to stretch and from height to height.
use Rattle.std.proofs.Common.{◌≡◌, ℕ, zero, suc, ◌+◌, ◌-◌, ◌<◌, ◌≤◌, ℤ, ◌≤ℤ◌, ◌<ℤ◌, int_lt, true, List, [], ◌∷◌, ◌++◌, length, map, take, drop, get_or, refl, ap, sym, ◌∙◌, subst, arith, ⊎_elim, Result, Ok, Err, IfOk}
use Rattle.std.specs.List.{filter, slice_range}
use Rattle.std.specs.List.Sorted.{IsPermutation}
use Rattle.std.proofs.lemmas.Bool.{cases_lt}
use Rattle.std.proofs.lemmas.Int.{ints}
use Rattle.std.proofs.lemmas.List.{get_or_default}
use Rattle.std.proofs.lemmas.List.Elements.{filter-append}
use Rattle.std.proofs.lemmas.List.Sorted.{IsPermutation-trans, IsPermutation-append_left}
use Rattle.plane_strips.specs.Strips.{upward}
use Rattle.cell_check.specs.Joints.{line_of}
use Rattle.cell_check.specs.Sweeps.{goes_above, Ascend, HasSweep, HaveSameAbove, IsSweep}
use Rattle.cell_check.specs.declared.entry.Entry.{Entry}
use Rattle.cell_check.specs.declared.holders.Counts.{Counts}
use Rattle.cell_check.specs.declared.line.Line.{Line}
use Rattle.cell_check.specs.declared.order.Height.{Height}
use Rattle.cell_check.specs.declared.sweep.Sweep.{Sweep}
use Rattle.cell_check.proofs.Filtering.{permuted, twice}

pub if_ok_both : {T E : Type 0} (r : Result T E) (P Q R : T → Type 0) → ((x : T) → P x → Q x → R x) → IfOk r P → IfOk r Q → IfOk r R
if_ok_both (Ok x) P Q R h p q = h x p q
if_ok_both (Err e) P Q R h p q = tt

-- ---- from stretch to stretch

take_range : {X : Type 0} (xs : List X) (from to : ℕ) → from ≤ to → take to xs ≡ take from xs ++ slice_range xs from to
take_range xs zero to h = let e : to - 0 ≡ to = omega arith in sym (ap (λ n. take n xs) e)
take_range [] (suc m) zero h = absurd (omega arith)
take_range [] (suc m) (suc n) h = sym (nothing (suc n - suc m))
  where
    nothing : {X : Type 0} (k : ℕ) → take {A = X} k [] ≡ []
    nothing zero = refl
    nothing (suc k) = refl
take_range (x ∷ xs) (suc m) zero h = absurd (omega arith)
take_range (x ∷ xs) (suc m) (suc n) h = let e : suc n - suc m ≡ n - m = omega arith in ap (λ t. x ∷ t) (take_range xs m n (omega arith) ∙ ap (λ k. take m xs ++ take k (drop m xs)) (sym e))

module _ (c : Counts) (rising : List Line) (y : ℤ) where
  pub same_next : (row new : List Entry) (more : List Line) (from to : ℕ) → from ≤ to → more ≡ slice_range rising from to → HaveSameAbove y (map line_of row ++ more) (map line_of new) → HaveSameAbove y (take from rising) (map line_of row) → HaveSameAbove y (take to rising) (map line_of new)
  same_next row new more from to h e step before =
      subst (λ t. HaveSameAbove y t (map line_of new)) (sym (take_range rising from to h ∙ ap (λ t. take from rising ++ t) (sym e)))
      (subst (λ t. IsPermutation t (filter (goes_above y) (map line_of new))) (sym (filter-append (goes_above y) (take from rising) more))
      (IsPermutation-trans (filter (goes_above y) (take from rising) ++ filter (goes_above y) more) (filter (goes_above y) (map line_of row) ++ filter (goes_above y) more) (filter (goes_above y) (map line_of new))
      (IsPermutation-append_left (filter (goes_above y) more) (filter (goes_above y) (take from rising)) (filter (goes_above y) (map line_of row)) before)
      (subst (λ t. IsPermutation t (filter (goes_above y) (map line_of new))) (filter-append (goes_above y) (map line_of row) more) step)))

-- ---- from height to height

higher : (y z b : ℤ) → y ≤ℤ z → int_lt z b ≡ true → int_lt y b ≡ true
higher y z b h e = grind (arith, ints)

module _ (c : Counts) (rising : List Line) where
  pub later : (y z : ℤ) (s : Sweep) → y ≤ℤ z → IsSweep c rising y s → IsSweep c rising z s
  later y z s h w = record {
    within = w.within;
    sound = w.sound;
    same =
        subst (λ t. IsPermutation t (filter (goes_above z) (map line_of s.row.items))) (twice (goes_above y) (goes_above z) goes (take s.begun rising))
        (subst (IsPermutation (filter (goes_above z) (filter (goes_above y) (take s.begun rising)))) (twice (goes_above y) (goes_above z) goes (map line_of s.row.items))
        (permuted (goes_above z) (filter (goes_above y) (take s.begun rising)) (filter (goes_above y) (map line_of s.row.items)) w.same));
  }
    where
      goes : (l : Line) → goes_above z l ≡ true → goes_above y l ≡ true
      goes l e = higher y z (upward l.seg).b.y h e

  module _ (hs : List Height) (up : Ascend hs) (i : ℕ) (low : 0 < i) (high : i < length hs) where
    last_y : (d : Height) (k : ℕ) (e : Height) → k + 1 ≡ i → (get_or hs k d).y ≡ (get_or hs (i - 1) e).y
    last_y d k e h = let same : k ≡ i - 1 = omega arith in ap (λ (x : Height). x.y) (get_or_default hs k d e (omega arith) ∙ ap (λ n. get_or hs n e) same)

    pub next_sweep : (s : Sweep) (e : Height) → IsSweep c rising (get_or hs (i - 1) e).y s → (d : Height) → i + 1 ≤ length hs → IsSweep c rising (get_or hs (i + 1 - 1) d).y s
    next_sweep s e w d h =
        let back : i - 1 + 1 ≡ i + 1 - 1 = omega arith in
        later (get_or hs (i - 1) d).y (get_or hs (i + 1 - 1) d).y s (subst (λ k. (get_or hs (i - 1) d).y ≤ℤ (get_or hs k d).y) back (up (i - 1) d (omega arith))) (subst (λ (x : Height). IsSweep c rising x.y s) (get_or_default hs (i - 1) e d (omega arith)) w)

    pub next_found : ((k : ℕ) (d : Height) → k + 1 < i → (get_or hs k d).y <ℤ (get_or hs (k + 1) d).y → HasSweep c rising (get_or hs k d).y) → (e f : Height) → ((get_or hs (i - 1) e).y <ℤ (get_or hs i f).y → HasSweep c rising (get_or hs (i - 1) e).y) → (k : ℕ) (d : Height) → k + 1 < i + 1 → (get_or hs k d).y <ℤ (get_or hs (k + 1) d).y → HasSweep c rising (get_or hs k d).y
    next_found inv e f this k d h l = ⊎_elim
        (λ (b : k + 1 < i). inv k d b l)
        (λ (b : i ≤ k + 1).
        let same : k + 1 ≡ i = omega arith in
        let there : (get_or hs (k + 1) d).y ≡ (get_or hs i f).y = ap (λ (x : Height). x.y) (ap (λ n. get_or hs n d) same ∙ get_or_default hs i d f high) in
        subst (HasSweep c rising) (sym (last_y d k e same))
        (this (subst (λ z. z <ℤ (get_or hs i f).y) (last_y d k e same) (subst (λ z. (get_or hs k d).y <ℤ z) there l))))
        (cases_lt (k + 1) i)
