use Rattle.std.proofs.Common.{◌≡◌, ℕ, zero, suc, ◌+◌, ◌<◌, ◌≤◌, List, [], ◌∷◌, ◌++◌, Bool, true, false, nat_eq, length, get_or, set, map, refl, sym, ap, ◌∙◌, ◌⊎◌, inl, inr, ⊎_elim, arith, get_or-set_other, get_or-set_same, length-set}
use Rattle.std.proofs.lemmas.Bool.{cases_eq, cases_lt, false≢true}
use Rattle.std.proofs.lemmas.List.{get_or_past, map_push}
use Rattle.list_counts.proofs.Ticks.{tick, tick_same, tick_other, times-append}
use Rattle.list_counts.specs.Times.{times}
use Rattle.chains.specs.declared.Line.{Line}
use Rattle.chains.specs.declared.Half.{Half}
use Rattle.chains.specs.Nets.{half_at}
use Rattle.chains.specs.Tracing.{IsUsed, Takes}

-- the numbers of a path's lines
abbrev pub numbers : List Half → List ℕ
numbers path = map (λ h. h.line) path

pub tick_at_most_one : (b : Bool) → tick b ≤ 1
tick_at_most_one true = omega arith
tick_at_most_one false = omega arith

pub tick_true : (b : Bool) → 1 ≤ tick b → b ≡ true
tick_true true l = refl
tick_true false l = absurd (omega arith)

pub tick_false : (b : Bool) → tick b ≤ 0 → b ≡ false
tick_false true l = absurd (omega arith)
tick_false false l = refl

-- what is at a place of a path counts
pub times_at : (path : List Half) (i : ℕ) → i < length path → 1 ≤ times (half_at path i).line (numbers path)
times_at [] i l = absurd (omega arith)
times_at (x ∷ xs) zero l = omega (arith, tick_same x.line x.line refl)
times_at (x ∷ xs) (suc i) l = omega (arith, times_at xs i (omega arith))

-- where no number counts twice, a number has one place
pub same_place : (path : List Half) → ((a : ℕ) → times a (numbers path) ≤ 1) → (i j : ℕ) → i < length path → j < length path → (half_at path i).line ≡ (half_at path j).line → i ≡ j
same_place [] h i j li lj e = absurd (omega arith)
same_place (x ∷ xs) h zero zero li lj e = refl
same_place (x ∷ xs) h zero (suc j) li lj e =
    absurd (omega (arith, h x.line, tick_same x.line x.line refl, ap (λ z. times z (numbers xs)) e, times_at xs j (omega arith)))
same_place (x ∷ xs) h (suc i) zero li lj e =
    absurd (omega (arith, h x.line, tick_same x.line x.line refl, ap (λ z. times z (numbers xs)) e, times_at xs i (omega arith)))
same_place (x ∷ xs) h (suc i) (suc j) li lj e =
    ap suc (same_place xs (λ a. omega (arith, h a)) i j (omega arith) (omega arith) e)

-- what counts has a place
pub found_in : (path : List Half) (a : ℕ) → 1 ≤ times a (numbers path) → (i : ℕ) × (i < length path) × ((half_at path i).line ≡ a)
found_in [] a l = absurd (omega arith)
found_in (x ∷ xs) a l = ⊎_elim
    (λ e. (0, omega arith, e))
    (λ d. let r = found_in xs a (omega (arith, tick_other x.line a d)) in (suc r.0, omega (arith, r.1), r.2))
    (cases_eq x.line a)

-- how often a number stands in a path with one half more
pub times-push : (a : ℕ) (path : List Half) (h : Half) → times a (numbers (path ++ h ∷ [])) ≡ times a (numbers path) + tick (nat_eq h.line a)
times-push a path h =
    let e = ap (times a) (map_push (λ (g : Half). g.line) path h) in
    omega (arith, e, times-append a (numbers path) (h.line ∷ []))

-- only lines that are there are marked as used
pub used_inside : (used : List Bool) (a : ℕ) → IsUsed used a → a < length used
used_inside used a u = ⊎_elim (λ l. l) (λ l. absurd (false≢true (sym (get_or_past used a false l) ∙ u))) (cases_lt a (length used))

-- a path takes one line more
pub path_takes : (lines : List Line) (used : List Bool) (path : List Half) (used' : List Bool) (h : Half) → Takes lines used path used' → h.line < length lines → get_or used' h.line false ≡ false → Takes lines used (path ++ h ∷ []) (set used' h.line true)
path_takes lines used path used' h t l fresh = record {
  wide = length-set used' h.line true ∙ t.wide;
  once = λ a. go a (cases_eq h.line a);
}
  where
    go : (a : ℕ) → (h.line ≡ a) ⊎ (h.line ≡ a → ⊥) → tick (get_or used a false) + times a (numbers (path ++ h ∷ [])) ≡ tick (get_or (set used' h.line true) a false)
    go a (inl e) =
        let now : tick (get_or (set used' h.line true) a false) ≡ 1 = ap (λ z. tick (get_or (set used' h.line true) z false)) (sym e) ∙ ap tick (get_or-set_same used' h.line true false (omega (arith, t.wide))) in
        let before : tick (get_or used' a false) ≡ 0 = ap (λ z. tick (get_or used' z false)) (sym e) ∙ ap tick fresh in
        omega (arith, now, before, tick_same h.line a e, t.once a, times-push a path h)
    go a (inr d) =
        let now : tick (get_or (set used' h.line true) a false) ≡ tick (get_or used' a false) = ap tick (get_or-set_other used' h.line a true false (λ e. d (sym e))) in
        omega (arith, now, tick_other h.line a d, t.once a, times-push a path h)

-- what a path took
module _ (lines : List Line) (used : List Bool) (path : List Half) (used' : List Bool) (t : Takes lines used path used') where
  -- no line stands twice on it
  pub no_line_twice : (a : ℕ) → times a (numbers path) ≤ 1
  no_line_twice a = omega (arith, t.once a, tick_at_most_one (get_or used' a false))

  -- a line on it is used now
  pub used_on_path : (i : ℕ) → i < length path → IsUsed used' (half_at path i).line
  used_on_path i l =
      let a = (half_at path i).line in
      tick_true (get_or used' a false) (omega (arith, t.once a, times_at path i l))

  -- and wasn't before
  pub unused_before : (i : ℕ) → i < length path → get_or used (half_at path i).line false ≡ false
  unused_before i l =
      let a = (half_at path i).line in
      tick_false (get_or used a false) (omega (arith, t.once a, times_at path i l, tick_at_most_one (get_or used' a false)))

  -- a line on it is one of those given
  pub line_inside : (i : ℕ) → i < length path → (half_at path i).line < length lines
  line_inside i l = omega (arith, used_inside used' (half_at path i).line (used_on_path i l), t.wide)

  -- a used line stays so
  pub stays_used : (a : ℕ) → IsUsed used a → IsUsed used' a
  stays_used a u = tick_true (get_or used' a false) (omega (arith, t.once a, ap tick u))

  -- a used line was used before or is on the path
  pub used_before_or_on_path : (a : ℕ) → IsUsed used' a → IsUsed used a ⊎ ((i : ℕ) × (i < length path) × ((half_at path i).line ≡ a))
  used_before_or_on_path a u = go (get_or used a false) refl
    where
      go : (b : Bool) → get_or used a false ≡ b → IsUsed used a ⊎ ((i : ℕ) × (i < length path) × ((half_at path i).line ≡ a))
      go true e = inl e
      go false e = inr (found_in path a (omega (arith, t.once a, ap tick e, ap tick u)))
