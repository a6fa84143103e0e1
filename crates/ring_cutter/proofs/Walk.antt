use Rattle.std.proofs.Common.{◌≡◌, ℕ, ◌+◌, ◌-◌, ◌<◌, ◌≤◌, List, [], ◌∷◌, ◌++◌, Option, Some, None, length, get_or, set, take, drop, refl, sym, ap, ◌∙◌, subst, ◌⊎◌, inl, inr, ⊎_elim, arith, get_or-set_other, get_or-set_same, length-set, length-append, length-drop, length-take, get_or-drop, get_or-take}
use Rattle.std.proofs.lemmas.Bool.{cases_eq}
use Rattle.std.proofs.lemmas.List.{get_or_append_left, get_or_push, take-append-drop}
use Rattle.std.proofs.Math.Seq.{drop-cons}
use Rattle.ring_cutter.specs.Rings.{Leads, IsCycle}
use Rattle.ring_cutter.specs.Cutting.{Clears, IsPath}
use Rattle.std.specs.List.{concat}
use Rattle.list_counts.specs.Times.{times}
use Rattle.ring_cutter.proofs.Pairs.{Some_is_injective, below_or_not}

-- an empty entry has no number
pub None_is_not_Some : (k : ℕ) → None ≡ Some k → ⊥
None_is_not_Some k e = grind arith

-- an entry with no number is empty
pub None_unless_Some : (o : Option ℕ) → ((k : ℕ) → o ≡ Some k → ⊥) → o ≡ None
None_unless_Some None h = refl
None_unless_Some (Some k) h = absurd (h k refl)

module _ (from to : ℕ → ℕ) where
  -- a walk to a point and one from it make one
  pub walks_join : (p q r : ℕ) (xs ys : List ℕ) → Leads from to p xs q → Leads from to q ys r → Leads from to p (xs ++ ys) r
  walks_join p q r [] ys h k = subst (λ z. Leads from to z ys r) (sym h) k
  walks_join p q r (x ∷ xs) ys h k = (h.0, walks_join (to x) q r xs ys h.1 k)

  -- a walk of two parts has a point between them
  pub walk_splits : (p r : ℕ) (xs ys : List ℕ) → Leads from to p (xs ++ ys) r → (q : ℕ) × Leads from to p xs q × Leads from to q ys r
  walk_splits p r [] ys h = (p, refl, h)
  walk_splits p r (x ∷ xs) ys h = let s = walk_splits (to x) r xs ys h.1 in (s.0, (h.0, s.1), s.2)

-- how often a number stands in two lists put together
pub times-append : (a : ℕ) (xs ys : List ℕ) → times a (xs ++ ys) ≡ times a xs + times a ys
times-append a [] ys = omega arith
times-append a (x ∷ xs) ys = omega (arith, times-append a xs ys)

-- how often it stands in rings with one more
pub times-concat-push : (a : ℕ) (rs : List (List ℕ)) (r : List ℕ) → times a (concat (rs ++ r ∷ [])) ≡ times a (concat rs) + times a r
times-concat-push a [] r = omega (arith, times-append a r [])
times-concat-push a (x ∷ xs) r = omega (arith, times-concat-push a xs r, times-append a x (concat (xs ++ r ∷ [])), times-append a x (concat xs))

-- the path comes back to one of its points and is cut there
module _ (from to : ℕ → ℕ) (points all : ℕ) (place : List (Option ℕ)) (path : List ℕ) (home here k : ℕ) (p : IsPath from to points all place path home here) (back : get_or place here None ≡ Some k) (place' : List (Option ℕ)) (c : Clears from (drop k path) (length (drop k path)) place place') where
  -- the cut lies on the path
  long : k < length path
  long = (p.marks here k back).0

  -- the arc there begins where the path comes back to
  begins_here : from (get_or path k 0) ≡ here
  begins_here = (p.marks here k back).1

  -- what is cut off, and what stays, make the path
  rest_long : length (drop k path) + k ≡ length path
  rest_long = omega (arith, length-drop k path, long)

  -- an arc cut off stands k places further on the path
  at : (i : ℕ) → get_or (drop k path) i 0 ≡ get_or path (k + i) 0
  at i = get_or-drop k path i 0

  -- the path leads by a point at the cut
  split : (q : ℕ) × Leads from to home (take k path) q × Leads from to q (drop k path) here
  split = walk_splits from to home here (take k path) (drop k path) (subst (λ z. Leads from to home z here) (sym (take-append-drop k path)) p.leads)

  -- that point is the one it comes back to
  meets : split.0 ≡ here
  meets = let h = subst (λ z. Leads from to split.0 z here) (drop-cons path k 0 long) split.2 in sym h.0 ∙ begins_here

  -- what is cut off is a ring
  pub cut_off_is_ring : IsCycle from to (drop k path)
  cut_off_is_ring = record {
    long = omega (arith, rest_long, long);
    start = here;
    closed = subst (λ z. Leads from to z (drop k path) here) meets split.2;
    simple = λ i j li lj e.
        let mi = p.marked (k + i) (omega (arith, rest_long)) in
        let mj = p.marked (k + j) (omega (arith, rest_long)) in
        let same : from (get_or path (k + i) 0) ≡ from (get_or path (k + j) 0) = ap from (sym (at i)) ∙ e ∙ ap from (at j) in
        omega (arith, Some_is_injective (k + i) (k + j) (sym mi ∙ ap (λ z. get_or place z None) same ∙ mj));
  }

  -- its point is free again
  pub cleared_here : get_or place' here None ≡ None
  cleared_here = subst (λ z. get_or place' z None ≡ None) (ap from (at 0 ∙ ap (λ z. get_or path z 0) (omega arith)) ∙ begins_here) (c.gone 0 (omega (arith, rest_long, long)))

  -- an arc that stays stands where it stood
  front : (i : ℕ) → i < k → get_or (take k path) i 0 ≡ get_or path i 0
  front i l = get_or-take k path i 0 l

  -- there are k that stay
  front_long : length (take k path) ≡ k
  front_long = omega (arith, length-take k path, long)

  -- what stays is a path to the same point
  pub rest_is_path : IsPath from to points all place' (take k path) home here
  rest_is_path = record {
    wide = c.wide ∙ p.wide;
    inside = λ i l. let l' : i < k = omega (arith, front_long) in subst (λ z. (z < all) × (from z < points)) (sym (front i l')) (p.inside i (omega (arith, long)));
    leads = subst (λ z. Leads from to home (take k path) z) meets split.1;
    marked = λ i l. let l' : i < k = omega (arith, front_long) in keeps i l';
    marks = λ x j e. ⊎_elim (λ n. absurd (None_is_not_Some j (sym n ∙ e))) (λ s. stays x j e (p.marks x j (sym s ∙ e))) (c.either x);
  }
    where
      keeps : (i : ℕ) → i < k → get_or place' (from (get_or (take k path) i 0)) None ≡ Some i
      keeps i l =
          let m = p.marked i (omega (arith, long)) in
          ap (λ z. get_or place' (from z) None) (front i l) ∙ c.kept (from (get_or path i 0)) (λ j lj e.
          let mj = p.marked (k + j) (omega (arith, rest_long)) in
          omega (arith, Some_is_injective (k + j) i (sym mj ∙ ap (λ z. get_or place z None) (ap from (sym (at j)) ∙ e) ∙ m))) ∙ m

      stays : (x j : ℕ) → get_or place' x None ≡ Some j → (j < length path) × (from (get_or path j 0) ≡ x) → (j < length (take k path)) × (from (get_or (take k path) j 0) ≡ x)
      stays x j e h = ⊎_elim
          (λ l. (omega (arith, front_long), ap from (front j l) ∙ h.1))
          (λ l. absurd (None_is_not_Some j (sym (gone_at x j h l) ∙ e)))
          (below_or_not j k)
        where
          gone_at : (x j : ℕ) → (j < length path) × (from (get_or path j 0) ≡ x) → k ≤ j → get_or place' x None ≡ None
          gone_at x j h l =
              let i : k + (j - k) ≡ j = omega (arith, l) in
              subst (λ z. get_or place' z None ≡ None) (ap from (at (j - k) ∙ ap (λ z. get_or path z 0) i) ∙ h.1) (c.gone (j - k) (omega (arith, rest_long, h.0, l)))

-- one more arc comes to the end of the path
module _ (from to : ℕ → ℕ) (points all : ℕ) (place : List (Option ℕ)) (path : List ℕ) (home arc : ℕ) (p : IsPath from to points all place path home (from arc)) (free : get_or place (from arc) None ≡ None) (l : arc < all) (li : from arc < points) where
  -- then the path leads to where the arc ends
  pub path_grows : IsPath from to points all (set place (from arc) (Some (length path))) (path ++ arc ∷ []) home (to arc)
  path_grows = record {
    wide = length-set place (from arc) (Some (length path)) ∙ p.wide;
    inside = λ i h. ⊎_elim (λ k. subst (λ z. (z < all) × (from z < points)) (sym (get_or_append_left path (arc ∷ []) 0 i k)) (p.inside i k)) (λ k. subst (λ z. (z < all) × (from z < points)) (sym (get_or_push path arc 0 i (last i h k))) (l, li)) (below_or_not i (length path));
    leads = walks_join from to home (from arc) (to arc) path (arc ∷ []) p.leads (refl, refl);
    marked = λ i h. ⊎_elim (λ k. old i k) (λ k. new i (last i h k)) (below_or_not i (length path));
    marks = λ x k e. mark x k e (cases_eq x (from arc));
  }
    where
      last : (i : ℕ) → i < length (path ++ arc ∷ []) → length path ≤ i → length path ≡ i
      last i h k = omega (arith, length-append path (arc ∷ []))

      here : get_or (set place (from arc) (Some (length path))) (from arc) None ≡ Some (length path)
      here = get_or-set_same place (from arc) (Some (length path)) None (omega (arith, p.wide))

      old : (i : ℕ) → i < length path → get_or (set place (from arc) (Some (length path))) (from (get_or (path ++ arc ∷ []) i 0)) None ≡ Some i
      old i k =
          let m = p.marked i k in
          ap (λ z. get_or (set place (from arc) (Some (length path))) (from z) None) (get_or_append_left path (arc ∷ []) 0 i k)
          ∙ get_or-set_other place (from arc) (from (get_or path i 0)) (Some (length path)) None (λ e. None_is_not_Some i (sym free ∙ ap (λ z. get_or place z None) (sym e) ∙ m)) ∙ m

      new : (i : ℕ) → length path ≡ i → get_or (set place (from arc) (Some (length path))) (from (get_or (path ++ arc ∷ []) i 0)) None ≡ Some i
      new i e = ap (λ z. get_or (set place (from arc) (Some (length path))) (from z) None) (get_or_push path arc 0 i e) ∙ here ∙ ap Some e

      mark : (x k : ℕ) → get_or (set place (from arc) (Some (length path))) x None ≡ Some k → (x ≡ from arc) ⊎ (x ≡ from arc → ⊥) → (k < length (path ++ arc ∷ [])) × (from (get_or (path ++ arc ∷ []) k 0) ≡ x)
      mark x k e (inl i) =
          let s : length path ≡ k = Some_is_injective (length path) k (sym here ∙ ap (λ z. get_or (set place (from arc) (Some (length path))) z None) (sym i) ∙ e) in
          (omega (arith, s, length-append path (arc ∷ [])), ap from (get_or_push path arc 0 k s) ∙ sym i)
      mark x k e (inr d) =
          let h = p.marks x k (sym (get_or-set_other place (from arc) x (Some (length path)) None d) ∙ e) in
          (omega (arith, h.0, length-append path (arc ∷ [])), ap from (get_or_append_left path (arc ∷ []) 0 k h.0) ∙ h.1)
