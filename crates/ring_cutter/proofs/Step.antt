use Rattle.std.proofs.Common.{◌≡◌, ℕ, ◌+◌, ◌<◌, List, [], ◌∷◌, ◌++◌, Option, Some, None, Bool, true, false, nat_eq, length, get_or, set, take, drop, refl, sym, ap, ◌∙◌, subst, subst₂, ◌⊎◌, inl, inr, ⊎_elim, arith, get_or-set_other, get_or-set_same, length-set, eq-eqb, ne_eqb}
use Rattle.std.proofs.lemmas.Bool.{cases_eq}
use Rattle.std.proofs.lemmas.List.{get_or_default, take-append-drop}
use Rattle.std.proofs.lemmas.List.Elements.{All-push}
use Rattle.ring_cutter.specs.Rings.{IsCycle}
use Rattle.ring_cutter.specs.Cutting.{Closes, IsPath, IsUsed, IsEntered, Takes, Rests, Walks, GoesOn}
use Rattle.std.specs.List.{concat}
use Rattle.list_counts.proofs.Ticks.{tick}
use Rattle.list_counts.specs.Times.{times}
use Rattle.ring_cutter.proofs.Walk.{None_is_not_Some, None_unless_Some, times-append, times-concat-push, cut_off_is_ring, rest_is_path, cleared_here, path_grows}

-- true is not false
true_false : (b : Bool) → b ≡ true → b ≡ false → ⊥
true_false b x y = grind arith

-- cutting a ring off the path leaves each arc that was taken once in a ring or on the path
pub ring_takes_arcs : (from to : ℕ → ℕ) (all : ℕ) (used : List Bool) (path : List ℕ) (rings : List (List ℕ)) (k : ℕ) → Takes from to all used path rings → IsCycle from to (drop k path) → Takes from to all used (take k path) (rings ++ drop k path ∷ [])
ring_takes_arcs from to all used path rings k t r = record {
  wide = t.wide;
  once = λ a. let parts = sym (times-append a (take k path) (drop k path)) ∙ ap (times a) (take-append-drop k path) in omega (arith, times-concat-push a rings (drop k path), parts, t.once a);
  closed = All-push (IsCycle from to) rings (drop k path) t.closed r;
}

-- so does taking one more arc
pub path_takes_arc : (from to : ℕ → ℕ) (all : ℕ) (used : List Bool) (path : List ℕ) (rings : List (List ℕ)) (arc : ℕ) → Takes from to all used path rings → arc < all → get_or used arc false ≡ false → Takes from to all (set used arc true) (path ++ arc ∷ []) rings
path_takes_arc from to all used path rings arc t l fresh = record {
  wide = length-set used arc true ∙ t.wide;
  once = λ a. go a (cases_eq arc a);
  closed = t.closed;
}
  where
    go : (a : ℕ) → (arc ≡ a) ⊎ (arc ≡ a → ⊥) → times a (concat rings) + times a (path ++ arc ∷ []) ≡ tick (get_or (set used arc true) a false)
    go a (inl e) =
        let now : tick (get_or (set used arc true) a false) ≡ 1 = ap (λ z. tick (get_or (set used arc true) z false)) (sym e) ∙ ap tick (get_or-set_same used arc true false (omega (arith, t.wide))) in
        let before : tick (get_or used a false) ≡ 0 = ap (λ z. tick (get_or used z false)) (sym e) ∙ ap tick fresh in
        let one : tick (nat_eq arc a) ≡ 1 = ap tick (eq-eqb arc a e) in
        omega (arith, now, before, one, t.once a, times-append a path (arc ∷ []))
    go a (inr d) =
        let now : tick (get_or (set used arc true) a false) ≡ tick (get_or used a false) = ap tick (get_or-set_other used arc a true false (λ e. d (sym e))) in
        let one : tick (nat_eq arc a) ≡ 0 = ap tick (ne_eqb arc a d) in
        omega (arith, now, one, t.once a, times-append a path (arc ∷ []))

-- what the code reads as unused is
pub unused_as_coded : (used : List Bool) (arc : ℕ) (b : Bool) → b ≡ get_or used arc b → arc < length used → b ≡ false → get_or used arc false ≡ false
unused_as_coded used arc b e l n = sym (get_or_default used arc b false l) ∙ sym e ∙ n

-- what the code reads as used is
pub used_as_coded : (used : List Bool) (arc : ℕ) (b : Bool) → b ≡ get_or used arc b → arc < length used → b ≡ true → IsUsed used arc
used_as_coded used arc b e l n = sym (get_or_default used arc b false l) ∙ sym e ∙ n

-- a walk takes one more arc
module _ (from to : ℕ → ℕ) (points all : ℕ) (after : List ℕ) (g : GoesOn from to all after) (used : List Bool) (place : List (Option ℕ)) (path : List ℕ) (rings : List (List ℕ)) (start arc : ℕ) (w : Walks from to points all after used place path rings start arc) (fresh : get_or used arc false ≡ false) where
  -- an arc that was taken stays so
  pub used_stays : (a : ℕ) → IsUsed used a → IsUsed (set used arc true) a
  used_stays a u = ⊎_elim
      (λ e. subst (λ z. IsUsed (set used arc true) z) (sym e) (get_or-set_same used arc true false (omega (arith, w.takes.wide, w.inside))))
      (λ d. get_or-set_other used arc a true false d ∙ u)
      (cases_eq a arc)

  -- an arc that was entered stays so
  entered_stays : (b : ℕ) → IsEntered used after b → IsEntered (set used arc true) after b
  entered_stays b e = (e.0, e.1, used_stays e.0 e.2, e.3)

  -- every other arc that is taken now was taken before
  before : (b : ℕ) → (b ≡ arc → ⊥) → IsUsed (set used arc true) b → IsUsed used b
  before b d u = sym (get_or-set_other used arc b true false d) ∙ u

  -- the arc after this one comes after no other that was taken
  enters_alone : (a : ℕ) → a < length after → IsUsed used a → get_or after a 0 ≡ get_or after arc 0 → ⊥
  enters_alone a l u e =
      let same = g.apart a arc (omega (arith, g.each)) w.inside e in
      true_false (get_or used arc false) (subst (IsUsed used) same u) fresh

  -- whatever is left of the path, the walk is about to take the next arc
  pub walk_steps : (place' : List (Option ℕ)) (path' : List ℕ) (rings' : List (List ℕ)) → Takes from to all (set used arc true) path' rings' → IsPath from to points all place' path' (from start) (to arc) → get_or place' (to arc) None ≡ None → Walks from to points all after (set used arc true) place' path' rings' start (get_or after arc 0)
  walk_steps place' path' rings' t p free = record {
    takes = t;
    walked = subst (λ z. IsPath from to points all place' path' (from start) z) (sym (g.there arc w.inside)) p;
    free = subst (λ z. get_or place' z None ≡ None) (sym (g.there arc w.inside)) free;
    inside = g.inside arc w.inside;
    came = inr (arc, omega (arith, g.each, w.inside), get_or-set_same used arc true false (omega (arith, w.takes.wide, w.inside)), refl);
    entered = λ b u. enter b u (cases_eq b arc);
    round = λ u. closes u (cases_eq (get_or after arc 0) arc);
  }
    where
      enter : (b : ℕ) → IsUsed (set used arc true) b → (b ≡ arc) ⊎ (b ≡ arc → ⊥) → (b ≡ start) ⊎ IsEntered (set used arc true) after b
      enter b u (inl e) = ⊎_elim (λ h. inl (e ∙ h.1)) (λ h. inr (subst (IsEntered (set used arc true) after) (sym e) (entered_stays arc h))) w.came
      enter b u (inr d) = ⊎_elim (λ h. inl h) (λ h. inr (entered_stays b h)) (w.entered b (before b d u))

      closes : IsUsed (set used arc true) (get_or after arc 0) → (get_or after arc 0 ≡ arc) ⊎ (get_or after arc 0 ≡ arc → ⊥) → get_or after arc 0 ≡ start
      closes u (inl e) = ⊎_elim (λ h. e ∙ h.1) (λ h. absurd (enters_alone h.0 h.1 h.2 (h.3 ∙ sym e))) w.came
      closes u (inr d) = ⊎_elim (λ h. h) (λ h. absurd (enters_alone h.0 h.1 h.2 h.3)) (w.entered (get_or after arc 0) (before (get_or after arc 0) d u))

  -- the same, with the values that the code has read
  module _ (li : from arc < points) (lo : to arc < points) (p : ℕ) (ep : p ≡ from arc) (n : ℕ) (en : n ≡ length path) (path1 : List ℕ) (e1 : path1 ≡ path ++ arc ∷ []) (q : ℕ) (eq : q ≡ to arc) (o : Option ℕ) (eo : o ≡ get_or (set place p (Some n)) q o) where
    walked1 : IsPath from to points all (set place p (Some n)) path1 (from start) (to arc)
    walked1 =
        let a = path_grows from to points all place path (from start) arc w.walked w.free w.inside li in
        subst₂ (λ x y. IsPath from to points all x y (from start) (to arc)) (ap (λ z. set place z (Some (length path))) (sym ep) ∙ ap (λ z. set place p (Some z)) (sym en)) (sym e1) a

    takes1 : Takes from to all (set used arc true) path1 rings
    takes1 = subst (λ y. Takes from to all (set used arc true) y rings) (sym e1) (path_takes_arc from to all used path rings arc w.takes w.inside fresh)

    here : o ≡ get_or (set place p (Some n)) (to arc) None
    here = eo ∙ get_or_default (set place p (Some n)) q o None (omega (arith, eq, walked1.wide)) ∙ ap (λ z. get_or (set place p (Some n)) z None) eq

    pub place_is_on_path : (k : ℕ) → o ≡ Some k → k < length path1
    place_is_on_path k e = (walked1.marks (to arc) k (sym here ∙ e)).0

    pub walk_goes_on : o ≡ None → Walks from to points all after (set used arc true) (set place p (Some n)) path1 rings start (get_or after arc 0)
    walk_goes_on e = walk_steps (set place p (Some n)) path1 rings takes1 walked1 (sym here ∙ e)

    pub walk_goes_on_after_cut : (k : ℕ) → o ≡ Some k → (place2 : List (Option ℕ)) (path2 : List ℕ) (rings2 : List (List ℕ)) → Closes from k (set place p (Some n)) path1 rings place2 path2 rings2 → Walks from to points all after (set used arc true) place2 path2 rings2 start (get_or after arc 0)
    walk_goes_on_after_cut k e place2 path2 rings2 c =
        let back : get_or (set place p (Some n)) (to arc) None ≡ Some k = sym here ∙ e in
        let r = cut_off_is_ring from to points all (set place p (Some n)) path1 (from start) (to arc) k walked1 back place2 c.cleared in
        let t = ring_takes_arcs from to all (set used arc true) path1 rings k takes1 r in
        let v = rest_is_path from to points all (set place p (Some n)) path1 (from start) (to arc) k walked1 back place2 c.cleared in
        walk_steps place2 path2 rings2
        (subst₂ (λ x y. Takes from to all (set used arc true) x y) (sym c.rest) (sym c.ring) t)
        (subst (λ x. IsPath from to points all place2 x (from start) (to arc)) (sym c.rest) v)
        (cleared_here from to points all (set place p (Some n)) path1 (from start) (to arc) k walked1 back place2 c.cleared)

-- where a walk comes to an arc that was taken, that is its first
module _ (from to : ℕ → ℕ) (points all : ℕ) (after : List ℕ) (used : List Bool) (place : List (Option ℕ)) (rings : List (List ℕ)) (start next : ℕ) where
  -- back at its first arc the path is empty, since no arc on it begins there
  empty_at : (path : List ℕ) → IsPath from to points all place path (from start) (from next) → get_or place (from next) None ≡ None → next ≡ start → path ≡ []
  empty_at [] p f e = refl
  empty_at (x ∷ xs) p f e =
      let m = p.marked 0 (omega arith) in
      let h : from x ≡ from next = p.leads.0 ∙ ap from (sym e) in
      absurd (None_is_not_Some 0 (sym f ∙ ap (λ z. get_or place z None) (sym h) ∙ m))

  -- so the walk is over
  pub walk_is_round : (path : List ℕ) → Walks from to points all after used place path rings start next → IsUsed used next → Rests from to points all after used place path rings
  walk_is_round path w u =
      let e = w.round u in
      let none = empty_at path w.walked w.free e in
      record {
        takes = w.takes;
        empty = none;
        blank = record {
          wide = w.walked.wide;
          clear = λ p. None_unless_Some (get_or place p None) (λ k h. let m = w.walked.marks p k h in omega (arith, m.0, ap length none));
        };
        entered = λ b h. ⊎_elim (λ s. subst (IsEntered used after) (e ∙ sym s) (came w.came e)) (λ s. s) (w.entered b h);
      }
    where
      came : ((get_or used start false ≡ false) × (next ≡ start)) ⊎ IsEntered used after next → next ≡ start → IsEntered used after next
      came (inl h) e = absurd (true_false (get_or used start false) (subst (IsUsed used) e u) h.0)
      came (inr h) e = h
