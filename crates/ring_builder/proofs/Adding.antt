-- Lists of parts, one for each set: one more part, one more edge.
use Rattle.std.proofs.Common.{◌≡◌, ℕ, ◌+◌, ◌<◌, Bool, true, false, cond, nat_eq, Option, Some, None, List, [], ◌∷◌, ◌++◌, map, flat_map, length, get_or, set, refl, ap, ap₂, sym, subst, ◌∙◌, ⊎_elim, arith, append_assoc, get_or-set_same, get_or-set_other, length-set, eq-eqb, ne_eqb}
use Rattle.std.specs.List.{range_with_len}
use Rattle.std.proofs.lemmas.Bool.{cases_eq, eqb-true}
use Rattle.std.proofs.lemmas.List.{append-nil, map-id, map-set, get_or-map, length-map}
use Rattle.std.proofs.lemmas.List.Concat.{flat_map-append}
use Rattle.std.proofs.lemmas.List.FromFn.{map-range_with_len_more}
use Rattle.boundary_arcs.specs.Edges.{arc_of}
use Rattle.boundary_arcs.specs.declared.arc.Arc.{Arc}
use Rattle.ring_builder.specs.Lists.{Adds, HasParts, first_parts, list_at}
use Rattle.ring_builder.specs.Parts.{is_set, parts_of, parts_at}
use Rattle.ring_builder.specs.declared.ring.Part.{Part}

-- ---- a part that is put into the list of one set
module _ {V : Type 0} (f : V → List Part) (vs : List V) (j : ℕ) (old new : V) (part : Part) (h : j < length vs) (e : old ≡ get_or vs j old) (n : f new ≡ f old ++ part ∷ []) where
  was : list_at (map f vs) j ≡ f old
  was = get_or-map f vs j old [] h ∙ ap f (sym e)

  now_at : (k : ℕ) → list_at (map f (set vs j new)) k ≡ list_at (set (map f vs) j (f new)) k
  now_at k = ap (λ z. list_at z k) (map-set f vs j new)

  abbrev Here : ℕ → Type 0
  Here k = list_at (map f (set vs j new)) k ≡ list_at (map f vs) k ++ cond (nat_eq j k) (part ∷ []) []

  here : Here j
  here =
      let l : j < length (map f vs) = omega (arith, length-map vs f) in
      now_at j ∙ get_or-set_same (map f vs) j (f new) [] l ∙ n ∙ ap₂ ◌++◌ (sym was) (ap (λ b. cond b (part ∷ []) []) (sym (eq-eqb j j refl)))

  other : (k : ℕ) → (k ≡ j → ⊥) → Here k
  other k d =
      now_at k ∙ get_or-set_other (map f vs) j k (f new) [] d ∙ sym (append-nil (list_at (map f vs) k))
      ∙ ap (λ b. list_at (map f vs) k ++ cond b (part ∷ []) []) (sym (ne_eqb j k (λ i. d (sym i))))

  pub put_adds : (owner : Option ℕ) → owner ≡ Some j → Adds (λ k. cond (is_set k owner) (part ∷ []) []) (map f vs) (map f (set vs j new))
  put_adds owner o = record {
    wide = length-map (set vs j new) f ∙ length-set vs j new ∙ sym (length-map vs f);
    each = λ k l. subst (λ z. list_at (map f (set vs j new)) k ≡ list_at (map f vs) k ++ cond (is_set k z) (part ∷ []) []) (sym o) (⊎_elim (λ i. subst Here (sym i) here) (λ d. other k d) (cases_eq k j));
  }

-- ---- an edge that is put into the lists of the sets that it borders
is_set_is : (k : ℕ) (o : Option ℕ) → is_set k o ≡ true → o ≡ Some k
is_set_is k None h = cc
is_set_is k (Some x) h = ap Some (eqb-true x k h)

parts_both : (right left : Bool) (n : ℕ) → (right ≡ true → left ≡ true → ⊥) → cond right (record { arc = n; forward = true } ∷ []) [] ++ cond left (record { arc = n; forward = false } ∷ []) [] ≡ parts_of right left n
parts_both true true n h = absurd (h refl refl)
parts_both true false n h = refl
parts_both false true n h = refl
parts_both false false n h = refl

parts_none : (b : Bool) (n : ℕ) → parts_of b b n ≡ []
parts_none true n = refl
parts_none false n = refl

pub both_added : (right left : Option ℕ) (n : ℕ) (l m r : List (List Part)) → (right ≡ left → ⊥) → Adds (λ k. cond (is_set k right) (record { arc = n; forward = true } ∷ []) []) l m → Adds (λ k. cond (is_set k left) (record { arc = n; forward = false } ∷ []) []) m r → Adds (λ k. parts_of (is_set k right) (is_set k left) n) l r
both_added right left n l m r d a b = record {
  wide = b.wide ∙ a.wide;
  each = λ k h.
      b.each k (omega (arith, a.wide)) ∙ ap (λ z. z ++ cond (is_set k left) (record { arc = n; forward = false } ∷ []) []) (a.each k h)
      ∙ append_assoc (list_at l k) (cond (is_set k right) (record { arc = n; forward = true } ∷ []) []) (cond (is_set k left) (record { arc = n; forward = false } ∷ []) [])
      ∙ ap (λ z. list_at l k ++ z) (parts_both (is_set k right) (is_set k left) n (λ x y. d (is_set_is k right x ∙ sym (is_set_is k left y))));
}

pub none_added : (right left : Option ℕ) (n : ℕ) (l : List (List Part)) → right ≡ left → Adds (λ k. parts_of (is_set k right) (is_set k left) n) l l
none_added right left n l e = record {
  wide = refl;
  each = λ k h. sym (append-nil (list_at l k)) ∙ ap (λ z. list_at l k ++ z) (sym (parts_none (is_set k left) n) ∙ ap (λ o. parts_of (is_set k o) (is_set k left) n) (sym e));
}

-- ---- one more edge
range_more : (n : ℕ) → range_with_len 0 (n + 1) ≡ range_with_len 0 n ++ n ∷ []
range_more n = sym (map-id (range_with_len 0 (n + 1))) ∙ map-range_with_len_more (λ x. x) 0 n n (omega arith) ∙ ap (λ z. z ++ n ∷ []) (map-id (range_with_len 0 n))

first_more : (arcs : List Arc) (owner : ℕ → ℕ) (n k : ℕ) → first_parts arcs owner n k ++ parts_at owner k (arc_of arcs n) n ≡ first_parts arcs owner (n + 1) k
first_more arcs owner n k =
    let f : ℕ → List Part = λ i. parts_at owner k (arc_of arcs i) i in
    ap (λ z. flat_map f (range_with_len 0 n) ++ z) (sym (append-nil (f n))) ∙ sym (flat_map-append f (range_with_len 0 n) (n ∷ [])) ∙ ap (flat_map f) (sym (range_more n))

pub has_more : (arcs : List Arc) (owner : ℕ → ℕ) (sets n : ℕ) (l r : List (List Part)) (a : Arc) → HasParts arcs owner sets n l → a ≡ arc_of arcs n → Adds (λ k. parts_at owner k a n) l r → HasParts arcs owner sets (n + 1) r
has_more arcs owner sets n l r a h e b = record {
  wide = b.wide ∙ h.wide;
  each = λ k i. b.each k (omega (arith, h.wide)) ∙ ap₂ ◌++◌ (h.each k i) (ap (λ z. parts_at owner k z n) e) ∙ first_more arcs owner n k;
}
