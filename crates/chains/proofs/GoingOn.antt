use Rattle.std.proofs.Common.{◌≡◌, ℕ, ◌<◌, ◌≤◌, ℤ, pos, ◌+ℤ◌, ◌-ℤ◌, neg_ℤ, List, [], ◌∷◌, Option, Some, None, Bool, true, false, cond, length, refl, sym, ap, ◌∙◌, subst, ◌⊎◌, inl, inr, ⊎_elim, arith, eq-eqb, ne_eqb}
use Rattle.std.proofs.lemmas.Bool.{cases_eq}
use Rattle.std.proofs.lemmas.Int.{ints}
use Rattle.chains.specs.declared.Line.{Line}
use Rattle.chains.specs.declared.Half.{Half}
use Rattle.chains.specs.Nets.{line_at, begin_of, end_of, left_of, right_of, ends_at, total, at, IsNet}
use Rattle.chains.specs.Tracing.{back, leaving, GoesOn}
use Rattle.chains.proofs.Halves.{In, weight, weight_back, back_back, begin_back, end_back, back_is_injective, leaving_has, length-leaving, total-leaving}

-- of a list of two the second is the other of two that differ from the first
other_of_two : (xs : List Half) → length xs ≡ 2 → (a b c : Half) → In a xs → In b xs → In c xs → (a ≡ b → ⊥) → (a ≡ c → ⊥) → b ≡ c
other_of_two [] l a b c i j k d e = absurd i
other_of_two (x ∷ []) l a b c i j k d e = absurd (omega arith)
other_of_two (x ∷ y ∷ z ∷ zs) l a b c i j k d e = absurd (omega arith)
other_of_two (x ∷ y ∷ []) l a b c (inl i) (inl j) k d e = absurd (d (i ∙ sym j))
other_of_two (x ∷ y ∷ []) l a b c (inl i) (inr (inl j)) (inl k) d e = absurd (e (i ∙ sym k))
other_of_two (x ∷ y ∷ []) l a b c (inl i) (inr (inl j)) (inr (inl k)) d e = j ∙ sym k
other_of_two (x ∷ y ∷ []) l a b c (inr (inl i)) (inr (inl j)) k d e = absurd (d (i ∙ sym j))
other_of_two (x ∷ y ∷ []) l a b c (inr (inl i)) (inl j) (inl k) d e = j ∙ sym k
other_of_two (x ∷ y ∷ []) l a b c (inr (inl i)) (inl j) (inr (inl k)) d e = absurd (e (i ∙ sym k))
other_of_two (x ∷ y ∷ []) l a b c (inl i) (inr (inl j)) (inr (inr n)) d e = elim n [ ]
other_of_two (x ∷ y ∷ []) l a b c (inl i) (inr (inr n)) k d e = elim n [ ]
other_of_two (x ∷ y ∷ []) l a b c (inr (inl i)) (inl j) (inr (inr n)) d e = elim n [ ]
other_of_two (x ∷ y ∷ []) l a b c (inr (inl i)) (inr (inr n)) k d e = elim n [ ]
other_of_two (x ∷ y ∷ []) l a b c (inr (inr n)) j k d e = elim n [ ]

-- a list of two is summed over both
total_of_two : (f : Half → ℤ) (xs : List Half) → length xs ≡ 2 → (a b : Half) → In a xs → In b xs → (a ≡ b → ⊥) → total f xs ≡ f a +ℤ f b
total_of_two f [] l a b i j d = absurd i
total_of_two f (x ∷ []) l a b i j d = absurd (omega arith)
total_of_two f (x ∷ y ∷ z ∷ zs) l a b i j d = absurd (omega arith)
total_of_two f (x ∷ y ∷ []) l a b (inl i) (inl j) d = absurd (d (i ∙ sym j))
total_of_two f (x ∷ y ∷ []) l a b (inl i) (inr (inl j)) d = omega (arith, ints, ap f i, ap f j)
total_of_two f (x ∷ y ∷ []) l a b (inr (inl i)) (inl j) d = omega (arith, ints, ap f i, ap f j)
total_of_two f (x ∷ y ∷ []) l a b (inr (inl i)) (inr (inl j)) d = absurd (d (i ∙ sym j))
total_of_two f (x ∷ y ∷ []) l a b (inl i) (inr (inr n)) d = elim n [ ]
total_of_two f (x ∷ y ∷ []) l a b (inr (inl i)) (inr (inr n)) d = elim n [ ]
total_of_two f (x ∷ y ∷ []) l a b (inr (inr n)) j d = elim n [ ]

module _ (lines : List Line) where
  -- of the two halves at a point with two line ends the second is the other of two that differ from the first
  pub other_half : (p : ℕ) → ends_at lines p ≡ 2 → (a b c : Half) → a.line < length lines → b.line < length lines → c.line < length lines → begin_of lines a ≡ p → begin_of lines b ≡ p → begin_of lines c ≡ p → (a ≡ b → ⊥) → (a ≡ c → ⊥) → b ≡ c
  other_half p t a b c la lb lc ea eb ec d e =
      other_of_two (leaving lines (length lines) p) (length-leaving lines p ∙ t) a b c (leaving_has lines p (length lines) a la ea) (leaving_has lines p (length lines) b lb eb) (leaving_has lines p (length lines) c lc ec) d e

  -- only one half goes on from another
  pub one_goes_on : (h t u : Half) → h.line < length lines → GoesOn lines h t → GoesOn lines h u → t ≡ u
  one_goes_on h t u l g k =
      other_half (end_of lines h) g.two (back h) t u l g.inside k.inside (begin_back lines h) g.meets k.meets (λ e. g.turns (sym e)) (λ e. k.turns (sym e))

  -- walked back the first goes on from the second
  pub goes_back : (h t : Half) → h.line < length lines → GoesOn lines h t → GoesOn lines (back t) (back h)
  goes_back h t l g = record {
    inside = l;
    meets = begin_back lines h ∙ sym g.meets ∙ sym (end_back lines t);
    two = ap (ends_at lines) (end_back lines t ∙ g.meets) ∙ g.two;
    turns = λ e. g.turns (sym (e ∙ back_back t));
  }

  -- a half goes on from only one
  pub goes_on_from_one : (g h t : Half) → g.line < length lines → h.line < length lines → GoesOn lines g t → GoesOn lines h t → g ≡ h
  goes_on_from_one g h t lg lh a b =
      back_is_injective g h (one_goes_on (back t) (back g) (back h) a.inside (goes_back g t lg a) (goes_back h t lh b))

-- a side is the face k, and counts 1, or it isn't, and counts 0
at_cases : (k : ℕ) (o : Option ℕ) → ((o ≡ Some k) × (at k o ≡ pos 1)) ⊎ ((o ≡ Some k → ⊥) × (at k o ≡ pos 0))
at_cases k None = inr (nothing, refl)
  where
    nothing : None ≡ Some k → ⊥
    nothing e = grind arith
at_cases k (Some x) = ⊎_elim
    (λ e. inl (ap Some e, ap (λ b. cond b (pos 1) (pos 0)) (eq-eqb x k e)))
    (λ d. inr (λ e. d (one x k e), ap (λ b. cond b (pos 1) (pos 0)) (ne_eqb x k d)))
    (cases_eq x k)
  where
    one : (x k : ℕ) → Some x ≡ Some k → x ≡ k
    one x k e = grind arith

-- where the one side counts more than the other it is that face
counts_one : (k : ℕ) (r l : Option ℕ) → at k r -ℤ at k l ≡ pos 1 → r ≡ Some k
counts_one k r l e = go (at_cases k r) (at_cases k l)
  where
    go : ((r ≡ Some k) × (at k r ≡ pos 1)) ⊎ ((r ≡ Some k → ⊥) × (at k r ≡ pos 0)) → ((l ≡ Some k) × (at k l ≡ pos 1)) ⊎ ((l ≡ Some k → ⊥) × (at k l ≡ pos 0)) → r ≡ Some k
    go (inl a) b = a.0
    go (inr a) (inl b) = absurd (omega (arith, ints, a.1, b.1, e))
    go (inr a) (inr b) = absurd (omega (arith, ints, a.1, b.1, e))

-- a face on one side alone counts 1
face_counts : (k : ℕ) (r l : Option ℕ) → r ≡ Some k → (l ≡ r → ⊥) → at k r -ℤ at k l ≡ pos 1
face_counts k r l e d = go (at_cases k r) (at_cases k l)
  where
    go : ((r ≡ Some k) × (at k r ≡ pos 1)) ⊎ ((r ≡ Some k → ⊥) × (at k r ≡ pos 0)) → ((l ≡ Some k) × (at k l ≡ pos 1)) ⊎ ((l ≡ Some k → ⊥) × (at k l ≡ pos 0)) → at k r -ℤ at k l ≡ pos 1
    go (inl a) (inl b) = absurd (d (b.0 ∙ sym e))
    go (inl a) (inr b) = omega (arith, ints, a.1, b.1)
    go (inr a) b = absurd (a.0 e)

-- what counts the same for each face has the same face on the right
same_right : (r l r' l' : Option ℕ) → (l ≡ r → ⊥) → (l' ≡ r' → ⊥) → ((k : ℕ) → at k r' -ℤ at k l' ≡ at k r -ℤ at k l) → r' ≡ r
same_right None l None l' d d' h = refl
same_right None l (Some y) l' d d' h = sym (counts_one y None l (sym (h y) ∙ face_counts y (Some y) l' refl d'))
same_right (Some x) l r' l' d d' h = counts_one x r' l' (h x ∙ face_counts x (Some x) l refl d)

-- and on the left
same_left : (r l r' l' : Option ℕ) → (l ≡ r → ⊥) → (l' ≡ r' → ⊥) → ((k : ℕ) → at k r' -ℤ at k l' ≡ at k r -ℤ at k l) → l' ≡ l
same_left r l r' l' d d' h = same_right l r l' r' (λ e. d (sym e)) (λ e. d' (sym e)) (λ k. turned (at k r') (at k l') (at k r) (at k l) (h k))
  where
    turned : (a b c e : ℤ) → a -ℤ b ≡ c -ℤ e → b -ℤ a ≡ e -ℤ c
    turned a b c e q = omega (arith, ints)

-- what counts nothing for each face has the same sides
weightless : (r l : Option ℕ) → (l ≡ r → ⊥) → ((k : ℕ) → at k r -ℤ at k l ≡ pos 0) → ⊥
weightless None None d h = d refl
weightless (Some x) l d h = omega (arith, ints, h x, face_counts x (Some x) l refl d)
weightless None (Some y) d h = omega (arith, ints, h y, face_counts y (Some y) None refl (λ e. d (sym e)))

module _ (lines : List Line) (points : ℕ) (net : IsNet lines points) where
  -- a half begins and ends at points of the net
  pub begins_inside : (h : Half) → h.line < length lines → begin_of lines h < points
  begins_inside h l = go h.forward
    where
      go : (b : Bool) → cond b (line_at lines h.line).begin (line_at lines h.line).end < points
      go true = net.begin_inside h.line l
      go false = net.end_inside h.line l

  pub ends_inside : (h : Half) → h.line < length lines → end_of lines h < points
  ends_inside h l = go h.forward
    where
      go : (b : Bool) → cond b (line_at lines h.line).end (line_at lines h.line).begin < points
      go true = net.end_inside h.line l
      go false = net.begin_inside h.line l

  -- a half has different sides
  pub sides_differ : (h : Half) → h.line < length lines → left_of lines h ≡ right_of lines h → ⊥
  sides_differ h l = go h.forward
    where
      go : (b : Bool) → cond b (line_at lines h.line).left (line_at lines h.line).right ≡ cond b (line_at lines h.line).right (line_at lines h.line).left → ⊥
      go true e = net.parted h.line l e
      go false e = net.parted h.line l (sym e)

  -- a half that goes on has the same sides
  pub sides_stay : (h t : Half) → h.line < length lines → GoesOn lines h t → (left_of lines t ≡ left_of lines h) × (right_of lines t ≡ right_of lines h)
  sides_stay h t l g =
      let dh = sides_differ h l in
      let dt = sides_differ t g.inside in
      (same_left (right_of lines h) (left_of lines h) (right_of lines t) (left_of lines t) dh dt weighs, same_right (right_of lines h) (left_of lines h) (right_of lines t) (left_of lines t) dh dt weighs)
    where
      weighs : (k : ℕ) → weight lines k t ≡ weight lines k h
      weighs k =
          let p = end_of lines h in
          let both = total_of_two (weight lines k) (leaving lines (length lines) p) (length-leaving lines p ∙ g.two) (back h) t (leaving_has lines p (length lines) (back h) l (begin_back lines h)) (leaving_has lines p (length lines) t g.inside g.meets) (λ e. g.turns (sym e)) in
          cancels (weight lines k t) (weight lines k h) (weight lines k (back h)) (sym both ∙ total-leaving lines k p ∙ net.even k p) (weight_back lines k h)
        where
          cancels : (t h b : ℤ) → b +ℤ t ≡ pos 0 → b ≡ neg_ℤ h → t ≡ h
          cancels t h b e n = omega (arith, ints)

  -- a point where a line ends has two line ends or more
  pub no_end_alone : (h : Half) → h.line < length lines → (ends_at lines (begin_of lines h) ≡ 2 → ⊥) → 3 ≤ ends_at lines (begin_of lines h)
  no_end_alone h l d =
      let p = begin_of lines h in
      let r = go (leaving lines (length lines) p) (leaving_has lines p (length lines) h l refl) (λ k. total-leaving lines k p ∙ net.even k p) (λ e. d (sym (length-leaving lines p) ∙ e)) in
      subst (λ z. 3 ≤ z) (length-leaving lines p) r
    where
      go : (xs : List Half) → In h xs → ((k : ℕ) → total (weight lines k) xs ≡ pos 0) → (length xs ≡ 2 → ⊥) → 3 ≤ length xs
      go [] i s n = absurd i
      go (x ∷ []) (inl e) s n = absurd (weightless (right_of lines h) (left_of lines h) (sides_differ h l) (λ k. alone (weight lines k h) (weight lines k x) (ap (weight lines k) e) (s k)))
        where
          alone : (a b : ℤ) → a ≡ b → b +ℤ pos 0 ≡ pos 0 → a ≡ pos 0
          alone a b p q = omega (arith, ints)
      go (x ∷ []) (inr o) s n = elim o [ ]
      go (x ∷ y ∷ []) i s n = absurd (n refl)
      go (x ∷ y ∷ z ∷ zs) i s n = omega arith
