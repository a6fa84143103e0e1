-- What has a gap inside, by the lines east of it, and when that is right.
use Rattle.std.proofs.Common.{◌≡◌, ℕ, zero, suc, ◌+◌, ◌-◌, ◌<◌, ◌≤◌, Bool, true, false, not, ◌&&◌, ◌||◌, cond, eqb, ltb, leb, List, [], ◌∷◌, map, length, drop, refl, ap, ap₂, sym, ◌∙◌, subst, arith}
use Rattle.std.specs.List.{slice_get}
use Rattle.std.specs.Prelude.{nat_lt}
use Rattle.std.proofs.lemmas.Bool.Decides.{nat_tests}
use Rattle.std.proofs.lemmas.List.Sums.{sum_by-cons}
use Rattle.chart_model.specs.Marks.{set_marks}
use Rattle.plane_strips.specs.SweepLaws.{is_odd_list}
use Rattle.cell_check.specs.Joints.{line_of, AreJoined, IsJoint, IsLinked, IsSound}
use Rattle.cell_check.specs.Owners.{are_right, has, holds, nothing}
use Rattle.cell_check.specs.Places.{is_right_by, odds}
use Rattle.cell_check.specs.Tags.{own}
use Rattle.cell_check.specs.declared.entry.Entry.{Entry}
use Rattle.cell_check.specs.declared.holders.Counts.{Counts}
use Rattle.cell_check.specs.declared.holders.Holders.{Holders}
use Rattle.cell_check.specs.declared.line.Line.{Line}
use Rattle.cell_check.specs.declared.owners.Owners.TheVariants.{Nobody, One, Two}
use Rattle.cell_check.specs.declared.owners.Owners.{Owners}

-- ---- from the east

-- each line's western gap follows from its eastern one
abbrev pub AreLinked : Counts → List Entry → Type 0
AreLinked c row = (k : ℕ) → k < length row → IsJoint c (slice_get row k) (slice_get row (suc k))

pub linked_from : (c : Counts) (row : List Entry) → IsSound c row → AreLinked c row
linked_from c row s k h = s (suc k) (omega arith)

pub linked_drop : (c : Counts) (n : ℕ) (row : List Entry) → AreLinked c row → AreLinked c (drop n row)
linked_drop c zero row l = l
linked_drop c (suc n) [] l = λ k h. absurd (omega arith)
linked_drop c (suc n) (e ∷ row) l = linked_drop c n row (λ k h. l (suc k) (omega arith))

abbrev pub west_of : List Entry → Holders
west_of [] = nothing
west_of (e ∷ row) = e.west

first_linked : (c : Counts) (e : Entry) (row : List Entry) → AreLinked c (e ∷ row) → IsLinked c e (west_of row)
first_linked c e [] l = l 0 (omega arith)
first_linked c e (f ∷ row) l = let j : AreJoined c e f = l 0 (omega arith) in j.linked

eqb_back : (m n : ℕ) → eqb m n ≡ eqb n m
eqb_back m n = grind (arith, nat_tests)

none_held : (n o : ℕ) → holds n nothing o ≡ false
none_held n o = by_test (nat_lt o n)
  where
    by_test : (b : Bool) → cond b false false ≡ false
    by_test true = refl
    by_test false = refl

pub held : (c : Counts) (row : List Entry) → AreLinked c row → (o : ℕ) → holds c.areas (west_of row) o ≡ is_odd_list (own o (map line_of row))
held c [] l o = none_held c.areas o
held c (e ∷ row) l o =
    first_linked c e row l o
    ∙ ap (λ b. cond b (not (holds c.areas (west_of row) o)) (holds c.areas (west_of row) o)) (eqb_back o e.line.owner)
    ∙ by_test (eqb e.line.owner o) (held c row (λ k h. l (suc k) (omega arith)) o)
  where
    by_test : (b : Bool) → holds c.areas (west_of row) o ≡ is_odd_list (own o (map line_of row)) → cond b (not (holds c.areas (west_of row) o)) (holds c.areas (west_of row) o) ≡ is_odd_list (cond b (e.line ∷ own o (map line_of row)) (own o (map line_of row)))
    by_test true h = ap not h
    by_test false h = h

-- ---- tests

no_way : false ≡ true → ⊥
no_way d = absurd (cc)

last_false : (b : Bool) → (b && false) ≡ true → ⊥
last_false true e = absurd (no_way e)
last_false false e = absurd (no_way e)

both_true : (a b : Bool) → (a && b) ≡ true → (a ≡ true) × (b ≡ true)
both_true true true e = (refl, refl)
both_true true false e = absurd (no_way e)
both_true false b e = absurd (no_way e)

same : (k : ℕ) → eqb k k ≡ true
same k = grind (arith, nat_tests)

other_first : (j : ℕ) → eqb (suc j) 0 ≡ false
other_first j = grind (arith, nat_tests)

first_other : (a : ℕ) → eqb 0 (suc a) ≡ false
first_other a = grind (arith, nat_tests)

both_next : (j a : ℕ) → eqb (suc j) (suc a) ≡ eqb j a
both_next j a = grind (arith, nat_tests)

first_set : (b : Bool) (n : ℕ) → b ≡ true → 0 < cond b 1 0 + n
first_set true n e = omega arith
first_set false n e = absurd (no_way e)

-- ---- how many are set

module _ (ls : List Line) where
  abbrev odd : ℕ → Bool
  odd o = is_odd_list (own o ls)

  more_set : (first n : ℕ) → set_marks (odds first (suc n) ls) ≡ cond (odd first) 1 0 + set_marks (odds (first + 1) n ls)
  more_set first n = sum_by-cons (λ (b : Bool). cond b 1 0) (odd first) (odds (first + 1) n ls)

  none_set : (first n : ℕ) → ((j : ℕ) → j < n → odd (first + j) ≡ false) → set_marks (odds first n ls) ≡ 0
  none_set first zero h = refl
  none_set first (suc n) h =
      let start : first + 0 ≡ first = omega arith in
      more_set first n
      ∙ ap₂ (λ b k. cond b 1 0 + k) (sym (ap odd start) ∙ h 0 (omega arith)) (none_set (first + 1) n (λ j l. let e : first + 1 + j ≡ first + suc j = omega arith in ap odd e ∙ h (suc j) (omega arith)))

  one_set : (first n a : ℕ) → a < n → ((j : ℕ) → j < n → odd (first + j) ≡ eqb j a) → set_marks (odds first n ls) ≡ 1
  one_set first zero a l h = absurd (omega arith)
  one_set first (suc n) zero l h =
      let start : first + 0 ≡ first = omega arith in
      more_set first n
      ∙ ap₂ (λ b k. cond b 1 0 + k) (sym (ap odd start) ∙ h 0 (omega arith)) (none_set (first + 1) n (λ j m. let e : first + 1 + j ≡ first + suc j = omega arith in ap odd e ∙ h (suc j) (omega arith) ∙ other_first j))
  one_set first (suc n) (suc a) l h =
      let start : first + 0 ≡ first = omega arith in
      more_set first n
      ∙ ap₂ (λ b k. cond b 1 0 + k) (sym (ap odd start) ∙ h 0 (omega arith) ∙ first_other a) (one_set (first + 1) n a (omega arith) (λ j m. let e : first + 1 + j ≡ first + suc j = omega arith in ap odd e ∙ h (suc j) (omega arith) ∙ both_next j a))

  some_set : (first n a : ℕ) → a < n → odd (first + a) ≡ true → 0 < set_marks (odds first n ls)
  some_set first zero a l h = absurd (omega arith)
  some_set first (suc n) zero l h =
      let start : first + 0 ≡ first = omega arith in
      subst (λ k. 0 < k) (sym (more_set first n)) (first_set (odd first) (set_marks (odds (first + 1) n ls)) (sym (ap odd start) ∙ h))
  some_set first (suc n) (suc a) l h =
      let e : first + suc a ≡ first + 1 + a = omega arith in
      let r = some_set (first + 1) n a (omega arith) (sym (ap odd e) ∙ h) in
      omega (arith, more_set first n, r)

  -- ---- right by both

  module _ (c : Counts) (areas covers : Owners) (h : (o : ℕ) → holds c.areas (record { areas = areas; covers = covers }) o ≡ odd o) where
    area_odd : (j : ℕ) → j < c.areas → odd (0 + j) ≡ has areas j
    area_odd j l =
        let e : 0 + j ≡ j = omega arith in
        let t : nat_lt j c.areas ≡ true = grind (arith, nat_tests) in
        ap odd e ∙ sym (h j) ∙ ap (λ b. cond b (has areas j) (has covers j)) t

    cover_odd : (j : ℕ) → odd (c.areas + j) ≡ has covers (c.areas + j)
    cover_odd j =
        let t : nat_lt (c.areas + j) c.areas ≡ false = grind (arith, nat_tests) in
        sym (h (c.areas + j)) ∙ ap (λ b. cond b (has areas (c.areas + j)) (has covers (c.areas + j))) t

  right_some : (n m : ℕ) → set_marks (odds 0 n ls) ≡ 1 → 0 < set_marks (odds n m ls) → is_right_by (odds 0 n ls) (odds n m ls) ≡ true
  right_some n m e l = by_numbers (set_marks (odds 0 n ls)) (set_marks (odds n m ls)) e l
    where
      by_numbers : (a k : ℕ) → a ≡ 1 → 0 < k → cond (nat_lt 0 k) (eqb a 1) (eqb a 0) ≡ true
      by_numbers a k e l = let t : nat_lt 0 k ≡ true = grind (arith, nat_tests) in ap₂ (λ b x. cond b (eqb x 1) (eqb x 0)) t e

  right_none : (n m : ℕ) → set_marks (odds 0 n ls) ≡ 0 → set_marks (odds n m ls) ≡ 0 → is_right_by (odds 0 n ls) (odds n m ls) ≡ true
  right_none n m e f = ap₂ (λ a k. cond (nat_lt 0 k) (eqb a 1) (eqb a 0)) e f

  -- a cover and an area
  covered : (c : Counts) (a k : ℕ) (covers : Owners) → ((o : ℕ) → holds c.areas (record { areas = One a; covers = covers }) o ≡ odd o) → has covers k ≡ true → (leb c.areas k && ltb k (c.areas + c.covers)) ≡ true → ltb a c.areas ≡ true → is_right_by (odds 0 c.areas ls) (odds c.areas c.covers ls) ≡ true
  covered c a k covers h e f g =
      let low : c.areas ≤ k = grind (arith, nat_tests) in
      let high : k < c.areas + c.covers = grind (arith, nat_tests) in
      let within : a < c.areas = grind (arith, nat_tests) in
      let at : c.areas + (k - c.areas) ≡ k = omega arith in
      right_some c.areas c.covers
      (one_set 0 c.areas a within (λ j l. area_odd c (One a) covers h j l))
      (some_set c.areas c.covers (k - c.areas) (omega arith) (cover_odd c (One a) covers h (k - c.areas) ∙ ap (has covers) at ∙ e))

  pub right_by_holders : (c : Counts) (areas covers : Owners) → ((o : ℕ) → holds c.areas (record { areas = areas; covers = covers }) o ≡ odd o) → are_right c covers areas ≡ true → is_right_by (odds 0 c.areas ls) (odds c.areas c.covers ls) ≡ true
  right_by_holders c Nobody Nobody h e = right_none c.areas c.covers (none_set 0 c.areas (λ j l. area_odd c Nobody Nobody h j l)) (none_set c.areas c.covers (λ j l. cover_odd c Nobody Nobody h j))
  right_by_holders c (One a) Nobody h e = absurd (no_way e)
  right_by_holders c (Two a b) Nobody h e = absurd (no_way e)
  right_by_holders c Nobody (One k) h e = absurd (last_false (leb c.areas k && ltb k (c.areas + c.covers)) e)
  right_by_holders c (One a) (One k) h e = let t = both_true _ _ e in covered c a k (One k) h (same k) t.0 t.1
  right_by_holders c (Two a b) (One k) h e = absurd (last_false (leb c.areas k && ltb k (c.areas + c.covers)) e)
  right_by_holders c Nobody (Two k l) h e = absurd (last_false (leb c.areas k && ltb k (c.areas + c.covers)) e)
  right_by_holders c (One a) (Two k l) h e = let t = both_true _ _ e in covered c a k (Two k l) h (ap (λ b. b || eqb k l) (same k)) t.0 t.1
  right_by_holders c (Two a b) (Two k l) h e = absurd (last_false (leb c.areas k && ltb k (c.areas + c.covers)) e)
