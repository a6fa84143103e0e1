-- Rising numbers: what toggling one does, and when two lists of them are one.
use Rattle.std.proofs.Common.{◌≡◌, ◌≢◌, ℕ, ◌+◌, zero, suc, ◌<◌, ◌≤◌, ltb, eqb, pos, Bool, true, false, cond, ◌||◌, ◌⊎◌, Result, Ok, Err, nat_cmp, List, [], ◌∷◌, length, get_or, take, refl, sym, ◌∙◌, ap, ap₂, subst, ⊎_elim, arith, eq-eqb}
use Rattle.std.proofs.lemmas.Bool.{cases_Bool, cases_lt, cases_order, cond_both, eqb-true, eqb-false, ne_eqb, ltb-true, ltb-false, lt-ltb, le-ltb, true≢false, false≢true}
use Rattle.std.proofs.lemmas.Bool.Decides.{nat_tests}
use Rattle.std.proofs.lemmas.List.Sorted.{searched}
use Rattle.std.proofs.lemmas.List.Sums.{fold_more}
use Rattle.std.specs.List.{insert, list_any, remove}
use Rattle.std.specs.List.Sorted.{IsBinarySearchResult}
use Rattle.std.specs.Result.{MatchResult}
use Rattle.chart_query.specs.Owners.{Rises, toggled, toggled_by}
use Rattle.chart_query.specs.declared.sides.Side.{Side}
use Rattle.plane_geom.specs.Geom.{passes, xor}
use Rattle.plane_geom.specs.declared.Point.{Point}

-- whether k is one of the numbers
abbrev pub has : ℕ → List ℕ → Bool
has k xs = list_any (λ x. eqb x k) xs

pub Rises-weaker : (low low' : ℕ) (xs : List ℕ) → low' ≤ low → Rises low xs → Rises low' xs
Rises-weaker low low' [] h r = r
Rises-weaker low low' (x ∷ xs) h r = (omega (arith, r.0), r.1)

pub has_below : (low j : ℕ) (xs : List ℕ) → j < low → Rises low xs → has j xs ≡ false
has_below low j [] h r = refl
has_below low j (x ∷ xs) h r = ap (λ b. b || has j xs) (ne_eqb x j (λ e. absurd (omega (arith, r.0)))) ∙ has_below (x + 1) j xs (omega (arith, r.0)) r.1

pub Rises-toggled : (low k : ℕ) (xs : List ℕ) → low ≤ k → Rises low xs → Rises low (toggled k xs)
Rises-toggled low k [] h r = (h, tt)
Rises-toggled low k (x ∷ xs) h r = cond_both (ltb k x) (k ∷ x ∷ xs) (cond (eqb x k) xs (x ∷ toggled k xs)) (Rises low)
    (λ e. let lt : k < x = ltb-true k x e in (h, (omega arith, r.1)))
    (λ e. cond_both (eqb x k) xs (x ∷ toggled k xs) (Rises low)
    (λ f. Rises-weaker (x + 1) low xs (omega (arith, r.0)) r.1)
    (λ f. let le : x ≤ k = ltb-false k x e in let ne : x ≢ k = eqb-false x k f in (r.0, Rises-toggled (x + 1) k xs (omega arith) r.1)))

put_in : (j k x : ℕ) (t : Bool) → k < x → (j < x + 1 → t ≡ false) → (eqb k j || (eqb x j || t)) ≡ xor (eqb x j || t) (eqb k j)
put_in j k x t h below = grind (arith, nat_tests)

taken_out : (j k x : ℕ) (t : Bool) → x ≡ k → (j < x + 1 → t ≡ false) → t ≡ xor (eqb x j || t) (eqb k j)
taken_out j k x t h below = grind (arith, nat_tests)

passed_by : (j k x : ℕ) (t t' : Bool) → x ≢ k → t' ≡ xor t (eqb k j) → (eqb x j || t') ≡ xor (eqb x j || t) (eqb k j)
passed_by j k x t t' h e = grind (arith, nat_tests)

pub has-toggled : (low j k : ℕ) (xs : List ℕ) → Rises low xs → has j (toggled k xs) ≡ xor (has j xs) (eqb k j)
has-toggled low j k [] r = or_false (eqb k j)
  where
    or_false : (b : Bool) → (b || false) ≡ b
    or_false true = refl
    or_false false = refl
has-toggled low j k (x ∷ xs) r = cond_both (ltb k x) (k ∷ x ∷ xs) (cond (eqb x k) xs (x ∷ toggled k xs)) (λ ys. has j ys ≡ xor (has j (x ∷ xs)) (eqb k j))
    (λ e. put_in j k x (has j xs) (ltb-true k x e) (λ h. has_below (x + 1) j xs h r.1))
    (λ e. cond_both (eqb x k) xs (x ∷ toggled k xs) (λ ys. has j ys ≡ xor (has j (x ∷ xs)) (eqb k j))
    (λ f. taken_out j k x (has j xs) (eqb-true x k f) (λ h. has_below (x + 1) j xs h r.1))
    (λ f. passed_by j k x (has j xs) (has j (toggled k xs)) (eqb-false x k f) (has-toggled (x + 1) j k xs r.1)))

-- two lists of rising numbers with the same numbers
pub same_rising : (low : ℕ) (xs ys : List ℕ) → Rises low xs → Rises low ys → ((k : ℕ) → has k xs ≡ has k ys) → xs ≡ ys
same_rising low [] [] r s e = refl
same_rising low [] (y ∷ ys) r s e = absurd (false≢true (e y ∙ ap (λ b. b || has y ys) (eq-eqb y y refl)))
same_rising low (x ∷ xs) [] r s e = absurd (true≢false (sym (ap (λ b. b || has x xs) (eq-eqb x x refl)) ∙ e x))
same_rising low (x ∷ xs) (y ∷ ys) r s e = ⊎_elim
    (λ (same : x ≡ y). ap₂ (λ k ks. k ∷ ks) same (same_rising (x + 1) xs ys r.1 (subst (λ k. Rises (k + 1) ys) (sym same) s.1) (λ k. rest same k (cases_Bool (ltb x k)))))
    (⊎_elim
    (λ (lt : x < y). absurd (true≢false (sym (ap (λ b. b || has x xs) (eq-eqb x x refl)) ∙ e x ∙ has_below y x (y ∷ ys) lt (omega arith, s.1))))
    (λ (gt : y < x). absurd (true≢false (sym (ap (λ b. b || has y ys) (eq-eqb y y refl)) ∙ sym (e y) ∙ has_below x y (x ∷ xs) gt (omega arith, r.1)))))
    (cases_order x y)
  where
    rest : x ≡ y → (k : ℕ) → (ltb x k ≡ true) ⊎ (ltb x k ≡ false) → has k xs ≡ has k ys
    rest same k above = ⊎_elim
        (λ (h : ltb x k ≡ true). let lt : x < k = ltb-true x k h in
        sym (ap (λ b. b || has k xs) (ne_eqb x k (λ f. absurd (omega arith)))) ∙ e k ∙ ap (λ b. b || has k ys) (ne_eqb y k (λ f. absurd (omega arith))))
        (λ (h : ltb x k ≡ false). let le : k ≤ x = ltb-false x k h in
        has_below (x + 1) k xs (omega arith) r.1 ∙ sym (has_below (y + 1) k ys (omega arith) s.1))
        above

rises_from : (low : ℕ) (xs : List ℕ) → Rises low xs → (j : ℕ) → j < length xs → low ≤ get_or xs j 0
rises_from low [] r j l = absurd (omega (arith, l))
rises_from low (x ∷ xs) r zero l = r.0
rises_from low (x ∷ xs) r (suc j) l = omega (arith, r.0, rises_from (x + 1) xs r.1 j (omega (arith, l)))

-- the numbers rise from place to place
pub ascends : (low : ℕ) (xs : List ℕ) → Rises low xs → (i j : ℕ) → i < j → j < length xs → get_or xs i 0 < get_or xs j 0
ascends low [] r i j h l = absurd (omega (arith, l))
ascends low (x ∷ xs) r i zero h l = absurd (omega (arith, h))
ascends low (x ∷ xs) r zero (suc j) h l = omega (arith, rises_from (x + 1) xs r.1 j (omega (arith, l)))
ascends low (x ∷ xs) r (suc i) (suc j) h l = ascends (x + 1) xs r.1 i j (omega (arith, h)) (omega (arith, l))

pub ascends_or_same : (low : ℕ) (xs : List ℕ) → Rises low xs → (i j : ℕ) → i ≤ j → j < length xs → get_or xs i 0 ≤ get_or xs j 0
ascends_or_same low xs r i j h l = ⊎_elim
    (λ (lt : i < j). omega (arith, ascends low xs r i j lt l))
    (λ (le : j ≤ i). let same : i ≡ j = omega arith in omega (arith, ap (λ k. get_or xs k 0) same))
    (cases_lt i j)

-- a number put in where those before are below it and those after above
pub inserted : (k : ℕ) (xs : List ℕ) (i : ℕ) → i ≤ length xs → ((n : ℕ) → n < i → get_or xs n 0 < k) → ((n : ℕ) → i ≤ n → n < length xs → k < get_or xs n 0) → insert xs i k ≡ toggled k xs
inserted k [] zero h below above = refl
inserted k [] (suc i) h below above = absurd (omega (arith, h))
inserted k (x ∷ xs) zero h below above = sym (ap (λ b. cond b (k ∷ x ∷ xs) (cond (eqb x k) xs (x ∷ toggled k xs))) (lt-ltb k x (above 0 (omega arith) (omega arith))))
inserted k (x ∷ xs) (suc i) h below above =
    ap (λ t. x ∷ t) (inserted k xs i (omega (arith, h)) (λ n l. below (suc n) (omega (arith, l))) (λ n l m. above (suc n) (omega (arith, l)) (omega (arith, m))))
    ∙ sym (ap₂ (λ b d. cond b (k ∷ x ∷ xs) (cond d xs (x ∷ toggled k xs))) (le-ltb k x (omega (arith, lower))) (ne_eqb x k (λ e. absurd (omega (arith, lower)))))
  where
    lower : x < k
    lower = below 0 (omega arith)

-- a number taken out where it is
pub removed : (k low : ℕ) (xs : List ℕ) (i : ℕ) → Rises low xs → i < length xs → get_or xs i 0 ≡ k → remove xs i ≡ toggled k xs
removed k low [] i r h e = absurd (omega (arith, h))
removed k low (x ∷ xs) zero r h e = sym (ap₂ (λ b d. cond b (k ∷ x ∷ xs) (cond d xs (x ∷ toggled k xs))) (le-ltb k x (omega (arith, e))) (eq-eqb x k e))
removed k low (x ∷ xs) (suc i) r h e =
    ap (λ t. x ∷ t) (removed k (x + 1) xs i r.1 (omega (arith, h)) e)
    ∙ sym (ap₂ (λ b d. cond b (k ∷ x ∷ xs) (cond d xs (x ∷ toggled k xs))) (le-ltb k x (omega (arith, lower))) (ne_eqb x k (λ f. absurd (omega (arith, lower)))))
  where
    lower : x < k
    lower = omega (arith, e, rises_from (x + 1) xs r.1 i (omega (arith, h)))

-- what a binary search finds is where to toggle
pub searched_for : (k : ℕ) (xs ys : List ℕ) (r : Result ℕ ℕ) → ys ≡ xs → Rises 0 xs → IsBinarySearchResult (λ y. nat_cmp y k) ys r
    → MatchResult r (λ i. remove xs i ≡ toggled k xs) (λ i. insert xs i k ≡ toggled k xs)
searched_for k xs ys r e rises h = by_answer r (searched xs k r (subst (λ t. IsBinarySearchResult (λ y. nat_cmp y k) t r) e h) (ascends_or_same 0 xs rises))
  where
    by_answer : (r : Result ℕ ℕ) → MatchResult r (λ i. (i < length xs) × (get_or xs i 0 ≡ k)) (λ i. (i ≤ length xs) × ((n : ℕ) → n < i → get_or xs n 0 < k) × ((n : ℕ) → i ≤ n → n < length xs → k < get_or xs n 0))
        → MatchResult r (λ i. remove xs i ≡ toggled k xs) (λ i. insert xs i k ≡ toggled k xs)
    by_answer (Ok i) h = removed k 0 xs i rises h.0 h.1
    by_answer (Err i) h = inserted k xs i h.0 h.1 h.2

-- one more side
pub one_toggled : (p : Point) (owners now then : List ℕ) (sides : List Side) (i : ℕ) (d : Side) (b : Bool) → i < length sides → Rises 0 now → now ≡ toggled_by p owners (take i sides)
    → b ≡ passes (get_or sides i d).segment p → then ≡ cond b (toggled (get_or sides i d).feature now) now
    → Rises 0 then × (then ≡ toggled_by p owners (take (i + 1) sides))
one_toggled p owners now then sides i d b h rises so_far test e = (subst (Rises 0) (sym e) (risen b), e ∙ ap₂ (λ t ks. cond t (toggled (get_or sides i d).feature ks) ks) test so_far ∙ sym (fold_more (λ ks (s : Side). cond (passes s.segment p) (toggled s.feature ks) ks) owners sides i d h))
  where
    risen : (b : Bool) → Rises 0 (cond b (toggled (get_or sides i d).feature now) now)
    risen true = Rises-toggled 0 (get_or sides i d).feature now (omega arith) rises
    risen false = rises

abbrev pub no_side : Side
no_side = record { segment = record { a = record { x = pos 0; y = pos 0 }; b = record { x = pos 0; y = pos 0 } }; feature = 0 }
