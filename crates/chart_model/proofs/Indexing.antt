-- From the entries as they stand to an index, and what a look-up in an index finds.
use Rattle.std.proofs.Common.{◌≡◌, ℕ, ◌+◌, ◌-◌, ◌<◌, ◌≤◌, true, false, List, [], ◌∷◌, ◌++◌, length, eqb, ltb, get_or, ◌≢◌, refl, sym, ◌∙◌, ap, subst, ⊎_elim, arith}
use Rattle.std.proofs.lemmas.Bool.{cases_lt, eq-eqb, ltb-true, ltb-false, true≢false}
use Rattle.std.proofs.lemmas.Bool.Decides.{eqb_tells}
use Rattle.std.proofs.lemmas.List.{get_or_default, get_or_append_left, get_or_push, length_push}
use Rattle.std.proofs.lemmas.List.Sorted.{All-permutation, Contains-permutation, length_permutation, ranks_by, sorted_far}
use Rattle.std.proofs.lemmas.List.Sums.{position_or_len_is}
use Rattle.std.proofs.lemmas.Cmp.{ranked, then_total, on_total, nat_cmp_total}
use Rattle.std.specs.Cmp.{IsTotalOrder}
use Rattle.std.specs.Ordering.{MatchOrdering, is_lt, ordering_then, nat_cmp}
use Rattle.std.specs.declared.cmp.Ordering.{Ordering}
use Rattle.std.specs.declared.cmp.Ordering.TheVariants.{Less, Equal, Greater}
use Rattle.std.specs.List.Sorted.{IsNonDecreasingBy, IsPermutation, IsSorted}
use Rattle.std.specs.List.{AllWithin, Contains, position_or_len}
use Rattle.chart_model.specs.declared.index.Entry.{Entry}
use Rattle.chart_model.specs.Index.{AreFirst, AreOrdered, IsEntry, IsFirstAt, IsIndex, IsLowerBound, IsUpTo}

pub first_none : (numbers : List ℕ) (entries : List Entry) → entries ≡ [] → AreFirst numbers 0 entries
first_none numbers entries e = record { as_long = ap length e; each = λ k d h. absurd (omega arith) }

pub first_more : (numbers : List ℕ) (n : ℕ) (entries : List Entry) (x : Entry) → AreFirst numbers n entries → x ≡ record { number = get_or numbers n 0; place = n } → AreFirst numbers (n + 1) (entries ++ x ∷ [])
first_more numbers n entries x f e = record {
  as_long = length_push entries x ∙ ap (λ m. m + 1) f.as_long;
  each = λ k d h. ⊎_elim (λ (b : k < n). get_or_append_left entries (x ∷ []) d k (omega (arith, f.as_long)) ∙ f.each k d b)
      (λ (b : n ≤ k). let s : n ≡ k = omega arith in subst (λ m. get_or (entries ++ x ∷ []) m d ≡ record { number = get_or numbers m 0; place = m }) s (get_or_push entries x d n f.as_long ∙ e)) (cases_lt k n);
}

-- ---- order

abbrev entry_cmp : Entry → Entry → Ordering
entry_cmp a b = ordering_then (nat_cmp a.number b.number) (nat_cmp a.place b.place)

entry_total : IsTotalOrder entry_cmp
entry_total = then_total (on_total (λ (e : Entry). e.number) nat_cmp_total) (on_total (λ (e : Entry). e.place) nat_cmp_total)

not_before : (m n p q : ℕ) → is_lt (ordering_then (nat_cmp m n) (nat_cmp p q)) ≡ false → (n ≤ m) × (n ≡ m → q ≤ p)
not_before m n p q h = by_places (nat_cmp m n) (nat_cmp p q) (ranked m n _ refl) (ranked p q _ refl) h
  where
    by_places : (o r : Ordering) → MatchOrdering o (m < n) (m ≡ n) (n < m) → MatchOrdering r (p < q) (p ≡ q) (q < p) → is_lt (ordering_then o r) ≡ false → (n ≤ m) × (n ≡ m → q ≤ p)
    by_places Less r a b h = absurd (true≢false h)
    by_places Equal Less a b h = absurd (true≢false h)
    by_places Equal Equal a b h = (omega arith, λ e. omega arith)
    by_places Equal Greater a b h = (omega arith, λ e. omega arith)
    by_places Greater r a b h = (omega arith, λ e. omega arith)

up_to : (a b : Entry) → is_lt (entry_cmp b a) ≡ false → IsUpTo a b
up_to a b h = let f : (a.number ≤ b.number) × (a.number ≡ b.number → a.place ≤ b.place) = not_before b.number a.number b.place a.place h in record { number = f.0; place = f.1 }

pub index_from : (numbers : List ℕ) (from to : List Entry) → AreFirst numbers (length numbers) from → IsPermutation from to → IsSorted entry_cmp to → IsIndex numbers to
index_from numbers from to f p s = record {
  as_long = length_permutation from to p ∙ f.as_long;
  right = All-permutation (IsEntry numbers) from to p (λ k d h. let b : k < length numbers = omega (arith, f.as_long) in subst (IsEntry numbers) (sym (f.each k d b)) (record { below = b; is = refl }));
  complete = λ k h. Contains-permutation from to _ p (k, omega (arith, f.as_long), f.each k _ h);
  ordered = λ i j d h b. up_to _ _ (sorted_far (λ x y. is_lt (entry_cmp x y)) (ranks_by entry_total (λ (e : Entry). e)) to s i j d h b);
}

-- ---- look-ups

pub lower_at : (entries : List Entry) (number at : ℕ) → IsFirstAt entries number at → AreOrdered entries → IsLowerBound entries number at
lower_at entries number at f o = record {
  within = omega (arith, f.within);
  before = λ k d h. let a : 0 < at = omega arith in let l = f.lower d a in let u : (get_or entries k d).number ≤ (get_or entries (at - 1) d).number = (o k (at - 1) d (omega arith) (omega (arith, f.within))).number in omega arith;
  after = λ k d h b. let e = f.here d in let u : (get_or entries at d).number ≤ (get_or entries k d).number = (o at k d h b).number in omega arith;
}

-- a number in the list stands in the index, at or after its lower bound
at_or_after : (numbers : List ℕ) (entries : List Entry) (number at : ℕ) (d : Entry) (k : ℕ) → IsIndex numbers entries → IsLowerBound entries number at → k < length numbers → get_or numbers k 0 ≡ number → (at < length entries) × ((get_or entries at d).number ≤ number) × ((get_or entries at d).number ≡ number → (get_or entries at d).place ≤ k)
at_or_after numbers entries number at d k x l h e = by_place (x.complete k h)
  where
    entry : Entry
    entry = record { number = get_or numbers k 0; place = k }

    by_place : Contains entries entry → (at < length entries) × ((get_or entries at d).number ≤ number) × ((get_or entries at d).number ≡ number → (get_or entries at d).place ≤ k)
    by_place (i, b, is) = ⊎_elim
        (λ (low : i < at). absurd (let f : (get_or entries i entry).number < number = l.before i entry low in let g : (get_or entries i entry).number ≡ number = ap (λ (z : Entry). z.number) is ∙ e in omega arith))
        (λ (high : at ≤ i).
        let within : at < length entries = omega arith in
        let same : get_or entries at d ≡ get_or entries at entry = get_or_default entries at d entry within in
        let up : IsUpTo (get_or entries at d) entry = subst (λ z. IsUpTo z entry) (sym same) (subst (λ z. IsUpTo (get_or entries at entry) z) is (x.ordered at i entry high b)) in
        (within, (let n : (get_or entries at d).number ≤ get_or numbers k 0 = up.number in omega arith), λ (q : (get_or entries at d).number ≡ number). up.place (q ∙ sym e)))
        (cases_lt i at)

pub not_equal : (a b : ℕ) → (a ≡ b → ⊥) → eqb a b ≡ false
not_equal a b h = ⊎_elim (λ (t : (eqb a b ≡ true) × (a ≡ b)). absurd (h t.1)) (λ (f : (eqb a b ≡ false) × (a ≢ b)). f.0) (eqb_tells a b)

pub found_at : (numbers : List ℕ) (entries : List Entry) (number at : ℕ) (d : Entry) → IsIndex numbers entries → IsLowerBound entries number at → at < length entries → (get_or entries at d).number ≡ number → (get_or entries at d).place ≡ position_or_len (λ n. eqb n number) numbers
found_at numbers entries number at d x l b e =
    let here : IsEntry numbers (get_or entries at d) = x.right at d b in
    sym (position_or_len_is (λ n. eqb n number) numbers _ 0 (omega (arith, here.below))
    (λ k h. not_equal _ number (λ same. let f = at_or_after numbers entries number at d k x l (omega (arith, here.below)) same in let g : (get_or entries at d).place ≤ k = f.2 e in omega arith))
    (λ h. eq-eqb _ number (here.is ∙ e)))

pub missing : (numbers : List ℕ) (entries : List Entry) (number at : ℕ) (d : Entry) → IsIndex numbers entries → IsLowerBound entries number at → (at < length entries → (get_or entries at d).number ≢ number) → length entries ≡ position_or_len (λ n. eqb n number) numbers
missing numbers entries number at d x l n =
    x.as_long ∙ sym (position_or_len_is (λ n. eqb n number) numbers _ 0 (omega arith)
    (λ k h. not_equal _ number (λ same. let f = at_or_after numbers entries number at d k x l h same in let up : number ≤ (get_or entries at d).number = l.after at d (omega arith) f.0 in n f.0 (omega (arith, f.1))))
    (λ h. absurd (omega arith)))

pub first_more_pushed : (numbers : List ℕ) (n : ℕ) (entries pushed : List Entry) (x : Entry) → pushed ≡ entries ++ x ∷ [] → AreFirst numbers n entries → x ≡ record { number = get_or numbers n 0; place = n } → AreFirst numbers (n + 1) pushed
first_more_pushed numbers n entries pushed x p f e = subst (AreFirst numbers (n + 1)) (sym p) (first_more numbers n entries x f e)

pub rises : (entries : List Entry) → AreOrdered entries → IsNonDecreasingBy (λ (e : Entry). e.number) entries
rises entries o = λ i j d h b. (o i j d h b).number

pub lower_from : (entries : List Entry) (number at : ℕ) → at ≤ length entries → AllWithin (λ (e : Entry). ltb e.number number ≡ true) entries 0 at → AllWithin (λ (e : Entry). ltb e.number number ≡ false) entries at (length entries) → IsLowerBound entries number at
lower_from entries number at h below above = record {
  within = h;
  before = λ k d b. ltb-true _ _ (below k d (omega arith) b);
  after = λ k d b w. ltb-false _ _ (above k d b w);
}
