-- Parts are whole exactly where no cause of refusal is due.
use Rattle.std.proofs.Common.{◌≡◌, ◌≢◌, ℕ, ◌<◌, Bool, true, false, cond, not, Option, Some, None, List, [], ◌∷◌, ◌++◌, length, eqb, get_or, refl, sym, ◌∙◌, ap, ap₂, subst, append_assoc, arith, Result, Ok, Err, ⊎_elim}
use Rattle.std.proofs.lemmas.Bool.{true≢false, eq-eqb}
use Rattle.std.proofs.lemmas.List.{append-nil, get_or_append_left, get_or_at, length-append}
use Rattle.std.proofs.lemmas.List.Elements.{All-cons, All-head, All-tail, All-nil, All-weaker}
use Rattle.std.proofs.lemmas.List.Folds.{list_any_at, list_any_none}
use Rattle.std.proofs.lemmas.List.Quantifiers.{all_pairs_push}
use Rattle.std.specs.Bool.{IsTrue}
use Rattle.std.specs.List.{All, AllPairs, find}
use Rattle.std.specs.Option.{option_map, option_or}
use Rattle.std.specs.Result.{IfErr, IsOkUnless}
use Rattle.chart_model.proofs.Indexing.{not_equal}
use Rattle.chart_model.specs.Closed.{is_open_area}
use Rattle.chart_model.specs.Numbers.{has, repeated, repeated_after, isolated_numbers, connected_numbers, edge_numbers, feature_numbers}
use Rattle.chart_model.specs.References.{names, stands}
use Rattle.chart_model.specs.Whole.{IsWellFormed, IsWhole, first_fault, first_lost, first_open, first_twice, twice, Refuses}
use Rattle.chart_model.specs.declared.fault.PartFault.{PartFault}
use Rattle.chart_model.specs.declared.fault.PartFault.TheVariants.{Twice, Lost, Unclosed, NoMemory}
use Rattle.chart_model.specs.declared.lost.Name.{Name}
use Rattle.chart_model.specs.declared.records.Feature.{Feature}
use Rattle.chart_model.specs.declared.records.Parts.{Parts}

-- ---- options

some_none : {X : Type 0} (x : X) → Some x ≡ None → ⊥
some_none x e = cc

pub neither : {X : Type 0} (a b : Option X) → option_or a b ≡ None → (a ≡ None) × (b ≡ None)
neither None b e = (refl, e)
neither (Some x) b e = absurd (some_none x e)

unmapped : {X Y : Type 0} (f : X → Y) (o : Option X) → option_map f o ≡ None → o ≡ None
unmapped f None e = refl
unmapped f (Some x) e = absurd (some_none (f x) e)

-- ---- numbers once

has_not : (ns : List ℕ) (n : ℕ) → has ns n ≡ false → (k : ℕ) (d : ℕ) → k < length ns → get_or ns k d ≢ n
has_not ns n e k d h s = true≢false (sym (list_any_at (λ m. eqb m n) ns k d h (eq-eqb _ _ s)) ∙ e)

once_after : (before ns : List ℕ) → AllPairs ◌≢◌ before → repeated_after before ns ≡ None → AllPairs ◌≢◌ (before ++ ns)
once_after before [] once e = subst (AllPairs ◌≢◌) (sym (append-nil before)) once
once_after before (n ∷ ns) once e = by_test (has before n) refl e (once_after (before ++ n ∷ []) ns)
  where
    by_test : (b : Bool) → has before n ≡ b → cond b (Some n) (repeated_after (before ++ n ∷ []) ns) ≡ None → (AllPairs ◌≢◌ (before ++ n ∷ []) → repeated_after (before ++ n ∷ []) ns ≡ None → AllPairs ◌≢◌ ((before ++ n ∷ []) ++ ns)) → AllPairs ◌≢◌ (before ++ n ∷ ns)
    by_test true t f rec = absurd (some_none n f)
    by_test false t f rec = subst (AllPairs ◌≢◌) (append_assoc before (n ∷ []) ns) (rec (all_pairs_push ◌≢◌ before n once (has_not before n t)) f)

pub once_from : (ns : List ℕ) → repeated ns ≡ None → AllPairs ◌≢◌ ns
once_from ns e = once_after [] ns (λ i j d h b. absurd (omega arith)) e

none_after : (before ns : List ℕ) → AllPairs ◌≢◌ (before ++ ns) → repeated_after before ns ≡ None
none_after before [] once = refl
none_after before (n ∷ ns) once =
    ap (λ t. cond t (Some n) (repeated_after (before ++ n ∷ []) ns)) new ∙ none_after (before ++ n ∷ []) ns (subst (AllPairs ◌≢◌) (sym (append_assoc before (n ∷ []) ns)) once)
  where
    new : has before n ≡ false
    new = list_any_none (λ m. eqb m n) before (λ k d h. not_equal _ n (λ s. once k (length before) d h (omega (arith, length-append before (n ∷ ns))) (get_or_append_left before (n ∷ ns) d k h ∙ s ∙ sym (get_or_at before n ns d (length before) refl))))

pub none_from_once : (ns : List ℕ) → AllPairs ◌≢◌ ns → repeated ns ≡ None
none_from_once ns once = none_after [] ns once

-- ---- nothing found

nothing : {X : Type 0} (q : X → Bool) (xs : List X) → find q xs ≡ None → All (λ x. q x ≡ false) xs
nothing q [] e = All-nil (λ x. q x ≡ false)
nothing q (x ∷ xs) e = by_test (q x) refl e (nothing q xs)
  where
    by_test : (b : Bool) → q x ≡ b → cond b (Some x) (find q xs) ≡ None → (find q xs ≡ None → All (λ y. q y ≡ false) xs) → All (λ y. q y ≡ false) (x ∷ xs)
    by_test true t f rec = absurd (some_none x f)
    by_test false t f rec = All-cons (λ y. q y ≡ false) x xs t (rec f)

none_found : {X : Type 0} (q : X → Bool) (xs : List X) → All (λ x. q x ≡ false) xs → find q xs ≡ None
none_found q [] a = refl
none_found q (x ∷ xs) a = ap (λ t. cond t (Some x) (find q xs)) (All-head (λ y. q y ≡ false) x xs a) ∙ none_found q xs (All-tail (λ y. q y ≡ false) x xs a)

turned_over : (b : Bool) → not b ≡ false → b ≡ true
turned_over true e = refl
turned_over false e = absurd (true≢false e)

-- ---- the law

pub connected_once : (c : Parts) → first_twice c ≡ None → AllPairs ◌≢◌ (connected_numbers c)
connected_once c e = once_from (connected_numbers c) (unmapped (Twice 120) _ (neither (twice 120 (connected_numbers c)) _ (neither (twice 110 (isolated_numbers c)) _ e).1).0)

pub whole_from : (c : Parts) → IsWellFormed c → first_fault c ≡ None → IsWhole c
whole_from c w e = record {
  well_formed = w;
  isolated_once = once_from _ (unmapped (Twice 110) _ one.0);
  connected_once = connected_once c both.0;
  edges_once = once_from _ (unmapped (Twice 130) _ three.0);
  features_once = once_from _ (unmapped (Twice 100) _ three.1);
  found = All-weaker (λ n. not (stands c n) ≡ false) (λ n. IsTrue (stands c n)) (λ n. turned_over (stands c n)) (names c) (nothing (λ n. not (stands c n)) (names c) (unmapped (λ (n : Name). Lost n.rcnm n.rcid) _ last.0));
  closed = All-weaker (λ f. is_open_area c f ≡ false) (λ f. IsTrue (not (is_open_area c f))) (λ f. ap not) c.features (nothing (is_open_area c) c.features (unmapped (λ (f : Feature). Unclosed f.rcid) _ last.1));
}
  where
    both : (first_twice c ≡ None) × (option_or (first_lost c) (first_open c) ≡ None)
    both = neither (first_twice c) _ e

    last : (first_lost c ≡ None) × (first_open c ≡ None)
    last = neither (first_lost c) _ both.1

    one : (twice 110 (isolated_numbers c) ≡ None) × (option_or (twice 120 (connected_numbers c)) (option_or (twice 130 (edge_numbers c)) (twice 100 (feature_numbers c))) ≡ None)
    one = neither (twice 110 (isolated_numbers c)) _ both.0

    three : (twice 130 (edge_numbers c) ≡ None) × (twice 100 (feature_numbers c) ≡ None)
    three = neither (twice 130 (edge_numbers c)) _ (neither (twice 120 (connected_numbers c)) _ one.1).1

none_of_both : {X : Type 0} (a b : Option X) → a ≡ None → b ≡ None → option_or a b ≡ None
none_of_both a b e f = ap₂ option_or e f

once_kind : (rcnm : ℕ) (ns : List ℕ) → AllPairs ◌≢◌ ns → twice rcnm ns ≡ None
once_kind rcnm ns once = ap (option_map (Twice rcnm)) (none_from_once ns once)

stands_not : (b : Bool) → IsTrue b → not b ≡ false
stands_not b t = ap not t

not_open : (b : Bool) → IsTrue (not b) → b ≡ false
not_open false t = refl
not_open true t = absurd (true≢false (sym t))

pub none_due : (c : Parts) → IsWhole c → first_fault c ≡ None
none_due c w =
    none_of_both (first_twice c) _
    (none_of_both (twice 110 (isolated_numbers c)) _ (once_kind 110 _ w.isolated_once) (none_of_both (twice 120 (connected_numbers c)) _ (once_kind 120 _ w.connected_once) (none_of_both (twice 130 (edge_numbers c)) _ (once_kind 130 _ w.edges_once) (once_kind 100 _ w.features_once))))
    (none_of_both (first_lost c) (first_open c)
    (ap (option_map (λ (n : Name). Lost n.rcnm n.rcid)) (none_found (λ n. not (stands c n)) (names c) (All-weaker (λ n. IsTrue (stands c n)) (λ n. not (stands c n) ≡ false) (λ n. stands_not (stands c n)) (names c) w.found)))
    (ap (option_map (λ (f : Feature). Unclosed f.rcid)) (none_found (is_open_area c) c.features (All-weaker (λ f. IsTrue (not (is_open_area c f))) (λ f. is_open_area c f ≡ false) (λ f. not_open (is_open_area c f)) c.features w.closed))))

-- whole parts are refused for want of memory alone
pub only_memory : {T : Type 0} (c : Parts) (r : Result T PartFault) → IfErr r (Refuses (first_fault c)) → IsWhole c → IsOkUnless r NoMemory
only_memory c (Ok x) h w = tt
only_memory c (Err e) h w = ⊎_elim (λ (m : e ≡ NoMemory). m) (λ (d : first_fault c ≡ Some e). absurd (some_none e (sym d ∙ none_due c w))) h
