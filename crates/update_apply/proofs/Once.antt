-- No number stands twice in a list after changes.
use Rattle.std.proofs.Common.{◌≡◌, ◌≢◌, ℕ, zero, suc, ◌<◌, Bool, true, false, cond, Some, Ok, List, [], ◌∷◌, ◌++◌, length, map, filter, get_or, refl, sym, ap, subst, ◌∙◌, eqb, arith}
use Rattle.std.specs.Prelude.{not, ◌||◌, AllPairs}
use Rattle.std.proofs.lemmas.Bool.{false≢true, eqb-true, eqb-false, or_parts, not-true}
use Rattle.std.proofs.lemmas.List.Quantifiers.{all_pairs_push}
use Rattle.std.proofs.lemmas.List.Kept.{AllPairs-filter}
use Rattle.std.specs.Option.{is_some}
use Rattle.chart_model.specs.Numbers.{has}
use Rattle.chart_model.specs.declared.records.Parts.{Parts}
use Rattle.update_reader.specs.declared.change.Deed.{Deed}
use Rattle.update_reader.specs.declared.change.Change.{Change}
use Rattle.update_reader.specs.declared.change.Deed.TheVariants.{Insert, Delete, Modify}
use Rattle.update_reader.specs.declared.change.Change.TheVariants.{OfIsolated, OfConnected, OfEdges, OfFeatures}
use Rattle.record_table.specs.Records.{is_numbered}
use Rattle.readings.specs.Readings.{◌>>=◌, need}
use Rattle.update_apply.specs.Law.{HasOnce, KeepsOnce}
use Rattle.update_apply.specs.Making.{Keyed, isolated, connected, edges, features, record_at, record_due, list_after, parts_after_change, parts_after}
use Rattle.update_reader.specs.declared.fault.UpdateFault.TheVariants as fault
use Rattle.update_apply.proofs.Steps.{same_ok, passes, passes_test, test_holds, due_is, KeepsNumbers, EditLaws, isolated_numbers, connected_numbers, edge_numbers, feature_numbers}

has_not : (ns : List ℕ) (n : ℕ) → has ns n ≡ false → (k d : ℕ) → k < length ns → get_or ns k d ≢ n
has_not [] n out k d l = absurd (omega arith)
has_not (m ∷ ms) n out zero d l = eqb-false m n (or_parts (eqb m n) (has ms n) out).0
has_not (m ∷ ms) n out (suc k) d l = has_not ms n (or_parts (eqb m n) (has ms n) out).1 k d (omega arith)

none_has : {X : Type 0} (k : Keyed X) (n : ℕ) (xs : List X) → is_some (record_at k n xs) ≡ false → has (map k.number xs) n ≡ false
none_has k n [] h = refl
none_has k n (x ∷ xs) h = by_test (is_numbered k.number n x) h (none_has k n xs)
  where
    by_test : (b : Bool) → is_some (cond b (Some x) (record_at k n xs)) ≡ false → (is_some (record_at k n xs) ≡ false → has (map k.number xs) n ≡ false) → (b || has (map k.number xs) n) ≡ false
    by_test true h rest = absurd (false≢true (sym h))
    by_test false h rest = rest h

map_end : {X : Type 0} (f : X → ℕ) (xs : List X) (x : X) → map f (xs ++ x ∷ []) ≡ map f xs ++ f x ∷ []
map_end f [] x = refl
map_end f (z ∷ zs) x = ap (λ ns. f z ∷ ns) (map_end f zs x)

map_filter : {X : Type 0} (f : X → ℕ) (p : ℕ → Bool) (xs : List X) → map f (filter (λ x. p (f x)) xs) ≡ filter p (map f xs)
map_filter f p [] = refl
map_filter f p (x ∷ xs) = by_test (p (f x)) (map_filter f p xs)
  where
    by_test : (b : Bool) → map f (filter (λ x. p (f x)) xs) ≡ filter p (map f xs) → map f (cond b (x ∷ filter (λ x. p (f x)) xs) (filter (λ x. p (f x)) xs)) ≡ cond b (f x ∷ filter p (map f xs)) (filter p (map f xs))
    by_test true rest = ap (λ ns. f x ∷ ns) rest
    by_test false rest = rest

map_replaced : {X : Type 0} (f : X → ℕ) (n : ℕ) (new : X) (xs : List X) → f new ≡ n → map f (map (λ x. cond (eqb (f x) n) new x) xs) ≡ map f xs
map_replaced f n new [] is = refl
map_replaced f n new (x ∷ xs) is = by_test (eqb (f x) n) refl (map_replaced f n new xs is)
  where
    by_test : (b : Bool) → eqb (f x) n ≡ b → map f (map (λ x. cond (eqb (f x) n) new x) xs) ≡ map f xs → f (cond b new x) ∷ map f (map (λ x. cond (eqb (f x) n) new x) xs) ≡ f x ∷ map f xs
    by_test true e rest = ap (λ ns. f new ∷ ns) rest ∙ ap (λ m. m ∷ map f xs) (is ∙ sym (eqb-true (f x) n e))
    by_test false e rest = ap (λ ns. f x ∷ ns) rest

abbrev Once : {X : Type 0} → Keyed X → List X → Type 0
Once k xs = AllPairs ◌≢◌ (map k.number xs)

list_once : {X : Type 0} (k : Keyed X) → KeepsNumbers k → (d : Deed X) (xs ys : List X) → Once k xs → list_after k d xs ≡ Ok ys → Once k ys
unfolding list_after
list_once {X} k numbers (Insert x) xs ys once h =
    let new : not (is_some (record_at k (k.number x) xs)) ≡ true = test_holds (not (is_some (record_at k (k.number x) xs))) (fault.There k.rcnm (k.number x)) (need (eqb (k.version x) 1) (fault.Version k.rcnm (k.number x)) >>= λ _. Ok (xs ++ x ∷ [])) ys h in
    let rest = passes_test (not (is_some (record_at k (k.number x) xs))) (fault.There k.rcnm (k.number x)) (need (eqb (k.version x) 1) (fault.Version k.rcnm (k.number x)) >>= λ _. Ok (xs ++ x ∷ [])) ys h in
    let end : Ok (xs ++ x ∷ []) ≡ Ok ys = passes_test (eqb (k.version x) 1) (fault.Version k.rcnm (k.number x)) (Ok (xs ++ x ∷ [])) ys rest in
    let is : xs ++ x ∷ [] ≡ ys = same_ok (Ok (xs ++ x ∷ [])) (xs ++ x ∷ []) ys refl end in
    let more = all_pairs_push ◌≢◌ (map k.number xs) (k.number x) once (has_not (map k.number xs) (k.number x) (none_has k (k.number x) xs (not-true (is_some (record_at k (k.number x) xs)) new))) in
    subst (Once k) is (subst (AllPairs ◌≢◌) (sym (map_end k.number xs x)) more)
list_once {X} k numbers (Delete n rver) xs ys once h =
    let step = passes (record_due k n rver xs) (λ _. Ok (filter (λ x. not (is_numbered k.number n x)) xs)) ys h in
    let is : filter (λ x. not (is_numbered k.number n x)) xs ≡ ys = same_ok (Ok (filter (λ x. not (is_numbered k.number n x)) xs)) (filter (λ x. not (is_numbered k.number n x)) xs) ys refl step.next in
    subst (Once k) is (subst (AllPairs ◌≢◌) (sym (map_filter k.number (λ m. not (eqb m n)) xs)) (AllPairs-filter ◌≢◌ (λ m. not (eqb m n)) (map k.number xs) once))
list_once {X} k numbers (Modify n rver e) xs ys once h =
    let found = passes (record_due k n rver xs) (λ old. k.edited rver e old >>= λ new. Ok (map (λ x. cond (is_numbered k.number n x) new x) xs)) ys h in
    let step = passes (k.edited rver e found.value) (λ new. Ok (map (λ x. cond (is_numbered k.number n x) new x) xs)) ys found.next in
    let is : map (λ x. cond (is_numbered k.number n x) step.value x) xs ≡ ys = same_ok (Ok (map (λ x. cond (is_numbered k.number n x) step.value x) xs)) (map (λ x. cond (is_numbered k.number n x) step.value x) xs) ys refl step.next in
    let number : k.number step.value ≡ n = numbers rver e found.value step.value step.is ∙ due_is k n rver xs found.value found.is in
    subst (Once k) is (subst (AllPairs ◌≢◌) (sym (map_replaced k.number n step.value xs number)) once)

once_after : EditLaws → (change : Change) (old new : Parts) → HasOnce old → parts_after_change change old ≡ Ok new → HasOnce new
once_after laws (OfIsolated d) old new once h =
    let step = passes (list_after isolated d old.isolated) (λ list. Ok (record old { isolated = list })) new h in
    subst HasOnce (same_ok (Ok (record old { isolated = step.value })) (record old { isolated = step.value }) new refl step.next)
    (record { isolated = list_once isolated (isolated_numbers laws) d old.isolated step.value once.isolated step.is; connected = once.connected; edges = once.edges; features = once.features })
once_after laws (OfConnected d) old new once h =
    let step = passes (list_after connected d old.connected) (λ list. Ok (record old { connected = list })) new h in
    subst HasOnce (same_ok (Ok (record old { connected = step.value })) (record old { connected = step.value }) new refl step.next)
    (record { isolated = once.isolated; connected = list_once connected (connected_numbers laws) d old.connected step.value once.connected step.is; edges = once.edges; features = once.features })
once_after laws (OfEdges d) old new once h =
    let step = passes (list_after edges d old.edges) (λ list. Ok (record old { edges = list })) new h in
    subst HasOnce (same_ok (Ok (record old { edges = step.value })) (record old { edges = step.value }) new refl step.next)
    (record { isolated = once.isolated; connected = once.connected; edges = list_once edges (edge_numbers laws) d old.edges step.value once.edges step.is; features = once.features })
once_after laws (OfFeatures d) old new once h =
    let step = passes (list_after features d old.features) (λ list. Ok (record old { features = list })) new h in
    subst HasOnce (same_ok (Ok (record old { features = step.value })) (record old { features = step.value }) new refl step.next)
    (record { isolated = once.isolated; connected = once.connected; edges = once.edges; features = list_once features (feature_numbers laws) d old.features step.value once.features step.is })

pub keeps_once : EditLaws → KeepsOnce
keeps_once laws [] old new once h = subst HasOnce (same_ok (Ok old) old new refl h) once
keeps_once laws (c ∷ cs) old new once h =
    let step = passes (parts_after_change c old) (parts_after cs) new h in
    keeps_once laws cs step.value new (once_after laws c old step.value once step.is) step.next
