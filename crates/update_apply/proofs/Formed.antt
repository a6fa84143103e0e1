-- Changes keep the conditions of parts.
use Rattle.std.proofs.Common.{◌≡◌, ℕ, ◌+◌, ◌<◌, ◌≤◌, ◌^◌, Bool, true, false, cond, Some, Ok, find, List, [], ◌∷◌, ◌++◌, length, map, filter, refl, subst, eqb, arith}
use Rattle.std.specs.Prelude.{not, All, IsTrue}
use Rattle.std.specs.Option.{ok_or, is_some}
use Rattle.std.proofs.lemmas.List.{length-append, length-map}
use Rattle.std.proofs.lemmas.List.Elements.{All-head, All-tail, All-push, All-filter, All-map, All-weaker}
use Rattle.chart_model.specs.Whole.{IsText, HasTexts, IsWellFormed, has_some, is_made}
use Rattle.chart_model.specs.declared.records.Feature.{Feature}
use Rattle.chart_model.specs.declared.records.Isolated.{Isolated}
use Rattle.chart_model.specs.declared.records.Parts.{Parts}
use Rattle.record_table.specs.Records.{is_numbered}
use Rattle.readings.specs.Readings.{◌>>=◌, need}
use Rattle.record_values.specs.Sound.{AreTexts}
use Rattle.update_reader.specs.Sound.{IsSoundChange}
use Rattle.update_reader.specs.declared.change.Change.{Change}
use Rattle.update_reader.specs.declared.change.Deed.{Deed}
use Rattle.update_reader.specs.declared.change.Issue.{Issue}
use Rattle.update_reader.specs.declared.change.Deed.TheVariants.{Insert, Delete, Modify}
use Rattle.update_reader.specs.declared.change.Change.TheVariants.{OfIsolated, OfConnected, OfEdges, OfFeatures}
use Rattle.update_reader.specs.declared.fault.UpdateFault.TheVariants as fault
use Rattle.update_apply.specs.Applied.{with_issue}
use Rattle.update_apply.specs.Making.{Keyed, isolated, connected, edges, features, record_at, record_due, list_after, parts_after_change, parts_after}
use Rattle.update_apply.proofs.Steps.{same_ok, passes, passes_test, some_of, EditLaws}

-- ---- one list

-- what of a deed keeps P of all records: an inserted one has it, and a modified one has it where it had it
abbrev DeedKeeps : {X : Type 0} → Keyed X → (X → Type 0) → Deed X → Type 0
DeedKeeps k P (Insert x) = P x
DeedKeeps k P (Delete n rver) = Unit {0}
DeedKeeps {X} k P (Modify n rver e) = (x y : X) → P x → k.edited rver e x ≡ Ok y → P y

-- all have P, and there is at most one more
record IsKept {X : Type 0} (P : X → Type 0) (xs ys : List X) : Type 0 where
  all : All P ys
  few : length ys ≤ length xs + 1

few_filtered : {X : Type 0} (p : X → Bool) (xs : List X) → length (filter p xs) ≤ length xs
few_filtered p [] = omega arith
few_filtered p (x ∷ xs) = by_test (p x) (few_filtered p xs)
  where
    by_test : (b : Bool) → length (filter p xs) ≤ length xs → length (cond b (x ∷ filter p xs) (filter p xs)) ≤ length (x ∷ xs)
    by_test true h = omega arith
    by_test false h = omega arith

inserted : {X : Type 0} (P : X → Type 0) (xs : List X) (x : X) → P x → All P xs → IsKept P xs (xs ++ x ∷ [])
inserted P xs x one all = record { all = All-push P xs x all one; few = omega (arith, length-append xs (x ∷ [])) }

without : {X : Type 0} (P : X → Type 0) (p : X → Bool) (xs : List X) → All P xs → IsKept P xs (filter p xs)
without P p xs all = record { all = All-filter p P xs all; few = omega (arith, few_filtered p xs) }

chosen : {X : Type 0} (P : X → Type 0) (b : Bool) (x y : X) → P x → P y → P (cond b x y)
chosen P true x y f g = f
chosen P false x y f g = g

replaced : {X : Type 0} (P : X → Type 0) (p : X → Bool) (new : X) (xs : List X) → P new → All P xs → IsKept P xs (map (λ x. cond (p x) new x) xs)
replaced {X} P p new xs one all =
    let put : X → X = λ x. cond (p x) new x in
    record { all = All-map P put xs (All-weaker P (λ x. P (put x)) (λ x h. chosen P (p x) new x one h) xs all); few = omega (arith, length-map xs put) }

found_has : {X : Type 0} (P : X → Type 0) (p : X → Bool) (xs : List X) (x : X) → All P xs → find p xs ≡ Some x → P x
found_has P p [] x all h = absurd cc
found_has {X} P p (z ∷ zs) x all h = by_test (p z) h (found_has P p zs x (All-tail P z zs all))
  where
    by_test : (b : Bool) → cond b (Some z) (find p zs) ≡ Some x → (find p zs ≡ Some x → P x) → P x
    by_test true h rest = let is : z ≡ x = cc in subst P is (All-head P z zs all)
    by_test false h rest = rest h

due_has : {X : Type 0} (k : Keyed X) (P : X → Type 0) (n rver : ℕ) (xs : List X) (old : X) → All P xs → record_due k n rver xs ≡ Ok old → P old
due_has k P n rver xs old all h =
    let found = passes (ok_or (record_at k n xs) (fault.Missing k.rcnm n)) (λ old. need (eqb rver (k.version old + 1)) (fault.Version k.rcnm n) >>= λ _. Ok old) old h in
    let same : Ok found.value ≡ Ok old = passes_test (eqb rver (k.version found.value + 1)) (fault.Version k.rcnm n) (Ok found.value) old found.next in
    subst P (same_ok (Ok found.value) found.value old refl same) (found_has P (is_numbered k.number n) xs found.value all (some_of (record_at k n xs) (fault.Missing k.rcnm n) found.value found.is))

list_kept : {X : Type 0} (k : Keyed X) (P : X → Type 0) (d : Deed X) (xs ys : List X) → DeedKeeps k P d → All P xs → list_after k d xs ≡ Ok ys → IsKept P xs ys
unfolding list_after
list_kept {X} k P (Insert x) xs ys one all h =
    let rest = passes_test (not (is_some (record_at k (k.number x) xs))) (fault.There k.rcnm (k.number x)) (need (eqb (k.version x) 1) (fault.Version k.rcnm (k.number x)) >>= λ _. Ok (xs ++ x ∷ [])) ys h in
    let end : Ok (xs ++ x ∷ []) ≡ Ok ys = passes_test (eqb (k.version x) 1) (fault.Version k.rcnm (k.number x)) (Ok (xs ++ x ∷ [])) ys rest in
    subst (IsKept P xs) (same_ok (Ok (xs ++ x ∷ [])) (xs ++ x ∷ []) ys refl end) (inserted P xs x one all)
list_kept {X} k P (Delete n rver) xs ys one all h =
    let kept : X → Bool = λ x. not (is_numbered k.number n x) in
    let step = passes (record_due k n rver xs) (λ _. Ok (filter kept xs)) ys h in
    subst (IsKept P xs) (same_ok (Ok (filter kept xs)) (filter kept xs) ys refl step.next) (without P kept xs all)
list_kept {X} k P (Modify n rver e) xs ys one all h =
    let put : X → List X = λ new. map (λ x. cond (is_numbered k.number n x) new x) xs in
    let found = passes (record_due k n rver xs) (λ old. k.edited rver e old >>= λ new. Ok (put new)) ys h in
    let step = passes (k.edited rver e found.value) (λ new. Ok (put new)) ys found.next in
    let has : P step.value = one found.value step.value (due_has k P n rver xs found.value all found.is) step.is in
    subst (IsKept P xs) (same_ok (Ok (put step.value)) (put step.value) ys refl step.next) (replaced P (is_numbered k.number n) step.value xs has all)

-- ---- parts, with so many changes to come

abbrev HasSome : Isolated → Type 0
HasSome n = IsTrue (has_some n)

record IsGoodFeature (f : Feature) : Type 0 where
  texts : AreTexts f.attributes
  made : IsTrue (is_made f)

record AreGood (room : ℕ) (c : Parts) : Type 0 where
  header : HasTexts c.header
  some : All HasSome c.isolated
  features : All IsGoodFeature c.features
  few_isolated : length c.isolated + room < 2 ^ 32
  few_connected : length c.connected + room < 2 ^ 32
  few_edges : length c.edges + room < 2 ^ 32
  few_features : length c.features + room < 2 ^ 32

isolated_deed : EditLaws → (d : Deed Isolated) → IsSoundChange (OfIsolated d) → DeedKeeps isolated HasSome d
isolated_deed laws (Insert n) sound = sound.some
isolated_deed laws (Delete n rver) sound = tt
isolated_deed laws (Modify n rver e) sound = λ x y has h. (laws.isolated rver e x y h).some

feature_deed : EditLaws → (d : Deed Feature) → IsSoundChange (OfFeatures d) → DeedKeeps features IsGoodFeature d
feature_deed laws (Insert f) sound = record { texts = sound.texts; made = sound.made }
feature_deed laws (Delete n rver) sound = tt
feature_deed laws (Modify n rver e) sound = λ x y has h. let after = laws.feature rver e x y h in record { texts = after.texts sound.texts has.texts; made = after.made }

abbrev Any : {X : Type 0} → X → Type 0
Any x = Unit {0}

any_deed : {X : Type 0} (k : Keyed X) (d : Deed X) → DeedKeeps k Any d
any_deed k (Insert n) = tt
any_deed k (Delete n rver) = tt
any_deed k (Modify n rver e) = λ x y has h. tt

any_all : {X : Type 0} (xs : List X) → All Any xs
any_all xs = λ i d l. tt

change_good : EditLaws → (room : ℕ) (c : Change) (old new : Parts) → IsSoundChange c → AreGood (room + 1) old → parts_after_change c old ≡ Ok new → AreGood room new
change_good laws room (OfIsolated d) old new sound good h =
    let step = passes (list_after isolated d old.isolated) (λ list. Ok (record old { isolated = list })) new h in
    let kept = list_kept isolated HasSome d old.isolated step.value (isolated_deed laws d sound) good.some step.is in
    subst (AreGood room) (same_ok (Ok (record old { isolated = step.value })) (record old { isolated = step.value }) new refl step.next)
    (record { header = good.header; some = kept.all; features = good.features; few_isolated = omega (arith, kept.few, good.few_isolated); few_connected = omega (arith, good.few_connected); few_edges = omega (arith, good.few_edges); few_features = omega (arith, good.few_features) })
change_good laws room (OfConnected d) old new sound good h =
    let step = passes (list_after connected d old.connected) (λ list. Ok (record old { connected = list })) new h in
    let kept = list_kept connected Any d old.connected step.value (any_deed connected d) (any_all old.connected) step.is in
    subst (AreGood room) (same_ok (Ok (record old { connected = step.value })) (record old { connected = step.value }) new refl step.next)
    (record { header = good.header; some = good.some; features = good.features; few_isolated = omega (arith, good.few_isolated); few_connected = omega (arith, kept.few, good.few_connected); few_edges = omega (arith, good.few_edges); few_features = omega (arith, good.few_features) })
change_good laws room (OfEdges d) old new sound good h =
    let step = passes (list_after edges d old.edges) (λ list. Ok (record old { edges = list })) new h in
    let kept = list_kept edges Any d old.edges step.value (any_deed edges d) (any_all old.edges) step.is in
    subst (AreGood room) (same_ok (Ok (record old { edges = step.value })) (record old { edges = step.value }) new refl step.next)
    (record { header = good.header; some = good.some; features = good.features; few_isolated = omega (arith, good.few_isolated); few_connected = omega (arith, good.few_connected); few_edges = omega (arith, kept.few, good.few_edges); few_features = omega (arith, good.few_features) })
change_good laws room (OfFeatures d) old new sound good h =
    let step = passes (list_after features d old.features) (λ list. Ok (record old { features = list })) new h in
    let kept = list_kept features IsGoodFeature d old.features step.value (feature_deed laws d sound) good.features step.is in
    subst (AreGood room) (same_ok (Ok (record old { features = step.value })) (record old { features = step.value }) new refl step.next)
    (record { header = good.header; some = good.some; features = kept.all; few_isolated = omega (arith, good.few_isolated); few_connected = omega (arith, good.few_connected); few_edges = omega (arith, good.few_edges); few_features = omega (arith, kept.few, good.few_features) })

fewer : (n m : ℕ) (c : Parts) → n ≡ m → AreGood n c → AreGood m c
fewer n m c e good = subst (λ (room : ℕ). AreGood room c) e good

changes_good : EditLaws → (cs : List Change) (old new : Parts) → All IsSoundChange cs → AreGood (length cs) old → parts_after cs old ≡ Ok new → AreGood 0 new
changes_good laws [] old new sound good h = subst (AreGood 0) (same_ok (Ok old) old new refl h) (good)
changes_good laws (c ∷ cs) old new sound good h =
    let step = passes (parts_after_change c old) (parts_after cs) new h in
    let more = change_good laws (length cs) c old step.value (All-head IsSoundChange c cs sound) (fewer (length (c ∷ cs)) (length cs + 1) old (omega arith) good) step.is in
    changes_good laws cs step.value new (All-tail IsSoundChange c cs sound) more step.next

-- ---- parts that keep the conditions

abbrev pub AreFew : Parts → Type 0
AreFew c = (length c.isolated < 2 ^ 31) × (length c.connected < 2 ^ 31) × (length c.edges < 2 ^ 31) × (length c.features < 2 ^ 31)

good_features : (fs : List Feature) → All (λ (f : Feature). AreTexts f.attributes) fs → All (λ f. IsTrue (is_made f)) fs → All IsGoodFeature fs
good_features fs texts made = λ i d l. record { texts = texts i d l; made = made i d l }

pub keeps_conditions : EditLaws → (cs : List Change) (i : Issue) (base new : Parts) → IsWellFormed base → AreFew base → length cs < 2 ^ 31 → IsText i.updn → All IsSoundChange cs
    → parts_after cs (with_issue i base) ≡ Ok new → IsWellFormed new
keeps_conditions laws cs i base new w few turns updn sound h =
    let good : AreGood (length cs) (with_issue i base) = record {
      header = record { dsnm = w.header.dsnm; edtn = w.header.edtn; updn = updn; psdn = w.header.psdn; pred = w.header.pred; comt = w.header.comt; note = w.header.note };
      some = w.soundings;
      features = good_features base.features w.attributes w.made;
      few_isolated = omega (arith, few.0);
      few_connected = omega (arith, few.1);
      few_edges = omega (arith, few.2);
      few_features = omega (arith, few.3);
    } in
    let after = changes_good laws cs (with_issue i base) new sound good h in
    record {
      header = after.header;
      attributes = λ i d l. (after.features i d l).texts;
      soundings = after.some;
      made = λ i d l. (after.features i d l).made;
      few_isolated = omega (arith, after.few_isolated);
      few_connected = omega (arith, after.few_connected);
      few_edges = omega (arith, after.few_edges);
      few_features = omega (arith, after.few_features);
    }
