-- Records that no change names stay as they are and in their order.
use Rattle.std.proofs.Common.{◌≡◌, ℕ, Bool, true, false, cond, Ok, List, [], ◌∷◌, ◌++◌, map, filter, refl, sym, ap, subst, ◌∙◌, eqb}
use Rattle.std.specs.Prelude.{not}
use Rattle.std.proofs.lemmas.Bool.{eq-eqb, eqb-true, or_left, or_right}
use Rattle.std.specs.Option.{is_some}
use Rattle.s57_codes.specs.Catalogue.{rcnm_connected_node, rcnm_edge, rcnm_feature, rcnm_isolated_node}
use Rattle.chart_model.specs.declared.records.Parts.{Parts}
use Rattle.cell_writer.specs.Layout.{fits_of}
use Rattle.update_apply.specs.Applied.{apply_of, chart_after, with_issue, is_next, none_due, first_cause, chart_of}
use Rattle.update_reader.specs.declared.change.Deed.{Deed}
use Rattle.update_reader.specs.declared.change.Change.{Change}
use Rattle.update_reader.specs.declared.change.Update.{Update}
use Rattle.update_reader.specs.declared.change.Deed.TheVariants.{Insert, Delete, Modify}
use Rattle.update_reader.specs.declared.change.Change.TheVariants.{OfIsolated, OfConnected, OfEdges, OfFeatures}
use Rattle.record_table.specs.Records.{is_numbered}
use Rattle.readings.specs.Readings.{◌>>=◌, need}
use Rattle.update_apply.specs.Law.{deed_number, is_of, is_named, KeepsOthers, LeavesOthers}
use Rattle.update_apply.specs.Making.{Keyed, isolated, connected, edges, features, record_at, record_due, list_after, parts_after_change, parts_after}
use Rattle.update_reader.specs.Reading.{update_reading}
use Rattle.update_reader.specs.declared.fault.UpdateFault.TheVariants as fault
use Rattle.update_apply.proofs.Steps.{same_ok, passes, passes_test, due_is, KeepsNumbers, EditLaws, isolated_numbers, connected_numbers, edge_numbers, feature_numbers}
use Rattle.update_apply.proofs.Filters.{filter_end, filter_without, filter_replaced}

-- ---- one deed

abbrev kept_records : {X : Type 0} → (ℕ → Bool) → Keyed X → List X → List X
kept_records keep k xs = filter (λ x. keep (k.number x)) xs

-- an element with a number that isn't kept isn't kept
not_kept : {X : Type 0} (k : Keyed X) (keep : ℕ → Bool) (n : ℕ) → keep n ≡ false → (x : X) → is_numbered k.number n x ≡ true → keep (k.number x) ≡ false
not_kept k keep n out x is = ap keep (eqb-true (k.number x) n is) ∙ out

deed_keeps : {X : Type 0} (k : Keyed X) → KeepsNumbers k → (keep : ℕ → Bool) (d : Deed X) (xs ys : List X) → keep (deed_number k d) ≡ false → list_after k d xs ≡ Ok ys → kept_records keep k ys ≡ kept_records keep k xs
unfolding list_after
deed_keeps {X} k numbers keep (Insert x) xs ys out h =
    let rest = passes_test (not (is_some (record_at k (k.number x) xs))) (fault.There k.rcnm (k.number x)) (need (eqb (k.version x) 1) (fault.Version k.rcnm (k.number x)) >>= λ _. Ok (xs ++ x ∷ [])) ys h in
    let end : Ok (xs ++ x ∷ []) ≡ Ok ys = passes_test (eqb (k.version x) 1) (fault.Version k.rcnm (k.number x)) (Ok (xs ++ x ∷ [])) ys rest in
    let is : xs ++ x ∷ [] ≡ ys = same_ok (Ok (xs ++ x ∷ [])) (xs ++ x ∷ []) ys refl end in
    ap (kept_records keep k) (sym is) ∙ filter_end (λ x. keep (k.number x)) xs x out
deed_keeps {X} k numbers keep (Delete n rver) xs ys out h =
    let step = passes (record_due k n rver xs) (λ _. Ok (filter (λ x. not (is_numbered k.number n x)) xs)) ys h in
    let is : filter (λ x. not (is_numbered k.number n x)) xs ≡ ys = same_ok (Ok (filter (λ x. not (is_numbered k.number n x)) xs)) (filter (λ x. not (is_numbered k.number n x)) xs) ys refl step.next in
    ap (kept_records keep k) (sym is) ∙ filter_without (λ x. keep (k.number x)) (is_numbered k.number n) xs (not_kept k keep n out)
deed_keeps {X} k numbers keep (Modify n rver e) xs ys out h =
    let found = passes (record_due k n rver xs) (λ old. k.edited rver e old >>= λ new. Ok (map (λ x. cond (is_numbered k.number n x) new x) xs)) ys h in
    let step = passes (k.edited rver e found.value) (λ new. Ok (map (λ x. cond (is_numbered k.number n x) new x) xs)) ys found.next in
    let is : map (λ x. cond (is_numbered k.number n x) step.value x) xs ≡ ys = same_ok (Ok (map (λ x. cond (is_numbered k.number n x) step.value x) xs)) (map (λ x. cond (is_numbered k.number n x) step.value x) xs) ys refl step.next in
    let number : k.number step.value ≡ n = numbers rver e found.value step.value step.is ∙ due_is k n rver xs found.value found.is in
    ap (kept_records keep k) (sym is) ∙ filter_replaced (λ x. keep (k.number x)) (is_numbered k.number n) step.value xs (not_kept k keep n out) (ap keep number ∙ out)

-- ---- all changes

-- which numbers are kept, by RCNM; none that a change names
abbrev Keeping : Type 0
Keeping = ℕ → ℕ → Bool

abbrev IsClear : Keeping → Change → Type 0
IsClear keep (OfIsolated d) = keep rcnm_isolated_node (deed_number isolated d) ≡ false
IsClear keep (OfConnected d) = keep rcnm_connected_node (deed_number connected d) ≡ false
IsClear keep (OfEdges d) = keep rcnm_edge (deed_number edges d) ≡ false
IsClear keep (OfFeatures d) = keep rcnm_feature (deed_number features d) ≡ false

record SameKept (keep : Keeping) (old new : Parts) : Type 0 where
  isolated : kept_records (keep rcnm_isolated_node) isolated new.isolated ≡ kept_records (keep rcnm_isolated_node) isolated old.isolated
  connected : kept_records (keep rcnm_connected_node) connected new.connected ≡ kept_records (keep rcnm_connected_node) connected old.connected
  edges : kept_records (keep rcnm_edge) edges new.edges ≡ kept_records (keep rcnm_edge) edges old.edges
  features : kept_records (keep rcnm_feature) features new.features ≡ kept_records (keep rcnm_feature) features old.features

unchanged : (keep : Keeping) (c : Parts) → SameKept keep c c
unchanged keep c = record { isolated = refl; connected = refl; edges = refl; features = refl }

then_same : (keep : Keeping) (a b c : Parts) → SameKept keep a b → SameKept keep b c → SameKept keep a c
then_same keep a b c g h = record { isolated = h.isolated ∙ g.isolated; connected = h.connected ∙ g.connected; edges = h.edges ∙ g.edges; features = h.features ∙ g.features }

same_at : (keep : Keeping) (old x y : Parts) → x ≡ y → SameKept keep old x → SameKept keep old y
same_at keep old x y e s = subst (SameKept keep old) e s

change_keeps : EditLaws → (keep : Keeping) (change : Change) (old new : Parts) → IsClear keep change → parts_after_change change old ≡ Ok new → SameKept keep old new
change_keeps laws keep (OfIsolated d) old new clear h =
    let step = passes (list_after isolated d old.isolated) (λ list. Ok (record old { isolated = list })) new h in
    same_at keep old (record old { isolated = step.value }) new (same_ok (Ok (record old { isolated = step.value })) (record old { isolated = step.value }) new refl step.next)
    (record { isolated = deed_keeps isolated (isolated_numbers laws) (keep rcnm_isolated_node) d old.isolated step.value clear step.is; connected = refl; edges = refl; features = refl })
change_keeps laws keep (OfConnected d) old new clear h =
    let step = passes (list_after connected d old.connected) (λ list. Ok (record old { connected = list })) new h in
    same_at keep old (record old { connected = step.value }) new (same_ok (Ok (record old { connected = step.value })) (record old { connected = step.value }) new refl step.next)
    (record { isolated = refl; connected = deed_keeps connected (connected_numbers laws) (keep rcnm_connected_node) d old.connected step.value clear step.is; edges = refl; features = refl })
change_keeps laws keep (OfEdges d) old new clear h =
    let step = passes (list_after edges d old.edges) (λ list. Ok (record old { edges = list })) new h in
    same_at keep old (record old { edges = step.value }) new (same_ok (Ok (record old { edges = step.value })) (record old { edges = step.value }) new refl step.next)
    (record { isolated = refl; connected = refl; edges = deed_keeps edges (edge_numbers laws) (keep rcnm_edge) d old.edges step.value clear step.is; features = refl })
change_keeps laws keep (OfFeatures d) old new clear h =
    let step = passes (list_after features d old.features) (λ list. Ok (record old { features = list })) new h in
    same_at keep old (record old { features = step.value }) new (same_ok (Ok (record old { features = step.value })) (record old { features = step.value }) new refl step.next)
    (record { isolated = refl; connected = refl; edges = refl; features = deed_keeps features (feature_numbers laws) (keep rcnm_feature) d old.features step.value clear step.is })

abbrev AllClear : Keeping → List Change → Type 0
AllClear keep [] = Unit {0}
AllClear keep (c ∷ cs) = IsClear keep c × AllClear keep cs

changes_keep : EditLaws → (keep : Keeping) (changes : List Change) (old new : Parts) → AllClear keep changes → parts_after changes old ≡ Ok new → SameKept keep old new
changes_keep laws keep [] old new clear h = same_at keep old old new (same_ok (Ok old) old new refl h) (unchanged keep old)
changes_keep laws keep (c ∷ cs) old new clear h =
    let step = passes (parts_after_change c old) (parts_after cs) new h in
    then_same keep old step.value new (change_keeps laws keep c old step.value clear.0 step.is) (changes_keep laws keep cs step.value new clear.1 step.next)

-- ---- what no change names

is_its_own : (change : Change) (keep : Keeping) → ((rcnm n : ℕ) → is_of change rcnm n ≡ true → keep rcnm n ≡ false) → IsClear keep change
is_its_own (OfIsolated d) keep out = out rcnm_isolated_node (deed_number isolated d) (eq-eqb (deed_number isolated d) (deed_number isolated d) refl)
is_its_own (OfConnected d) keep out = out rcnm_connected_node (deed_number connected d) (eq-eqb (deed_number connected d) (deed_number connected d) refl)
is_its_own (OfEdges d) keep out = out rcnm_edge (deed_number edges d) (eq-eqb (deed_number edges d) (deed_number edges d) refl)
is_its_own (OfFeatures d) keep out = out rcnm_feature (deed_number features d) (eq-eqb (deed_number features d) (deed_number features d) refl)

all_clear : (changes : List Change) (keep : Keeping) → ((rcnm n : ℕ) → is_named changes rcnm n ≡ true → keep rcnm n ≡ false) → AllClear keep changes
all_clear [] keep out = tt
all_clear (c ∷ cs) keep out =
    (is_its_own c keep (λ rcnm n is. out rcnm n (or_left (is_of c rcnm n) (is_named cs rcnm n) is)), all_clear cs keep (λ rcnm n is. out rcnm n (or_right (is_of c rcnm n) (is_named cs rcnm n) is)))

updated_keeps : EditLaws → (u : Update) (old new : Parts) → chart_after old u ≡ Ok new → KeepsOthers u.changes old new
unfolding chart_after
updated_keeps laws u old new h =
    let keep : Keeping = λ rcnm n. not (is_named u.changes rcnm n) in
    let started = passes_test (is_next old.header u.issue) fault.Sequence (parts_after u.changes (with_issue u.issue old) >>= chart_of) new h in
    let step = passes (parts_after u.changes (with_issue u.issue old)) chart_of new started in
    let whole = passes (none_due (first_cause step.value)) (λ _. need (fits_of step.value) fault.Large >>= λ _. Ok step.value) new step.next in
    let last : Ok step.value ≡ Ok new = passes_test (fits_of step.value) fault.Large (Ok step.value) new whole.next in
    let made = changes_keep laws keep u.changes (with_issue u.issue old) new (all_clear u.changes keep (λ rcnm n is. ap not is)) (step.is ∙ last) in
    record { isolated = sym made.isolated; connected = sym made.connected; edges = sym made.edges; features = sym made.features }

pub leaves_others : EditLaws → LeavesOthers
unfolding apply_of
leaves_others laws old new bytes u is h =
    let step = passes (update_reading bytes) (chart_after old) new h in
    let same : step.value ≡ u = same_ok (update_reading bytes) step.value u step.is is in
    updated_keeps laws u old new (ap (chart_after old) (sym same) ∙ step.next)
