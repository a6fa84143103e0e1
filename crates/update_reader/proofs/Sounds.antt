-- What is read of an update may be a chart's.
use Rattle.std.proofs.Common.{◌≡◌, ℕ, zero, suc, ◌+◌, ◌-◌, ◌*◌, ◌<◌, ◌≤◌, List, [], ◌∷◌, length, map, Bool, true, false, not, Option, Some, None, Result, Ok, Err, refl, sym, ap, ◌∙◌, subst, arith, cond, option_map}
use Rattle.std.specs.Prelude.{◌&&◌, ◌||◌, eqb, IfOk}
use Rattle.std.specs.Option.{ok_or}
use Rattle.std.specs.List.{All}
use Rattle.std.proofs.lemmas.List.Elements.{All-nil, All-cons}
use Rattle.chart_model.specs.Whole.{IsText}
use Rattle.chart_model.specs.declared.records.Attribute.{Attribute}
use Rattle.chart_model.specs.declared.records.Connected.{Connected}
use Rattle.chart_model.specs.declared.records.Edge.{Edge}
use Rattle.chart_model.specs.declared.records.Isolated.{Isolated}
use Rattle.iso8211_codec.specs.Law.{RecordLaws}
use Rattle.iso8211_codec.specs.Reading.{Rec, Seen, seen, data_record, first_record}
use Rattle.iso8211_codec.specs.Walk.{and_then, walk, answers}
use Rattle.iso8211_codec.specs.declared.fault.CodecFault.{CodecFault}
use Rattle.plane_geom.specs.declared.Point.{Point}
use Rattle.readings.specs.Finds as find
use Rattle.readings.specs.Readings.{need}
use Rattle.readings.proofs.Steps.{bind_ok, bind_some, ok_or_ok, same_ok}
use Rattle.s57_codes.specs.Catalogue.{inserted, deleted, modified, rcnm_connected_node, rcnm_isolated_node, tag_attf, tag_foid, tag_frid, tag_fspc, tag_sgcc, tag_vrid}
use Rattle.s57_records.specs.Fields.{dsid_values, fspc, sgcc}
use Rattle.s57_records.specs.declared.dsid.Dsid.{Dsid}
use Rattle.s57_records.specs.declared.feature.Frid.{Frid}
use Rattle.s57_records.specs.declared.vrid.Vrid.{Vrid}
use Rattle.record_values.specs.Attributes.{attributes}
use Rattle.record_values.specs.DataSets.{identity_in}
use Rattle.record_values.specs.Features.{name_in, feature_of}
use Rattle.record_values.specs.Fields.{bodies, leads, only}
use Rattle.record_values.specs.Groups.{points, soundings, ends}
use Rattle.record_values.specs.Vectors.{is_known, has_whole_groups, isolated_of, connected_of, edge_of}
use Rattle.record_values.proofs.Sizes.{weight, record_few, first_short}
use Rattle.record_values.proofs.Sounds.{few_points, few_soundings, few_pointers, isolated_is, edge_is, identity_is, feature_is}
use Rattle.record_values.proofs.Texts.{all_are}
use Rattle.update_reader.specs.Controls.{splice}
use Rattle.update_reader.specs.Faults.{Gives}
use Rattle.update_reader.specs.Kinds.{are_single, has_field, inserts}
use Rattle.update_reader.specs.Reading.{data_set, first_issue, vector, feature, change_in, changes_in, update_in}
use Rattle.update_reader.specs.Sound.{IsSoundIssue, IsSoundEdit, IsSoundChange, IsReadUpdate}
use Rattle.update_reader.specs.Values.{vrid_in, frid_in, is_plain, vector_insertion, inserted_vector, deleted_vector, vector_edit, vector_modification, controlled, modified_vector, vector_change, inserted_feature, feature_edit, modified_feature, feature_change}
use Rattle.update_reader.specs.declared.change.Change.{Change}
use Rattle.update_reader.specs.declared.change.Issue.{Issue}
use Rattle.update_reader.specs.declared.change.Splice.{Splice}
use Rattle.update_reader.specs.declared.change.Update.{Update}
use Rattle.update_reader.specs.declared.change.Deed.TheVariants.{Insert, Delete, Modify}
use Rattle.update_reader.specs.declared.change.Change.TheVariants.{OfIsolated, OfConnected, OfEdges, OfFeatures}
use Rattle.update_reader.specs.declared.fault.UpdateFault.{UpdateFault}
use Rattle.update_reader.specs.declared.fault.UpdateFault.TheVariants as fault

-- ---- readings that gave something

same_some : {A : Type 0} (x y : A) → Some x ≡ Some y → x ≡ y
same_some x y h = cc

chosen : {X : Type 0} (b : Bool) (o : Option X) (y : X) → cond b o None ≡ Some y → o ≡ Some y
chosen true o y h = h
chosen false o y h = cc

mapped : {X Y : Type 0} (f : X → Y) (o : Option X) (y : Y) → option_map f o ≡ Some y → (x : X) × (o ≡ Some x) × (f x ≡ y)
mapped f None y h = absurd cc
mapped f (Some x) y h = (x, refl, same_some (f x) y h)

-- what each instruction gives
instructed : {X : Type 0} (P : Type 0) (i d m : Bool) (a b e : Option X) (y : X) → (a ≡ Some y → P) → (b ≡ Some y → P) → (e ≡ Some y → P) → cond i a (cond d b (cond m e None)) ≡ Some y → P
instructed P true d m a b e y f g k h = f h
instructed P false true m a b e y f g k h = g h
instructed P false false true a b e y f g k h = k h
instructed P false false false a b e y f g k h = absurd cc

-- what each kind of vector record gives
of_each : {X : Type 0} (P : X → Type 0) (i c : Bool) (a b e : X) → P a → P b → P e → P (cond i a (cond c b e))
of_each P true c a b e f g k = f
of_each P false true a b e f g k = g
of_each P false false a b e f g k = k

-- ---- the data set record

-- which update it is, by what its DSID says
pub issue_sound : (d : Dsid) (body edtn updn uadt isdt : List ℕ) → Some (dsid_values d) ≡ identity_in body → edtn ≡ d.edtn.now → updn ≡ d.updn.now
    → IsSoundIssue (record { edtn = edtn; updn = updn; uadt = uadt; isdt = isdt })
issue_sound d body edtn updn uadt isdt h e u =
    let texts = identity_is body (dsid_values d) (sym h) in
    record { edtn = subst IsText (sym e) texts.1.0; updn = subst IsText (sym u) texts.1.1.0 }

-- ---- vector records

module _ (fields : List Seen) (small : weight fields < 100000) where
  vector_edit_sound : (control : Option Splice) → IsSoundEdit (vector_edit control fields)
  vector_edit_sound control = record {
    texts = All-nil (λ (a : Attribute). IsText a.text);
    few_pointers = omega arith;
    few_points = few_points fields small;
    few_soundings = few_soundings fields small;
  }

  abbrev Sound : Option Change → Type 0
  Sound o = (c : Change) → o ≡ Some c → IsSoundChange c

  isolated_insertion : (v : Vrid) → Sound (option_map (λ (n : Isolated). OfIsolated (Insert n)) (isolated_of v (points fields) (soundings fields)))
  isolated_insertion v c h =
      let n = mapped (λ (n : Isolated). OfIsolated (Insert n)) (isolated_of v (points fields) (soundings fields)) c h in
      subst IsSoundChange n.2 (isolated_is v (points fields) (soundings fields) n.0 (few_soundings fields small) n.1)

  connected_insertion : (v : Vrid) → Sound (option_map (λ (n : Connected). OfConnected (Insert n)) (connected_of v (points fields) (soundings fields)))
  connected_insertion v c h =
      let n = mapped (λ (n : Connected). OfConnected (Insert n)) (connected_of v (points fields) (soundings fields)) c h in
      subst IsSoundChange n.2 tt

  edge_insertion : (v : Vrid) → Sound (option_map (λ (e : Edge). OfEdges (Insert e)) (edge_of v (ends fields) (points fields) (soundings fields)))
  edge_insertion v c h =
      let e = mapped (λ (e : Edge). OfEdges (Insert e)) (edge_of v (ends fields) (points fields) (soundings fields)) c h in
      let inner = edge_is v (ends fields) (points fields) (soundings fields) e.0 e.1 in
      subst IsSoundChange e.2 (subst (λ (ps : List Point). length ps ≤ 12500) inner (few_points fields small))

  vector_insertion_sound : (v : Vrid) → Sound (inserted_vector v fields)
  vector_insertion_sound v c h =
      of_each Sound (eqb v.rcnm rcnm_isolated_node) (eqb v.rcnm rcnm_connected_node) _ _ _ (isolated_insertion v) (connected_insertion v) (edge_insertion v) c
      (chosen (is_plain fields && has_whole_groups fields) (vector_insertion v (ends fields) (points fields) (soundings fields)) c h)

  vector_deletion_sound : (v : Vrid) → IsSoundChange (deleted_vector v)
  vector_deletion_sound v =
      of_each IsSoundChange (eqb v.rcnm rcnm_isolated_node) (eqb v.rcnm rcnm_connected_node) (OfIsolated (Delete v.rcid v.rver)) (OfConnected (Delete v.rcid v.rver)) (OfEdges (Delete v.rcid v.rver)) tt tt tt

  vector_modification_sound : (v : Vrid) → Sound (modified_vector v fields)
  vector_modification_sound v c h =
      let control = bind_some (splice sgcc tag_sgcc fields) _ c h in
      let e = vector_edit control.0 fields in
      let is : vector_modification v e ≡ c = same_some _ c (chosen (controlled e fields) (Some (vector_modification v e)) c control.2) in
      let sound = vector_edit_sound control.0 in
      subst IsSoundChange is
      (of_each IsSoundChange (eqb v.rcnm rcnm_isolated_node) (eqb v.rcnm rcnm_connected_node) (OfIsolated (Modify v.rcid v.rver e)) (OfConnected (Modify v.rcid v.rver e)) (OfEdges (Modify v.rcid v.rver e)) sound sound sound)

  vector_change_sound : (body : List ℕ) → Sound (vector_change body fields)
  unfolding vector_change
  vector_change_sound body c h =
      let v = bind_some (vrid_in body) _ c h in
      instructed (IsSoundChange c) (eqb v.0.ruin inserted) (eqb v.0.ruin deleted) (eqb v.0.ruin modified) (inserted_vector v.0 fields) (Some (deleted_vector v.0)) (modified_vector v.0 fields) c
      (vector_insertion_sound v.0 c) (λ is. subst IsSoundChange (same_some (deleted_vector v.0) c is) (vector_deletion_sound v.0)) (vector_modification_sound v.0 c) v.2

  -- ---- feature records

  feature_insertion_sound : (f : Frid) → Sound (inserted_feature f fields)
  feature_insertion_sound f c h =
      let name = bind_some (find.◌>>=◌ (only tag_foid fields) name_in) _ c h in
      let new = bind_some (feature_of f name.0 fields) _ c name.2 in
      let is : OfFeatures (Insert new.0) ≡ c = same_some _ c (chosen (is_plain fields) (Some (OfFeatures (Insert new.0))) c new.2) in
      subst IsSoundChange is (feature_is f name.0 fields new.0 small new.1)

  feature_modification_sound : (f : Frid) → Sound (modified_feature f fields)
  feature_modification_sound f c h =
      let control = bind_some (splice fspc tag_fspc fields) _ c h in
      let texts = bind_some (attributes fields) _ c control.2 in
      let e = feature_edit control.0 texts.0 fields in
      let is : OfFeatures (Modify f.rcid f.rver e) ≡ c = same_some _ c (chosen _ (Some (OfFeatures (Modify f.rcid f.rver e))) c texts.2) in
      let sound : IsSoundEdit e = record { texts = all_are (bodies tag_attf fields) texts.0 texts.1; few_pointers = few_pointers fields small; few_points = omega arith; few_soundings = omega arith } in
      subst IsSoundChange is sound

  feature_change_sound : (body : List ℕ) → Sound (feature_change body fields)
  unfolding feature_change
  feature_change_sound body c h =
      let f = bind_some (frid_in body) _ c h in
      instructed (IsSoundChange c) (eqb f.0.ruin inserted) (eqb f.0.ruin deleted) (eqb f.0.ruin modified) (inserted_feature f.0 fields) (Some (OfFeatures (Delete f.0.rcid f.0.rver))) (modified_feature f.0 fields) c
      (feature_insertion_sound f.0 c) (λ is. subst IsSoundChange (same_some (OfFeatures (Delete f.0.rcid f.0.rver)) c is) tt) (feature_modification_sound f.0 c) f.2

  -- ---- any record

  vector_sound : (at : ℕ) (c : Change) → vector at fields ≡ Ok c → IsSoundChange c
  unfolding vector
  vector_sound at c h =
      let single = bind_ok (need (are_single fields) (fault.Kind at)) _ c h in
      let body = bind_ok (ok_or (only tag_vrid fields) (fault.Kind at)) _ c single.2 in
      let known = bind_ok (need (is_known body.0) (fault.Kind at)) _ c body.2 in
      vector_change_sound body.0 c (ok_or_ok (vector_change body.0 fields) (fault.Value at) c known.2)

  feature_sound : (at : ℕ) (c : Change) → feature at fields ≡ Ok c → IsSoundChange c
  unfolding feature
  feature_sound at c h =
      let single = bind_ok (need (are_single fields) (fault.Kind at)) _ c h in
      let body = bind_ok (ok_or (only tag_frid fields) (fault.Kind at)) _ c single.2 in
      let named = bind_ok (need (not (inserts body.0) || has_field tag_foid fields) (fault.Kind at)) _ c body.2 in
      feature_change_sound body.0 c (ok_or_ok (feature_change body.0 fields) (fault.Value at) c named.2)

  second : (at : ℕ) (c : Change) (b : Bool) → cond b (feature at fields) (Err (fault.Kind at)) ≡ Ok c → IsSoundChange c
  second at c true h = feature_sound at c h
  second at c false h = cc

  first : (at : ℕ) (c : Change) (b : Bool) → cond b (vector at fields) (cond (leads tag_frid fields) (feature at fields) (Err (fault.Kind at))) ≡ Ok c → IsSoundChange c
  first at c true h = vector_sound at c h
  first at c false h = second at c (leads tag_frid fields) h

  change_sound : (at : ℕ) (c : Change) → change_in at fields ≡ Ok c → IsSoundChange c
  unfolding change_in
  change_sound at c h = first at c (leads tag_vrid fields) h

-- ---- all records

-- changes that are sound, of records in so many bytes
abbrev AreSound : List ℕ → List Change → Type 0
AreSound bytes cs = All IsSoundChange cs × (24 * length cs ≤ length bytes)

next_sound : RecordLaws → (turns at : ℕ) (bytes : List ℕ) (cs : List Change) (r : Result (Rec × List ℕ) CodecFault) → data_record at bytes ≡ r
    → ((at' : ℕ) (rest : List ℕ) (others : List Change) → changes_in (walk turns at' rest) ≡ Ok others → AreSound rest others)
    → changes_in (and_then r (λ rest. walk turns (at + (length bytes - length rest)) rest)) ≡ Ok cs → AreSound bytes cs
next_sound laws turns at bytes cs (Err e) is further h = cc
next_sound laws turns at bytes cs (Ok x) is further h =
    let few = record_few laws at bytes x is in
    let change = bind_ok (change_in x.0.at (map seen x.0.parts)) _ cs h in
    let others = bind_ok (changes_in (walk turns (at + (length bytes - length x.1)) x.1)) _ cs change.2 in
    let rest = further (at + (length bytes - length x.1)) x.1 others.0 others.1 in
    let same : change.0 ∷ others.0 ≡ cs = same_ok _ cs others.2 in
    subst (AreSound bytes) same (All-cons IsSoundChange change.0 others.0 (change_sound (map seen x.0.parts) few.1 x.0.at change.0 change.1) rest.0, omega (arith, few.0, rest.1))

changes_sound : RecordLaws → (turns at : ℕ) (bytes : List ℕ) (cs : List Change) → changes_in (walk turns at bytes) ≡ Ok cs → AreSound bytes cs
unfolding walk
changes_sound laws zero at bytes cs h = subst (AreSound bytes) (same_ok [] cs h) (All-nil IsSoundChange, omega arith)
changes_sound laws (suc turns) at [] cs h = subst (AreSound []) (same_ok [] cs h) (All-nil IsSoundChange, omega arith)
changes_sound laws (suc turns) at (byte ∷ bytes) cs h =
    next_sound laws turns at (byte ∷ bytes) cs (data_record at (byte ∷ bytes)) refl (changes_sound laws turns) h

-- ---- the whole file

after_first : RecordLaws → (turns size at : ℕ) (bytes : List ℕ) (u : Update) (r : Result (Rec × List ℕ) CodecFault) → data_record at bytes ≡ r
    → update_in size (and_then r (λ rest. walk turns (at + (length bytes - length rest)) rest)) ≡ Ok u → AreSound bytes u.changes
after_first laws turns size at bytes u (Err e) is h = cc
after_first laws turns size at bytes u (Ok x) is h =
    let few = record_few laws at bytes x is in
    let rest = walk turns (at + (length bytes - length x.1)) x.1 in
    let first = bind_ok (first_issue size (Ok x.0 ∷ rest)) _ u h in
    let issue = bind_ok (data_set x.0.at (map seen x.0.parts)) _ first.0 first.1 in
    let come : rest ≡ first.0.1 = ap (λ (y : Issue × List (Result Rec CodecFault)). y.1) (same_ok _ first.0 issue.2) in
    let changes = bind_ok (changes_in first.0.1) _ u first.2 in
    let sound = changes_sound laws turns (at + (length bytes - length x.1)) x.1 changes.0 (ap changes_in come ∙ changes.1) in
    let same : changes.0 ≡ u.changes = ap (λ (w : Update). w.changes) (same_ok _ u changes.2) in
    subst (AreSound bytes) same (sound.0, omega (arith, few.0, sound.1))

all_sound : RecordLaws → (turns size at : ℕ) (bytes : List ℕ) (u : Update) → update_in size (walk turns at bytes) ≡ Ok u → AreSound bytes u.changes
unfolding walk
all_sound laws zero size at bytes u h = cc
all_sound laws (suc turns) size at [] u h = cc
all_sound laws (suc turns) size at (byte ∷ bytes) u h = after_first laws turns size at (byte ∷ bytes) u (data_record at (byte ∷ bytes)) refl h

-- what an answer says of its update
pub answer_is : RecordLaws → (bytes : List ℕ) (at : ℕ) (rest : List ℕ) (r : Result Update UpdateFault) → first_record bytes ≡ Ok (at, rest) → Gives (λ u. u) r (update_in (length bytes) (answers at rest))
    → IfOk r (λ u. IsSoundIssue u.issue) → IfOk r (IsReadUpdate (length bytes))
answer_is laws bytes at rest (Err e) first h texts = tt
answer_is laws bytes at rest (Ok u) first h texts =
    let sound = all_sound laws (length rest) (length bytes) at rest u h in
    record { issue = texts; changes = sound.0; few = omega (arith, sound.1, first_short bytes (at, rest) first) }
