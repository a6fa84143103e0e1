-- What the bytes of an update file say, or the first fault. Each record is taken through the codec, then the tests of its kind,
-- then those of its values.
use Rattle.std.specs.Prelude.{ℕ, ◌||◌, not, cond, List, [], ◌∷◌, length, map, Result, Ok, Err}
use Rattle.std.specs.Option.{ok_or}
use Rattle.iso8211_codec.specs.Reading.{Seen, Rec, seen, first_record}
use Rattle.iso8211_codec.specs.Walk.{answers}
use Rattle.iso8211_codec.specs.declared.fault.CodecFault.{CodecFault}
use Rattle.readings.specs.Readings.{◌>>=◌, need}
use Rattle.s57_codes.specs.Catalogue.{tag_dsid, tag_foid, tag_frid, tag_vrid}
use Rattle.record_values.specs.Fields.{leads, only}
use Rattle.record_values.specs.Vectors.{is_known}
use Rattle.update_reader.specs.declared.change.Issue.{Issue}
use Rattle.update_reader.specs.declared.change.Change.{Change}
use Rattle.update_reader.specs.declared.change.Update.{Update}
use Rattle.update_reader.specs.Faults.{of_codec}
use Rattle.update_reader.specs.Kinds.{are_single, has_field, inserts}
use Rattle.update_reader.specs.Values.{issue_in, vector_change, feature_change}
use Rattle.update_reader.specs.declared.fault.UpdateFault.{UpdateFault}
use Rattle.update_reader.specs.declared.fault.UpdateFault.TheVariants as fault

-- how many bytes the first record takes and what follows it, with its faults as those of an update
abbrev pub start : Result (ℕ × List ℕ) CodecFault → Result (ℕ × List ℕ) UpdateFault
start (Ok x) = Ok x
start (Err e) = Err (of_codec e)

-- ---- the data set record: which update it is

unfoldable pub data_set : ℕ → List Seen → Result Issue UpdateFault
data_set at fields = do
  leading ← need (leads tag_dsid fields) (fault.Kind at)
  single ← need (are_single fields) (fault.Kind at)
  body ← ok_or (only tag_dsid fields) (fault.Kind at)
  ok_or (issue_in body) (fault.Value at)

-- it is the first data record; the issue and what comes after it
abbrev pub first_issue : ℕ → List (Result Rec CodecFault) → Result (Issue × List (Result Rec CodecFault)) UpdateFault
first_issue size [] = Err (fault.Kind size)
first_issue size (Err e ∷ answers) = Err (of_codec e)
first_issue size (Ok r ∷ answers) = do
  issue ← data_set r.at (map seen r.parts)
  Ok (issue, answers)

-- ---- the records after it: a change each

-- of a node or an edge, whose RCNM is tested where VRID has a byte
unfoldable pub vector : ℕ → List Seen → Result Change UpdateFault
vector at fields = do
  single ← need (are_single fields) (fault.Kind at)
  body ← ok_or (only tag_vrid fields) (fault.Kind at)
  known ← need (is_known body) (fault.Kind at)
  ok_or (vector_change body fields) (fault.Value at)

-- of a feature, which has an FOID where it is inserted
unfoldable pub feature : ℕ → List Seen → Result Change UpdateFault
feature at fields = do
  single ← need (are_single fields) (fault.Kind at)
  body ← ok_or (only tag_frid fields) (fault.Kind at)
  named ← need (not (inserts body) || has_field tag_foid fields) (fault.Kind at)
  ok_or (feature_change body fields) (fault.Value at)

unfoldable pub change_in : ℕ → List Seen → Result Change UpdateFault
change_in at fields =
    cond (leads tag_vrid fields) (vector at fields) (cond (leads tag_frid fields) (feature at fields) (Err (fault.Kind at)))

-- the changes of all records, as a walk through the file answers them
abbrev pub changes_in : List (Result Rec CodecFault) → Result (List Change) UpdateFault
changes_in [] = Ok []
changes_in (Err e ∷ answers) = Err (of_codec e)
changes_in (Ok r ∷ answers) = do
  change ← change_in r.at (map seen r.parts)
  others ← changes_in answers
  Ok (change ∷ others)

-- ---- the whole file

-- the update of all records of a file of so many bytes
abbrev pub update_in : ℕ → List (Result Rec CodecFault) → Result Update UpdateFault
update_in size answers = do
  first ← first_issue size answers
  changes ← changes_in first.1
  Ok (record { issue = first.0; changes = changes })

-- the update that a file is
unfoldable pub update_reading : List ℕ → Result Update UpdateFault
update_reading bytes = do
  begin ← start (first_record bytes)
  update_in (length bytes) (answers begin.0 begin.1)
