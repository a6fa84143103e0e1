-- What holds of an update that was read, so that a chart with its changes may be a chart.
use Rattle.std.specs.Prelude.{ℕ, ◌*◌, ◌≤◌, length, All}
use Rattle.chart_model.specs.Whole.{IsText}
use Rattle.record_values.specs.Sound.{AreTexts, IsSoundIsolated, IsSoundFeature}
use Rattle.update_reader.specs.declared.change.Issue.{Issue}
use Rattle.update_reader.specs.declared.change.Edit.{Edit}
use Rattle.update_reader.specs.declared.change.Change.{Change}
use Rattle.update_reader.specs.declared.change.Deed.TheVariants.{Insert, Modify}
use Rattle.update_reader.specs.declared.change.Change.TheVariants.{OfIsolated, OfConnected, OfEdges, OfFeatures}
use Rattle.update_reader.specs.declared.change.Update.{Update}

-- its texts don't have the byte that ends one
pub record IsSoundIssue (i : Issue) : Type 0 where
  pub edtn : IsText i.edtn
  pub updn : IsText i.updn

-- what a record of at most 99,999 bytes gives to one that it modifies
pub record IsSoundEdit (e : Edit) : Type 0 where
  pub texts : AreTexts e.attributes
  pub few_pointers : length e.pointers ≤ 12500
  pub few_points : length e.points ≤ 12500
  pub few_soundings : length e.soundings ≤ 12500

abbrev pub IsSoundChange : Change → Type 0
IsSoundChange (OfIsolated (Insert n)) = IsSoundIsolated n
IsSoundChange (OfEdges (Insert e)) = length e.inner ≤ 12500
IsSoundChange (OfFeatures (Insert f)) = IsSoundFeature f
IsSoundChange (OfIsolated (Modify rcid rver e)) = IsSoundEdit e
IsSoundChange (OfConnected (Modify rcid rver e)) = IsSoundEdit e
IsSoundChange (OfEdges (Modify rcid rver e)) = IsSoundEdit e
IsSoundChange (OfFeatures (Modify rcid rver e)) = IsSoundEdit e
IsSoundChange _ = Unit {0}

-- an update in a file of so many bytes: each of its records has 24 bytes at least
pub record IsReadUpdate (size : ℕ) (u : Update) : Type 0 where
  pub issue : IsSoundIssue u.issue
  pub changes : All IsSoundChange u.changes
  pub few : 24 * length u.changes ≤ size
