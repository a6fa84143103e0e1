-- How a run ends. Contents are what the shelf tells before and after, and old and new what the sink tells that it took.
use Rattle.std.specs.Prelude.{◌≡◌, ◌⊎◌, ℕ, Bool, true, false, IsTrue, List, ◌++◌, length, take, Option, Some, None, option_map}
use Rattle.std.specs.FinMap.{get}
use Rattle.cell_check.specs.Lines.{verdict_line}
use Rattle.cell_check.specs.Verdicts.{IsVerdict}
use Rattle.cell_check.specs.declared.verdict.Verdict.{Verdict}
use Rattle.cell_reader.specs.Reading.{StandsFor}
use Rattle.cell_writer.specs.Layout.{layout}
use Rattle.chart_compile.specs.Cell.{IsCellOf}
use Rattle.chart_dev.specs.Contents.{Contents, holding}
use Rattle.chart_ground.specs.Answers.{IsGroundAt}
use Rattle.chart_ground.specs.Line.{ground_line}
use Rattle.chart_ground.specs.declared.answer.GroundAt.{GroundAt}
use Rattle.chart_model.specs.declared.counts.Tally.{Tally}
use Rattle.chart_model.specs.declared.records.Parts.{Parts}
use Rattle.depth_grid.specs.Grid.{GridView}
use Rattle.plane_geom.specs.declared.Point.{Point}
use Rattle.rule_sheet.specs.Values.{SheetView}
use Rattle.chart_cli.specs.declared.status.Status.{Status}
use Rattle.chart_cli.specs.declared.status.Status.TheVariants.{Done, Device, NoMemory}
use Rattle.chart_cli.specs.Words.{Command}
use Rattle.chart_cli.specs.Lines.{cell_line}
use Rattle.chart_cli.specs.Answers.{Due, says, makes, revises, grounds, judges, absent, due}
use Rattle.chart_cli.specs.Reads.{RevisedView}
use Rattle.chart_cli.specs.UpdateLines.{revised_line}

-- the sink took this
abbrev pub Puts : List ℕ → Option (List ℕ) → Option (List ℕ) → Type 0
Puts line old new = new ≡ option_map (λ taken. taken ++ line) old

-- ---- lines

-- lines are due with a status: they are put out with it, or a prefix of them where a device failed, or nothing where memory ran out
abbrev pub EndsSaying : Status → Status → List ℕ → Option (List ℕ) → Option (List ℕ) → Type 0
EndsSaying Device due lines old new = (n : ℕ) × Puts (take n lines) old new
EndsSaying NoMemory due lines old new = new ≡ old
EndsSaying status due lines old new = (due ≡ status) × Puts lines old new

-- ---- a cell

-- the bytes of a cell and the line that goes with them, of which this holds
pub record CellWhere (P : List ℕ → List ℕ → Type 0) : Type 0 where
  pub bytes : List ℕ
  pub line : List ℕ
  pub is : P bytes line

-- bytes are a cell of a grid and a sheet, and a line says what it holds
abbrev pub IsMade : GridView → SheetView → List ℕ → List ℕ → Type 0
IsMade g s bytes line = (tally : Tally) × IsCellOf g s bytes tally × (line ≡ cell_line tally (length bytes))

-- bytes are the cell that a chart after an update is written as and stand for this chart, and a line says how many records the update has and how long the cell is
pub record IsRevised (r : RevisedView) (bytes line : List ℕ) : Type 0 where
  pub written : bytes ≡ layout r.chart
  pub decodes : StandsFor bytes r.chart
  pub line_is : line ≡ revised_line r.records (length bytes)

-- the contents hold these bytes under a name, and else what they held
abbrev pub Holds : List ℕ → List ℕ → Option Contents → Option Contents → Type 0
Holds name bytes before after = after ≡ option_map (holding name bytes) before

-- such a cell is stored, and its line is put out
abbrev pub Stores : List ℕ → (List ℕ → List ℕ → Type 0) → Option Contents → Option Contents → Option (List ℕ) → Option (List ℕ) → Type 0
Stores name P before after old new = (cell : CellWhere P) × Holds name cell.bytes before after × Puts cell.line old new

-- a prefix of such a cell is stored, and nothing is put out
abbrev pub StopsStoring : List ℕ → (List ℕ → List ℕ → Type 0) → Option Contents → Option Contents → Option (List ℕ) → Option (List ℕ) → Type 0
StopsStoring name P before after old new = (cell : CellWhere P) × ((n : ℕ) × Holds name (take n cell.bytes) before after) × (new ≡ old)

-- such a cell is stored whole, and a prefix of its line is put out
abbrev pub StopsSaying : List ℕ → (List ℕ → List ℕ → Type 0) → Option Contents → Option Contents → Option (List ℕ) → Option (List ℕ) → Type 0
StopsSaying name P before after old new = (cell : CellWhere P) × Holds name cell.bytes before after × ((n : ℕ) × Puts (take n cell.line) old new)

-- nothing is stored, and nothing is put out
abbrev pub IsStill : Option Contents → Option Contents → Option (List ℕ) → Option (List ℕ) → Type 0
IsStill before after old new = (after ≡ before) × (new ≡ old)

-- a cell of which this holds is due under a name: it is stored and its line put out; or memory ran out before anything was stored; or a device failed before that, while the cell was stored, or while its line was put out
abbrev pub EndsStoring : Status → List ℕ → (List ℕ → List ℕ → Type 0) → Option Contents → Option Contents → Option (List ℕ) → Option (List ℕ) → Type 0
EndsStoring Done name P before after old new = Stores name P before after old new
EndsStoring Device name P before after old new = IsStill before after old new ⊎ (StopsStoring name P before after old new ⊎ StopsSaying name P before after old new)
EndsStoring NoMemory name P before after old new = IsStill before after old new
EndsStoring _ name P before after old new = ⊥

-- ---- a line that isn't computed

-- a line says what lies at a point by a grid and a sheet
abbrev pub IsGroundLine : GridView → SheetView → Point → List ℕ → Type 0
IsGroundLine g s p line = (a : GroundAt) × IsGroundAt g s p a × (line ≡ ground_line a)

-- a line says the verdict on whether a chart's areas tile what it covers
abbrev pub IsVerdictLine : Parts → List ℕ → Type 0
IsVerdictLine c line = (v : Verdict) × IsVerdict c v × (line ≡ verdict_line v)

-- a line of which this holds is due: it is put out; or memory ran out before that; or a device failed before that, or while the line was put out
abbrev pub EndsTelling : Status → (List ℕ → Type 0) → Option (List ℕ) → Option (List ℕ) → Type 0
EndsTelling Done P old new = (line : List ℕ) × P line × Puts line old new
EndsTelling Device P old new = (new ≡ old) ⊎ ((line : List ℕ) × P line × ((n : ℕ) × Puts (take n line) old new))
EndsTelling NoMemory P old new = new ≡ old
EndsTelling _ P old new = ⊥

-- ---- all

-- nothing is due, since an input isn't there: nothing is done, as if a device had failed, or memory ran out before that was found
abbrev pub EndsAbsent : Status → Option (List ℕ) → Option (List ℕ) → Type 0
EndsAbsent Device old new = new ≡ old
EndsAbsent NoMemory old new = new ≡ old
EndsAbsent _ old new = ⊥

-- how a run ends: with what is due, or it stops short of it
abbrev pub Ends : Status → Due → Option Contents → Option Contents → Option (List ℕ) → Option (List ℕ) → Type 0
Ends status (says due lines) before after old new = (after ≡ before) × EndsSaying status due lines old new
Ends status (makes name g s) before after old new = EndsStoring status name (IsMade g s) before after old new
Ends status (revises name r) before after old new = EndsStoring status name (IsRevised r) before after old new
Ends status (grounds g s p) before after old new = (after ≡ before) × EndsTelling status (IsGroundLine g s p) old new
Ends status (judges c) before after old new = (after ≡ before) × EndsTelling status (IsVerdictLine c) old new
Ends status absent before after old new = (after ≡ before) × EndsAbsent status old new

-- whether something is to be done: lines that are due as done, a cell, the telling of what lies at a point, or a verdict
abbrev pub is_done : Due → Bool
is_done (says Done lines) = true
is_done (says _ lines) = false
is_done (makes name g s) = true
is_done (revises name r) = true
is_done (grounds g s p) = true
is_done (judges c) = true
is_done absent = false

-- what is to be done is done, unless memory ran out and nothing is: no device is blamed
abbrev pub Completes : Status → Due → Option Contents → Option Contents → Option (List ℕ) → Option (List ℕ) → Type 0
Completes status d before after old new = IsTrue (is_done d) → (status ≡ Device → ⊥) × Ends status d before after old new

-- ---- whatever is told

-- contents are told, and an input that the words name isn't there, while each before it in the order of work is there and valid
abbrev pub IsAbsent : Option Command → Option Contents → Type 0
IsAbsent asked None = ⊥
IsAbsent asked (Some files) = due asked files ≡ absent

-- what stands under a name
abbrev pub under : List ℕ → Option Contents → Option (Option (List ℕ))
under name told = option_map (λ files. get files name) told

-- the contents stay, but for a cell that is stored under a name where the run is done or a device failed: then all other names stay
abbrev pub Keeps : Status → Option (List ℕ) → Option Contents → Option Contents → Type 0
Keeps Done (Some cell) before after = (name : List ℕ) → (name ≡ cell → ⊥) → under name after ≡ under name before
Keeps Device (Some cell) before after = (name : List ℕ) → (name ≡ cell → ⊥) → under name after ≡ under name before
Keeps _ _ before after = after ≡ before
