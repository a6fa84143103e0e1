-- What a command finds out before it stores or says anything.
use Rattle.std.specs.Prelude.{◌≡◌, ℕ, List, Option, Some, None, Result, Ok, Err, Vec}
use Rattle.std.specs.declared.alloc.Global.{Global}
use Rattle.std.specs.FinMap.{get}
use Rattle.chart_dev.specs.Contents.{Contents}
use Rattle.chart_cli.specs.declared.cell_answers.CellAnswer.{CellAnswer}
use Rattle.chart_cli.specs.declared.halt.Halt.{Halt}
use Rattle.chart_cli.specs.declared.halt.Halt.TheVariants as halt
use Rattle.chart_cli.specs.declared.status.Status.TheVariants.{Done, Refused}
use Rattle.chart_cli.specs.Answers.{Due, says, makes, revises, grounds, judges, inputs_of}
use Rattle.chart_cli.specs.Ends.{IsGroundLine, IsMade, IsRevised, IsVerdictLine}
use Rattle.chart_cli.specs.Reads.{Read, refused, missing, revision_in, sources_in}
use Rattle.chart_cli.specs.Words.{Origin, Revision, Sources}

-- ---- what is read

-- What a function returned, seen by view, is what the files give, unless a device failed or memory ran out.
abbrev pub Finds : {X Y : Type 0} → (X → Y) → Result X Halt → Read Y → Type 0
Finds view (Ok x) read = read ≡ Ok (view x)
Finds view (Err (halt.Refused line)) read = read ≡ Err (refused line.items)
Finds view (Err halt.Device) read = Unit {0}
Finds view (Err halt.NoMemory) read = Unit {0}

-- contents are told, and the sheet that a cell is made from isn't there, or it is valid and the grid isn't there
abbrev pub AreMissing : Option Contents → Origin → Type 0
AreMissing None origin = ⊥
AreMissing (Some files) origin = inputs_of origin files ≡ Err missing

-- contents are told, and the sheet isn't there, or it is valid and the grid isn't there
abbrev pub LackSources : Option Contents → Sources → Type 0
LackSources None names = ⊥
LackSources (Some files) names = sources_in (get files names.sheet) (get files names.grid) ≡ Err missing

-- contents are told, and the base isn't there, or it is valid and the update isn't there
abbrev pub LackRevision : Option Contents → Revision → Type 0
LackRevision None names = ⊥
LackRevision (Some files) names = revision_in (get files names.base) (get files names.update) ≡ Err missing

-- ---- what is due

-- a refusal that is due, or a device failed, or memory ran out
abbrev pub Halts : Halt → Due → Type 0
Halts (halt.Refused line) d = d ≡ says Refused line.items
Halts halt.Device d = Unit {0}
Halts halt.NoMemory d = Unit {0}

-- lines that are due as done, the line of what lies at a point, or that of a verdict
abbrev pub FindsLines : Result (Vec ℕ Global) Halt → Due → Type 0
FindsLines (Ok lines) (grounds g s p) = IsGroundLine g s p lines.items
FindsLines (Ok lines) (judges c) = IsVerdictLine c lines.items
FindsLines (Ok lines) d = d ≡ says Done lines.items
FindsLines (Err h) d = Halts h d

-- a cell that is due under a name, with its line
abbrev pub FindsCell : List ℕ → Result CellAnswer Halt → Due → Type 0
FindsCell cell (Ok answer) (makes name g s) = (name ≡ cell) × IsMade g s answer.bytes.items answer.line.items
FindsCell cell (Ok answer) (revises name r) = (name ≡ cell) × IsRevised r answer.bytes.items answer.line.items
FindsCell cell (Ok answer) d = ⊥
FindsCell cell (Err h) d = Halts h d
