-- A run of the program: what it promises of whatever is asked for, over any shelf and sink.
use Rattle.std.specs.Prelude.{◌≡◌, ◌⊎◌, ◌≤◌, ℕ, List, Option, None, IfSome}
use Rattle.chart_dev.specs.Contents.{Contents}
use Rattle.chart_dev.specs.Faults.{Rose}
use Rattle.chart_cli.specs.declared.status.Status.{Status}
use Rattle.chart_cli.specs.declared.status.Status.TheVariants.{Usage, Device, NoMemory}
use Rattle.chart_cli.specs.Answers.{due, says, usage}
use Rattle.chart_cli.specs.Ends.{Completes, Ends, IsAbsent, Keeps}
use Rattle.chart_cli.specs.Overviews.{OverviewStaysShoal}
use Rattle.chart_cli.specs.Words.{Command, cell_of}

-- what a shelf and a sink tell at one moment
pub record Devices : Type 0 where
  -- the files of the shelf, where it tells them
  pub told : Option Contents
  -- how often the shelf has failed
  pub shelf_faults : ℕ
  -- the bytes that the sink has taken, where it tells them
  pub taken : Option (List ℕ)
  -- how often the sink has failed
  pub sink_faults : ℕ

abbrev pub devices : Option Contents → ℕ → Option (List ℕ) → ℕ → Devices
devices told shelf_faults taken sink_faults = record { told = told; shelf_faults = shelf_faults; taken = taken; sink_faults = sink_faults }

-- A run whose words ask for this command, or for none, ends with this status, and its devices tell this before and after it.
pub record IsRunOf (asked : Option Command) (status : Status) (before after : Devices) : Type 0 where
  -- What is put out and stored, and the status, are those that the words and the contents at entry make due.
  pub ends : IfSome before.told (λ files. Ends status (due asked files) before.told after.told before.taken after.taken)
  -- Words that are no command are said to be none, whatever the shelf tells.
  pub usage : asked ≡ None → Ends status (says Usage usage) before.told after.told before.taken after.taken
  -- Only such words are said to be none.
  pub usage_only : status ≡ Usage → asked ≡ None
  -- Want of memory is never answered for them.
  pub memory : status ≡ NoMemory → asked ≡ None → ⊥
  -- It doesn't give up by itself: a device is blamed only where its count of faults rose, or an input isn't there.
  pub device : status ≡ Device → Rose before.shelf_faults after.shelf_faults ⊎ Rose before.sink_faults after.sink_faults
      ⊎ IsAbsent asked before.told
  -- While no device fails, inputs that are there and valid give their lines or their cell, or memory ran out.
  pub complete : (Rose before.shelf_faults after.shelf_faults → ⊥) → (Rose before.sink_faults after.sink_faults → ⊥)
      → IfSome before.told (λ files. Completes status (due asked files) before.told after.told before.taken after.taken)
  -- The contents stay, but for the cell that the words name, where it is made or a device failed.
  pub contents : Keeps status (cell_of asked) before.told after.told
  -- The cell of an overview states no more water than the fine grid at any of its nodes.
  pub overview : OverviewStaysShoal asked status before.told after.told
  -- The counts of faults never fall.
  pub later : (before.shelf_faults ≤ after.shelf_faults) × (before.sink_faults ≤ after.sink_faults)
