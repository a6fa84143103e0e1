-- The program's exit status.
use Rattle.std.specs.Prelude.{ℕ}
use Rattle.chart_cli.specs.declared.status.Status.{Status}
use Rattle.chart_cli.specs.declared.status.Status.TheVariants.{Done, Refused, Usage, Device, NoMemory}

-- the number of a status
abbrev pub number_of : Status → ℕ
number_of Done = 0
number_of Refused = 1
number_of Usage = 2
number_of Device = 3
number_of NoMemory = 4
