-- What words of numbers say.
use Rattle.std.specs.Prelude.{codes, ℕ, List, Option, Some, None, if◌then◌else◌}
use Rattle.exact_num.specs.Number.{Number}
use Rattle.exact_num.specs.Text.{number_of}
use Rattle.grid_reader.specs.Keys.{spells}

-- what a word that is a number or `nan` says: a number, or that there is none
abbrev pub Mark : Type 0
Mark = Option Number

abbrev pub or_nan : List ℕ → Option Number → Option Mark
or_nan word (Some n) = Some (Some n)
or_nan word None = if spells (codes "nan") word then Some None else None

unfoldable pub mark_of : List ℕ → Option Mark
mark_of word = or_nan word (number_of word)
