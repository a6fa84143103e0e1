-- What steps and levels of the code show.
use Rattle.std.specs.Prelude.{ℤ, List, take, ◌+◌}
use Rattle.depth_rounding.specs.declared.steps.Bands.{Bands}
use Rattle.depth_rounding.specs.declared.levels.Levels.{Levels}

-- where steps begin
abbrev pub from_view : Bands → List ℤ
from_view b = take b.count b.step_from

abbrev pub steps_view : Bands → List ℤ
steps_view b = take (b.count + 1) b.steps

abbrev pub levels_view : Levels → List ℤ
levels_view l = take l.count l.list
