-- What an ordered map from texts to stored bytes holds.
use Rattle.std.specs.Prelude.{List, map, String, string_bytes}
use Rattle.std.specs.declared.alloc.Global.{Global}
use Rattle.std.specs.FinMap.{from_entries}
use Rattle.chart_dev.specs.Memory.{Files, Stored}

-- what is stored under the bytes of each key
abbrev pub files_of : List (String Global × Stored) → Files
files_of pairs = from_entries (map (λ e. (string_bytes e.0, e.1)) pairs)
