-- The keys of a grid's header, and what words say.
use Rattle.std.specs.Prelude.{codes, ℕ, Bool, List, Option, Some, None, if◌then◌else◌}
use Rattle.std.specs.Str.{str_eq_ignore_ascii_case}
use Rattle.grid_reader.specs.declared.key.GridKey.{GridKey}
use Rattle.grid_reader.specs.declared.key.GridKey.TheVariants as grid_key
use Rattle.grid_reader.specs.declared.key.Key.{Key}
use Rattle.grid_reader.specs.declared.key.Key.TheVariants.{Ncols, Nrows, XCorner, XCenter, YCorner, YCenter, CellSize, NoData}

-- a key as it is printed, by the corner's spelling
abbrev pub grid_key_name : GridKey → List ℕ
grid_key_name grid_key.Ncols = codes "ncols"
grid_key_name grid_key.Nrows = codes "nrows"
grid_key_name grid_key.X = codes "xllcorner"
grid_key_name grid_key.Y = codes "yllcorner"
grid_key_name grid_key.CellSize = codes "cellsize"

-- the word is this name in any letter case
abbrev pub spells : List ℕ → List ℕ → Bool
spells name word = str_eq_ignore_ascii_case word name

-- the key that a word is
unfoldable pub key_of : List ℕ → Option Key
key_of word =
    if spells (codes "ncols") word then Some Ncols
    else (if spells (codes "nrows") word then Some Nrows
    else (if spells (codes "xllcorner") word then Some XCorner
    else (if spells (codes "xllcenter") word then Some XCenter
    else (if spells (codes "yllcorner") word then Some YCorner
    else (if spells (codes "yllcenter") word then Some YCenter
    else (if spells (codes "cellsize") word then Some CellSize
    else (if spells (codes "nodata_value") word then Some NoData else None)))))))
