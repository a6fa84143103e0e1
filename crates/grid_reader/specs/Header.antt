-- The header: pairs of a key and a value, up to the first word in a key's place that is no key.
use Rattle.std.specs.Prelude.{ℕ, Bool, true, false, List, [], ◌∷◌, Option, Some, None, is_some, Result, Ok, Err, if◌then◌else◌}
use Rattle.readings.specs.Readings.{◌>>=◌}
use Rattle.exact_num.specs.Number.{Number}
use Rattle.grid_reader.specs.declared.fault.GridFault.{GridFault}
use Rattle.grid_reader.specs.declared.fault.GridFault.TheVariants as fault
use Rattle.grid_reader.specs.declared.key.Key.{Key}
use Rattle.grid_reader.specs.declared.key.Key.TheVariants.{Ncols, Nrows, XCorner, XCenter, YCorner, YCenter, CellSize, NoData}
use Rattle.grid_reader.specs.declared.found.Found.{Found}
use Rattle.grid_reader.specs.Words.{Word}
use Rattle.grid_reader.specs.Keys.{key_of}
use Rattle.grid_reader.specs.Marks.{Mark, mark_of}

-- a key, where it stands, and the word behind it, if there is one
pub record Pair : Type 0 where
  pub key : Key
  pub at : ℕ
  pub value : Option Word

abbrev pub with_pair : Option Key → ℕ → Option Word → List Pair → List Pair
with_pair None at value ps = []
with_pair (Some key) at value ps = record { key = key; at = at; value = value } ∷ ps

-- the pairs of the header
abbrev pub pairs : List Word → List Pair
pairs [] = []
pairs (w ∷ []) = with_pair (key_of w.bytes) w.at None []
pairs (w ∷ v ∷ ws) = with_pair (key_of w.bytes) w.at (Some v) (pairs ws)

-- the words behind the header
abbrev pub values : List Word → List Word
values [] = []
values (w ∷ []) = if is_some (key_of w.bytes) then [] else w ∷ []
values (w ∷ v ∷ ws) = if is_some (key_of w.bytes) then values ws else w ∷ (v ∷ ws)

-- the key, or its other spelling, was found before
abbrev pub has : Key → Found → Bool
has Ncols f = is_some f.cols
has Nrows f = is_some f.rows
has XCorner f = is_some f.x
has XCenter f = is_some f.x
has YCorner f = is_some f.y
has YCenter f = is_some f.y
has CellSize f = is_some f.cell
has NoData f = is_some f.nodata

-- a number found for a key
abbrev pub put : Key → Number → Found → Found
put Ncols n f = record f { cols = Some n }
put Nrows n f = record f { rows = Some n }
put XCorner n f = record f { x = Some (record { corner = true; value = n }) }
put XCenter n f = record f { x = Some (record { corner = false; value = n }) }
put YCorner n f = record f { y = Some (record { corner = true; value = n }) }
put YCenter n f = record f { y = Some (record { corner = false; value = n }) }
put CellSize n f = record f { cell = Some n }
put NoData n f = record f { nodata = Some (Some n) }

-- `nan` is a value of the no-data key alone
abbrev pub put_nan : Key → ℕ → Found → Result Found GridFault
put_nan NoData at f = Ok (record f { nodata = Some None })
put_nan key at f = Err (fault.Number at)

abbrev pub put_mark : Key → ℕ → Option Mark → Found → Result Found GridFault
put_mark key at None f = Err (fault.Number at)
put_mark key at (Some None) f = put_nan key at f
put_mark key at (Some (Some n)) f = Ok (put key n f)

-- a value that isn't there is missed at the text's end
abbrev pub put_word : ℕ → Key → Option Word → Found → Result Found GridFault
put_word end key None f = Err (fault.Number end)
put_word end key (Some v) f = put_mark key v.at (mark_of v.bytes) f

abbrev pub with_found : ℕ → Pair → Found → Result Found GridFault
with_found end p f = if has p.key f then Err (fault.Repeated p.at) else put_word end p.key p.value f

-- what pairs add to what was found before them, or the first fault
abbrev pub found_from : ℕ → Found → List Pair → Result Found GridFault
found_from end f [] = Ok f
found_from end f (p ∷ ps) = with_found end p f >>= (λ g. found_from end g ps)

-- the first word behind the header is a number or `nan`
abbrev pub header_ends : List Word → Result (Unit {0}) GridFault
header_ends [] = Ok tt
header_ends (w ∷ ws) = if is_some (mark_of w.bytes) then Ok tt else Err (fault.Header w.at)
