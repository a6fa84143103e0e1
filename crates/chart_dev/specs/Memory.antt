-- What the devices in memory hold: files with room, and calls that are made to fail.
use Rattle.std.specs.Prelude.{ℕ, ◌+◌, ◌-◌, ◌^◌, ◌<◌, ◌≤◌, max, nat_lt, List, [], ◌∷◌, ◌++◌, length, map, unwrap_or, Contains, if◌then◌else◌, refl}
use Rattle.std.specs.Ordering.{nat_cmp}
use Rattle.std.specs.Cmp.Lexicographic.{slice_cmp}
use Rattle.std.specs.FinMap.{FinMap, get, entries, from_entries, code}
use Rattle.std.specs.Coded.{Coded, code_by, coded×, coded_ℕ, coded_list}
use Rattle.chart_dev.specs.Contents.{Contents}
use Rattle.chart_dev.specs.Faults.{risen}

-- bytes, and how many can stand there without more memory
pub record Stored : Type 0 where
  pub bytes : List ℕ
  pub room : ℕ

-- bytes with no room beside them
abbrev pub filled : List ℕ → Stored
filled bytes = record { bytes = bytes; room = length bytes }

-- no bytes, in the same room
abbrev pub emptied : Stored → Stored
emptied stored = record stored { bytes = [] }

-- with a piece more at the end, and room for it
abbrev pub grown : List ℕ → Stored → Stored
grown piece stored = record { bytes = stored.bytes ++ piece; room = max stored.room (length stored.bytes + length piece) }

-- with room for at least so many bytes
abbrev pub widened : ℕ → Stored → Stored
widened bytes stored = record stored { room = max stored.room bytes }

-- a piece fits beside the bytes that are there
abbrev pub HasRoom : Stored → List ℕ → Type 0
HasRoom stored piece = length stored.bytes + length piece ≤ stored.room

-- the calls of one kind: how many were made, and the numbers, counted from 1, of those that are made to fail
pub record Counted : Type 0 where
  pub made : ℕ
  pub failing : List ℕ

-- one call more
abbrev pub counted : Counted → Counted
counted calls = record calls { made = risen calls.made }

-- the next call is made to fail, where the counter has a number for it
abbrev pub FailsNext : Counted → Type 0
FailsNext calls = (calls.made < 2 ^ 64 - 1) × Contains calls.failing (calls.made + 1)

-- with the call of a number made to fail, where it is still to come
abbrev pub failing_at : ℕ → Counted → Counted
failing_at nth calls = if nat_lt calls.made nth then record calls { failing = calls.failing ++ nth ∷ [] } else calls

-- files with their room, under their names
abbrev pub Files : Type 0
Files = FinMap (slice_cmp nat_cmp) Stored

-- the file of a name, one of no bytes and no room where the name isn't there
abbrev pub stored_at : Files → List ℕ → Stored
stored_at files name = unwrap_or (get files name) (filled [])

-- the bytes under each name
abbrev pub contents : Files → Contents
contents files = from_entries (map (λ e. (e.0, e.1.bytes)) (entries files))

-- a shelf in memory, which reads or appends at most so many bytes in one call
pub record ShelfMemory : Type 0 where
  pub files : Files
  pub most : ℕ
  pub reads : Counted
  pub starts : Counted
  pub appends : Counted
  pub faults : ℕ

-- a sink in memory, which takes at most so many bytes in one call
pub record SinkMemory : Type 0 where
  pub taken : Stored
  pub most : ℕ
  pub puts : Counted
  pub faults : ℕ

-- each is kept as the tuple of its fields
abbrev pub stored_code : Coded Stored
stored_code = code_by (List ℕ × ℕ) (coded× (coded_list coded_ℕ) coded_ℕ) (λ s. (s.bytes, s.room)) (λ p. record { bytes = p.0; room = p.1 }) (λ _. refl)

abbrev pub counted_code : Coded Counted
counted_code = code_by (ℕ × List ℕ) (coded× coded_ℕ (coded_list coded_ℕ)) (λ c. (c.made, c.failing)) (λ p. record { made = p.0; failing = p.1 }) (λ _. refl)

abbrev pub shelf_code : Coded ShelfMemory
shelf_code =
    code_by (Files × (ℕ × (Counted × (Counted × (Counted × ℕ)))))
    (coded× (code (coded_list coded_ℕ) stored_code) (coded× coded_ℕ (coded× counted_code (coded× counted_code (coded× counted_code coded_ℕ)))))
    (λ s. (s.files, (s.most, (s.reads, (s.starts, (s.appends, s.faults))))))
    (λ p. record { files = p.0; most = p.1.0; reads = p.1.1.0; starts = p.1.1.1.0; appends = p.1.1.1.1.0; faults = p.1.1.1.1.1 }) (λ _. refl)

abbrev pub sink_code : Coded SinkMemory
sink_code =
    code_by (Stored × (ℕ × (Counted × ℕ))) (coded× stored_code (coded× coded_ℕ (coded× counted_code coded_ℕ))) (λ s. (s.taken, (s.most, (s.puts, s.faults))))
    (λ p. record { taken = p.0; most = p.1.0; puts = p.1.1.0; faults = p.1.1.1 }) (λ _. refl)
