-- What a shelf holds: bytes under names.
use Rattle.std.specs.Prelude.{◌≡◌, ℕ, ◌-◌, ◌<◌, ◌≤◌, List, [], ◌++◌, length, take, drop, Option, Some, None, IsSome, unwrap_or}
use Rattle.std.specs.Ordering.{nat_cmp}
use Rattle.std.specs.Cmp.Lexicographic.{slice_cmp}
use Rattle.std.specs.FinMap.{FinMap, get, insert}

-- the bytes under each name
abbrev pub Contents : Type 0
Contents = FinMap (slice_cmp nat_cmp) (List ℕ)

-- the bytes under a name, none where the name isn't there
abbrev pub bytes_at : Contents → List ℕ → List ℕ
bytes_at files name = unwrap_or (get files name) []

-- with the name's bytes made empty
abbrev pub started : List ℕ → Contents → Contents
started name files = insert files name []

-- with a piece more at the end of the name's bytes
abbrev pub appended : List ℕ → List ℕ → Contents → Contents
appended name piece files = insert files name (bytes_at files name ++ piece)

-- contents are told, and the name isn't there
abbrev pub IsMissing : Option Contents → List ℕ → Type 0
IsMissing None name = ⊥
IsMissing (Some files) name = get files name ≡ None

-- n bytes of a file from a place stand at the beginning of a buffer, and none only where there are no more or no room
pub record ReadsFrom (bytes : List ℕ) (at : ℕ) (buffer : List ℕ) (n : ℕ) : Type 0 where
  pub taken : take n buffer ≡ take n (drop at bytes)
  pub within : n ≤ length bytes - at
  pub ends : n ≡ 0 → 0 < length buffer → length bytes ≤ at

-- where contents are told, a read that went well found the name, and took its bytes
abbrev pub ReadsTold : Option Contents → List ℕ → ℕ → List ℕ → ℕ → Type 0
ReadsTold None name at buffer n = Unit {0}
ReadsTold (Some files) name at buffer n = IsSome (get files name) × ReadsFrom (bytes_at files name) at buffer n

-- with these bytes under a name
abbrev pub holding : List ℕ → List ℕ → Contents → Contents
holding name bytes files = insert files name bytes
