-- Values as numbers of which always the least is wanted, so that one pass serves for the least and for the greatest.
use Rattle.std.specs.Prelude.{ℕ, ◌+◌, ◌-◌, ◌*◌, ℤ, pos, neg_ℤ, ◌-ℤ◌, Option, Some, None, List, slice_index_or}
use Rattle.shoal_buffer.specs.declared.picks.Pick.{Pick}
use Rattle.shoal_buffer.specs.declared.picks.Pick.TheVariants.{Least, Greatest}
use Rattle.shoal_buffer.specs.Picks.{better}

-- a value's key; a missing value has one that none exceeds
abbrev pub key_of : Pick → Option ℤ → ℤ
key_of pick None = pos 2147483647
key_of Least (Some x) = x
key_of Greatest (Some x) = neg_ℤ (pos 1) -ℤ x

-- the value of a key
abbrev pub value_of : Pick → ℤ → ℤ
value_of Least x = x
value_of Greatest x = neg_ℤ (pos 1) -ℤ x

-- the value of a key, where a node has a value of its own
abbrev pub value_where : Pick → ℤ → Option ℤ → Option ℤ
value_where pick key None = None
value_where pick key (Some own) = Some (value_of pick key)

-- the key of a node's value, of values row by row
abbrev pub key_at : Pick → List (Option ℤ) → ℕ → ℕ → ℕ → ℤ
key_at pick values cols row col = key_of pick (slice_index_or values (row * cols + col) None)

-- a key of a row
abbrev pub at : List ℤ → ℕ → ℤ
at keys k = slice_index_or keys k (pos 0)

-- the least of a row's key and of those beside it
abbrev pub least_beside : List ℤ → ℕ → ℤ
least_beside keys k = better Least (better Least (at keys (k - 1)) (at keys k)) (slice_index_or keys (k + 1) (at keys k))
