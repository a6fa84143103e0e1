-- The room of a list of bytes that is appended to.
use Rattle.std.specs.Prelude.{◌≡◌, ◌≤◌, ℕ, Vec, vec_len, vec_capacity}

-- Where there was room for all that stands in the list afterwards, no memory was asked for: its capacity is what it was.
abbrev pub KeepsRoom : {Z : Type 0} → Vec ℕ Z → Vec ℕ Z → Type 0
KeepsRoom old new = vec_len new ≤ vec_capacity old → vec_capacity new ≡ vec_capacity old
