-- The words of a text by their places: its maximal runs of bytes that aren't white space, from the first to the last.
use Rattle.std.specs.Prelude.{◌≡◌, ℕ, ◌+◌, ◌<◌, ◌≤◌, true, false, List, length, Some, slice_get, slice_index, slice_range}
use Rattle.grid_reader.specs.Words.{is_space, Word}

-- the place right behind a word
abbrev pub end_of : Word → ℕ
end_of w = w.at + length w.bytes

-- the word is a maximal run: bytes of the text, at least one, none of them white space, with white space or an end of the text on either side
pub record IsRun (text : List ℕ) (w : Word) : Type 0 where
  pub some : 0 < length w.bytes
  pub within : end_of w ≤ length text
  pub bytes : w.bytes ≡ slice_range text w.at (end_of w)
  pub solid : (k : ℕ) → w.at ≤ k → k < end_of w → is_space (slice_index text k) ≡ false
  pub before : (k : ℕ) → k + 1 ≡ w.at → is_space (slice_index text k) ≡ true
  pub behind : end_of w < length text → is_space (slice_index text (end_of w)) ≡ true

-- one of the words has the byte at a place
pub record IsInWord (ws : List Word) (k : ℕ) : Type 0 where
  pub i : ℕ
  pub w : Word
  pub is_there : slice_get ws i ≡ Some w
  pub from : w.at ≤ k
  pub to : k < end_of w

-- these are the words of a text: each is a maximal run, they stand in rising order, and each byte that isn't white space is in one of them
pub record AreWords (text : List ℕ) (ws : List Word) : Type 0 where
  pub runs : (i : ℕ) (w : Word) → slice_get ws i ≡ Some w → IsRun text w
  pub rising : (i k : ℕ) (v w : Word) → i < k → slice_get ws i ≡ Some v → slice_get ws k ≡ Some w → v.at < w.at
  pub all : (k : ℕ) → k < length text → is_space (slice_index text k) ≡ false → IsInWord ws k
