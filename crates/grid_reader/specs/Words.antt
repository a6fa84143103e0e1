-- A text as the list of its words: its maximal runs of bytes that aren't white space.
use Rattle.std.specs.Prelude.{ℕ, ◌+◌, Bool, true, false, not, ◌&&◌, ◌||◌, ◌==◌, nat_le, List, [], ◌∷◌, if◌then◌else◌}

-- tab, line feed, vertical tab, form feed, carriage return and blank
abbrev pub is_space : ℕ → Bool
is_space c = (nat_le 9 c && nat_le c 13) || c == 32

-- a word and the place of its first byte in the text
pub record Word : Type 0 where
  pub at : ℕ
  pub bytes : List ℕ

abbrev pub begins_word : List ℕ → Bool
begins_word [] = false
begins_word (c ∷ cs) = not (is_space c)

-- a byte of a word, before the words behind it: it belongs to the first of them where that one begins right behind it
abbrev pub with_byte : ℕ → ℕ → Bool → List Word → List Word
with_byte at c true (w ∷ ws) = record { at = at; bytes = c ∷ w.bytes } ∷ ws
with_byte at c true [] = record { at = at; bytes = c ∷ [] } ∷ []
with_byte at c false ws = record { at = at; bytes = c ∷ [] } ∷ ws

-- the words of a text that begins at a place
abbrev pub words : ℕ → List ℕ → List Word
words at [] = []
words at (c ∷ cs) = if is_space c then words (at + 1) cs else with_byte at c (begins_word cs) (words (at + 1) cs)
