-- Words of the code.
use Rattle.std.specs.Prelude.{ℕ, List, option_map}
use Rattle.std.specs.List.{slice_range}
use Rattle.grid_reader.specs.declared.span.Span.{Span}
use Rattle.grid_reader.specs.declared.header.PairAt.{PairAt}
use Rattle.grid_reader.specs.Words.{Word}
use Rattle.grid_reader.specs.Header.{Pair}

abbrev pub word_of : List ℕ → Span → Word
word_of text s = record { at = s.begin; bytes = slice_range text s.begin s.end }

abbrev pub pair_of : List ℕ → PairAt → Pair
pair_of text p = record { key = p.key; at = p.at; value = option_map (word_of text) p.value }
