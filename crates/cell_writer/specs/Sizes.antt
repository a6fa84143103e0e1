-- The lengths of records, where each has at most 99,999 bytes.
use Rattle.std.specs.Prelude.{ℕ, ◌+◌, List, [], ◌∷◌, Option, Some, None, option_map, if◌then◌else◌}
use Rattle.cell_writer.specs.Layout.{is_short, data_set_parts, parameter_parts, isolated_parts, connected_parts, edge_parts, feature_parts}
use Rattle.chart_model.specs.declared.records.Parts.{Parts}
use Rattle.iso8211_codec.specs.Layout.{size, lens_of}
use Rattle.iso8211_codec.specs.Reading.{Part}

-- the length of a record, where it is short
abbrev pub short_size : List Part → Option ℕ
short_size parts = if is_short parts then Some (size (lens_of parts)) else None

-- the sum of two lengths, where both are there
abbrev pub plus : Option ℕ → Option ℕ → Option ℕ
plus None b = None
plus (Some a) b = option_map (λ n. a + n) b

-- the sum of the lengths of all, where all are there
abbrev pub plus_all : {X : Type 0} → (X → Option ℕ) → List X → Option ℕ
plus_all size [] = Some 0
plus_all size (x ∷ xs) = plus (size x) (plus_all size xs)

-- the length of the first record
abbrev pub first_size : ℕ
first_size = 1352

-- The length of a cell, where each of its records is short. Where a record lies doesn't change its length.
abbrev pub size_of : Parts → Option ℕ
size_of c =
    plus (short_size (data_set_parts 0 c))
    (plus (short_size (parameter_parts 0 c.header))
    (plus (plus_all (λ node. short_size (isolated_parts 0 node)) c.isolated)
    (plus (plus_all (λ node. short_size (connected_parts 0 node)) c.connected)
    (plus (plus_all (λ edge. short_size (edge_parts 0 edge)) c.edges)
    (plus (plus_all (λ feature. short_size (feature_parts 0 feature)) c.features)
    (Some first_size))))))
