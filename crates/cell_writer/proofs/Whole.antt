-- The records of a cell, list by list.
use Rattle.std.proofs.Common.{◌≡◌, ℕ, ◌+◌, List, ◌++◌, Result, Ok, Err, length, sym, ap, ap₂, ◌∙◌, append_assoc, arith}
use Rattle.std.specs.List.{flat_map}
use Rattle.std.specs.Result.{OnOk}
use Rattle.std.proofs.lemmas.List.Concat.{flat_map-append}
use Rattle.cell_writer.specs.Layout.{numbered, isolated_parts, connected_parts, edge_parts, feature_parts, vector_records, feature_records, data_set_parts, parameter_parts, layout}
use Rattle.chart_model.specs.declared.records.Parts.{Parts}
use Rattle.iso8211_codec.specs.First.{first}
use Rattle.iso8211_codec.specs.Layout.{record_of}
use Rattle.iso8211_codec.specs.Reading.{Part}

-- the bytes of records
abbrev pub bytes : List (List Part) → List ℕ
bytes records = flat_map record_of records

pub lists : {T E : Type 0} (r : Result T E) (c : Parts) (old one two three four : List ℕ)
    → one ≡ old ++ bytes (numbered isolated_parts 3 c.isolated)
    → two ≡ one ++ bytes (numbered connected_parts (3 + length c.isolated) c.connected)
    → three ≡ two ++ bytes (numbered edge_parts (3 + length c.isolated + length c.connected) c.edges)
    → OnOk r (four ≡ three ++ bytes (numbered feature_parts (3 + length c.isolated + length c.connected + length c.edges) c.features))
    → OnOk r (four ≡ old ++ bytes (vector_records c ++ feature_records c))
lists (Err x) c old one two three four a b d e = tt
lists (Ok x) c old one two three four a b d e =
    e ∙ ap (λ t. t ++ bytes features) (d ∙ ap (λ t. t ++ bytes edges) (b ∙ ap (λ t. t ++ bytes connected) a)) ∙ regrouped
  where
    isolated : List (List Part)
    isolated = numbered isolated_parts 3 c.isolated

    connected : List (List Part)
    connected = numbered connected_parts (3 + length c.isolated) c.connected

    edges : List (List Part)
    edges = numbered edge_parts (3 + length c.isolated + length c.connected) c.edges

    features : List (List Part)
    features = numbered feature_parts (3 + length c.isolated + length c.connected + length c.edges) c.features

    edges_at : edges ≡ numbered edge_parts (3 + (length c.isolated + length c.connected)) c.edges
    edges_at = ap (λ n. numbered edge_parts n c.edges) (omega arith)

    features_at : features ≡ feature_records c
    features_at = ap (λ n. numbered feature_parts n c.features) (omega arith)

    joined : (isolated ++ (connected ++ edges)) ++ features ≡ vector_records c ++ feature_records c
    joined = ap₂ (λ es fs. (isolated ++ (connected ++ es)) ++ fs) edges_at features_at

    regrouped : ((old ++ bytes isolated ++ bytes connected) ++ bytes edges) ++ bytes features ≡ old ++ bytes (vector_records c ++ feature_records c)
    regrouped =
        let a : bytes ((isolated ++ (connected ++ edges)) ++ features) ≡ (bytes isolated ++ (bytes connected ++ bytes edges)) ++ bytes features = simp flat_map-append in
        let b : ((old ++ bytes isolated ++ bytes connected) ++ bytes edges) ++ bytes features ≡ old ++ ((bytes isolated ++ (bytes connected ++ bytes edges)) ++ bytes features) = simp append_assoc in
        b ∙ ap (λ t. old ++ t) (sym a ∙ ap bytes joined)

one_after_another : (a b d e one two three four : List ℕ) → one ≡ a → two ≡ one ++ b → three ≡ two ++ d → four ≡ three ++ e → four ≡ a ++ (b ++ (d ++ e))
one_after_another a b d e one two three four h1 h2 h3 h4 = rw (h4, h3, h2, h1) (simp append_assoc)

-- the whole cell
pub all_records : (c : Parts) (one two three four : List ℕ) → one ≡ first → two ≡ one ++ record_of (data_set_parts 1 c) → three ≡ two ++ record_of (parameter_parts 2 c.header)
    → four ≡ three ++ bytes (vector_records c ++ feature_records c) → four ≡ layout c
unfolding layout
all_records c one two three four a b d e = one_after_another first (record_of (data_set_parts 1 c)) (record_of (parameter_parts 2 c.header)) (bytes (vector_records c ++ feature_records c)) one two three four a b d e
