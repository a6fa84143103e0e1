-- The length of a cell's bytes is the sum of its records' lengths.
use Rattle.std.proofs.Common.{◌≡◌, ℕ, ◌+◌, ◌*◌, List, [], ◌∷◌, ◌++◌, Some, None, cond, length, ltb, refl, sym, ap, ap₂, ◌∙◌, arith}
use Rattle.std.specs.Bool.{IsTrue}
use Rattle.std.specs.List.{AllByRecursion, flat_map, list_all}
use Rattle.std.proofs.lemmas.Bool.{lt-ltb, and_parts}
use Rattle.std.proofs.lemmas.List.{length-append}
use Rattle.std.proofs.lemmas.List.Concat.{flat_map-append}
use Rattle.std.proofs.lemmas.List.Folds.{list_all-append}
use Rattle.cell_writer.specs.Layout.{numbered, is_short, data_set_parts, parameter_parts, isolated_parts, connected_parts, edge_parts, feature_parts, vector_records, feature_records, fits_of, layout, records}
use Rattle.cell_writer.specs.Sizes.{plus, plus_all, short_size, size_of}
use Rattle.cell_writer.proofs.Fitting.{are_short}
use Rattle.cell_writer.proofs.Made.{connected_made, data_set_made, edge_made, feature_made, isolated_made, parameters_made}
use Rattle.cell_writer.proofs.Sizing.{cost, size_is}
use Rattle.chart_model.specs.declared.records.Parts.{Parts}
use Rattle.iso8211_codec.specs.Digits.{five}
use Rattle.iso8211_codec.specs.First.{first}
use Rattle.iso8211_codec.specs.Layout.{IsField, MakeRecord, bytes_of, entries_from, lens_of, record_of, size, tags_of}
use Rattle.iso8211_codec.specs.Reading.{Part}

-- ---- one record

-- a directory has 14 bytes for each field
entries_length : (from : ℕ) (ps : List Part) → AllByRecursion IsField ps → length (entries_from from (tags_of ps) (lens_of ps)) ≡ 14 * length ps
entries_length from [] h = refl
entries_length from (p ∷ ps) h =
    let rest : List ℕ = entries_from (from + length p.bytes) (tags_of ps) (lens_of ps) in
    omega (arith, h.0.named, length-append p.tag (five (length p.bytes) ++ (five from ++ rest)), entries_length (from + length p.bytes) ps h.1)

cost_is : (ps : List Part) → cost ps ≡ 14 * length ps + length (bytes_of ps)
cost_is [] = refl
cost_is (p ∷ ps) = omega (arith, cost_is ps, length-append p.bytes (bytes_of ps))

-- a record has the length that its leader says
record_length : (ps : List Part) → AllByRecursion IsField ps → length (record_of ps) ≡ size (lens_of ps)
record_length ps h =
    let entries : List ℕ = entries_from 0 (tags_of ps) (lens_of ps) in
    omega (arith, size_is ps, cost_is ps, entries_length 0 ps h, length-append entries (30 ∷ bytes_of ps))

-- fields ps of the same lengths as those of a record qs
short_length : (ps qs : List Part) → lens_of ps ≡ lens_of qs → MakeRecord qs → short_size ps ≡ Some (length (record_of qs))
short_length ps qs same m =
    ap (λ lens. cond (ltb (size lens) 100000) (Some (size lens)) None) same
    ∙ rw (lt-ltb (size (lens_of qs)) 100000 m.fits) (ap Some (sym (record_length qs m.each)))

-- ---- lists of records

list_length : {X : Type 0} (parts : ℕ → X → List Part) → ((n : ℕ) (x : X) → lens_of (parts 0 x) ≡ lens_of (parts n x)) → ((n : ℕ) (x : X) → IsTrue (is_short (parts n x)) → MakeRecord (parts n x))
    → (n : ℕ) (xs : List X) → IsTrue (list_all is_short (numbered parts n xs))
    → plus_all (λ x. short_size (parts 0 x)) xs ≡ Some (length (flat_map record_of (numbered parts n xs)))
list_length parts same made n [] h = refl
list_length parts same made n (x ∷ xs) h =
    let b = and_parts (is_short (parts n x)) (list_all is_short (numbered parts (n + 1) xs)) h in
    ap₂ plus (short_length (parts 0 x) (parts n x) (same n x) (made n x b.0)) (list_length parts same made (n + 1) xs b.1)
    ∙ ap Some (sym (length-append (record_of (parts n x)) (flat_map record_of (numbered parts (n + 1) xs))))

-- ---- the cell

appended : (xs ys : List (List Part)) → length (flat_map record_of (xs ++ ys)) ≡ length (flat_map record_of xs) + length (flat_map record_of ys)
appended xs ys = ap length (flat_map-append record_of xs ys) ∙ length-append (flat_map record_of xs) (flat_map record_of ys)

first_length : length first ≡ 1352
first_length = refl

-- two records and the lists after the first record of the file
after_first : (a b lists : List ℕ) (i k e f : ℕ) → length lists ≡ i + (k + (e + f)) → length a + (length b + (i + (k + (e + (f + 1352))))) ≡ length (first ++ (a ++ (b ++ lists)))
after_first a b lists i k e f is = length_after first first_length
  where
    length_after : (front : List ℕ) → length front ≡ 1352 → length a + (length b + (i + (k + (e + (f + 1352))))) ≡ length (front ++ (a ++ (b ++ lists)))
    length_after front long = omega (arith, long, is, length-append front (a ++ (b ++ lists)), length-append a (b ++ lists), length-append b lists)

pub whole_length : (c : Parts) → IsTrue (fits_of c) → size_of c ≡ Some (length (layout c))
unfolding layout
whole_length c h = rw (data_set, parameters, isolated_is, connected_is, edges_is, features_is) (ap Some total)
  where
    isolated : List (List Part)
    isolated = numbered isolated_parts 3 c.isolated

    connected : List (List Part)
    connected = numbered connected_parts (3 + length c.isolated) c.connected

    edges : List (List Part)
    edges = numbered edge_parts (3 + (length c.isolated + length c.connected)) c.edges

    data_set : short_size (data_set_parts 0 c) ≡ Some (length (record_of (data_set_parts 1 c)))
    data_set = short_length (data_set_parts 0 c) (data_set_parts 1 c) refl (data_set_made 1 c (are_short c h).data_set)

    parameters : short_size (parameter_parts 0 c.header) ≡ Some (length (record_of (parameter_parts 2 c.header)))
    parameters = short_length (parameter_parts 0 c.header) (parameter_parts 2 c.header) refl (parameters_made 2 c.header (are_short c h).parameters)

    first_list : IsTrue (list_all is_short isolated) × IsTrue (list_all is_short (connected ++ edges))
    first_list = and_parts (list_all is_short isolated) _ (sym (list_all-append is_short isolated (connected ++ edges)) ∙ (are_short c h).vectors)

    next_lists : IsTrue (list_all is_short connected) × IsTrue (list_all is_short edges)
    next_lists = and_parts (list_all is_short connected) _ (sym (list_all-append is_short connected edges) ∙ first_list.1)

    isolated_is : plus_all (λ node. short_size (isolated_parts 0 node)) c.isolated ≡ Some (length (flat_map record_of isolated))
    isolated_is = list_length isolated_parts (λ n x. refl) isolated_made 3 c.isolated first_list.0

    connected_is : plus_all (λ node. short_size (connected_parts 0 node)) c.connected ≡ Some (length (flat_map record_of connected))
    connected_is = list_length connected_parts (λ n x. refl) connected_made (3 + length c.isolated) c.connected next_lists.0

    edges_is : plus_all (λ edge. short_size (edge_parts 0 edge)) c.edges ≡ Some (length (flat_map record_of edges))
    edges_is = list_length edge_parts (λ n x. refl) edge_made (3 + (length c.isolated + length c.connected)) c.edges next_lists.1

    features_is : plus_all (λ feature. short_size (feature_parts 0 feature)) c.features ≡ Some (length (flat_map record_of (feature_records c)))
    features_is = list_length feature_parts (λ n x. refl) feature_made (3 + (length c.isolated + (length c.connected + length c.edges))) c.features (are_short c h).features

    lists : length (flat_map record_of (vector_records c ++ feature_records c))
        ≡ length (flat_map record_of isolated) + (length (flat_map record_of connected) + (length (flat_map record_of edges) + length (flat_map record_of (feature_records c))))
    lists = omega (
      arith,
      appended (vector_records c) (feature_records c),
      appended isolated (connected ++ edges),
      appended connected edges,
    )

    total : length (record_of (data_set_parts 1 c))
        + (length (record_of (parameter_parts 2 c.header))
        + (length (flat_map record_of isolated)
        + (length (flat_map record_of connected) + (length (flat_map record_of edges) + (length (flat_map record_of (feature_records c)) + 1352)))))
        ≡ length (first ++ flat_map record_of (records c))
    total = after_first (record_of (data_set_parts 1 c)) (record_of (parameter_parts 2 c.header)) (flat_map record_of (vector_records c ++ feature_records c)) _ _ _ _ lists
