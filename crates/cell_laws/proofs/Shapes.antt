-- The records of a chart can be written and read, where they are short enough.
use Rattle.std.proofs.Common.{◌≡◌, ℕ, ◌+◌, ◌-◌, ◌≤◌, true, List, [], ◌∷◌, ◌++◌, length, map, ◌%◌, refl, arith}
use Rattle.std.specs.Prelude.{IsTrue}
use Rattle.std.specs.List.{list_all, flat_map, AllByRecursion}
use Rattle.std.proofs.lemmas.Bool.{eq-eqb, ltb-true, and_parts}
use Rattle.std.proofs.lemmas.List.{get_or_at, length-append}
use Rattle.chart_model.specs.declared.records.Connected.{Connected}
use Rattle.chart_model.specs.declared.records.Edge.{Edge}
use Rattle.chart_model.specs.declared.records.Feature.{Feature}
use Rattle.chart_model.specs.declared.records.Header.{Header}
use Rattle.chart_model.specs.declared.records.Isolated.{Isolated}
use Rattle.chart_model.specs.declared.records.Parts.{Parts}
use Rattle.chart_model.specs.declared.records.Shape.{Shape}
use Rattle.chart_model.specs.declared.records.Shape.TheVariants.{One, Soundings}
use Rattle.iso8211_codec.specs.Reading.{Part}
use Rattle.iso8211_codec.specs.Layout.{IsField, MakeRecord, size, lens_of}
use Rattle.s57_records.specs.Fields.{dsid, dssi, dspm, vrid, vrpt, sg2d, sg3d, frid, foid, attribute, fspt}
use Rattle.s57_records.specs.Formats.{Format, b12, Value, N, field_of}
use Rattle.s57_codes.specs.Catalogue.{tag_0001, tag_attf, tag_dsid, tag_dspm, tag_dssi, tag_foid, tag_frid, tag_fspt, tag_sg2d, tag_sg3d, tag_vrid, tag_vrpt}
use Rattle.cell_writer.specs.Layout.{id, field, groups, some_groups, vector, vector_values, point_values, sounding_values, end_values, frid_of, foid_of, attribute_values, pointer_values, dsid_of, dssi_of, dspm_of, numbered, is_short, isolated_parts, connected_parts, edge_parts, feature_parts, data_set_parts, parameter_parts, shape_part, vector_records, feature_records, records}

-- ---- fields, each of which 0x1E ends

-- a tag of four bytes, and 0x1E at the end
ended : (tag bytes : List ℕ) → length tag ≡ 4 → IsField (record { tag = tag; bytes = bytes ++ 30 ∷ [] })
ended tag bytes named = record { named = named; ended = eq-eqb _ 30 (get_or_at bytes 30 [] 0 (length (bytes ++ 30 ∷ []) - 1) (omega (arith, length-append bytes (30 ∷ [])))) }

field_ends : (tag : List ℕ) (fs : List Format) (vs : List Value) → length tag ≡ 4 → IsField (field tag fs vs)
field_ends tag fs vs = ended tag (field_of fs vs)

groups_end : (tag : List ℕ) (fs : List Format) (list : List (List Value)) → length tag ≡ 4 → IsField (groups tag fs list)
groups_end tag fs list = ended tag (flat_map (field_of fs) list)

some_end : (tag : List ℕ) (fs : List Format) (list : List (List Value)) → length tag ≡ 4 → AllByRecursion IsField (some_groups tag fs list)
some_end tag fs [] named = tt
some_end tag fs (vs ∷ list) named = (groups_end tag fs (vs ∷ list) named, tt)

id_ends : (n : ℕ) → IsField (id n)
id_ends n = field_ends tag_0001 (b12 ∷ []) (N (n % 65536) ∷ []) refl

vector_ends : (rcnm rcid rver : ℕ) → IsField (vector rcnm rcid rver)
vector_ends rcnm rcid rver = field_ends tag_vrid vrid (vector_values rcnm rcid rver) refl

shape_ends : (shape : Shape) → IsField (shape_part shape)
shape_ends (One p) = groups_end tag_sg2d sg2d (point_values p ∷ []) refl
shape_ends (Soundings list) = groups_end tag_sg3d sg3d (map sounding_values list) refl

-- ---- records

-- what holds of each element of two lists
both_hold : {X : Type 0} (P : X → Type 0) (xs ys : List X) → AllByRecursion P xs → AllByRecursion P ys → AllByRecursion P (xs ++ ys)
both_hold P [] ys h g = g
both_hold P (x ∷ xs) ys h g = (h.0, both_hold P xs ys h.1 g)

-- fields that make a record, where they are short enough
record IsShaped (parts : List Part) : Type 0 where
  some : 1 ≤ length parts
  each : AllByRecursion IsField parts

-- the records of a list
each_of : {X : Type 0} (parts : ℕ → X → List Part) → ((n : ℕ) (x : X) → IsShaped (parts n x)) → (n : ℕ) (xs : List X) → AllByRecursion IsShaped (numbered parts n xs)
each_of parts shaped n [] = tt
each_of parts shaped n (x ∷ xs) = (shaped n x, each_of parts shaped (n + 1) xs)

isolated_shaped : (n : ℕ) (node : Isolated) → IsShaped (isolated_parts n node)
isolated_shaped n node = record { some = omega arith; each = (id_ends n, (vector_ends 110 node.rcid node.rver, (shape_ends node.shape, tt))) }

connected_shaped : (n : ℕ) (node : Connected) → IsShaped (connected_parts n node)
connected_shaped n node = record { some = omega arith; each = (id_ends n, (vector_ends 120 node.rcid node.rver, (groups_end tag_sg2d sg2d (point_values node.at ∷ []) refl, tt))) }

edge_shaped : (n : ℕ) (e : Edge) → IsShaped (edge_parts n e)
edge_shaped n e =
    let ends = groups_end tag_vrpt vrpt (end_values 1 e.first ∷ end_values 2 e.last ∷ []) refl in
    record { some = omega arith; each = (id_ends n, (vector_ends 130 e.rcid e.rver, (ends, some_end tag_sg2d sg2d (map point_values e.inner) refl))) }

feature_shaped : (n : ℕ) (f : Feature) → IsShaped (feature_parts n f)
feature_shaped n f =
    let others = both_hold IsField (some_groups tag_attf attribute (map attribute_values f.attributes)) (some_groups tag_fspt fspt (map pointer_values f.pointers)) (some_end tag_attf attribute (map attribute_values f.attributes) refl) (some_end tag_fspt fspt (map pointer_values f.pointers) refl) in
    record { some = omega arith; each = (id_ends n, (field_ends tag_frid frid (frid_of f) refl, (field_ends tag_foid foid (foid_of f) refl, others))) }

set_shaped : (n : ℕ) (c : Parts) → IsShaped (data_set_parts n c)
set_shaped n c = record { some = omega arith; each = (id_ends n, (field_ends tag_dsid dsid (dsid_of c.header) refl, (field_ends tag_dssi dssi (dssi_of c) refl, tt))) }

units_shaped : (n : ℕ) (h : Header) → IsShaped (parameter_parts n h)
units_shaped n h = record { some = omega arith; each = (id_ends n, (field_ends tag_dspm dspm (dspm_of h) refl, tt)) }

-- all records of a chart
all_shaped : (c : Parts) → AllByRecursion IsShaped (records c)
all_shaped c =
    let isolated = each_of isolated_parts isolated_shaped 3 c.isolated in
    let connected = each_of connected_parts connected_shaped (3 + length c.isolated) c.connected in
    let edges = each_of edge_parts edge_shaped (3 + (length c.isolated + length c.connected)) c.edges in
    let features = each_of feature_parts feature_shaped (3 + (length c.isolated + (length c.connected + length c.edges))) c.features in
    let nodes = both_hold IsShaped (numbered connected_parts (3 + length c.isolated) c.connected) (numbered edge_parts (3 + (length c.isolated + length c.connected)) c.edges) connected edges in
    let vectors = both_hold IsShaped (numbered isolated_parts 3 c.isolated) (numbered connected_parts (3 + length c.isolated) c.connected ++ numbered edge_parts (3 + (length c.isolated + length c.connected)) c.edges) isolated nodes in
    (set_shaped 1 c, (units_shaped 2 c.header, both_hold IsShaped (vector_records c) (feature_records c) vectors features))

-- those that are short enough make records
short_enough : (rs : List (List Part)) → AllByRecursion IsShaped rs → list_all is_short rs ≡ true → AllByRecursion MakeRecord rs
short_enough [] h short = tt
short_enough (parts ∷ rs) h short =
    let b = and_parts (is_short parts) (list_all is_short rs) short in
    (record { some = h.0.some; each = h.0.each; fits = ltb-true (size (lens_of parts)) 100000 b.0 }, short_enough rs h.1 b.1)

-- so do all records of a chart that fits
pub make_records : (c : Parts) → IsTrue (list_all is_short (records c)) → AllByRecursion MakeRecord (records c)
make_records c short = short_enough (records c) (all_shaped c) short
