-- The fields of each record make one, where it is short.
use Rattle.std.proofs.Common.{◌≡◌, ℕ, ◌-◌, ◌%◌, List, [], ◌∷◌, ◌++◌, length, map, codes, refl, arith, eq-eqb}
use Rattle.std.specs.Bool.{IsTrue}
use Rattle.std.specs.List.{AllByRecursion, flat_map}
use Rattle.std.proofs.lemmas.Bool.{ltb-true}
use Rattle.std.proofs.lemmas.List.{get_or_at, length-append}
use Rattle.cell_writer.specs.Layout.{field, groups, some_groups, id, vector, shape_part, is_short, dsid_of, dssi_of, dspm_of, frid_of, foid_of, end_values, point_values, sounding_values, attribute_values, pointer_values, data_set_parts, parameter_parts, isolated_parts, connected_parts, edge_parts, feature_parts}
use Rattle.chart_model.specs.declared.records.Connected.{Connected}
use Rattle.chart_model.specs.declared.records.Edge.{Edge}
use Rattle.chart_model.specs.declared.records.Feature.{Feature}
use Rattle.chart_model.specs.declared.records.Header.{Header}
use Rattle.chart_model.specs.declared.records.Isolated.{Isolated}
use Rattle.chart_model.specs.declared.records.Parts.{Parts}
use Rattle.chart_model.specs.declared.records.Shape.{Shape}
use Rattle.chart_model.specs.declared.records.Shape.TheVariants.{One, Soundings}
use Rattle.plane_geom.specs.declared.Point.{Point}
use Rattle.iso8211_codec.specs.Layout.{IsField, MakeRecord, size, lens_of}
use Rattle.iso8211_codec.specs.Reading.{Part}
use Rattle.s57_records.specs.Fields.{attribute, dsid, dspm, dssi, foid, frid, fspt, sg2d, sg3d, vrid, vrpt}
use Rattle.s57_records.specs.Formats.{Format, b12, Value, N, field_of}

-- bytes that 0x1E ends
abbrev closed : List ℕ → List ℕ → Part
closed tag bytes = record { tag = tag; bytes = bytes ++ 30 ∷ [] }

is_field : (tag bytes : List ℕ) → length tag ≡ 4 → IsField (closed tag bytes)
is_field tag bytes named = record {
  named = named;
  ended = eq-eqb _ _ (get_or_at bytes 30 [] 0 (length (bytes ++ 30 ∷ []) - 1) (omega (arith, length-append bytes (30 ∷ []))));
}

field_is : (tag : List ℕ) (fs : List Format) (vs : List Value) → length tag ≡ 4 → IsField (field tag fs vs)
field_is tag fs vs named = is_field tag (field_of fs vs) named

groups_is : (tag : List ℕ) (fs : List Format) (list : List (List Value)) → length tag ≡ 4 → IsField (groups tag fs list)
groups_is tag fs list named = is_field tag (flat_map (field_of fs) list) named

id_is : (n : ℕ) → IsField (id n)
id_is n = field_is (codes "0001") (b12 ∷ []) (N (n % 65536) ∷ []) refl

vector_is : (rcnm rcid rver : ℕ) → IsField (vector rcnm rcid rver)
vector_is rcnm rcid rver = field_is (codes "VRID") vrid (N rcnm ∷ N rcid ∷ N rver ∷ N 1 ∷ []) refl

all_some : (tag : List ℕ) (fs : List Format) (list : List (List Value)) → length tag ≡ 4 → AllByRecursion IsField (some_groups tag fs list)
all_some tag fs [] named = tt
all_some tag fs (vs ∷ list) named = (groups_is tag fs (vs ∷ list) named, tt)

all_of_both : (ps qs : List Part) → AllByRecursion IsField ps → AllByRecursion IsField qs → AllByRecursion IsField (ps ++ qs)
all_of_both [] qs h g = g
all_of_both (p ∷ ps) qs h g = (h.0, all_of_both ps qs h.1 g)

point_is : (p : Point) → IsField (groups (codes "SG2D") sg2d (point_values p ∷ []))
point_is p = groups_is (codes "SG2D") sg2d (point_values p ∷ []) refl

shape_is : (s : Shape) → IsField (shape_part s)
shape_is (One p) = point_is p
shape_is (Soundings list) = groups_is (codes "SG3D") sg3d (map sounding_values list) refl

-- a list of fields that begins with one
made : (p : Part) (ps : List Part) → AllByRecursion IsField (p ∷ ps) → IsTrue (is_short (p ∷ ps)) → MakeRecord (p ∷ ps)
made p ps each short = record { some = omega arith; each = each; fits = ltb-true (size (lens_of (p ∷ ps))) 100000 short }

pub data_set_made : (n : ℕ) (c : Parts) → IsTrue (is_short (data_set_parts n c)) → MakeRecord (data_set_parts n c)
data_set_made n c short = made (id n) _ (id_is n, (field_is (codes "DSID") dsid (dsid_of c.header) refl, (field_is (codes "DSSI") dssi (dssi_of c) refl, tt))) short

pub parameters_made : (n : ℕ) (h : Header) → IsTrue (is_short (parameter_parts n h)) → MakeRecord (parameter_parts n h)
parameters_made n h short = made (id n) _ (id_is n, (field_is (codes "DSPM") dspm (dspm_of h) refl, tt)) short

pub isolated_made : (n : ℕ) (k : Isolated) → IsTrue (is_short (isolated_parts n k)) → MakeRecord (isolated_parts n k)
isolated_made n k short = made (id n) _ (id_is n, (vector_is 110 k.rcid k.rver, (shape_is k.shape, tt))) short

pub connected_made : (n : ℕ) (k : Connected) → IsTrue (is_short (connected_parts n k)) → MakeRecord (connected_parts n k)
connected_made n k short = made (id n) _ (id_is n, (vector_is 120 k.rcid k.rver, (point_is k.at, tt))) short

pub edge_made : (n : ℕ) (e : Edge) → IsTrue (is_short (edge_parts n e)) → MakeRecord (edge_parts n e)
edge_made n e short =
    made (id n) _ (id_is n, (vector_is 130 e.rcid e.rver, (groups_is (codes "VRPT") vrpt (end_values 1 e.first ∷ end_values 2 e.last ∷ []) refl, all_some (codes "SG2D") sg2d (map point_values e.inner) refl))) short

pub feature_made : (n : ℕ) (f : Feature) → IsTrue (is_short (feature_parts n f)) → MakeRecord (feature_parts n f)
feature_made n f short =
    let attributes : List (List Value) = map attribute_values f.attributes in
    let pointers : List (List Value) = map pointer_values f.pointers in
    let others = all_of_both (some_groups (codes "ATTF") attribute attributes) (some_groups (codes "FSPT") fspt pointers) (all_some (codes "ATTF") attribute attributes refl) (all_some (codes "FSPT") fspt pointers refl) in
    made (id n) _ (id_is n, (field_is (codes "FRID") frid (frid_of f) refl, (field_is (codes "FOID") foid (foid_of f) refl, others))) short
