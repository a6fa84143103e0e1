-- The lengths of records.
use Rattle.std.proofs.Common.{◌≡◌, ℕ, ◌+◌, ◌-◌, ◌*◌, ◌≤◌, ◌^◌, inl, inr, List, [], ◌∷◌, ◌++◌, Option, Some, None, cond, codes, eqb, length, ltb, map, refl, sym, ap, arith}
use Rattle.std.specs.Prelude.{min}
use Rattle.std.specs.List.{flat_map, sum_by}
use Rattle.std.proofs.Math.Dec.{eqb-suc-zero}
use Rattle.std.proofs.lemmas.Bool.{cases_lt, le-ltb}
use Rattle.std.proofs.lemmas.List.{length-append}
use Rattle.std.proofs.lemmas.List.Sums.{sum_by-cons}
use Rattle.cell_writer.specs.Layout.{some_groups, attribute_values, point_values, pointer_values, sounding_values, shape_part, dsid_of, data_set_parts, edge_parts, feature_parts, isolated_parts}
use Rattle.chart_model.specs.declared.records.Attribute.{Attribute}
use Rattle.chart_model.specs.declared.records.Edge.{Edge}
use Rattle.chart_model.specs.declared.records.Feature.{Feature}
use Rattle.chart_model.specs.declared.records.Header.{Header}
use Rattle.chart_model.specs.declared.records.Isolated.{Isolated}
use Rattle.chart_model.specs.declared.records.Shape.{Shape}
use Rattle.chart_model.specs.declared.records.Shape.TheVariants.{Soundings}
use Rattle.chart_model.specs.declared.records.Parts.{Parts}
use Rattle.chart_model.specs.declared.records.Pointer.{Pointer}
use Rattle.chart_model.specs.declared.records.Sounding.{Sounding}
use Rattle.plane_geom.specs.declared.Point.{Point}
use Rattle.iso8211_codec.specs.Layout.{size, lens_of}
use Rattle.iso8211_codec.specs.Reading.{Part}
use Rattle.s57_records.specs.Fields.{attribute, dsid, fspt, sg2d, sg3d}
use Rattle.s57_records.specs.Formats.{Format, Value, bytes_of, field_of}

-- ---- a sum of fields

-- what fields take with their entries
abbrev pub cost : List Part → ℕ
cost [] = 0
cost (p ∷ ps) = 14 + length p.bytes + cost ps

pub size_is : (ps : List Part) → size (lens_of ps) ≡ 25 + cost ps
size_is [] = refl
size_is (p ∷ ps) = omega (arith, size_is ps, sum_by-cons (λ (x : ℕ). x) (length p.bytes) (lens_of ps))

pub cost-append : (ps qs : List Part) → cost (ps ++ qs) ≡ cost ps + cost qs
cost-append [] qs = omega arith
cost-append (p ∷ ps) qs = omega (arith, cost-append ps qs)

-- ---- groups

-- groups that take as many bytes each
pub groups_length : {X : Type 0} (fs : List Format) (values : X → List Value) (n : ℕ) → ((x : X) → length (field_of fs (values x)) ≡ n) → (xs : List X)
    → length (flat_map (field_of fs) (map values xs)) ≡ length xs * n
groups_length fs values n each [] = sym (let none : 0 * n ≡ 0 = omega arith in none)
groups_length fs values n each (x ∷ xs) =
    let more : length (x ∷ xs) * n ≡ n + length xs * n = omega arith in
    omega (arith, more, each x, groups_length fs values n each xs, length-append (field_of fs (values x)) (flat_map (field_of fs) (map values xs)))

-- the bytes of groups with the one that ends them and their entry
closed_group : (bytes : List ℕ) (n : ℕ) → length bytes ≡ n → 14 + length (bytes ++ 30 ∷ []) + 0 ≡ 15 + n
closed_group bytes n is = omega (arith, is, length-append bytes (30 ∷ []))

-- what a field of groups takes, where there are some
abbrev pub some_cost : ℕ → ℕ → ℕ
some_cost count n = cond (eqb count 0) 0 (15 + count * n)

pub some_cost_is : {X : Type 0} (tag : List ℕ) (fs : List Format) (values : X → List Value) (n : ℕ) → ((x : X) → length (field_of fs (values x)) ≡ n) → (xs : List X)
    → cost (some_groups tag fs (map values xs)) ≡ some_cost (length xs) n
some_cost_is tag fs values n each [] = refl
some_cost_is tag fs values n each (x ∷ xs) = rw eqb-suc-zero (closed_group (flat_map (field_of fs) (map values (x ∷ xs))) (length (x ∷ xs) * n) (groups_length fs values n each (x ∷ xs)))

abbrev pub attribute_bytes : Attribute → ℕ
attribute_bytes x = length x.text + 3

attributes_length : (xs : List Attribute) → length (flat_map (field_of attribute) (map attribute_values xs)) ≡ sum_by attribute_bytes xs
attributes_length [] = refl
attributes_length (x ∷ xs) =
    let rest = flat_map (field_of attribute) (map attribute_values xs) in
    omega (arith, attributes_length xs, sum_by-cons attribute_bytes x xs, length-append (field_of attribute (attribute_values x)) rest, length-append (x.text ++ 31 ∷ []) [], length-append x.text (31 ∷ []))

abbrev pub attributes_cost : List Attribute → ℕ
attributes_cost xs = cond (eqb (length xs) 0) 0 (15 + sum_by attribute_bytes xs)

pub attributes_cost_is : (xs : List Attribute) → cost (some_groups (codes "ATTF") attribute (map attribute_values xs)) ≡ attributes_cost xs
attributes_cost_is [] = refl
attributes_cost_is (x ∷ xs) = rw eqb-suc-zero (closed_group (flat_map (field_of attribute) (map attribute_values (x ∷ xs))) (sum_by attribute_bytes (x ∷ xs)) (attributes_length (x ∷ xs)))

-- ---- records

-- the length of a field, value by value
values_length : List Format → List Value → ℕ
values_length [] vs = 0
values_length (f ∷ fs) [] = 0
values_length (f ∷ fs) (v ∷ vs) = length (bytes_of f v) + values_length fs vs

field_length : (fs : List Format) (vs : List Value) → length (field_of fs vs) ≡ values_length fs vs
unfolding values_length
field_length [] vs = refl
field_length (f ∷ fs) [] = refl
field_length (f ∷ fs) (v ∷ vs) = omega (arith, field_length fs vs, length-append (bytes_of f v) (field_of fs vs))

text_length : (text : List ℕ) → length (text ++ 31 ∷ []) ≡ length text + 1
text_length text = length-append text (31 ∷ [])

dsid_length : (h : Header) → length (field_of dsid (dsid_of h))
    ≡ 17 + length h.uadt + length h.isdt + length h.sted + length h.dsnm + length h.edtn + length h.updn + length h.psdn + length h.pred + length h.comt
unfolding values_length
dsid_length h = omega (arith, field_length dsid (dsid_of h), text_length h.dsnm, text_length h.edtn, text_length h.updn, text_length h.psdn, text_length h.pred, text_length h.comt)

pub data_set_size : (n : ℕ) (c : Parts) → size (lens_of (data_set_parts n c))
    ≡ 124 + length c.header.uadt + length c.header.isdt + length c.header.sted + length c.header.dsnm + length c.header.edtn + length c.header.updn + length c.header.psdn + length c.header.pred
    + length c.header.comt
data_set_size n c = omega (arith, size_is (data_set_parts n c), dsid_length c.header, length-append (field_of dsid (dsid_of c.header)) (30 ∷ []))

soundings_size : (list : List Sounding) → length (flat_map (field_of sg3d) (map sounding_values list) ++ 30 ∷ []) ≡ 1 + length list * 12
soundings_size list = omega (arith, groups_length sg3d sounding_values 12 (λ s. refl) list, length-append (flat_map (field_of sg3d) (map sounding_values list)) (30 ∷ []))

pub isolated_size : (n : ℕ) (k : Isolated) (list : List Sounding) → k.shape ≡ Soundings list → size (lens_of (isolated_parts n k)) ≡ 80 + length list * 12
isolated_size n k list is = omega (arith, size_is (isolated_parts n k), ap (λ (s : Shape). length (shape_part s).bytes) is, soundings_size list)

pub edge_size : (n : ℕ) (e : Edge) → size (lens_of (edge_parts n e)) ≡ 98 + some_cost (length e.inner) 8
edge_size n e = omega (arith, size_is (edge_parts n e), some_cost_is (codes "SG2D") sg2d point_values 8 (λ (p : Point). refl) e.inner)

pub feature_size : (n : ℕ) (f : Feature) → size (lens_of (feature_parts n f)) ≡ 92 + (attributes_cost f.attributes + some_cost (length f.pointers) 8)
feature_size n f =
    omega (
      arith,
      size_is (feature_parts n f),
      attributes_cost_is f.attributes,
      some_cost_is (codes "FSPT") fspt pointer_values 8 (λ (p : Pointer). refl) f.pointers,
      cost-append (some_groups (codes "ATTF") attribute (map attribute_values f.attributes)) (some_groups (codes "FSPT") fspt (map pointer_values f.pointers)),
    )

-- ---- lengths that pass every number

abbrev pub short : ℕ → Option ℕ
short n = cond (ltb n 100000) (Some n) None

-- a length that was stopped at the greatest number is as short as the length itself
pub stopped : (n m : ℕ) → m ≡ min n (2 ^ 64 - 1) → short m ≡ short n
stopped n m is =
    elim (cases_lt n 100000) [
      | inl lt ↦ ap short (omega (arith, is, lt))
      | inr le ↦ let far : 100000 ≤ m = omega (arith, is, le) in rw (le-ltb n 100000 le, le-ltb m 100000 far) refl
    ]

-- a length m that was stopped so, of n
abbrev pub IsStopped : ℕ → ℕ → Type 0
IsStopped n m = m ≡ min n (2 ^ 64 - 1)

-- one text more
pub and_more : (n m k a : ℕ) → IsStopped n m → IsStopped (m + a) k → IsStopped (n + a) k
and_more n m k a h g = omega (arith, h, g)
