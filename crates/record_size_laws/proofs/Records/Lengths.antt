-- The lengths of records that have few texts, points and pointers.
use Rattle.std.proofs.Common.{codes, ◌≡◌, ℕ, ◌+◌, ◌*◌, ◌/◌, ◌<◌, ◌≤◌, Bool, true, false, ◌&&◌, cond, eqb, List, [], ◌∷◌, length, map, drop, refl, ap, ap₂, arith}
use Rattle.std.specs.List.{All, list_all, range_with_len, sum_by}
use Rattle.std.proofs.lemmas.Bool.{lt-ltb}
use Rattle.std.proofs.lemmas.Bool.Decides.{nat_tests}
use Rattle.std.proofs.lemmas.Fmt.{length-decimal-le}
use Rattle.std.proofs.lemmas.List.{length-append, length-map, length-take}
use Rattle.std.proofs.lemmas.List.Elements.{All-head, All-map, All-tail}
use Rattle.cell_writer.specs.Layout.{connected_parts, data_set_parts, edge_parts, feature_parts, is_short, isolated_parts, numbered, parameter_parts}
use Rattle.cell_writer.proofs.Sizing.{attribute_bytes, attributes_cost, data_set_size, edge_size, feature_size, isolated_size, some_cost}
use Rattle.chart_definitions.specs.Rest.{IsHeader}
use Rattle.chart_model.specs.declared.records.Attribute.{Attribute}
use Rattle.chart_model.specs.declared.records.Connected.{Connected}
use Rattle.chart_model.specs.declared.records.Edge.{Edge}
use Rattle.chart_model.specs.declared.records.Feature.{Feature}
use Rattle.chart_model.specs.declared.records.Header.{Header}
use Rattle.chart_model.specs.declared.records.Isolated.{Isolated}
use Rattle.chart_model.specs.declared.records.Parts.{Parts}
use Rattle.chart_model.specs.declared.records.Shape.TheVariants.{Soundings}
use Rattle.chart_model.specs.declared.records.Sounding.{Sounding}
use Rattle.built_parts.specs.Nodes.{isolated_record, isolated_records, nodes_in, sounding_of}
use Rattle.depth_grid.specs.declared.node.NodeId.{NodeId}
use Rattle.plane_laws.proofs.Lists.{all_below}
use Rattle.record_size_laws.proofs.Records.Features.{IsShort}
use Rattle.iso8211_codec.specs.Layout.{lens_of, size}
use Rattle.iso8211_codec.specs.Reading.{Part}
use Rattle.rule_sheet.specs.Values.{IsSheet, SheetView, is_cell_name, is_day}
use Rattle.shoal_buffer.specs.Charted.{ChartedView}

-- records whose values are few enough are short
pub all_short : {X : Type 0} (parts : ℕ → X → List Part) (P : X → Type 0) → ((n : ℕ) (x : X) → P x → size (lens_of (parts n x)) < 100000) → (n : ℕ) (xs : List X) → All P xs → list_all is_short (numbered parts n xs) ≡ true
all_short parts P each n [] h = refl
all_short parts P each n (x ∷ xs) h = ap₂ (λ a b. a && b) (lt-ltb (size (lens_of (parts n x))) 100000 (each n x (All-head P x xs h))) (all_short parts P each (n + 1) xs (All-tail P x xs h))

-- ---- groups

some_cost_le : (count n : ℕ) → some_cost count n ≤ 15 + count * n
some_cost_le count n = by_test (eqb count 0)
  where
    by_test : (t : Bool) → cond t 0 (15 + count * n) ≤ 15 + count * n
    by_test true = omega arith
    by_test false = omega arith

attributes_cost_le : (xs : List Attribute) → attributes_cost xs ≤ 15 + sum_by attribute_bytes xs
attributes_cost_le xs = by_test (eqb (length xs) 0)
  where
    by_test : (t : Bool) → cond t 0 (15 + sum_by attribute_bytes xs) ≤ 15 + sum_by attribute_bytes xs
    by_test true = omega arith
    by_test false = omega arith

-- ---- nodes

-- at most 2,000 soundings
pub record HasFew (k : Isolated) : Type 0 where
  pub list : List Sounding
  pub is : k.shape ≡ Soundings list
  pub few : length list ≤ 2000

pub isolated_short : (n : ℕ) (k : Isolated) → HasFew k → size (lens_of (isolated_parts n k)) < 100000
isolated_short n k h = omega (arith, h.few, isolated_size n k h.list h.is)

pub isolated_few : (v : ChartedView) (nodes : List NodeId) → All HasFew (isolated_records v nodes)
isolated_few v nodes =
    All-map HasFew (λ place. isolated_record v (place + 1) (nodes_in nodes place)) (range_with_len 0 ((length nodes + 1999) / 2000))
    (all_below (λ place. HasFew (isolated_record v (place + 1) (nodes_in nodes place))) ((length nodes + 1999) / 2000)
    (λ place l. record { list = map (sounding_of v) (nodes_in nodes place); is = refl; few = omega (arith, length-map (nodes_in nodes place) (sounding_of v), length-take 2000 (drop (2000 * place) nodes)) }))

pub connected_short : (n : ℕ) (k : Connected) → size (lens_of (connected_parts n k)) < 100000
connected_short n k = let is : size (lens_of (connected_parts n k)) ≡ 88 = refl in omega (arith, is)

-- ---- edges and features

abbrev pub IsBrief : Edge → Type 0
IsBrief e = length e.inner ≤ 12000

pub edge_short : (n : ℕ) (e : Edge) → IsBrief e → size (lens_of (edge_parts n e)) < 100000
edge_short n e few = omega (arith, few, edge_size n e, some_cost_le (length e.inner) 8)

pub feature_short : (n : ℕ) (f : Feature) → IsShort f → size (lens_of (feature_parts n f)) < 100000
feature_short n f h = omega (arith, h.short, h.few, feature_size n f, attributes_cost_le f.attributes, some_cost_le (length f.pointers) 8)

-- ---- the header

name_short : (name : List ℕ) → is_cell_name name ≡ true → length name ≤ 8
name_short name h = grind (arith, nat_tests)

day_short : (day : List ℕ) → is_day day ≡ true → length day ≤ 8
day_short day h = grind (arith, nat_tests)

pub data_set_short : (s : SheetView) (c : Parts) (n : ℕ) → IsSheet s → IsHeader s c.header → is_short (data_set_parts n c) ≡ true
data_set_short s c n sheet is =
    let name : length c.header.dsnm ≤ 12 = omega (arith, ap length is.name, length-append s.name (codes ".000"), name_short s.name sheet.name) in
    let edition : length c.header.edtn ≤ 3 = omega (arith, ap length is.edition.0, length-decimal-le 3 s.edition (omega arith) (omega (arith, sheet.edition.1)) (omega (arith, sheet.edition.1))) in
    let day = day_short s.issued sheet.issued in
    lt-ltb (size (lens_of (data_set_parts n c))) 100000
    (omega (
      arith,
      data_set_size n c,
      name,
      edition,
      day,
      ap length is.edition.1,
      ap length is.dates.0,
      ap length is.dates.1,
      ap length is.standard.0,
      ap length is.standard.2,
      ap length is.standard.3,
      ap length is.agency.1,
    ))

pub parameters_short : (s : SheetView) (h : Header) (n : ℕ) → IsHeader s h → is_short (parameter_parts n h) ≡ true
parameters_short s h n is = ap (λ (t : List ℕ). is_short (parameter_parts n (record h { note = t }))) is.scale.3
