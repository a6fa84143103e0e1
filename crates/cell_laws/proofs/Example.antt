-- One small chart, worked through: it is whole, its values fit, its records are short, and its layout is computed and read.
use Rattle.std.proofs.Common.{◌≡◌, ℕ, pos, negsuc, true, List, [], ◌∷◌, None, Ok, refl, arith}
use Rattle.std.specs.Prelude.{codes, All, IsTrue, ◌≢◌, not}
use Rattle.std.proofs.Common.{eqb, sym, ap, ◌∙◌}
use Rattle.std.proofs.lemmas.Bool.{false≢true, eq-eqb, and_parts}
use Rattle.std.specs.List.{list_all}
use Rattle.chart_model.specs.Whole.{IsText, has_some, is_made}
use Rattle.chart_model.specs.declared.records.Attribute.{Attribute}
use Rattle.chart_model.specs.declared.records.Feature.{Feature}
use Rattle.chart_model.specs.declared.records.Pointer.{Pointer}
use Rattle.chart_model.specs.declared.records.Sounding.{Sounding}
use Rattle.plane_geom.specs.declared.Point.{Point}
use Rattle.s57_records.specs.Fields.{sg2d, sg3d, attribute, fspt}
use Rattle.cell_writer.specs.Layout.{sounding_values, point_values, attribute_values, pointer_values}
use Rattle.std.proofs.Common.{rules}
use Rattle.chart_model.specs.Whole.{IsWhole, first_fault, IsWellFormed}
use Rattle.chart_model.specs.declared.records.Header.{Header}
use Rattle.chart_model.specs.declared.records.Parts.{Parts}
use Rattle.chart_model.specs.declared.records.Shape.TheVariants.{One, Soundings}
use Rattle.cell_writer.specs.Layout.{layout, fits_of}
use Rattle.cell_reader.specs.Reading.{reading, chart_of, need_counts}
use Rattle.cell_reader.specs.Records.{after_record, data_set, parameters, vector, add_vector, feature}
use Rattle.iso8211_codec.specs.Walk.{walk}
use Rattle.iso8211_codec.specs.Reading.{data_record, fields_of, first_record}
use Rattle.s57_records.specs.Formats.{signed, AllFit}
use Rattle.cell_writer.specs.Sized.{IsSized, IsolatedFits, ConnectedFits, EdgeFits, FeatureFits}
use Rattle.std.proofs.lemmas.List.Elements.{All-from_recursion, All-cons}
use Rattle.chart_model.specs.Law.{WholeLaws}

abbrev header : Header
header = record { expp = 1; intu = 5; dsnm = codes "XX5A.000"; edtn = codes "1"; updn = codes "0"; uadt = codes "20200101"; isdt = codes "20200101"; sted = codes "03.1"; prsp = 1; psdn = []; pred = codes "2.0"; prof = 1; agen = 550; comt = codes "c"; aall = 1; nall = 0; hdat = 2; vdat = 3; sdat = 4; cscl = 10000; huni = 1; puni = 1; note = [] }

-- both shapes of an isolated node, an edge with inner points and one without, an area with attributes, a feature without pointers, and one of soundings
abbrev chart : Parts
chart = record {
  header = header;
  isolated = record { rcid = 7; rver = 1; shape = One (record { x = pos 5; y = negsuc 8 }) } ∷ record { rcid = 8; rver = 1; shape = Soundings (record { at = record { x = pos 1; y = pos 2 }; depth = negsuc 3 } ∷ record { at = record { x = pos 3; y = pos 4 }; depth = pos 3 } ∷ []) } ∷ [];
  connected = record { rcid = 1; rver = 1; at = record { x = pos 0; y = pos 0 } } ∷ [];
  edges = record { rcid = 2; rver = 1; first = 1; last = 1; inner = record { x = pos 10; y = pos 0 } ∷ record { x = pos 10; y = pos 10 } ∷ [] } ∷ record { rcid = 3; rver = 1; first = 1; last = 1; inner = [] } ∷ [];
  features = record { rcid = 1; rver = 1; prim = 3; grup = 1; objl = 42; agen = 550; fidn = 1; fids = 1; attributes = record { code = 87; text = codes "1.5" } ∷ record { code = 88; text = [] } ∷ []; pointers = record { rcnm = 130; rcid = 2; ornt = 1; usag = 1; mask = 2 } ∷ [] }
      ∷ record { rcid = 2; rver = 1; prim = 255; grup = 2; objl = 300; agen = 550; fidn = 2; fids = 1; attributes = []; pointers = [] }
      ∷ record { rcid = 3; rver = 1; prim = 1; grup = 2; objl = 129; agen = 550; fidn = 3; fids = 1; attributes = []; pointers = record { rcnm = 110; rcid = 8; ornt = 255; usag = 255; mask = 255 } ∷ [] }
      ∷ [];
}

-- no cause of refusal is due at it
nothing_due : first_fault chart ≡ None
nothing_due = refl

-- each of its records has at most 99,999 bytes
short : fits_of chart ≡ true
unfolding fits_of
short = refl

-- what is written is read, by computation alone
again : reading (layout chart) ≡ Ok chart
unfolding reading layout chart_of need_counts after_record data_set parameters vector add_vector feature walk data_record fields_of first_record signed
again = refl

-- every value fits its field
sized : IsSized chart
sized = record {
  identity = search rules;
  structure = search rules;
  units = search rules;
  isolated = All-from_recursion IsolatedFits chart.isolated (record { identifier = search rules; shape = search rules }, (record { identifier = search rules; shape = All-from_recursion (λ (s : Sounding). AllFit sg3d (sounding_values s)) (record { at = record { x = pos 1; y = pos 2 }; depth = negsuc 3 } ∷ record { at = record { x = pos 3; y = pos 4 }; depth = pos 3 } ∷ []) (search rules) }, tt));
  connected = All-from_recursion ConnectedFits chart.connected (record { identifier = search rules; place = search rules }, tt);
  edges = All-from_recursion EdgeFits chart.edges (record { identifier = search rules; first = search rules; last = search rules; inner = All-from_recursion (λ (s : Point). AllFit sg2d (point_values s)) (record { x = pos 10; y = pos 0 } ∷ record { x = pos 10; y = pos 10 } ∷ []) (search rules) }, (record { identifier = search rules; first = search rules; last = search rules; inner = λ k d h. absurd (omega arith) }, tt));
  features = All-from_recursion FeatureFits chart.features (
    record { identifier = search rules; name = search rules; attributes = All-from_recursion (λ (s : Attribute). AllFit attribute (attribute_values s)) (record { code = 87; text = codes "1.5" } ∷ record { code = 88; text = [] } ∷ []) (search rules); pointers = All-from_recursion (λ (s : Pointer). AllFit fspt (pointer_values s)) (record { rcnm = 130; rcid = 2; ornt = 1; usag = 1; mask = 2 } ∷ []) (search rules) },
    (
      record { identifier = search rules; name = search rules; attributes = λ k d h. absurd (omega arith); pointers = λ k d h. absurd (omega arith) },
      (record { identifier = search rules; name = search rules; attributes = λ k d h. absurd (omega arith); pointers = All-from_recursion (λ (s : Pointer). AllFit fspt (pointer_values s)) (record { rcnm = 110; rcid = 8; ornt = 255; usag = 255; mask = 255 } ∷ []) (search rules) }, tt),
    ),
  );
}

text_of : (bytes : List ℕ) → list_all (λ b. not (eqb b 31)) bytes ≡ true → IsText bytes
text_of [] h = λ k d l. absurd (omega arith)
text_of (b ∷ bs) h = All-cons (λ (b : ℕ). b ≢ 31) b bs (λ e. false≢true (sym (ap not (eq-eqb b 31 e)) ∙ (and_parts (not (eqb b 31)) (list_all (λ c. not (eqb c 31)) bs) h).0)) (text_of bs (and_parts (not (eqb b 31)) (list_all (λ c. not (eqb c 31)) bs) h).1)

-- it keeps the conditions of parts, and is whole
well : IsWellFormed chart
well = record {
  header = record { dsnm = text_of header.dsnm refl; edtn = text_of header.edtn refl; updn = text_of header.updn refl; psdn = text_of [] refl; pred = text_of header.pred refl; comt = text_of header.comt refl; note = text_of [] refl };
  attributes = All-from_recursion (λ (f : Feature). All (λ (a : Attribute). IsText a.text) f.attributes) chart.features (All-from_recursion (λ (a : Attribute). IsText a.text) (record { code = 87; text = codes "1.5" } ∷ record { code = 88; text = [] } ∷ []) (text_of (codes "1.5") refl, (text_of [] refl, tt)), ((λ k d h. absurd (omega arith)), ((λ k d h. absurd (omega arith)), tt)));
  soundings = All-from_recursion (λ n. IsTrue (has_some n)) chart.isolated (search rules);
  made = All-from_recursion (λ n. IsTrue (is_made n)) chart.features (search rules);
  few_isolated = omega arith;
  few_connected = omega arith;
  few_edges = omega arith;
  few_features = omega arith;
}

whole : WholeLaws → IsWhole chart
whole laws = laws.whole_from chart well refl
