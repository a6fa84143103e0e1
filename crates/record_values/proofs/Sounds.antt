-- The values that records give may be a chart's.
use Rattle.std.proofs.Common.{◌≡◌, ℕ, List, [], ◌∷◌, refl, length, Bool, true, false, Some, None, subst, ap, arith, cond, lit<, ◌<◌, ◌≤◌}
use Rattle.std.specs.Prelude.{◌&&◌}
use Rattle.std.proofs.lemmas.Bool.{and_parts}
use Rattle.std.proofs.lemmas.Bool.Decides.{nat_tests}
use Rattle.chart_model.specs.Whole.{is_made}
use Rattle.chart_model.specs.declared.records.Edge.{Edge}
use Rattle.chart_model.specs.declared.records.Feature.{Feature}
use Rattle.chart_model.specs.declared.records.Isolated.{Isolated}
use Rattle.chart_model.specs.declared.records.Shape.{Shape}
use Rattle.chart_model.specs.declared.records.Shape.TheVariants.{One, Soundings}
use Rattle.chart_model.specs.declared.records.Sounding.{Sounding}
use Rattle.iso8211_codec.specs.Reading.{Seen}
use Rattle.plane_geom.specs.declared.Point.{Point}
use Rattle.readings.proofs.Steps.{bind_some}
use Rattle.s57_codes.specs.Catalogue.{tag_attf, tag_fspt, tag_sg2d, tag_sg3d}
use Rattle.s57_records.specs.Fields.{dsid}
use Rattle.s57_records.specs.Formats.{Value, values_in}
use Rattle.s57_records.specs.declared.feature.Foid.{Foid}
use Rattle.s57_records.specs.declared.feature.Frid.{Frid}
use Rattle.s57_records.specs.declared.vrid.Vrid.{Vrid}
use Rattle.s57_records.specs.declared.pointer.Vrpt.{Vrpt}
use Rattle.record_values.specs.Attributes.{attributes}
use Rattle.record_values.specs.DataSets.{is_identity, identity_in}
use Rattle.record_values.specs.Features.{feature_with, feature_of}
use Rattle.record_values.specs.Fields.{bodies, are_whole}
use Rattle.record_values.specs.Groups.{points, soundings, pointers, point_at, sounding_at, pointer_at}
use Rattle.record_values.specs.Sound.{HasTexts, IsSoundIsolated, IsSoundFeature}
use Rattle.record_values.specs.Vectors.{shape_of, ends_of, isolated_of, edge_of}
use Rattle.record_values.proofs.Sizes.{weight, groups_light}
use Rattle.record_values.proofs.Texts.{values_are, all_are}

same_some : {A : Type 0} (x y : A) → Some x ≡ Some y → x ≡ y
same_some x y h = cc

-- ---- how many groups a record holds

pub few_points : (fields : List Seen) → weight fields < 100000 → length (points fields) ≤ 12500
few_points fields small = omega (arith, groups_light point_at 8 tag_sg2d fields (lit< tt))

pub few_soundings : (fields : List Seen) → weight fields < 100000 → length (soundings fields) ≤ 12500
few_soundings fields small = omega (arith, groups_light sounding_at 12 tag_sg3d fields (lit< tt))

pub few_pointers : (fields : List Seen) → weight fields < 100000 → length (pointers fields) ≤ 12500
few_pointers fields small = omega (arith, groups_light pointer_at 8 tag_fspt fields (lit< tt))

-- ---- vector records

abbrev IsSoundShape : Shape → Type 0
IsSoundShape shape = (rcid rver : ℕ) → IsSoundIsolated (record { rcid = rcid; rver = rver; shape = shape })

shape_is : (ps : List Point) (ss : List Sounding) (shape : Shape) → length ss ≤ 12500 → shape_of ps ss ≡ Some shape → IsSoundShape shape
shape_is (p ∷ []) [] shape few h = subst IsSoundShape (same_some (One p) shape h) (λ rcid rver. record { some = refl; few = omega arith })
shape_is [] (s ∷ ss) shape few h = subst IsSoundShape (same_some (Soundings (s ∷ ss)) shape h) (λ rcid rver. record { some = grind (arith, nat_tests); few = few })
shape_is [] [] shape few h = cc
shape_is (p ∷ []) (s ∷ ss) shape few h = cc
shape_is (p ∷ q ∷ ps) [] shape few h = cc
shape_is (p ∷ q ∷ ps) (s ∷ ss) shape few h = cc

-- an isolated node that a record gives
pub isolated_is : (v : Vrid) (ps : List Point) (ss : List Sounding) (n : Isolated) → length ss ≤ 12500 → isolated_of v ps ss ≡ Some n → IsSoundIsolated n
isolated_is v ps ss n few h =
    let shape = bind_some (shape_of ps ss) _ n h in
    subst IsSoundIsolated (same_some _ n shape.2) (shape_is ps ss shape.0 few shape.1 v.rcid v.rver)

-- the points of an edge that a record gives
pub edge_is : (v : Vrid) (es : List Vrpt) (ps : List Point) (ss : List Sounding) (e : Edge) → edge_of v es ps ss ≡ Some e → ps ≡ e.inner
edge_is v es ps ss e h =
    let nodes = bind_some (ends_of es ss) _ e h in
    ap (λ (x : Edge). x.inner) (same_some _ e nodes.2)

-- ---- the data set record, and feature records

chosen : {X : Type 0} (b : Bool) (x y : X) → cond b (Some x) None ≡ Some y → (b ≡ true) × (x ≡ y)
chosen true x y h = (refl, cc)
chosen false x y h = cc

-- the texts of a data set record
pub identity_is : (body : List ℕ) (vs : List Value) → identity_in body ≡ Some vs → HasTexts dsid vs
identity_is body vs h =
    let read = bind_some (values_in dsid body) _ vs h in
    subst (HasTexts dsid) (chosen (is_identity read.0) read.0 vs read.2).1 (values_are dsid body read.0 read.1)

-- a feature that a record gives
pub feature_is : (f : Frid) (o : Foid) (fields : List Seen) (x : Feature) → weight fields < 100000 → feature_of f o fields ≡ Some x → IsSoundFeature x
feature_is f o fields x small h =
    let texts = bind_some (attributes fields) _ x h in
    let new : Feature = feature_with f o texts.0 (pointers fields) in
    let passed = chosen (are_whole 8 tag_fspt fields && is_made new) new x texts.2 in
    let made = and_parts (are_whole 8 tag_fspt fields) (is_made new) passed.0 in
    subst IsSoundFeature passed.1 (record {
      texts = all_are (bodies tag_attf fields) texts.0 texts.1;
      made = made.1;
      few = few_pointers fields small;
    })
