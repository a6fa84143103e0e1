-- What a modified feature keeps.
use Rattle.std.proofs.Common.{◌≡◌, ℕ, Bool, true, false, cond, List, [], ◌∷◌, length, refl, subst, eqb}
use Rattle.std.proofs.lemmas.List.Elements.{All-cons, All-head, All-tail}
use Rattle.std.specs.Str.{bytes_eq}
use Rattle.chart_model.specs.Whole.{IsText, is_made}
use Rattle.chart_model.specs.declared.records.Attribute.{Attribute}
use Rattle.readings.proofs.Steps.{bind_ok, need_ok, same_ok}
use Rattle.readings.specs.Readings.{need}
use Rattle.record_edits.specs.Attributes.{deleting_text, with_attribute, without_attribute, attributes_after_one, attributes_after}
use Rattle.record_edits.specs.Edits.{feature_with_changes}
use Rattle.record_edits.specs.Law.{IsFeatureAfter, KeepsFeature}
use Rattle.record_edits.specs.Splices.{can_change}
use Rattle.record_values.specs.Sound.{AreTexts}
use Rattle.s57_codes.specs.Catalogue.{rcnm_feature}
use Rattle.update_reader.specs.declared.fault.UpdateFault.TheVariants as fault

-- ---- texts

abbrev HasText : Attribute → Type 0
HasText a = IsText a.text

by_test : (P : List Attribute → Type 0) (b : Bool) (xs ys : List Attribute) → P xs → P ys → P (cond b xs ys)
by_test P true xs ys f g = f
by_test P false xs ys f g = g

texts_with : (a : Attribute) (bs : List Attribute) → HasText a → AreTexts bs → AreTexts (with_attribute a bs)
texts_with a [] one all = All-cons HasText a [] one all
texts_with a (b ∷ bs) one all =
    let rest : AreTexts bs = All-tail HasText b bs all in
    by_test AreTexts (eqb b.code a.code) (a ∷ bs) (b ∷ with_attribute a bs) (All-cons HasText a bs one rest) (All-cons HasText b (with_attribute a bs) (All-head HasText b bs all) (texts_with a bs one rest))

texts_without : (code : ℕ) (bs : List Attribute) → AreTexts bs → AreTexts (without_attribute code bs)
texts_without code [] all = all
texts_without code (b ∷ bs) all =
    let rest : AreTexts bs = All-tail HasText b bs all in
    by_test AreTexts (eqb b.code code) bs (b ∷ without_attribute code bs) rest (All-cons HasText b (without_attribute code bs) (All-head HasText b bs all) (texts_without code bs rest))

texts_after : (given old : List Attribute) → AreTexts given → AreTexts old → AreTexts (attributes_after given old)
texts_after [] old some all = all
texts_after (a ∷ given) old some all =
    texts_after given (attributes_after_one old a) (All-tail HasText a given some)
    (by_test AreTexts (bytes_eq a.text deleting_text) (without_attribute a.code old) (with_attribute a old) (texts_without a.code old all) (texts_with a old (All-head HasText a given some) all))

-- ---- the feature

pub keeps_feature : KeepsFeature
keeps_feature rver e f g h =
    let placed = bind_ok (need (can_change e.splice (length f.pointers) (length e.pointers)) (fault.Index rcnm_feature f.rcid)) _ g h in
    let made = bind_ok (need (is_made (feature_with_changes rver e f)) (fault.Shape rcnm_feature f.rcid)) _ g placed.2 in
    let is : feature_with_changes rver e f ≡ g = same_ok (feature_with_changes rver e f) g made.2 in
    subst (IsFeatureAfter rver e f) is
    (record {
      number = refl;
      version = refl;
      made = need_ok (is_made (feature_with_changes rver e f)) (fault.Shape rcnm_feature f.rcid) made.0 made.1;
      texts = texts_after e.attributes f.attributes;
    })
