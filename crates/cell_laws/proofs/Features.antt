-- A record of a feature that is written adds that feature.
use Rattle.std.proofs.Common.{◌≡◌, ℕ, ◌%◌, true, false, eqb, List, [], ◌∷◌, ◌++◌, length, map, Some, Ok, refl, ap, ap₂, ◌∙◌, arith}
use Rattle.std.specs.Prelude.{All, IsTrue, bytes_eq}
use Rattle.std.specs.List.{flat_map, list_all}
use Rattle.std.proofs.lemmas.List.{append-nil}
use Rattle.chart_model.specs.Whole.{is_made}
use Rattle.chart_model.specs.declared.records.Attribute.{Attribute}
use Rattle.chart_model.specs.declared.records.Feature.{Feature}
use Rattle.chart_model.specs.declared.records.Pointer.{Pointer}
use Rattle.iso8211_codec.specs.Reading.{Part, Seen, seen}
use Rattle.s57_records.specs.Fields.{frid, foid, fspt, attribute}
use Rattle.readings.specs.Finds.{◌>>=◌}
use Rattle.s57_records.specs.Formats.{field_of, AllFit}
use Rattle.s57_records.specs.Law.{FieldLaws}
use Rattle.s57_records.specs.declared.feature.Foid.{Foid}
use Rattle.s57_records.specs.declared.feature.Frid.{Frid}
use Rattle.s57_codes.specs.Catalogue.{tag_0001, tag_attf, tag_foid, tag_frid, tag_fspt}
use Rattle.record_values.specs.Attributes.{attributes_of, attributes}
use Rattle.record_values.specs.Features.{feature_with, name_of, name_in}
use Rattle.record_values.specs.Fields.{are_whole, bodies, only, the_one}
use Rattle.record_values.specs.Groups.{pointer_of, pointers_in, pointers}
use Rattle.cell_reader.specs.Identifiers.{feature_identifier, feature_in}
use Rattle.cell_reader.specs.Records.{ReadRecords, feature, after_record}
use Rattle.cell_writer.specs.Layout.{id, field, some_groups, feature_parts, frid_of, foid_of, attribute_values, pointer_values}
use Rattle.cell_writer.specs.Sized.{FeatureFits}
use Rattle.cell_laws.proofs.Repeats.{IsGroup, groups_are, groups_whole}
use Rattle.cell_laws.proofs.Seeing.{with_body, seen_is, bodies_of_two, id_body, some_body, same_tag, other_tag, of_some, all_some, led}
use Rattle.cell_laws.proofs.Texts.{attributes_are}

-- fields that tell these attributes and pointers, and have none of the tags that stand first
record Tells (fields : List Seen) (texts : List Attribute) (ps : List Pointer) : Type 0 where
  no_id : bodies tag_0001 fields ≡ []
  no_identifier : bodies tag_frid fields ≡ []
  no_name : bodies tag_foid fields ≡ []
  whole : are_whole 8 tag_fspt fields ≡ true
  texts_are : attributes fields ≡ Some texts
  pointers_are : pointers fields ≡ ps

-- ---- the fields that are written

abbrev text_parts : List Attribute → List Part
text_parts texts = some_groups tag_attf attribute (map attribute_values texts)

abbrev pointer_parts : List Pointer → List Part
pointer_parts ps = some_groups tag_fspt fspt (map pointer_values ps)

-- ---- what is read of them

pointer_group : IsGroup fspt pointer_values pointer_of
pointer_group = record { undoes = λ p. refl; fixed = refl; some = omega arith }

-- what is written of attributes and pointers tells them
details_tell : (laws : FieldLaws) (texts : List Attribute) (ps : List Pointer) → All (λ (a : Attribute). AllFit attribute (attribute_values a)) texts → All (λ (p : Pointer). AllFit fspt (pointer_values p)) ps
    → Tells (map seen (text_parts texts ++ pointer_parts ps)) texts ps
details_tell laws texts ps fit fits = record {
  no_id = among tag_0001 ∙ ap₂ ◌++◌ (no_text tag_0001 refl) (no_pointer tag_0001 refl);
  no_identifier = among tag_frid ∙ ap₂ ◌++◌ (no_text tag_frid refl) (no_pointer tag_frid refl);
  no_name = among tag_foid ∙ ap₂ ◌++◌ (no_text tag_foid refl) (no_pointer tag_foid refl);
  whole = ap (list_all (λ body. eqb (length body % 8) 0)) pointer_bodies ∙ all_some fspt pointer_values _ ps (groups_whole laws pointer_group ps fits);
  texts_are = ap attributes_of (among tag_attf ∙ ap₂ ◌++◌ (same_tag tag_attf attribute refl refl (map attribute_values texts)) (no_pointer tag_attf refl) ∙ append-nil _) ∙ attributes_are laws texts fit;
  pointers_are = ap (flat_map pointers_in) pointer_bodies ∙ of_some fspt pointer_values pointers_in ps (groups_are laws pointer_group ps fits);
}
  where
    among : (tag : List ℕ) → bodies tag (map seen (text_parts texts ++ pointer_parts ps)) ≡ bodies tag (map seen (text_parts texts)) ++ bodies tag (map seen (pointer_parts ps))
    among tag = bodies_of_two tag (text_parts texts) (pointer_parts ps)

    no_text : (tag : List ℕ) → bytes_eq tag_attf tag ≡ false → bodies tag (map seen (text_parts texts)) ≡ []
    no_text tag differ = other_tag tag_attf attribute refl tag differ (map attribute_values texts)

    no_pointer : (tag : List ℕ) → bytes_eq tag_fspt tag ≡ false → bodies tag (map seen (pointer_parts ps)) ≡ []
    no_pointer tag differ = other_tag tag_fspt fspt refl tag differ (map pointer_values ps)

    pointer_bodies : bodies tag_fspt (map seen (text_parts texts ++ pointer_parts ps)) ≡ some_body fspt (map pointer_values ps)
    pointer_bodies = among tag_fspt ∙ ap₂ ◌++◌ (no_text tag_fspt refl) (same_tag tag_fspt fspt refl refl (map pointer_values ps))

-- ---- a whole record

-- bodies of FRID and FOID that are read so
record Names (identifier name : List ℕ) (f : Frid) (o : Foid) : Type 0 where
  identified : feature_in identifier ≡ Some f
  named : name_in name ≡ Some o

-- the tests of feature records, one after the other
tests_pass : (at : ℕ) (fields : List Seen) (d : ReadRecords) (id identifier name : List ℕ) (f : Frid) (o : Foid) (texts : List Attribute) (ps : List Pointer) → only tag_0001 fields ≡ Some id → only tag_frid fields ≡ Some identifier → only tag_foid fields ≡ Some name
    → Names identifier name f o → attributes fields ≡ Some texts → are_whole 8 tag_fspt fields ≡ true → pointers fields ≡ ps → is_made (feature_with f o texts ps) ≡ true
    → feature at fields d ≡ Ok (record d { features = d.features ++ feature_with f o texts ps ∷ [] })
unfolding feature
tests_pass at fields d id identifier name f o texts ps i b n says t whole p made = rw (i, b, n, says.identified, says.named, t, whole, p, made) refl

-- what is seen of a feature record: 0001, FRID, FOID and the others
abbrev fields_with : List ℕ → List ℕ → List ℕ → List Seen → List Seen
fields_with id identifier name rest = with_body tag_0001 id ∷ with_body tag_frid identifier ∷ with_body tag_foid name ∷ rest

-- a feature record that passes them adds what it says
feature_read : (at : ℕ) (id identifier name : List ℕ) (rest : List Seen) (d : ReadRecords) (f : Frid) (o : Foid) (texts : List Attribute) (ps : List Pointer) → Names identifier name f o → Tells rest texts ps → is_made (feature_with f o texts ps) ≡ true
    → after_record at (fields_with id identifier name rest) d ≡ Ok (record d { features = d.features ++ feature_with f o texts ps ∷ [] })
unfolding after_record
feature_read at id identifier name rest d f o texts ps says t made =
    tests_pass at (fields_with id identifier name rest) d id identifier name f o texts ps (ap (λ l. the_one (id ∷ l)) t.no_id) (ap (λ l. the_one (identifier ∷ l)) t.no_identifier) (ap (λ l. the_one (name ∷ l)) t.no_name) says t.texts_are t.whole t.pointers_are made

-- the identifier and the name that are written
abbrev frid_for : Feature → Frid
frid_for f = record { rcnm = 100; rcid = f.rcid; prim = f.prim; grup = f.grup; objl = f.objl; rver = f.rver; ruin = 1 }

abbrev foid_for : Feature → Foid
foid_for f = record { agen = f.agen; fidn = f.fidn; fids = f.fids }

-- the record of a feature adds the feature
pub feature_taken : (laws : FieldLaws) (at n : ℕ) (f : Feature) (d : ReadRecords) → FeatureFits f → IsTrue (is_made f) → after_record at (map seen (feature_parts n f)) d ≡ Ok (record d { features = d.features ++ f ∷ [] })
feature_taken laws at n f d fits made =
    let identifier = field_of frid (frid_of f) in
    let name = field_of foid (foid_of f) in
    let details = text_parts f.attributes ++ pointer_parts f.pointers in
    let says : Names identifier name (frid_for f) (foid_for f) = record { identified = ap (λ o. o >>= feature_identifier) (laws.reads_back frid (frid_of f) fits.identifier); named = ap (λ o. o >>= name_of) (laws.reads_back foid (foid_of f) fits.name) } in
    ap (λ fields. after_record at fields d) (led tag_frid frid (frid_of f) n (field tag_foid foid (foid_of f) ∷ details) refl)
    ∙ ap (λ s. after_record at (with_body tag_0001 (id_body n) ∷ with_body tag_frid identifier ∷ s ∷ map seen details) d) (seen_is tag_foid name refl)
    ∙ feature_read at (id_body n) identifier name (map seen details) d (frid_for f) (foid_for f) f.attributes f.pointers says (details_tell laws f.attributes f.pointers fits.attributes fits.pointers) made
