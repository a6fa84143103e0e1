-- The next field of a record.
use Rattle.std.proofs.Common.{◌≡◌, ℕ, ◌+◌, ◌<◌, ◌≤◌, List, [], ◌∷◌, length, drop, Bool, true, false, not, refl, ap, ◌∙◌, get_or, arith}
use Rattle.std.proofs.lemmas.List.{drop_more}
use Rattle.iso8211_codec.specs.Reading.{Seen}
use Rattle.iso8211_codec.specs.Views.{field_view}
use Rattle.iso8211_codec.specs.declared.record.Field.{Field}
use Rattle.record_values.specs.Fields.{bodies, is_tagged}
use Rattle.record_values.specs.Views.{views}

pub not_false : (b r : Bool) → r ≡ not b → r ≡ false → b ≡ true
not_false true r e h = refl
not_false false r e h = cc

one_more : (tag : List ℕ) (field : Seen) (fields : List Seen) → is_tagged tag field ≡ true → bodies tag (field ∷ fields) ≡ field.body ∷ bodies tag fields
one_more tag field fields h = rw h

-- where it has the tag, its body comes next
pub next_body_of : (tag : List ℕ) (fields : List Field) (i : ℕ) (d : Field) → i < length fields → is_tagged tag (field_view (get_or fields i d)) ≡ true
    → bodies tag (views (drop i fields)) ≡ (get_or fields i d).body.now ∷ bodies tag (views (drop (i + 1) fields))
next_body_of tag fields i d h is =
    ap (λ l. bodies tag (views l)) (drop_more fields i d h) ∙ one_more tag (field_view (get_or fields i d)) (views (drop (i + 1) fields)) is

few_step : (tag : List ℕ) (field : Field) (fields : List Field) (b : Bool) → is_tagged tag (field_view field) ≡ b → length (bodies tag (views fields)) ≤ length fields → length (bodies tag (views (field ∷ fields))) ≤ length (field ∷ fields)
few_step tag field fields true e few = rw e (omega arith)
few_step tag field fields false e few = rw e (omega arith)

-- no more fields have a tag than there are
pub bodies_few : (tag : List ℕ) (fields : List Field) → length (bodies tag (views fields)) ≤ length fields
bodies_few tag [] = omega arith
bodies_few tag (field ∷ fields) = few_step tag field fields (is_tagged tag (field_view field)) refl (bodies_few tag fields)
