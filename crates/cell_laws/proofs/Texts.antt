-- The attributes of a feature are read back from the fields that they are written to.
use Rattle.std.proofs.Common.{◌≡◌, ℕ, zero, suc, ◌+◌, ◌≤◌, List, [], ◌∷◌, ◌++◌, length, map, drop, Some, refl, ap, ◌∙◌, append-nil, arith}
use Rattle.std.specs.Prelude.{All}
use Rattle.std.specs.List.{flat_map, AllByRecursion}
use Rattle.std.proofs.lemmas.List.{drop_at, length-append}
use Rattle.std.proofs.lemmas.List.Elements.{recursion_from_All}
use Rattle.chart_model.specs.declared.records.Attribute.{Attribute}
use Rattle.s57_records.specs.Fields.{attribute}
use Rattle.readings.specs.Finds.{◌>>=◌}
use Rattle.s57_records.specs.Formats.{field_of, attribute_at, AllFit}
use Rattle.s57_records.specs.Law.{FieldLaws}
use Rattle.record_values.specs.Attributes.{attributes_at, attributes_in, attributes_of}
use Rattle.cell_writer.specs.Layout.{attribute_values}
use Rattle.cell_laws.proofs.Seeing.{some_body}

-- an attribute that fits its field
abbrev pub IsWritable : Attribute → Type 0
IsWritable a = AllFit attribute (attribute_values a)

-- a code of two bytes, a text, and the byte that ends it
attribute_length : (a : Attribute) → length (field_of attribute (attribute_values a)) ≡ length a.text + 3
attribute_length a = omega (arith, length-append (a.text ++ 31 ∷ []) [], length-append a.text (31 ∷ []))

-- the attribute at the beginning, and then the others
first_then : (turns : ℕ) (bytes : List ℕ) (a : Attribute) (n : ℕ) (rest : List ℕ) (others : List Attribute) → 1 ≤ length bytes → attribute_at bytes ≡ Some (a.code, (a.text, n)) → drop n bytes ≡ rest
    → attributes_at turns rest ≡ Some others → attributes_at (suc turns) bytes ≡ Some (a ∷ others)
first_then turns [] a n rest others some first after more = absurd (omega arith)
first_then turns (byte ∷ bytes) a n rest others some first after more = rw (first, after, more) refl

module _ (laws : FieldLaws) where
  -- all attributes, in as many turns as there are bytes or more
  attributes_again : (turns : ℕ) (list : List Attribute) → AllByRecursion IsWritable list → length (flat_map (field_of attribute) (map attribute_values list)) ≤ turns
      → attributes_at turns (flat_map (field_of attribute) (map attribute_values list)) ≡ Some list
  attributes_again turns [] fit long = refl
  attributes_again zero (a ∷ list) fit long = absurd (omega (arith, attribute_length a, length-append (field_of attribute (attribute_values a)) (flat_map (field_of attribute) (map attribute_values list))))
  attributes_again (suc turns) (a ∷ list) fit long =
      let front = field_of attribute (attribute_values a) in
      let rest = flat_map (field_of attribute) (map attribute_values list) in
      let size : length front ≡ length a.text + 3 = attribute_length a in
      let both : length (front ++ rest) ≡ length front + length rest = length-append front rest in
      first_then turns (front ++ rest) a (length a.text + 3) rest list (omega arith) (laws.attribute_back a.code a.text rest fit.0.0 fit.0.1.0) (drop_at front rest (length a.text + 3) size)
      (attributes_again turns list fit.1 (omega arith))

  -- the attributes of a body
  pub attributes_back : (list : List Attribute) → All IsWritable list → attributes_in (flat_map (field_of attribute) (map attribute_values list)) ≡ Some list
  attributes_back list fit = attributes_again _ list (recursion_from_All IsWritable list fit) (omega arith)

  -- those of the field that is there where there is an attribute
  pub attributes_are : (list : List Attribute) → All IsWritable list → attributes_of (some_body attribute (map attribute_values list)) ≡ Some list
  attributes_are [] fit = refl
  attributes_are (a ∷ list) fit = ap (λ o. o >>= λ (here : List Attribute). Some (here ++ [])) (attributes_back (a ∷ list) fit) ∙ ap (λ l. Some l) (append-nil (a ∷ list))
