-- How the attributes of a feature change by an update (S-57 Edition 3.1, Part 3, 8).
use Rattle.std.specs.Prelude.{ℕ, eqb, cond, fold, List, [], ◌∷◌}
use Rattle.std.specs.Str.{bytes_eq}
use Rattle.chart_model.specs.declared.records.Attribute.{Attribute}

-- the text that takes an attribute out: the delete character alone
abbrev pub deleting_text : List ℕ
deleting_text = 127 ∷ []

-- the first attribute with its code becomes this one; where there is none, this one comes at the end
abbrev pub with_attribute : Attribute → List Attribute → List Attribute
with_attribute a [] = a ∷ []
with_attribute a (b ∷ bs) = cond (eqb b.code a.code) (a ∷ bs) (b ∷ with_attribute a bs)

-- the first attribute with a code goes, where there is one
abbrev pub without_attribute : ℕ → List Attribute → List Attribute
without_attribute code [] = []
without_attribute code (b ∷ bs) = cond (eqb b.code code) bs (b ∷ without_attribute code bs)

-- after one that is given
abbrev pub attributes_after_one : List Attribute → Attribute → List Attribute
attributes_after_one old a = cond (bytes_eq a.text deleting_text) (without_attribute a.code old) (with_attribute a old)

-- after all that are given, in their order
abbrev pub attributes_after : List Attribute → List Attribute → List Attribute
attributes_after given old = fold attributes_after_one old given
