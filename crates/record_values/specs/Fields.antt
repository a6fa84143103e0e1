-- The fields of a record, found by their tags.
use Rattle.std.specs.Prelude.{ℕ, ◌%◌, Bool, ◌&&◌, false, ◌==◌, List, [], ◌∷◌, map, filter, length, Option, Some, None}
use Rattle.std.specs.Str.{bytes_eq}
use Rattle.std.specs.List.{list_all}
use Rattle.iso8211_codec.specs.Reading.{Seen}
use Rattle.s57_codes.specs.Catalogue.{tag_0001}

abbrev pub is_tagged : List ℕ → Seen → Bool
is_tagged tag f = bytes_eq f.tag tag

-- the bodies of the fields with a tag, in their order
abbrev pub bodies : List ℕ → List Seen → List (List ℕ)
bodies tag fields = map (λ (f : Seen). f.body) (filter (is_tagged tag) fields)

-- the one element of a list; None where there is none, or more than one
abbrev pub the_one : {X : Type 0} → List X → Option X
the_one [] = None
the_one (x ∷ []) = Some x
the_one (x ∷ y ∷ xs) = None

-- the body of the one field with a tag
abbrev pub only : List ℕ → List Seen → Option (List ℕ)
only tag fields = the_one (bodies tag fields)

-- whether the first field is 0001 and the second has this tag
abbrev pub leads : List ℕ → List Seen → Bool
leads tag [] = false
leads tag (a ∷ []) = false
leads tag (a ∷ b ∷ fields) = is_tagged tag_0001 a && is_tagged tag b

-- whether the body of each field with a tag is whole groups of so many bytes
abbrev pub are_whole : ℕ → List ℕ → List Seen → Bool
are_whole size tag fields = list_all (λ (body : List ℕ). length body % size == 0) (bodies tag fields)
