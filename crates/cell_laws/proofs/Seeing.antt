-- What a reader sees of the fields that are written, and finds by their tags.
use Rattle.std.proofs.Common.{◌≡◌, ℕ, ◌-◌, ◌%◌, Bool, true, false, cond, List, [], ◌∷◌, ◌++◌, length, map, take, refl, ap, ap₂, ◌∙◌, append-nil, arith}
use Rattle.std.specs.Prelude.{bytes_eq, filter}
use Rattle.std.specs.List.{flat_map, list_all}
use Rattle.std.proofs.lemmas.Bool.{and_from}
use Rattle.std.proofs.lemmas.List.{take_at, length-append, map-append}
use Rattle.std.proofs.lemmas.List.Elements.{filter-append}
use Rattle.iso8211_codec.specs.Reading.{Part, Seen, seen, is_free}
use Rattle.s57_records.specs.Formats.{Format, b12, Value, N, field_of}
use Rattle.s57_codes.specs.Catalogue.{tag_0001}
use Rattle.record_values.specs.Fields.{is_tagged, bodies}
use Rattle.cell_writer.specs.Layout.{id, field, some_groups}

-- what is seen of a field with this tag and body
abbrev pub with_body : List ℕ → List ℕ → Seen
with_body tag body = record { tag = tag; body = body }

-- bytes without the one that ends them
without_end : (bytes : List ℕ) → take (length (bytes ++ 30 ∷ []) - 1) (bytes ++ 30 ∷ []) ≡ bytes
without_end bytes = take_at bytes (30 ∷ []) (length (bytes ++ 30 ∷ []) - 1) (omega (arith, length-append bytes (30 ∷ [])))

-- a field that 0x1E ends is seen without it
pub seen_is : (tag bytes : List ℕ) → is_free tag ≡ false → seen (record { tag = tag; bytes = bytes ++ 30 ∷ [] }) ≡ with_body tag bytes
seen_is tag bytes free = ap (λ b. with_body tag (cond b (bytes ++ 30 ∷ []) (take (length (bytes ++ 30 ∷ []) - 1) (bytes ++ 30 ∷ [])))) free ∙ ap (with_body tag) (without_end bytes)

-- the bodies of the fields of two lists
pub bodies_of_two : (tag : List ℕ) (xs ys : List Part) → bodies tag (map seen (xs ++ ys)) ≡ bodies tag (map seen xs) ++ bodies tag (map seen ys)
bodies_of_two tag xs ys =
    ap (bodies tag) (map-append seen xs ys) ∙ ap (map (λ (f : Seen). f.body)) (filter-append (is_tagged tag) (map seen xs) (map seen ys))
    ∙ map-append (λ (f : Seen). f.body) (filter (is_tagged tag) (map seen xs)) (filter (is_tagged tag) (map seen ys))

-- the body of a list of groups, where there is a group
abbrev pub some_body : List Format → List (List Value) → List (List ℕ)
some_body fs [] = []
some_body fs (vs ∷ list) = flat_map (field_of fs) (vs ∷ list) ∷ []

-- a list of groups is written as one field, or as none where it is empty
module _ (tag : List ℕ) (fs : List Format) (free : is_free tag ≡ false) where
  -- by its tag its body is found
  pub same_tag : bytes_eq tag tag ≡ true → (list : List (List Value)) → bodies tag (map seen (some_groups tag fs list)) ≡ some_body fs list
  same_tag same [] = refl
  same_tag same (vs ∷ list) =
      let body = flat_map (field_of fs) (vs ∷ list) in
      ap (λ (f : Seen). bodies tag (f ∷ [])) (seen_is tag body free)
      ∙ ap (λ b. map (λ (f : Seen). f.body) (cond b (with_body tag body ∷ []) [])) same

  -- by another tag nothing is
  pub other_tag : (other : List ℕ) → bytes_eq tag other ≡ false → (list : List (List Value)) → bodies other (map seen (some_groups tag fs list)) ≡ []
  other_tag other differ [] = refl
  other_tag other differ (vs ∷ list) =
      let body = flat_map (field_of fs) (vs ∷ list) in
      ap (λ (f : Seen). bodies other (f ∷ [])) (seen_is tag body free)
      ∙ ap (λ b. map (λ (f : Seen). f.body) (cond b (with_body tag body ∷ []) [])) differ

-- what the body gives, where there is one, is the list
pub of_some : {X : Type 0} (fs : List Format) (values : X → List Value) (read : List ℕ → List X) (xs : List X) → read (flat_map (field_of fs) (map values xs)) ≡ xs → flat_map read (some_body fs (map values xs)) ≡ xs
of_some fs values read [] back = refl
of_some fs values read (x ∷ xs) back = append-nil _ ∙ back

-- the body passes a test, where there is one
pub all_some : {X : Type 0} (fs : List Format) (values : X → List Value) (test : List ℕ → Bool) (xs : List X) → test (flat_map (field_of fs) (map values xs)) ≡ true → list_all test (some_body fs (map values xs)) ≡ true
all_some fs values test [] passes = refl
all_some fs values test (x ∷ xs) passes = and_from _ true passes refl

-- ---- the first two fields of a record

-- the body of field 0001
abbrev pub id_body : ℕ → List ℕ
id_body n = field_of (b12 ∷ []) (N (n % 65536) ∷ [])

-- field 0001 and a field of one group are seen before the others
pub led : (tag : List ℕ) (fs : List Format) (vs : List Value) (n : ℕ) (rest : List Part) → is_free tag ≡ false → map seen (id n ∷ field tag fs vs ∷ rest) ≡ with_body tag_0001 (id_body n) ∷ with_body tag (field_of fs vs) ∷ map seen rest
led tag fs vs n rest free = ap₂ (λ a b. a ∷ b ∷ map seen rest) (seen_is tag_0001 (id_body n) refl) (seen_is tag (field_of fs vs) free)
