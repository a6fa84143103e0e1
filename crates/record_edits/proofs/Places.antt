-- What becomes of the first attribute with a code, by its place.
use Rattle.std.proofs.Common.{◌≡◌, ℕ, zero, suc, ◌<◌, ◌≤◌, Bool, true, false, cond, Some, None, List, [], ◌∷◌, ◌++◌, length, get_or, set, refl, sym, ap, ◌∙◌, arith, eqb, ltb}
use Rattle.std.specs.List.{position, position_or_len, remove}
use Rattle.std.proofs.lemmas.Bool.{ltb-false}
use Rattle.std.proofs.lemmas.List.Quantifiers.{position-Some}
use Rattle.std.proofs.lemmas.List.Sums.{fails_before_first}
use Rattle.chart_model.specs.declared.records.Attribute.{Attribute}
use Rattle.record_edits.specs.Attributes.{with_attribute, without_attribute}

abbrev has_code : ℕ → Attribute → Bool
has_code code a = eqb a.code code

-- ---- by what is true at each place

with_at : (a d : Attribute) (xs : List Attribute) (i : ℕ) → i < length xs → has_code a.code (get_or xs i d) ≡ true → ((k : ℕ) → k < i → has_code a.code (get_or xs k d) ≡ false) → set xs i a ≡ with_attribute a xs
with_at a d [] i l here before = absurd (omega arith)
with_at a d (x ∷ xs) zero l here before = rw here refl
with_at a d (x ∷ xs) (suc i) l here before =
    let first : has_code a.code x ≡ false = before 0 (omega arith) in
    rw first (ap (λ ys. x ∷ ys) (with_at a d xs i (omega arith) here (λ k h. before (suc k) (omega arith))))

with_end : (a d : Attribute) (xs : List Attribute) → ((k : ℕ) → k < length xs → has_code a.code (get_or xs k d) ≡ false) → xs ++ a ∷ [] ≡ with_attribute a xs
with_end a d [] none = refl
with_end a d (x ∷ xs) none =
    let first : has_code a.code x ≡ false = none 0 (omega arith) in
    rw first (ap (λ ys. x ∷ ys) (with_end a d xs (λ k h. none (suc k) (omega arith))))

without_at : (code : ℕ) (d : Attribute) (xs : List Attribute) (i : ℕ) → i < length xs → has_code code (get_or xs i d) ≡ true → ((k : ℕ) → k < i → has_code code (get_or xs k d) ≡ false) → remove xs i ≡ without_attribute code xs
without_at code d [] i l here before = absurd (omega arith)
without_at code d (x ∷ xs) zero l here before = rw here refl
without_at code d (x ∷ xs) (suc i) l here before =
    let first : has_code code x ≡ false = before 0 (omega arith) in
    rw first (ap (λ ys. x ∷ ys) (without_at code d xs i (omega arith) here (λ k h. before (suc k) (omega arith))))

without_none : (code : ℕ) (d : Attribute) (xs : List Attribute) → ((k : ℕ) → k < length xs → has_code code (get_or xs k d) ≡ false) → xs ≡ without_attribute code xs
without_none code d [] none = refl
without_none code d (x ∷ xs) none =
    let first : has_code code x ≡ false = none 0 (omega arith) in
    rw first (ap (λ ys. x ∷ ys) (without_none code d xs (λ k h. none (suc k) (omega arith))))

-- ---- by the first place

none_there : {X : Type 0} (p : X → Bool) (xs : List X) → position p xs ≡ None → length xs ≤ position_or_len p xs
none_there p xs h = go (ltb (position_or_len p xs) (length xs)) refl h
  where
    go : (b : Bool) → ltb (position_or_len p xs) (length xs) ≡ b → cond b (Some (position_or_len p xs)) None ≡ None → length xs ≤ position_or_len p xs
    go true e h = absurd cc
    go false e h = ltb-false (position_or_len p xs) (length xs) e

-- (ys is the same list, as a slice)

pub put_found : (a : Attribute) (xs ys : List Attribute) (i : ℕ) → ys ≡ xs → Some i ≡ position (has_code a.code) ys → set xs i a ≡ with_attribute a xs
put_found a xs ys i same h =
    let at = position-Some (has_code a.code) xs i a (ap (position (has_code a.code)) (sym same) ∙ sym h) in
    with_at a a xs i at.0 at.1 at.2

pub put_new : (a : Attribute) (xs ys : List Attribute) → ys ≡ xs → None ≡ position (has_code a.code) ys → xs ++ a ∷ [] ≡ with_attribute a xs
put_new a xs ys same h =
    let far : length xs ≤ position_or_len (has_code a.code) xs = none_there (has_code a.code) xs (ap (position (has_code a.code)) (sym same) ∙ sym h) in
    with_end a a xs (λ k l. fails_before_first (has_code a.code) xs k a (omega arith))

pub taken_out : (code : ℕ) (d : Attribute) (xs ys : List Attribute) (i : ℕ) → ys ≡ xs → Some i ≡ position (has_code code) ys → remove xs i ≡ without_attribute code xs
taken_out code d xs ys i same h =
    let at = position-Some (has_code code) xs i d (ap (position (has_code code)) (sym same) ∙ sym h) in
    without_at code d xs i at.0 at.1 at.2

pub not_there : (code : ℕ) (xs ys : List Attribute) → ys ≡ xs → None ≡ position (has_code code) ys → xs ≡ without_attribute code xs
not_there code [] ys same h = refl
not_there code (x ∷ xs) ys same h =
    let far : length (x ∷ xs) ≤ position_or_len (has_code code) (x ∷ xs) = none_there (has_code code) (x ∷ xs) (ap (position (has_code code)) (sym same) ∙ sym h) in
    without_none code x (x ∷ xs) (λ k l. fails_before_first (has_code code) (x ∷ xs) k x (omega arith))
