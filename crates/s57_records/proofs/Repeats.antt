-- Groups and attributes, one after the other, are read back.
use Rattle.std.proofs.Common.{◌≡◌, ℕ, zero, suc, ◌+◌, ◌-◌, ◌*◌, ◌/◌, ◌^◌, ◌<◌, inl, inr, true, List, [], ◌∷◌, ◌++◌, length, take, drop, Some, refl, sym, ap, ◌∙◌, append_assoc, append-nil, arith}
use Rattle.std.specs.Prelude.{slice_get}
use Rattle.std.specs.Int.{w16, to_le_bytes}
use Rattle.std.specs.List.{list_all, flat_map, AllByRecursion}
use Rattle.std.proofs.Math.Nat.{mul-div_cancel}
use Rattle.std.proofs.lemmas.Bool.{cases_lt, lt-ltb, le-ltb, and_parts}
use Rattle.std.proofs.lemmas.List.{take_at, drop_at, drop-drop, length-append}
use Rattle.std.proofs.lemmas.Option.{slice_get_past}
use Rattle.s57_records.specs.Formats.{Format, b11, b12, b14, b24, A, As, Value, N, Z, T, number_at, text_at, values_in, bytes_of, field_of, size, group_size, values_of_group, attribute_at, is_text, Fits, AllFit, is_fixed}
use Rattle.s57_records.proofs.Again.{again_2, text_again, reads_back}

value_length : (f : Format) (v : Value) → is_fixed f ≡ true → Fits f v → length (bytes_of f v) ≡ size f
value_length b11 (N n) fixed h = refl
value_length b12 (N n) fixed h = refl
value_length b14 (N n) fixed h = refl
value_length b24 (Z z) fixed h = refl
value_length (As n) (T text) fixed h = h
value_length A v fixed h = absurd cc
value_length b11 (T text) fixed h = absurd h
value_length b12 (T text) fixed h = absurd h
value_length b14 (T text) fixed h = absurd h
value_length b24 (T text) fixed h = absurd h
value_length b24 (N n) fixed h = absurd h
value_length (As k) (N n) fixed h = absurd h
value_length b11 (Z z) fixed h = absurd h
value_length b12 (Z z) fixed h = absurd h
value_length b14 (Z z) fixed h = absurd h
value_length (As k) (Z z) fixed h = absurd h

pub group_length : (fs : List Format) (vs : List Value) → list_all is_fixed fs ≡ true → AllFit fs vs → length (field_of fs vs) ≡ group_size fs
group_length [] [] fixed h = refl
group_length [] (v ∷ vs) fixed h = absurd h
group_length (f ∷ fs) [] fixed h = absurd h
group_length (f ∷ fs) (v ∷ vs) fixed h =
    let b = and_parts (is_fixed f) (list_all is_fixed fs) fixed in
    omega (arith, length-append (bytes_of f v) (field_of fs vs), value_length f v b.0 h.0, group_length fs vs b.1 h.1)

pub groups_length : (fs : List Format) (groups : List (List Value)) → list_all is_fixed fs ≡ true → AllByRecursion (AllFit fs) groups
    → length (flat_map (field_of fs) groups) ≡ length groups * group_size fs
groups_length fs [] fixed h = sym (let none : 0 * group_size fs ≡ 0 = omega arith in none)
groups_length fs (vs ∷ groups) fixed h =
    let one : suc (length groups) * group_size fs ≡ group_size fs + length groups * group_size fs = omega arith in
    omega (arith, one, length-append (field_of fs vs) (flat_map (field_of fs) groups), group_length fs vs fixed h.0, groups_length fs groups fixed h.1)

group_there : (fs : List Format) (groups : List (List Value)) (k : ℕ) → list_all is_fixed fs ≡ true → AllByRecursion (AllFit fs) groups → k < length groups
    → values_in fs (take (group_size fs) (drop (k * group_size fs) (flat_map (field_of fs) groups))) ≡ slice_get groups k
group_there fs [] k fixed h lt = absurd (omega arith)
group_there fs (vs ∷ groups) zero fixed h lt =
    let none : 0 * group_size fs ≡ 0 = omega arith in
    rw (none, take_at (field_of fs vs) (flat_map (field_of fs) groups) (group_size fs) (group_length fs vs fixed h.0)) (reads_back fs vs h.0)
group_there fs (vs ∷ groups) (suc k) fixed h lt =
    let rest = flat_map (field_of fs) groups in
    let next : drop (suc k * group_size fs) (field_of fs vs ++ rest) ≡ drop (k * group_size fs) rest =
    ap (λ (n : ℕ). drop n (field_of fs vs ++ rest)) (omega arith) ∙ sym (drop-drop (k * group_size fs) (group_size fs) (field_of fs vs ++ rest))
    ∙ ap (λ (t : List ℕ). drop (k * group_size fs) t) (drop_at (field_of fs vs) rest (group_size fs) (group_length fs vs fixed h.0)) in
    rw next (group_there fs groups k fixed h.1 (omega arith))

pub groups_back : (fs : List Format) (groups : List (List Value)) (k : ℕ) → list_all is_fixed fs ≡ true → 0 < group_size fs → AllByRecursion (AllFit fs) groups
    → values_of_group fs k (flat_map (field_of fs) groups) ≡ slice_get groups k
groups_back fs groups k fixed some h =
    let count : length (flat_map (field_of fs) groups) / group_size fs ≡ length groups =
    ap (λ (n : ℕ). n / group_size fs) (groups_length fs groups fixed h) ∙ mul-div_cancel (length groups) some in
    elim (cases_lt k (length groups)) [
      | inl lt ↦ rw (count, lt-ltb k (length groups) lt) (group_there fs groups k fixed h lt)
      | inr le ↦ rw (count, le-ltb k (length groups) le) (sym (slice_get_past groups k le))
    ]

attribute_by : (bytes text after rest : List ℕ) (code : ℕ) → number_at w16 bytes ≡ Some (code, after) → text_at after ≡ Some (text, rest)
    → attribute_at bytes ≡ Some (code, (text, length bytes - length rest))
attribute_by bytes text after rest code e1 e2 = rw (e1, e2) refl

pub attribute_back : (code : ℕ) (text rest : List ℕ) → code < 2 ^ 16 → is_text text ≡ true
    → attribute_at (field_of (b12 ∷ A ∷ []) (N code ∷ T text ∷ []) ++ rest) ≡ Some (code, (text, length text + 3))
attribute_back code text rest small plain =
    let after = text ++ (31 ∷ rest) in
    let shape : ((text ++ 31 ∷ []) ++ []) ++ rest ≡ after = simp (append_assoc, append-nil) in
    let taken : length (to_le_bytes w16 code ++ after) - length rest ≡ length text + 3 = omega (arith, length-append text (31 ∷ rest)) in
    ap (λ (t : List ℕ). attribute_at (to_le_bytes w16 code ++ t)) shape
    ∙ attribute_by (to_le_bytes w16 code ++ after) text after rest code (again_2 code after small) (text_again text rest plain)
    ∙ ap (λ (n : ℕ). Some (code, (text, n))) taken
