-- The laws of fields, for every format.
use Rattle.std.specs.Prelude.{◌≡◌, ℕ, ◌+◌, ◌<◌, ◌^◌, true, List, [], ◌∷◌, ◌++◌, length, Some, get_or, slice_get}
use Rattle.std.specs.List.{list_all, flat_map, AllByRecursion}
use Rattle.s57_records.specs.Formats.{Format, b12, A, Value, N, T, values_in, field_of, group_size, values_of_group, attribute_at, is_text, AllFit, is_fixed}

-- What is written is read back, and what is read was written so.
pub record FieldLaws : Type 0 where
  -- a field
  pub reads_back : (fs : List Format) (vs : List Value) → AllFit fs vs → values_in fs (field_of fs vs) ≡ Some vs
  -- a field that is read has no other bytes than those that are written for its values
  pub is_written : (fs : List Format) (vs : List Value) (bytes : List ℕ) → ((i : ℕ) → get_or bytes i 0 < 256) → values_in fs bytes ≡ Some vs
      → bytes ≡ field_of fs vs
  -- a field of groups: group k is the one that was written as number k, and none is there after the last
  pub groups_back : (fs : List Format) (groups : List (List Value)) (k : ℕ) → list_all is_fixed fs ≡ true → 0 < group_size fs
      → AllByRecursion (AllFit fs) groups → values_of_group fs k (flat_map (field_of fs) groups) ≡ slice_get groups k
  -- an attribute at the beginning, whatever follows it
  pub attribute_back : (code : ℕ) (text rest : List ℕ) → code < 2 ^ 16 → is_text text ≡ true
      → attribute_at (field_of (b12 ∷ A ∷ []) (N code ∷ T text ∷ []) ++ rest) ≡ Some (code, (text, length text + 3))
