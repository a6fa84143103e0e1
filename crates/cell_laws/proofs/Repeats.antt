-- What a field that repeats a group gives is the list that it was written for.
use Rattle.std.proofs.Common.{◌≡◌, ℕ, suc, ◌+◌, ◌*◌, ◌/◌, ◌%◌, ◌<◌, true, eqb, List, [], ◌∷◌, length, map, Option, Some, None, refl, ap, ◌∙◌, arith}
use Rattle.std.specs.Prelude.{option_map, option_to_list, slice_get, All}
use Rattle.std.specs.List.{list_all, flat_map, range_with_len, AllByRecursion}
use Rattle.std.proofs.Math.Nat.{mul-div_cancel, mul-mod_left}
use Rattle.std.proofs.lemmas.Bool.{eq-eqb}
use Rattle.std.proofs.lemmas.List.{length-map}
use Rattle.std.proofs.lemmas.List.Elements.{All-map, recursion_from_All}
use Rattle.std.proofs.lemmas.Option.{slice_get-map}
use Rattle.readings.specs.Finds.{◌>>=◌}
use Rattle.s57_records.specs.Formats.{Format, Value, field_of, group_size, values_of_group, AllFit, is_fixed}
use Rattle.s57_records.specs.Law.{FieldLaws}
use Rattle.record_values.specs.Groups.{each}
use Rattle.s57_records.proofs.Repeats.{groups_length}

-- what is there under the numbers from one on, where that is the elements of a list
each_from : {X : Type 0} (f : ℕ → Option X) (low : ℕ) (xs : List X) → ((k : ℕ) → f (low + k) ≡ slice_get xs k) → flat_map (λ (k : ℕ). option_to_list (f k)) (range_with_len low (length xs)) ≡ xs
each_from f low [] same = refl
each_from f low (x ∷ xs) same =
    let here : f low ≡ Some x = ap f (omega arith) ∙ same 0 in
    rw here (ap (λ t. x ∷ t) (each_from f (low + 1) xs (λ k. ap f (omega arith) ∙ same (suc k))))

-- the same from 0 on
pub each_is : {X : Type 0} (f : ℕ → Option X) (n : ℕ) (xs : List X) → n ≡ length xs → ((k : ℕ) → f k ≡ slice_get xs k) → each f n ≡ xs
each_is f n xs e same = ap (each f) e ∙ each_from f 0 xs (λ k. ap f (omega arith) ∙ same k)

-- A group of subfields of a fixed size that stands for a value: what writing makes of the value, reading undoes.
pub record IsGroup {X : Type 0} (fs : List Format) (values : X → List Value) (of : List Value → Option X) : Type 0 where
  pub undoes : (x : X) → of (values x) ≡ Some x
  pub fixed : list_all is_fixed fs ≡ true
  pub some : 0 < group_size fs

module _ (laws : FieldLaws) {X : Type 0} {fs : List Format} {values : X → List Value} {of : List Value → Option X} (group : IsGroup fs values of) where
  -- what is written of an element, or of none, is undone
  undone : (o : Option X) → (option_map values o >>= of) ≡ o
  undone None = refl
  undone (Some x) = group.undoes x

  -- the values of a list all fit
  all_fit : (xs : List X) → All (λ x. AllFit fs (values x)) xs → AllByRecursion (AllFit fs) (map values xs)
  all_fit xs fit = recursion_from_All (AllFit fs) (map values xs) (All-map (AllFit fs) values xs fit)

  -- their bytes are as many groups
  long : (xs : List X) → All (λ x. AllFit fs (values x)) xs → length (flat_map (field_of fs) (map values xs)) ≡ length xs * group_size fs
  long xs fit = groups_length fs (map values xs) group.fixed (all_fit xs fit) ∙ ap (λ (n : ℕ). n * group_size fs) (length-map xs values)

  -- group k is that of element k
  group_is : (xs : List X) → All (λ x. AllFit fs (values x)) xs → (k : ℕ) → (values_of_group fs k (flat_map (field_of fs) (map values xs)) >>= of) ≡ slice_get xs k
  group_is xs fit k = ap (λ o. o >>= of) (laws.groups_back fs (map values xs) k group.fixed group.some (all_fit xs fit) ∙ slice_get-map values xs k) ∙ undone (slice_get xs k)

  -- all groups of the body are the list
  pub groups_are : (xs : List X) → All (λ x. AllFit fs (values x)) xs
      → each (λ k. values_of_group fs k (flat_map (field_of fs) (map values xs)) >>= of) (length (flat_map (field_of fs) (map values xs)) / group_size fs) ≡ xs
  groups_are xs fit = each_is _ _ xs (ap (λ (n : ℕ). n / group_size fs) (long xs fit) ∙ mul-div_cancel (length xs) group.some) (group_is xs fit)

  -- the body is whole groups
  pub groups_whole : (xs : List X) → All (λ x. AllFit fs (values x)) xs → eqb (length (flat_map (field_of fs) (map values xs)) % group_size fs) 0 ≡ true
  groups_whole xs fit = eq-eqb _ _ (ap (λ (n : ℕ). n % group_size fs) (long xs fit) ∙ mul-mod_left (length xs) (group_size fs))
