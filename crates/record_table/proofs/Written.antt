-- A slot that is written over, seen as a change of the records' list: where a number stands in one slot alone, a change that
-- makes one thing of its record and keeps the others is a write to that slot.
use Rattle.std.proofs.Common.{◌≡◌, ℕ, zero, suc, ◌<◌, Bool, true, false, cond, Option, Some, None, List, [], ◌∷◌, ◌++◌, length, map, filter, set, get_or, refl, sym, ap, ◌∙◌, arith}
use Rattle.std.specs.Prelude.{not, find, filter_map}
use Rattle.std.specs.List.{cons_option}
use Rattle.std.proofs.lemmas.Bool.{eq-eqb, ne_eqb}
use Rattle.record_table.specs.Records.{is_numbered}
use Rattle.record_table.specs.Slots.{records_in, number_at}

-- a record that is put at the end
pub records_pushed : {X : Type 0} (slots : List (Option X)) (x : X) → records_in (slots ++ Some x ∷ []) ≡ records_in slots ++ x ∷ []
records_pushed [] x = refl
records_pushed (None ∷ ss) x = records_pushed ss x
records_pushed (Some y ∷ ss) x = ap (λ xs. y ∷ xs) (records_pushed ss x)

module _ {X : Type 0} (number : X → ℕ) where
  -- the number stands in no slot
  abbrev pub IsNowhere : ℕ → List (Option X) → Type 0
  IsNowhere n slots = (q : ℕ) → number_at number slots q ≡ Some n → ⊥

  -- it stands in no slot but this one
  abbrev pub IsOnlyAt : ℕ → List (Option X) → ℕ → Type 0
  IsOnlyAt n slots p = (q : ℕ) → number_at number slots q ≡ Some n → q ≡ p

  -- a slot that has a number is there
  pub slot_inside : (n : ℕ) (slots : List (Option X)) (p : ℕ) → number_at number slots p ≡ Some n → p < length slots
  slot_inside n [] p is = cc
  slot_inside n (s ∷ ss) zero is = omega arith
  slot_inside n (s ∷ ss) (suc p) is = let below = slot_inside n ss p is in omega arith

  module _ (n : ℕ) where
    numbered : (x : X) → Some (number x) ≡ Some n → is_numbered number n x ≡ true
    numbered x is = eq-eqb (number x) n (cc)

    apart : (x : X) → (Some (number x) ≡ Some n → ⊥) → is_numbered number n x ≡ false
    apart x other = ne_eqb (number x) n (λ e. other (ap Some e))

    -- ---- the search

    pub found_nowhere : (slots : List (Option X)) → IsNowhere n slots → find (is_numbered number n) (records_in slots) ≡ None
    found_nowhere [] none = refl
    found_nowhere (None ∷ ss) none = found_nowhere ss (λ q e. none (suc q) e)
    found_nowhere (Some x ∷ ss) none = rw (apart x (none 0)) (found_nowhere ss (λ q e. none (suc q) e))

    pub found_there : (slots : List (Option X)) (p : ℕ) → number_at number slots p ≡ Some n → IsOnlyAt n slots p → find (is_numbered number n) (records_in slots) ≡ get_or slots p None
    found_there [] p is only = cc
    found_there (None ∷ ss) zero is only = cc
    found_there (Some x ∷ ss) zero is only = rw (numbered x is) refl
    found_there (None ∷ ss) (suc p) is only = found_there ss p is (λ q e. let same = only (suc q) e in omega arith)
    found_there (Some x ∷ ss) (suc p) is only =
        rw (apart x (λ e. let same : zero ≡ suc p = only 0 e in absurd (omega arith)))
        (found_there ss p is (λ q e. let same = only (suc q) e in omega arith))

    -- ---- a change that makes z of a record with the number, and keeps the others

    module _ (change : X → Option X) (z : Option X) (there : (x : X) → is_numbered number n x ≡ true → change x ≡ z) (kept : (x : X) → is_numbered number n x ≡ false → change x ≡ Some x) where
      changed_nowhere : (slots : List (Option X)) → IsNowhere n slots → records_in slots ≡ filter_map change (records_in slots)
      changed_nowhere [] none = refl
      changed_nowhere (None ∷ ss) none = changed_nowhere ss (λ q e. none (suc q) e)
      changed_nowhere (Some x ∷ ss) none =
          ap (λ xs. x ∷ xs) (changed_nowhere ss (λ q e. none (suc q) e))
          ∙ ap (λ y. cons_option y (filter_map change (records_in ss))) (sym (kept x (apart x (none 0))))

      changed_there : (slots : List (Option X)) (p : ℕ) → number_at number slots p ≡ Some n → IsOnlyAt n slots p → records_in (set slots p z) ≡ filter_map change (records_in slots)
      changed_there [] p is only = cc
      changed_there (None ∷ ss) zero is only = cc
      changed_there (Some x ∷ ss) zero is only =
          ap (λ y. cons_option y (records_in ss)) (sym (there x (numbered x is)))
          ∙ ap (λ xs. cons_option (change x) xs) (changed_nowhere ss (λ q e. let same : suc q ≡ zero = only (suc q) e in absurd (omega arith)))
      changed_there (None ∷ ss) (suc p) is only = changed_there ss p is (λ q e. let same = only (suc q) e in omega arith)
      changed_there (Some x ∷ ss) (suc p) is only =
          ap (λ xs. x ∷ xs) (changed_there ss p is (λ q e. let same = only (suc q) e in omega arith))
          ∙ ap (λ y. cons_option y (filter_map change (records_in ss))) (sym (kept x (apart x (λ e. let same : zero ≡ suc p = only 0 e in absurd (omega arith)))))

    -- ---- to take out is to empty the slot

    abbrev left_out : X → Option X
    left_out x = cond (is_numbered number n x) None (Some x)

    filter_is : (xs : List X) → filter_map left_out xs ≡ filter (λ x. not (is_numbered number n x)) xs
    filter_is [] = refl
    filter_is (x ∷ xs) = by_test (is_numbered number n x) (filter_is xs)
      where
        by_test : (b : Bool) → filter_map left_out xs ≡ filter (λ y. not (is_numbered number n y)) xs
            → cons_option (cond b None (Some x)) (filter_map left_out xs) ≡ cond (not b) (x ∷ filter (λ y. not (is_numbered number n y)) xs) (filter (λ y. not (is_numbered number n y)) xs)
        by_test true rest = rest
        by_test false rest = ap (λ ys. x ∷ ys) rest

    pub removed_nowhere : (slots : List (Option X)) → IsNowhere n slots → records_in slots ≡ filter (λ x. not (is_numbered number n x)) (records_in slots)
    removed_nowhere slots none =
        changed_nowhere left_out None (λ x e. ap (λ b. cond b None (Some x)) e) (λ x e. ap (λ b. cond b None (Some x)) e) slots none ∙ filter_is (records_in slots)

    pub removed_there : (slots : List (Option X)) (p : ℕ) → number_at number slots p ≡ Some n → IsOnlyAt n slots p → records_in (set slots p None) ≡ filter (λ x. not (is_numbered number n x)) (records_in slots)
    removed_there slots p is only =
        changed_there left_out None (λ x e. ap (λ b. cond b None (Some x)) e) (λ x e. ap (λ b. cond b None (Some x)) e) slots p is only ∙ filter_is (records_in slots)

    -- ---- to replace is to write the slot

    module _ (new : X) where
      abbrev put_in : X → Option X
      put_in x = Some (cond (is_numbered number n x) new x)

      map_is : (xs : List X) → filter_map put_in xs ≡ map (λ x. cond (is_numbered number n x) new x) xs
      map_is [] = refl
      map_is (x ∷ xs) = ap (λ ys. cond (is_numbered number n x) new x ∷ ys) (map_is xs)

      pub replaced_nowhere : (slots : List (Option X)) → IsNowhere n slots → records_in slots ≡ map (λ x. cond (is_numbered number n x) new x) (records_in slots)
      replaced_nowhere slots none =
          changed_nowhere put_in (Some new) (λ x e. ap (λ b. Some (cond b new x)) e) (λ x e. ap (λ b. Some (cond b new x)) e) slots none ∙ map_is (records_in slots)

      pub replaced_there : (slots : List (Option X)) (p : ℕ) → number_at number slots p ≡ Some n → IsOnlyAt n slots p → records_in (set slots p (Some new)) ≡ map (λ x. cond (is_numbered number n x) new x) (records_in slots)
      replaced_there slots p is only =
          changed_there put_in (Some new) (λ x e. ap (λ b. Some (cond b new x)) e) (λ x e. ap (λ b. Some (cond b new x)) e) slots p is only ∙ map_is (records_in slots)
