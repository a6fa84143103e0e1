-- The entries of a directory by their numbers.
use Rattle.std.proofs.Common.{◌≡◌, ℕ, zero, suc, ◌+◌, ◌-◌, ◌*◌, ◌<◌, ◌≤◌, Bool, true, false, ◌&&◌, List, length, drop, Option, Some, None, refl, sym, ap, ◌∙◌, arith, inl, inr}
use Rattle.std.specs.Prelude.{slice_get, if◌then◌else◌, ◌⊎◌}
use Rattle.std.specs.List.{list_all}
use Rattle.std.proofs.lemmas.List.{drop-drop}
use Rattle.std.proofs.lemmas.Bool.{and_parts}
use Rattle.iso8211_codec.specs.declared.entry_map.EntryMap.{EntryMap}
use Rattle.iso8211_codec.specs.Digits.{value}
use Rattle.iso8211_codec.specs.Reading.{width, size_in, from_in, is_entry, are_entries, part_of, parts_of, is_closed}

-- entry k of n lies within them
pub entry_fits : (k n w : ℕ) → k < n → k * w + w ≤ n * w
entry_fits k zero w lt = omega arith
entry_fits zero (suc n) w lt = omega arith
entry_fits (suc k) (suc n) w lt = omega (arith, entry_fits k n w (omega arith))

-- the fields don't go back
ends_after : (n : ℕ) (w : EntryMap) (from end : ℕ) (es : List ℕ) → are_entries n w from end es ≡ true → from ≤ end
ends_after zero w from end es h = grind (arith, h)
ends_after (suc n) w from end es h =
    let p = and_parts (is_entry w from es) (are_entries n w (from + value (size_in w es)) end (drop (width w) es)) h in
    omega (arith, ends_after n w (from + value (size_in w es)) end (drop (width w) es) p.1)

drop_row : (k : ℕ) (w : EntryMap) (es : List ℕ) → drop (k * width w) (drop (width w) es) ≡ drop (suc k * width w) es
drop_row k w es = drop-drop (k * width w) (width w) es ∙ ap (λ (n : ℕ). drop n es) (omega arith)

-- what entry k names
pub record Named (w : EntryMap) (end : ℕ) (entry : List ℕ) : Type 0 where
  pub some : 0 < value (size_in w entry)
  pub within : value (from_in w entry) + value (size_in w entry) ≤ end

named_by : (w : EntryMap) (from end : ℕ) (es : List ℕ) → is_entry w from es ≡ true → from + value (size_in w es) ≤ end → Named w end es
named_by w from end es h le = record { some = grind (arith, h); within = grind (arith, h, le) }

pub entry_named : (k n : ℕ) (w : EntryMap) (from end : ℕ) (es : List ℕ) → k < n → are_entries n w from end es ≡ true → Named w end (drop (k * width w) es)
entry_named k zero w from end es lt h = absurd (omega arith)
entry_named zero (suc n) w from end es lt h =
    let p = and_parts (is_entry w from es) (are_entries n w (from + value (size_in w es)) end (drop (width w) es)) h in
    let none : 0 * width w ≡ 0 = omega arith in
    rw none (named_by w from end es p.0 (ends_after n w (from + value (size_in w es)) end (drop (width w) es) p.1))
entry_named (suc k) (suc n) w from end es lt h =
    let p = and_parts (is_entry w from es) (are_entries n w (from + value (size_in w es)) end (drop (width w) es)) h in
    rw (← drop_row k w es) (entry_named k n w (from + value (size_in w es)) end (drop (width w) es) (omega arith) p.1)

pub parts_length : (n : ℕ) (w : EntryMap) (es area : List ℕ) → length (parts_of n w es area) ≡ n
parts_length zero w es area = refl
parts_length (suc n) w es area = ap suc (parts_length n w (drop (width w) es) area)

pub parts_at : (k n : ℕ) (w : EntryMap) (es area : List ℕ) → k < n → slice_get (parts_of n w es area) k ≡ Some (part_of w (drop (k * width w) es) area)
parts_at k zero w es area lt = absurd (omega arith)
parts_at zero (suc n) w es area lt =
    let none : 0 * width w ≡ 0 = omega arith in
    rw none refl
parts_at (suc k) (suc n) w es area lt = parts_at k n w (drop (width w) es) area (omega arith) ∙ ap (λ (x : List ℕ). Some (part_of w x area)) (drop_row k w es)

-- whether the fields from number k on are closed, one field on
pub closed_more : (k n : ℕ) (w : EntryMap) (es area : List ℕ) → k < n → list_all is_closed (parts_of (n - k) w (drop (k * width w) es) area)
    ≡ (is_closed (part_of w (drop (k * width w) es) area) && list_all is_closed (parts_of (n - (k + 1)) w (drop ((k + 1) * width w) es) area))
closed_more k n w es area lt =
    let one : n - k ≡ suc (n - (k + 1)) = omega arith in
    let next : drop (width w) (drop (k * width w) es) ≡ drop ((k + 1) * width w) es = drop-drop (width w) (k * width w) es ∙ ap (λ (m : ℕ). drop m es) (omega arith) in
    rw (one, next) refl

chosen : (b : Bool) (n : ℕ) (r : Option ℕ) → r ≡ (if b then Some n else None) → ((b ≡ true) × (r ≡ Some n)) ⊎ ((b ≡ false) × (r ≡ None))
chosen true n r e = inl (refl, e)
chosen false n r e = inr (refl, e)

some_is : (m n : ℕ) → Some m ≡ Some n → m ≡ n
some_is m n e = cc

-- whether what is left names fields, one entry on, and at one that names none
pub entries_more : (k n : ℕ) (w : EntryMap) (from end size : ℕ) (es : List ℕ) (whole : Bool) → k < n → Some size ≡ (if is_entry w from es then Some (value (size_in w es)) else None)
    → are_entries (n - k) w from end es ≡ whole → are_entries (n - (k + 1)) w (from + size) end (drop (width w) es) ≡ whole
entries_more k n w from end size es whole lt e so_far =
    let one : n - k ≡ suc (n - (k + 1)) = omega arith in
    elim (chosen (is_entry w from es) (value (size_in w es)) (Some size) e) [
      | inl p ↦ let s : size ≡ value (size_in w es) = some_is _ _ p.1 in let left : are_entries (n - k) w from end es ≡ are_entries (n - (k + 1)) w (from + size) end (drop (width w) es) = rw (one, p.0, s) refl in sym left ∙ so_far
      | inr p ↦ absurd (cc)
    ]

pub entries_stop : (k n : ℕ) (w : EntryMap) (from end : ℕ) (es : List ℕ) (whole : Bool) → k < n → None ≡ (if is_entry w from es then Some (value (size_in w es)) else None)
    → are_entries (n - k) w from end es ≡ whole → false ≡ whole
entries_stop k n w from end es whole lt e so_far =
    let one : n - k ≡ suc (n - (k + 1)) = omega arith in
    elim (chosen (is_entry w from es) (value (size_in w es)) None e) [
      | inl p ↦ absurd (cc)
      | inr p ↦ let left : are_entries (n - k) w from end es ≡ false = rw (one, p.0) refl in sym left ∙ so_far
    ]

pub row_left : (k n w len : ℕ) → k < n → len + w ≡ (n - k) * w → len ≡ (n - (k + 1)) * w
row_left k n w len lt e =
    let one : n - k ≡ suc (n - (k + 1)) = omega arith in
    let all : len + w ≡ suc (n - (k + 1)) * w = rw one at e in
    omega arith
