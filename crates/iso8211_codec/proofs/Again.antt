-- A record that was written is read back.
use Rattle.std.proofs.Common.{◌≡◌, ℕ, ◌+◌, ◌-◌, ◌*◌, ◌/◌, ◌%◌, ◌<◌, ◌≤◌, Bool, true, false, ◌&&◌, ◌||◌, ltb, eqb, List, [], ◌∷◌, ◌++◌, length, take, drop, Option, Some, Ok, refl, sym, ap, ◌∙◌, append_assoc, arith}
use Rattle.std.specs.Prelude.{slice_index, slice_range}
use Rattle.std.specs.List.{sum, list_all, AllByRecursion}
use Rattle.std.proofs.lemmas.List.{get_or-append-add, get_or_at, take_at, drop_at, drop-drop, length-append}
use Rattle.std.proofs.lemmas.Bool.{le-leb, lt-ltb, eq-eqb, and_from, and_parts}
use Rattle.std.proofs.lemmas.List.Sums.{sum_by-cons}
use Rattle.std.specs.Option.{unwrap_or}
use Rattle.iso8211_codec.specs.declared.entry_map.EntryMap.{EntryMap}
use Rattle.iso8211_codec.specs.Digits.{is_digit, digits, number, value, five}
use Rattle.iso8211_codec.specs.Reading.{part, Part, width, size_in, from_in, is_entry, are_entries, parts_of, is_free, is_closed, is_directory, fields_of, data_record}
use Rattle.iso8211_codec.specs.Layout.{AreFields, is_ended, base, size, entries_from, leader, layout, cut}

-- the entry map of what is written
abbrev fives : EntryMap
fives = record { size_of_length = 5; size_of_position = 5 }

is_digit_of : (d : ℕ) → d < 10 → is_digit (48 + d) ≡ true
is_digit_of d h = grind (arith, h)

digit_then : (n d : ℕ) (rest : List ℕ) → d < 10 → digits n ((48 + d) ∷ rest) ≡ digits (10 * n + d) rest
digit_then n d rest h =
    let e : 10 * n + (48 + d - 48) ≡ 10 * n + d = omega arith in
    rw (is_digit_of d h, e) refl

five_digits : (a b c d e : ℕ) → a < 10 → b < 10 → c < 10 → d < 10 → e < 10
    → digits 0 ((48 + a) ∷ (48 + b) ∷ (48 + c) ∷ (48 + d) ∷ (48 + e) ∷ []) ≡ Some (10 * (10 * (10 * (10 * (10 * 0 + a) + b) + c) + d) + e)
five_digits a b c d e ha hb hc hd he =
    digit_then 0 a ((48 + b) ∷ (48 + c) ∷ (48 + d) ∷ (48 + e) ∷ []) ha
    ∙ digit_then (10 * 0 + a) b ((48 + c) ∷ (48 + d) ∷ (48 + e) ∷ []) hb
    ∙ digit_then (10 * (10 * 0 + a) + b) c ((48 + d) ∷ (48 + e) ∷ []) hc
    ∙ digit_then (10 * (10 * (10 * 0 + a) + b) + c) d ((48 + e) ∷ []) hd
    ∙ digit_then (10 * (10 * (10 * (10 * 0 + a) + b) + c) + d) e [] he

pub number_five : (n : ℕ) → n < 100000 → number (five n) ≡ Some n
number_five n h =
    let same : 10 * (10 * (10 * (10 * (10 * 0 + n / 10000) + n / 1000 % 10) + n / 100 % 10) + n / 10 % 10) + n % 10 ≡ n = omega arith in
    five_digits (n / 10000) (n / 1000 % 10) (n / 100 % 10) (n / 10 % 10) (n % 10) (omega arith) (omega arith) (omega arith) (omega arith) (omega arith) ∙ ap (λ (x : ℕ). Some x) same

-- ---- one entry

entry : List ℕ → ℕ → ℕ → List ℕ → List ℕ
entry t n from others = t ++ (five n ++ (five from ++ others))

size_there : (t : List ℕ) (n from : ℕ) (others : List ℕ) → length t ≡ 4 → size_in fives (t ++ (five n ++ (five from ++ others))) ≡ five n
size_there t n from others h = rw (drop_at t (five n ++ (five from ++ others)) 4 h) refl

from_there : (t : List ℕ) (n from : ℕ) (others : List ℕ) → length t ≡ 4 → from_in fives (t ++ (five n ++ (five from ++ others))) ≡ five from
from_there t n from others h = rw (← drop-drop 5 4 (t ++ (five n ++ (five from ++ others))), drop_at t (five n ++ (five from ++ others)) 4 h) refl

others_there : (t : List ℕ) (n from : ℕ) (others : List ℕ) → length t ≡ 4 → drop (width fives) (t ++ (five n ++ (five from ++ others))) ≡ others
others_there t n from others h = rw (← drop-drop 10 4 (t ++ (five n ++ (five from ++ others))), drop_at t (five n ++ (five from ++ others)) 4 h) refl

value_five : (n : ℕ) → n < 100000 → value (five n) ≡ n
value_five n h = ap (λ (o : Option ℕ). unwrap_or o 0) (number_five n h)

entry_good : (t : List ℕ) (n from : ℕ) (others : List ℕ) → length t ≡ 4 → 1 ≤ n → n < 100000 → from < 100000 → is_entry fives from (t ++ (five n ++ (five from ++ others))) ≡ true
entry_good t n from others h some small low =
    rw (size_there t n from others h, from_there t n from others h, number_five n small, number_five from low) (and_from (ltb 0 n) (eqb from from) (lt-ltb 0 n (omega arith)) (eq-eqb from from refl))

-- ---- all of them

entries_good : (tags : List (List ℕ)) (lens : List ℕ) (from : ℕ) → length tags ≡ length lens → AllByRecursion (λ tag. length tag ≡ 4) tags → AllByRecursion (λ n. 1 ≤ n) lens
    → from + sum lens < 100000 → are_entries (length lens) fives from (from + sum lens) (entries_from from tags lens) ≡ true
entries_good [] [] from paired named full fits = eq-eqb from (from + sum []) (omega arith)
entries_good [] (n ∷ lens) from paired named full fits = absurd (omega (arith, paired))
entries_good (t ∷ tags) [] from paired named full fits = absurd (omega (arith, paired))
entries_good (t ∷ tags) (n ∷ lens) from paired named full fits =
    let total : sum (n ∷ lens) ≡ n + sum lens = sum_by-cons (λ (x : ℕ). x) n lens in
    let end : from + sum (n ∷ lens) ≡ from + n + sum lens = omega arith in
    let small : n < 100000 = omega arith in
    let low : from < 100000 = omega arith in
    rw (entry_good t n from (entries_from (from + n) tags lens) named.0 full.0 small low, size_there t n from (entries_from (from + n) tags lens) named.0, value_five n small, others_there t n from (entries_from (from + n) tags lens) named.0, end)
    (entries_good tags lens (from + n) (omega (arith, paired)) named.1 full.1 (omega arith))

parts_good : (tags : List (List ℕ)) (lens : List ℕ) (from : ℕ) (area : List ℕ) → length tags ≡ length lens → AllByRecursion (λ tag. length tag ≡ 4) tags → from + sum lens < 100000
    → parts_of (length lens) fives (entries_from from tags lens) area ≡ cut tags lens (drop from area)
parts_good [] [] from area paired named fits = refl
parts_good [] (n ∷ lens) from area paired named fits = absurd (omega (arith, paired))
parts_good (t ∷ tags) [] from area paired named fits = absurd (omega (arith, paired))
parts_good (t ∷ tags) (n ∷ lens) from area paired named fits =
    let total : sum (n ∷ lens) ≡ n + sum lens = sum_by-cons (λ (x : ℕ). x) n lens in
    let others = entries_from (from + n) tags lens in
    let small : n < 100000 = omega arith in
    let low : from < 100000 = omega arith in
    rw (size_there t n from others named.0, from_there t n from others named.0, others_there t n from others named.0, value_five n small, value_five from low, take_at t (five n ++ (five from ++ others)) 4 named.0, drop-drop n from area)
    (ap (λ (ps : List Part). record { tag = t; bytes = take n (drop from area) } ∷ ps) (parts_good tags lens (from + n) area (omega (arith, paired)) named.1 (omega arith)))

entries_length : (tags : List (List ℕ)) (lens : List ℕ) (from : ℕ) → length tags ≡ length lens → AllByRecursion (λ tag. length tag ≡ 4) tags → length (entries_from from tags lens) ≡ 14 * length lens
entries_length [] [] from paired named = refl
entries_length [] (n ∷ lens) from paired named = absurd (omega (arith, paired))
entries_length (t ∷ tags) [] from paired named = absurd (omega (arith, paired))
entries_length (t ∷ tags) (n ∷ lens) from paired named =
    omega (arith, named.0, length-append t (five n ++ (five from ++ entries_from (from + n) tags lens)), entries_length tags lens (from + n) (omega (arith, paired)) named.1)

-- ---- the whole record

or_right : (a b : Bool) → b ≡ true → (a || b) ≡ true
or_right true b e = refl
or_right false b e = e

-- fields that 0x1E ends pass the test of reading
all_closed : (ps : List Part) → list_all is_ended ps ≡ true → list_all is_closed ps ≡ true
all_closed [] h = refl
all_closed (p ∷ ps) h =
    let b = and_parts (is_ended p) (list_all is_ended ps) h in
    and_from (is_closed p) (list_all is_closed ps) (or_right (is_free p.tag) (is_ended p) b.0) (all_closed ps b.1)

-- a record whose parts pass each test
read_by : (at size base : ℕ) (bytes entries area rest : List ℕ) → 24 ≤ length bytes → number (part 0 5 bytes) ≡ Some size → 24 ≤ size → slice_index bytes 6 ≡ 68
    → number (part 12 5 bytes) ≡ Some base → 25 ≤ base → base ≤ size → slice_index bytes 20 ≡ 53 → slice_index bytes 21 ≡ 53 → slice_index bytes 23 ≡ 52 → size ≤ length bytes
    → slice_index bytes (base - 1) ≡ 30 → slice_range bytes 24 (base - 1) ≡ entries → slice_range bytes base size ≡ area → drop size bytes ≡ rest
    → is_directory fives entries area ≡ true → list_all is_closed (parts_of (length entries / 14) fives entries area) ≡ true
    → data_record at bytes ≡ Ok (record { at = at; parts = parts_of (length entries / 14) fives entries area }, rest)
unfolding data_record fields_of
read_by at size base bytes entries area rest long n some d b low within there20 there21 there23 fits c es ar after good closed =
    rw (le-leb 24 (length bytes) long, n, le-leb 24 size some, d, b, le-leb 25 base low, le-leb base size within, there20, there21, there23, le-leb size (length bytes) fits, c, es, ar, after, good, closed) refl

-- tags, lengths and bytes of fields, once each tag has four bytes
pub read_cut : (at : ℕ) (tags : List (List ℕ)) (lens bodies rest : List ℕ) → AllByRecursion (λ tag. length tag ≡ 4) tags → AreFields tags lens bodies
    → data_record at (layout tags lens bodies ++ rest) ≡ Ok (record { at = at; parts = cut tags lens bodies }, rest)
read_cut at tags lens bodies rest named h =
    let es = entries_from 0 tags lens in
    let front = leader (size lens) (base lens) in
    let k : length es ≡ 14 * length lens = entries_length tags lens 0 h.paired named in
    let all : length bodies ≡ sum lens = sym h.whole in
    let one : (es ++ (30 ∷ bodies)) ++ rest ≡ es ++ (30 ∷ (bodies ++ rest)) = append_assoc es (30 ∷ bodies) rest in
    let two : (es ++ (30 ∷ bodies)) ++ rest ≡ (es ++ (30 ∷ [])) ++ (bodies ++ rest) = one ∙ sym (append_assoc es (30 ∷ []) (bodies ++ rest)) in
    let long : length ((es ++ (30 ∷ bodies)) ++ rest) ≡ length es + 1 + length bodies + length rest = omega (arith, length-append (es ++ (30 ∷ bodies)) rest, length-append es (30 ∷ bodies)) in
    let small : sum lens < 100000 = omega (arith, h.fits) in
    let closing : slice_index (layout tags lens bodies ++ rest) (base lens - 1) ≡ 30 =
    let place : base lens - 1 ≡ 24 + length es = omega (arith, k) in
    rw (place, get_or-append-add front ((es ++ (30 ∷ bodies)) ++ rest) (length es) 0, one) (get_or_at es 30 (bodies ++ rest) 0 (length es) refl) in
    let there : slice_range (layout tags lens bodies ++ rest) 24 (base lens - 1) ≡ es = rw one (take_at es (30 ∷ (bodies ++ rest)) (base lens - 1 - 24) (omega (arith, k))) in
    let area : slice_range (layout tags lens bodies ++ rest) (base lens) (size lens) ≡ bodies =
    let dropped : drop (base lens) (front ++ ((es ++ (30 ∷ [])) ++ (bodies ++ rest))) ≡ bodies ++ rest = drop_at (front ++ (es ++ (30 ∷ []))) (bodies ++ rest) (base lens) (omega (arith, k, length-append es (30 ∷ []))) in
    rw (two, dropped) (take_at bodies rest (size lens - base lens) (omega (arith, all))) in
    let after : drop (size lens) (layout tags lens bodies ++ rest) ≡ rest = drop_at (layout tags lens bodies) rest (size lens) (omega (arith, k, all, length-append es (30 ∷ bodies))) in
    let count : length es / 14 ≡ length lens = omega (arith, k) in
    let parts : parts_of (length es / 14) fives es bodies ≡ cut tags lens bodies = rw count (parts_good tags lens 0 bodies h.paired named (omega (arith, small))) in
    let ends : length bodies ≡ 0 + sum lens = omega (arith, all) in
    let some : 0 < length es = omega (arith, k, h.some) in
    let good : is_directory fives es bodies ≡ true =
    rw (count, ends) (and_from (ltb 0 (length es)) ((eqb (length es % 14) 0) && are_entries (length lens) fives 0 (0 + sum lens) es) (lt-ltb 0 (length es) some)
    (and_from (eqb (length es % 14) 0) (are_entries (length lens) fives 0 (0 + sum lens) es) (eq-eqb (length es % 14) 0 (omega (arith, k))) (entries_good tags lens 0 h.paired named h.full (omega (arith, small))))) in
    let closed : list_all is_closed (parts_of (length es / 14) fives es bodies) ≡ true = rw parts (all_closed (cut tags lens bodies) h.ended) in
    let read = read_by at (size lens) (base lens) (layout tags lens bodies ++ rest) es bodies rest (omega (arith, long)) (number_five (size lens) h.fits) (omega arith) refl
    (number_five (base lens) (omega (arith, h.fits))) (omega arith) (omega arith) refl refl refl (omega (arith, long, k, all)) closing there area after good closed in
    read ∙ ap (λ (ps : List Part). Ok (record { at = at; parts = ps }, rest)) parts
