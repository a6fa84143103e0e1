-- The numbers of short words.
use Rattle.std.proofs.Common.{◌≡◌, ℕ, suc, ◌+◌, ◌-◌, ◌*◌, ◌^◌, ◌<◌, ◌≤◌, Bool, true, false, not, cond, nat_eq, List, [], ◌∷◌, ◌++◌, length, get_or, drop, Some, refl, sym, ap, ap₂, ◌∙◌, subst, ◌⊎◌, inl, inr, ⊎_elim, arith, add-one, add-zero, drop-cons}
use Rattle.std.proofs.lemmas.Bool.{cases_eq}
use Rattle.std.proofs.lemmas.Bool.Decides.{nat_tests}
use Rattle.std.proofs.lemmas.Nat.{pow-add}
use Rattle.std.proofs.lemmas.Grind.{common_steps}
use Rattle.std.proofs.lemmas.Int.Digits.{number_after_append, number_after_lt}
use Rattle.std.proofs.lemmas.List.{map-append, append-nil, length-map, drop_all}
use Rattle.std.specs.Char.{is_ascii_digit}
use Rattle.std.specs.Int.Digits.{number_from_digits, number_from_digits_after, AllBelowBase}
use Rattle.exact_num.specs.Number.{Number}
use Rattle.exact_num.specs.Whole.{IsWholePart}
use Rattle.exact_num.specs.Text.{has_minus, unsigned, leading, following, fraction, after_fraction, values, power_of, number_with, number_of}
use Rattle.grid_reader.specs.declared.short.Thousandths.{Thousandths}
use Rattle.grid_reader.specs.Marks.{mark_of, or_nan}
use Rattle.grid_reader.specs.Millimetres.{IsShort}
use Rattle.grid_reader.proofs.Thousandths.{rest_tells, many_places, few_places, few_times}

-- ---- digits

-- where no digit stands there are no leading ones
pub no_digit : (text : List ℕ) (i : ℕ) → i < length text → is_ascii_digit (get_or text i 0) ≡ false → leading (drop i text) ≡ []
no_digit text i h digit = rw (drop-cons text i 0, digit) refl

-- past the end there are none
pub none_past : (text : List ℕ) (i : ℕ) → length text ≤ i → leading (drop i text) ≡ []
none_past text i h = ap leading (drop_all i text h)

-- none stand where the digits up to some place end before the fourth byte behind the point
pub none_after : (text : List ℕ) (point third last : ℕ) → last ≤ third → (third < point + 4 → third ≡ length text) → (last < third → leading (drop last text) ≡ []) → last < point + 4 → leading (drop last text) ≡ []
none_after text point third last within all stops few = ⊎_elim (λ e. none_past text last (omega (arith, e, all (omega (arith, e, few))))) (λ d. stops (omega (arith, d, within))) (cases_eq last third)

-- digits stand for numbers below ten
digits_small : (text : List ℕ) → AllBelowBase 10 (values (leading text))
digits_small [] = tt
digits_small (c ∷ cs) = by_digit (is_ascii_digit c) (λ e. grind (arith, nat_tests)) (digits_small cs)
  where
    by_digit : (b : Bool) → (b ≡ true → c - 48 < 10) → AllBelowBase 10 (values (leading cs)) → AllBelowBase 10 (values (cond b (c ∷ leading cs) []))
    by_digit true small all = (small refl, all)
    by_digit false small all = tt

-- digits behind a number
number_split : (n : ℕ) (ds : List ℕ) → number_from_digits_after 10 n ds ≡ n * 10 ^ length ds + number_from_digits_after 10 0 ds
number_split n [] = omega arith
number_split n (d ∷ ds) =
    let tens : 10 ^ suc (length ds) ≡ 10 ^ length ds * 10 = (let next : suc (length ds) ≡ length ds + 1 = omega arith in ap (λ k. 10 ^ k) next ∙ pow-add 10 (length ds) 1) in
    rw tens (omega (arith, number_split (n * 10 + d) ds, number_split (0 * 10 + d) ds))

-- the digits behind a number are what is left of it without them
part_before : (n : ℕ) (text : List ℕ) (rest : ℕ) → rest ≡ number_from_digits_after 10 0 (values (leading text))
    → IsWholePart (number_from_digits_after 10 n (values (leading text))) (10 ^ length (leading text)) n (not (nat_eq rest 0))
part_before n text rest e =
    let ds : List ℕ = values (leading text) in
    let size : length ds ≡ length (leading text) = length-map (leading text) (λ c. c - 48) in
    let small : number_from_digits_after 10 0 ds < (0 + 1) * 10 ^ length ds = number_after_lt 10 0 ds (digits_small text) in
    rw (← size) record { rest = rest; sum = rw e (number_split n ds); small = omega (arith, e, small); tells = rest_tells rest }

-- ---- the number of a word

-- a sign is one byte
few_bytes : (word : List ℕ) → length (unsigned word) ≤ 13 → length word ≤ 64
few_bytes [] h = omega arith
few_bytes (c ∷ cs) h = grind (arith, nat_tests, common_steps)

-- the number of a text that ends behind its digits
number_of_parts : (text : List ℕ) → length text ≤ 64 → 0 < length (leading (unsigned text)) + length (fraction (following (unsigned text)))
    → power_of (after_fraction (following (unsigned text))) ≡ Some (0, 0)
    → number_of text ≡ Some (number_with (has_minus text) (leading (unsigned text)) (fraction (following (unsigned text))) (0, 0))
unfolding number_of
number_of_parts text short some is = grind (arith, nat_tests, common_steps, is)

-- a number without an exponent
abbrev plain : Bool → ℕ → ℕ → Number
plain negative digits places = record { negative = negative; digits = digits; raised = 0; lowered = places }

-- the number of a word by its sign, its digits and how many of them stand behind the point
number_of_digits : (text body whole part : List ℕ) (negative : Bool) (digits : ℕ) → body ≡ unsigned text → length body ≤ 13 → leading body ≡ whole → fraction (following body) ≡ part → after_fraction (following body) ≡ []
    → 0 < length whole + length part → negative ≡ has_minus text → digits ≡ number_from_digits 10 (values (whole ++ part))
    → number_of text ≡ Some (plain negative digits (length part))
number_of_digits text body whole part negative digits body_is short whole_is part_is end some sign digits_are =
    let first : leading (unsigned text) ≡ whole = ap leading (sym body_is) ∙ whole_is in
    let second : fraction (following (unsigned text)) ≡ part = ap (λ b. fraction (following b)) (sym body_is) ∙ part_is in
    let none : power_of (after_fraction (following (unsigned text))) ≡ Some (0, 0) = ap (λ b. power_of (after_fraction (following b))) (sym body_is) ∙ ap power_of end in
    let few : length text ≤ 64 = few_bytes text (omega (arith, short, ap length body_is)) in
    number_of_parts text few (omega (arith, some, ap length first, ap length second)) none
    ∙ ap₂ (λ us vs. Some (number_with (has_minus text) us vs (0, 0))) first second
    ∙ ap Some (fields (has_minus text) negative _ digits _ (length part) (sym sign) (sym digits_are) (omega arith))
  where
    fields : (b c : Bool) (m n p q : ℕ) → b ≡ c → m ≡ n → p ≡ q → plain b m p ≡ plain c n q
    fields b c m n p q e f g = rw (e, f, g) refl

-- a word of a sign and digits
pub whole_word : (word body : List ℕ) (negative : Bool) (whole end : ℕ) → negative ≡ has_minus word → body ≡ unsigned word → length body ≤ 13
    → number_from_digits_after 10 whole (values (leading (drop end body))) ≡ number_from_digits_after 10 0 (values (leading body))
    → end + length (leading (drop end body)) ≡ length (leading body) → following (drop end body) ≡ following body
    → end ≡ length body → (end ≡ 0 → ⊥) → whole < 10 ^ end
    → (let t : Thousandths = record { negative = negative; whole = whole * 1000; left = false } in IsShort word t)
whole_word word body negative whole end sign body_is short number count rest all some below =
    let none : drop end body ≡ [] = drop_all end body (omega (arith, all)) in
    let nothing : following body ≡ [] = sym rest ∙ ap following none in
    let digits : whole ≡ number_from_digits 10 (values (leading body)) = sym (ap (λ ds. number_from_digits_after 10 whole (values (leading ds))) none) ∙ number in
    record {
      number = plain negative whole 0;
      read = number_of_digits word body (leading body) [] negative whole body_is short refl (ap fraction nothing) (ap after_fraction nothing) (omega (arith, some, count)) sign
          (digits ∙ ap (λ ds. number_from_digits 10 (values ds)) (sym (append-nil (leading body))));
      value = record { sign = refl; whole = few_places whole 0 3 refl; few = few_times whole end 3 below (omega (arith, all, short)) (omega arith) };
    }

-- the thousandths of digits of which some stand behind the third place
thousandths : (front rest k up : ℕ) (tail : List ℕ) → rest ≡ number_from_digits_after 10 0 (values (leading tail)) → k + up ≡ 3 → (k ≡ 3) ⊎ (leading tail ≡ [])
    → IsWholePart (number_from_digits_after 10 front (values (leading tail)) * 10 ^ 3) (10 ^ (k + length (leading tail))) (front * 10 ^ up) (not (nat_eq rest 0))
thousandths front rest k up tail rest_is all (inl three) =
    let none : up ≡ 0 = omega (arith, all, three) in
    let whole : front ≡ front * 10 ^ up = rw none (omega arith) in
    subst (λ q. IsWholePart (number_from_digits_after 10 front (values (leading tail)) * 10 ^ 3) (10 ^ (k + length (leading tail))) q (not (nat_eq rest 0))) whole
    (subst (λ j. IsWholePart (number_from_digits_after 10 front (values (leading tail)) * 10 ^ 3) (10 ^ (j + length (leading tail))) front (not (nat_eq rest 0))) (sym three)
    (many_places (number_from_digits_after 10 front (values (leading tail))) (length (leading tail)) front (not (nat_eq rest 0)) (part_before front tail rest rest_is)))
thousandths front rest k up tail rest_is all (inr none) =
    let zero_rest : rest ≡ 0 = rest_is ∙ ap (λ ds. number_from_digits_after 10 0 (values ds)) none in
    rw (none, zero_rest, add-zero k) (few_places front k up all)

-- a word of a sign, digits and a point, behind which digits may stand
pub point_word : (word body : List ℕ) (negative : Bool) (whole point front last rest end : ℕ) → negative ≡ has_minus word → body ≡ unsigned word → length body ≤ 13
    → number_from_digits_after 10 whole (values (leading (drop point body))) ≡ number_from_digits_after 10 0 (values (leading body))
    → point + length (leading (drop point body)) ≡ length (leading body) → following (drop point body) ≡ following body
    → point < length body → get_or body point 0 ≡ 46
    → number_from_digits_after 10 front (values (leading (drop last body))) ≡ number_from_digits_after 10 whole (values (leading (drop (point + 1) body)))
    → last + length (leading (drop last body)) ≡ point + 1 + length (leading (drop (point + 1) body)) → following (drop last body) ≡ following (drop (point + 1) body)
    → point < last → last ≤ length body → last ≤ point + 4 → (last < point + 4 → leading (drop last body) ≡ []) → front < 10 ^ last
    → number_from_digits_after 10 rest (values (leading (drop end body))) ≡ number_from_digits_after 10 0 (values (leading (drop last body)))
    → end + length (leading (drop end body)) ≡ last + length (leading (drop last body)) → following (drop end body) ≡ following (drop last body)
    → length body ≤ end → (end ≡ 1 → ⊥)
    → (let t : Thousandths = record { negative = negative; whole = front * 10 ^ (point + 4 - last); left = not (nat_eq rest 0) } in IsShort word t)
point_word word body negative whole point front last rest end sign body_is short whole_number whole_count whole_rest inside dot front_number front_count front_rest after within few stops below rest_number rest_count rest_rest all some =
    let part : List ℕ = leading (drop (point + 1) body) in
    let tail : List ℕ = drop last body in
    let split : drop point body ≡ 46 ∷ drop (point + 1) body = rw (add-one, drop-cons body point 0, dot) refl in
    let past : drop end body ≡ [] = drop_all end body all in
    let after_point : following body ≡ 46 ∷ drop (point + 1) body = sym whole_rest ∙ ap following split in
    let nothing : following (drop (point + 1) body) ≡ [] = sym front_rest ∙ sym rest_rest ∙ ap following past in
    let whole_is : whole ≡ number_from_digits_after 10 0 (values (leading body)) = sym (ap (λ ds. number_from_digits_after 10 whole (values (leading ds))) split) ∙ whole_number in
    let rest_is : rest ≡ number_from_digits_after 10 0 (values (leading tail)) = sym (ap (λ ds. number_from_digits_after 10 rest (values (leading ds))) past) ∙ rest_number in
    let digits : number_from_digits_after 10 front (values (leading tail)) ≡ number_from_digits 10 (values (leading body ++ part)) =
    front_number ∙ ap (λ n. number_from_digits_after 10 n (values part)) whole_is ∙ sym (number_after_append 10 0 (values (leading body)) (values part))
    ∙ ap (number_from_digits 10) (sym (map-append (λ c. c - 48) (leading body) part)) in
    let point_count : point ≡ length (leading body) = omega (arith, whole_count, ap (λ ds. length (leading ds)) split) in
    let end_is : end ≡ last + length (leading tail) = omega (arith, rest_count, ap (λ ds. length (leading ds)) past) in
    let places : last - point - 1 + length (leading tail) ≡ length part = omega (arith, front_count, after) in
    let sum : last - point - 1 + (point + 4 - last) ≡ 3 = omega (arith, after, few) in
    let three_or_none : (last - point - 1 ≡ 3) ⊎ (leading tail ≡ []) = ⊎_elim (λ e. inl (omega (arith, e))) (λ d. inr (stops (omega (arith, d, few)))) (cases_eq last (point + 4)) in
    record {
      number = plain negative (number_from_digits_after 10 front (values (leading tail))) (length part);
      read = number_of_digits word body (leading body) part negative (number_from_digits_after 10 front (values (leading tail))) body_is short refl (ap fraction after_point) (ap after_fraction after_point ∙ nothing)
          (omega (arith, some, point_count, front_count, end_is)) sign digits;
      value = record {
        sign = refl;
        whole = subst (λ k. IsWholePart (number_from_digits_after 10 front (values (leading tail)) * 10 ^ 3) (10 ^ k) (front * 10 ^ (point + 4 - last)) (not (nat_eq rest 0))) places
            (thousandths front rest (last - point - 1) (point + 4 - last) tail rest_is sum three_or_none);
        few = few_times front last (point + 4 - last) below (omega (arith, within, short)) (omega (arith, after));
      };
    }

-- a word that is a number says it
pub mark_is : (word : List ℕ) (n : Number) → number_of word ≡ Some n → mark_of word ≡ Some (Some n)
unfolding mark_of
mark_is word n e = ap (or_nan word) e
