-- Leading digits, and the number that the parts of a text make.
use Rattle.std.proofs.Common.{◌≡◌, ℕ, ◌+◌, ◌-◌, ◌<◌, ◌≤◌, Bool, true, List, [], ◌∷◌, ◌++◌, length, get_or, drop, Some, refl, sym, ap, ◌∙◌, arith, add-one, drop-cons}
use Rattle.std.proofs.lemmas.Bool.Decides.{nat_tests}
use Rattle.std.proofs.lemmas.Grind.{common_steps}
use Rattle.std.proofs.lemmas.Int.Digits.{number_after_append}
use Rattle.std.specs.Char.{is_ascii_digit}
use Rattle.std.specs.Int.Digits.{number_from_digits, number_from_digits_after}
use Rattle.exact_num.specs.Number.{Number}
use Rattle.exact_num.specs.Text.{has_minus, unsigned, leading, following, fraction, after_fraction, values, power_of, number_with, number_of}

pub digit_small : (c : ℕ) → is_ascii_digit c ≡ true → c - 48 < 10
digit_small c h = grind (arith, nat_tests)

pub leading_more : (text : List ℕ) (i : ℕ) → i < length text → is_ascii_digit (get_or text i 0) ≡ true → leading (drop i text) ≡ get_or text i 0 ∷ leading (drop (i + 1) text)
leading_more text i h digit = rw (add-one, drop-cons text i 0, digit) refl

pub following_more : (text : List ℕ) (i : ℕ) → i < length text → is_ascii_digit (get_or text i 0) ≡ true → following (drop i text) ≡ following (drop (i + 1) text)
following_more text i h digit = rw (add-one, drop-cons text i 0, digit) refl

values-append : (xs ys : List ℕ) → values (xs ++ ys) ≡ values xs ++ values ys
values-append [] ys = refl
values-append (x ∷ xs) ys = ap (λ ds. (x - 48) ∷ ds) (values-append xs ys)

same_fields : (b c : Bool) (m n r p q : ℕ) → b ≡ c → m ≡ n → p ≡ q
    → (let x : Number = record { negative = b; digits = m; raised = r; lowered = p } in let y : Number = record { negative = c; digits = n; raised = r; lowered = q } in x ≡ y)
same_fields b c m n r p q e f g = rw (e, f, g) refl

pub number_of_parts : (text : List ℕ) (power : ℕ × ℕ) → length text ≤ 64 → 0 < length (leading (unsigned text)) + length (fraction (following (unsigned text)))
    → power_of (after_fraction (following (unsigned text))) ≡ Some power
    → number_of text ≡ Some (number_with (has_minus text) (leading (unsigned text)) (fraction (following (unsigned text))) power)
unfolding number_of
number_of_parts text power short some is = grind (arith, nat_tests, common_steps, is)

pub made : (text body rest end : List ℕ) (negative : Bool) (first all places count raised lowered : ℕ) → length text ≤ 64
    → negative ≡ has_minus text → body ≡ unsigned text
    → first ≡ number_from_digits_after 10 0 (values (leading body)) → places ≡ 0 + length (leading body) → rest ≡ following body
    → all ≡ number_from_digits_after 10 first (values (fraction rest)) → count ≡ places + length (fraction rest) → end ≡ after_fraction rest
    → (count ≡ 0 → ⊥) → power_of end ≡ Some (raised, lowered)
    → (let n : Number = record { negative = negative; digits = all; raised = raised; lowered = count - places + lowered } in number_of text ≡ Some n)
made text body rest end negative first all places count raised lowered short minus body_is first_is places_is rest_is all_is count_is end_is some power =
    let whole : List ℕ = leading (unsigned text) in
    let part : List ℕ = fraction (following (unsigned text)) in
    let whole_is : leading body ≡ whole = ap leading body_is in
    let rest_of : rest ≡ following (unsigned text) = rest_is ∙ ap following body_is in
    let part_is : fraction rest ≡ part = ap fraction rest_of in
    let end_of : power_of (after_fraction (following (unsigned text))) ≡ Some (raised, lowered) = ap (λ t. power_of (after_fraction t)) (sym rest_of) ∙ ap power_of (sym end_is) ∙ power in
    let counts : count ≡ length whole + length part = omega (arith, count_is, places_is, ap length whole_is, ap length part_is) in
    let digits : number_from_digits 10 (values (whole ++ part)) ≡ all =
    ap (number_from_digits 10) (values-append whole part) ∙ number_after_append 10 0 (values whole) (values part)
    ∙ ap (λ n. number_from_digits_after 10 n (values part)) (sym (first_is ∙ ap (λ t. number_from_digits_after 10 0 (values t)) whole_is))
    ∙ sym (all_is ∙ ap (λ t. number_from_digits_after 10 first (values t)) part_is) in
    number_of_parts text (raised, lowered) short (omega arith) end_of
    ∙ ap Some (same_fields (has_minus text) negative _ all raised (length part + lowered) (count - places + lowered) (sym minus) digits (omega (arith, count_is, ap length part_is)))
