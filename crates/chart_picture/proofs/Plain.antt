-- The texts of numbers are plain.
use Rattle.std.proofs.Common.{◌≡◌, ℕ, ◌==◌, Bool, true, false, ◌&&◌, ◌||◌, cond, Option, Some, None, List, [], ◌∷◌, ◌++◌, refl, ap, ap₂, ◌∙◌}
use Rattle.std.proofs.lemmas.List.Folds.{list_all-append}
use Rattle.std.specs.Char.{is_ascii_digit}
use Rattle.std.specs.List.{list_all, find}
use Rattle.std.specs.Str.{all_ascii_digits}
use Rattle.chart_model.specs.declared.records.Attribute.{Attribute}
use Rattle.chart_picture.specs.Laws.{is_plain, NumbersArePlain}
use Rattle.chart_picture.specs.Titles.{if_number, number_or_mark, number_text}
use Rattle.exact_num.specs.Laws.{ReadsParts}
use Rattle.exact_num.specs.Number.{Number}
use Rattle.exact_num.specs.NumberParts.{fraction_digits, fraction_text, IsNumberText, IsPower, IsWritten, NumberParts, parts_text, Power, power_text, Sign, sign_text, none, plus, minus}
use Rattle.exact_num.specs.Text.{number_of}

first_true : (a b : Bool) → (a && b) ≡ true → a ≡ true
first_true true b h = refl
first_true false b h = h

second_true : (a b : Bool) → (a && b) ≡ true → b ≡ true
second_true true b h = h
second_true false b h = cc

or_first : (a b : Bool) → a ≡ true → (a || b) ≡ true
or_first true b h = refl
or_first false b h = cc

digits_plain : (cs : List ℕ) → all_ascii_digits cs ≡ true → list_all is_plain cs ≡ true
digits_plain [] h = refl
digits_plain (c ∷ cs) h =
    ap₂ (λ a b. a && b) (or_first (is_ascii_digit c) _ (first_true (is_ascii_digit c) (all_ascii_digits cs) h)) (digits_plain cs (second_true (is_ascii_digit c) (all_ascii_digits cs) h))

-- two plain texts in a row
both_plain : (xs ys : List ℕ) → list_all is_plain xs ≡ true → list_all is_plain ys ≡ true → list_all is_plain (xs ++ ys) ≡ true
both_plain xs ys h i = list_all-append is_plain xs ys ∙ ap₂ (λ a b. a && b) h i

sign_plain : (s : Sign) → list_all is_plain (sign_text s) ≡ true
sign_plain none = refl
sign_plain plus = refl
sign_plain minus = refl

fraction_plain : (o : Option (List ℕ)) → all_ascii_digits (fraction_digits o) ≡ true → list_all is_plain (fraction_text o) ≡ true
fraction_plain None h = refl
fraction_plain (Some digits) h = digits_plain digits h

letter_plain : (capital : Bool) (rest : List ℕ) → list_all is_plain rest ≡ true → list_all is_plain (cond capital 69 101 ∷ rest) ≡ true
letter_plain true rest h = h
letter_plain false rest h = h

power_plain : (o : Option Power) → IsPower o → list_all is_plain (power_text o) ≡ true
power_plain None h = refl
power_plain (Some p) h = letter_plain p.capital (sign_text p.sign ++ p.digits) (both_plain (sign_text p.sign) p.digits (sign_plain p.sign) (digits_plain p.digits h.0))

parts_plain : (p : NumberParts) → IsNumberText p → list_all is_plain (parts_text p) ≡ true
parts_plain p h =
    both_plain (sign_text p.sign) (p.whole ++ (fraction_text p.fraction ++ power_text p.power)) (sign_plain p.sign)
    (both_plain p.whole (fraction_text p.fraction ++ power_text p.power) (digits_plain p.whole h.whole)
    (both_plain (fraction_text p.fraction) (power_text p.power) (fraction_plain p.fraction h.fraction) (power_plain p.power h.power)))

written_plain : (text : List ℕ) (n : Number) → IsWritten text n → list_all is_plain text ≡ true
written_plain text n w = ap (list_all is_plain) w.2 ∙ parts_plain w.0 w.1

number_plain : (reads : ReadsParts) (text : List ℕ) (o : Option Number) → number_of text ≡ o → list_all is_plain (if_number o text) ≡ true
number_plain reads text None e = refl
number_plain reads text (Some n) e = written_plain text n ((reads text n).0 e)

mark_plain : (reads : ReadsParts) (o : Option Attribute) → list_all is_plain (number_or_mark o) ≡ true
mark_plain reads None = refl
mark_plain reads (Some a) = number_plain reads a.text (number_of a.text) refl

pub numbers_plain : ReadsParts → NumbersArePlain
unfolding number_text
numbers_plain reads code it = mark_plain reads (find (λ (a : Attribute). a.code == code) it.attributes)
