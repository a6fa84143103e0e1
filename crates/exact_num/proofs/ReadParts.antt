-- A text is read as a number exactly where it is made of a number's parts.
use Rattle.std.proofs.Common.{◌≡◌, ℕ, ◌+◌, ◌<◌, ◌≤◌, Bool, true, false, ◌==◌, ◌&&◌, ◌||◌, nat_lt, nat_le, cond, List, [], ◌∷◌, ◌++◌, length, Some, None, Option, option_map, refl, sym, ap, ◌∙◌, arith, IsTrue, ap₂}
use Rattle.std.proofs.lemmas.Bool.{and_parts}
use Rattle.std.proofs.lemmas.Bool.Decides.{nat_tests, Decides-eqb}
use Rattle.std.proofs.lemmas.List.{append-nil}
use Rattle.std.specs.Char.{is_ascii_digit}
use Rattle.std.specs.Str.{all_ascii_digits}
use Rattle.std.specs.Int.Digits.{number_from_digits}
use Rattle.exact_num.specs.Number.{Number}
use Rattle.exact_num.specs.Text.{has_minus, unsigned, leading, following, fraction, after_fraction, values, is_exponent, exponent_of, power_of, number_with, number_of}
use Rattle.exact_num.specs.NumberParts.{Sign, none, plus, minus, Power, NumberParts, is_minus, sign_text, fraction_text, power_text, parts_text, fraction_digits, IsPower, IsNumberText, raised_by, lowered_by, parts_number, IsWritten}
use Rattle.exact_num.proofs.Texts.{number_of_parts}

-- ---- from a text to its parts

-- a text is a sign and what follows it
split_sign : (text : List ℕ) → (s : Sign) × (text ≡ sign_text s ++ unsigned text) × (is_minus s ≡ has_minus text)
split_sign [] = (none, refl, refl)
split_sign (c ∷ cs) = by_tests (c == 45) (c == 43) (λ t. (Decides-eqb c 45).0 t) (λ t. (Decides-eqb c 43).0 t) where
  by_tests : (m p : Bool) → (m ≡ true → c ≡ 45) → (p ≡ true → c ≡ 43) → (s : Sign) × (c ∷ cs ≡ sign_text s ++ cond (p || m) cs (c ∷ cs)) × (is_minus s ≡ m)
  by_tests true false f g = (minus, ap (λ a. a ∷ cs) (f refl), refl)
  by_tests true true f g = (minus, ap (λ a. a ∷ cs) (f refl), refl)
  by_tests false true f g = (plus, ap (λ a. a ∷ cs) (g refl), refl)
  by_tests false false f g = (none, refl, refl)

-- a text is its leading digits and what follows them
split_digits : (text : List ℕ) → (text ≡ leading text ++ following text) × (all_ascii_digits (leading text) ≡ true)
split_digits [] = (refl, refl)
split_digits (c ∷ cs) = by_test (is_ascii_digit c) refl (split_digits cs) where
  by_test : (t : Bool) → is_ascii_digit c ≡ t → (cs ≡ leading cs ++ following cs) × (all_ascii_digits (leading cs) ≡ true)
      → (c ∷ cs ≡ cond t (c ∷ leading cs) [] ++ cond t (following cs) (c ∷ cs)) × (all_ascii_digits (cond t (c ∷ leading cs) []) ≡ true)
  by_test false e rest = (refl, refl)
  by_test true e rest = (ap (λ ds. c ∷ ds) rest.0, rw e rest.1)

-- a text is a point with digits and what follows them
split_fraction : (text : List ℕ) → (f : Option (List ℕ)) × (text ≡ fraction_text f ++ after_fraction text) × (fraction_digits f ≡ fraction text) × (all_ascii_digits (fraction_digits f) ≡ true)
split_fraction [] = (None, refl, refl, refl)
split_fraction (c ∷ cs) = by_test (c == 46) (λ t. (Decides-eqb c 46).0 t) where
  by_test : (t : Bool) → (t ≡ true → c ≡ 46)
      → (f : Option (List ℕ)) × (c ∷ cs ≡ fraction_text f ++ cond t (following cs) (c ∷ cs)) × (fraction_digits f ≡ cond t (leading cs) []) × (all_ascii_digits (fraction_digits f) ≡ true)
  by_test false f = (None, refl, refl, refl)
  by_test true f = (Some (leading cs), rw (f refl) (ap (λ ds. 46 ∷ ds) (split_digits cs).0), refl, (split_digits cs).1)

-- what a test that passes gives
kept : {A B : Type 0} (t : Bool) (o : Option A) (f : A → B) (b : B) → cond t (option_map f o) None ≡ Some b → (t ≡ true) × ((a : A) × (o ≡ Some a) × (b ≡ f a))
kept false o f b e = cc
kept true None f b e = cc
kept true (Some a) f b e = (refl, (a, refl, cc))

tests : (a b : ℕ) → (nat_le a 64 && nat_lt 0 b) ≡ true → (a ≤ 64) × (0 < b)
tests a b e = let both = and_parts (nat_le a 64) (nat_lt 0 b) e in (grind (arith, nat_tests, both.0), grind (arith, nat_tests, both.1))

chosen : (b : Bool) (k : ℕ) → ◌≡◌ {A = ℕ × ℕ} (cond b (0, k) (k, 0)) (cond b 0 k, cond b k 0)
chosen false k = refl
chosen true k = refl

passed : (t : Bool) (x power : ℕ × ℕ) → cond t (Some x) None ≡ Some power → (t ≡ true) × (power ≡ x)
passed false x power e = cc
passed true x power e = (refl, (cc))

one_to_six : (ds : List ℕ) → is_exponent ds ≡ true → IsTrue (all_ascii_digits ds) × (0 < length ds) × (length ds ≤ 6)
one_to_six ds e =
    let both = and_parts (all_ascii_digits ds) (nat_lt 0 (length ds) && nat_le (length ds) 6) e in
    let sizes = and_parts (nat_lt 0 (length ds)) (nat_le (length ds) 6) both.1 in
    (both.0, grind (arith, nat_tests, sizes.0), grind (arith, nat_tests, sizes.1))

-- a text has an exponent's parts
record HasPower (text : List ℕ) (power : ℕ × ℕ) : Type 0 where
  part : Option Power
  is : text ≡ power_text part
  good : IsPower part
  both : power ≡ (raised_by part, lowered_by part)

exponent_parts : (c : ℕ) (cs : List ℕ) (power : ℕ × ℕ) (capital : Bool) → c ≡ cond capital 69 101 → exponent_of cs ≡ Some power → HasPower (c ∷ cs) power
exponent_parts c cs power capital letter e =
    let size : ℕ = number_from_digits 10 (values (unsigned cs)) in
    let sign = split_sign cs in
    let pass = passed (is_exponent (unsigned cs)) (cond (has_minus cs) (0, size) (size, 0)) power e in
    record {
      part = Some (record { capital = capital; sign = sign.0; digits = unsigned cs });
      is = ap₂ (λ (a : ℕ) (rest : List ℕ). a ∷ rest) letter sign.1;
      good = one_to_six (unsigned cs) pass.0;
      both = pass.1 ∙ ap (λ b. cond b (0, size) (size, 0)) (sym sign.2) ∙ chosen (is_minus sign.0) size;
    }

split_power : (text : List ℕ) (power : ℕ × ℕ) → power_of text ≡ Some power → HasPower text power
split_power [] power e = record { part = None; is = refl; good = tt; both = cc }
split_power (c ∷ cs) power e = by_tests (c == 101) (c == 69) (λ t. (Decides-eqb c 101).0 t) (λ t. (Decides-eqb c 69).0 t) e where
  by_tests : (l u : Bool) → (l ≡ true → c ≡ 101) → (u ≡ true → c ≡ 69) → cond (l || u) (exponent_of cs) None ≡ Some power → HasPower (c ∷ cs) power
  by_tests true u f g e = exponent_parts c cs power false (f refl) e
  by_tests false true f g e = exponent_parts c cs power true (g refl) e
  by_tests false false f g e = cc

pub written : (text : List ℕ) (n : Number) → number_of text ≡ Some n → IsWritten text n
unfolding number_of
written text n e =
    let body : List ℕ = unsigned text in
    let tail : List ℕ = following body in
    let keeps = kept (nat_le (length text) 64 && nat_lt 0 (length (leading body) + length (fraction tail))) (power_of (after_fraction tail)) (number_with (has_minus text) (leading body) (fraction tail)) n e in
    let sizes = tests (length text) (length (leading body) + length (fraction tail)) keeps.0 in
    let sign = split_sign text in
    let whole = split_digits body in
    let part = split_fraction tail in
    let power : HasPower (after_fraction tail) keeps.1.0 = split_power (after_fraction tail) keeps.1.0 keeps.1.1 in
    let parts : NumberParts = record { sign = sign.0; whole = leading body; fraction = part.0; power = power.part } in
    let is : text ≡ parts_text parts = sign.1 ∙ ap (λ r. sign_text sign.0 ++ r) (whole.0 ∙ ap (λ r. leading body ++ r) (part.1 ∙ ap (λ r. fraction_text part.0 ++ r) power.is)) in (
      parts,
      record { whole = whole.1; fraction = part.3; some = omega (arith, sizes.1, ap length part.2); power = power.good; short = omega (arith, sizes.0, ap length is) },
      is,
      keeps.1.2 ∙ ap (λ b. number_with b (leading body) (fraction tail) keeps.1.0) (sym sign.2)
          ∙ ap (λ ds. number_with (is_minus sign.0) (leading body) ds keeps.1.0) (sym part.2)
          ∙ ap (λ p. number_with (is_minus sign.0) (leading body) (fraction_digits part.0) p) power.both,
    )

-- ---- from parts to the text

-- no sign stands first
abbrev pub IsPlain : List ℕ → Type 0
IsPlain rest = (unsigned rest ≡ rest) × (has_minus rest ≡ false)

digit_plain : (c : ℕ) (cs : List ℕ) → is_ascii_digit c ≡ true → IsPlain (c ∷ cs)
digit_plain c cs digit =
    let plus : (c == 43) ≡ false = grind (arith, nat_tests) in
    let minus : (c == 45) ≡ false = grind (arith, nat_tests) in
    (rw (plus, minus) refl, minus)

pub plain_digits : (ds rest : List ℕ) → all_ascii_digits ds ≡ true → 0 < length ds → IsPlain (ds ++ rest)
plain_digits [] rest all some = absurd (omega arith)
plain_digits (d ∷ ds) rest all some = digit_plain d (ds ++ rest) (and_parts (is_ascii_digit d) (all_ascii_digits ds) all).0

plain_parts : (ds : List ℕ) (f : Option (List ℕ)) (rest : List ℕ) → all_ascii_digits ds ≡ true → 0 < length ds + length (fraction_digits f) → IsPlain (ds ++ (fraction_text f ++ rest))
plain_parts (d ∷ ds) f rest all some = plain_digits (d ∷ ds) (fraction_text f ++ rest) all (omega arith)
plain_parts [] None rest all some = absurd (omega arith)
plain_parts [] (Some part) rest all some = (refl, refl)

unsigned_sign : (s : Sign) (rest : List ℕ) → IsPlain rest → (unsigned (sign_text s ++ rest) ≡ rest) × (has_minus (sign_text s ++ rest) ≡ is_minus s)
unsigned_sign none rest plain = plain
unsigned_sign plus rest plain = (refl, refl)
unsigned_sign minus rest plain = (refl, refl)

-- no digit stands first
abbrev pub IsEnd : List ℕ → Type 0
IsEnd rest = (leading rest ≡ []) × (following rest ≡ rest)

pub leading_digits : (ds rest : List ℕ) → all_ascii_digits ds ≡ true → IsEnd rest → (leading (ds ++ rest) ≡ ds) × (following (ds ++ rest) ≡ rest)
leading_digits [] rest all end = end
leading_digits (d ∷ ds) rest all end =
    let both = and_parts (is_ascii_digit d) (all_ascii_digits ds) all in
    let digit : is_ascii_digit d ≡ true = both.0 in
    let more = leading_digits ds rest both.1 end in
    (rw digit (ap (λ r. d ∷ r) more.0), rw digit more.1)

power_end : (o : Option Power) → IsEnd (power_text o)
power_end None = (refl, refl)
power_end (Some p) = letter p.capital where
  letter : (b : Bool) → IsEnd (cond b 69 101 ∷ (sign_text p.sign ++ p.digits))
  letter false = (refl, refl)
  letter true = (refl, refl)

fraction_end : (f : Option (List ℕ)) (o : Option Power) → IsEnd (fraction_text f ++ power_text o)
fraction_end None o = power_end o
fraction_end (Some part) o = (refl, refl)

fraction_of_parts : (f : Option (List ℕ)) (o : Option Power) → all_ascii_digits (fraction_digits f) ≡ true
    → (fraction (fraction_text f ++ power_text o) ≡ fraction_digits f) × (after_fraction (fraction_text f ++ power_text o) ≡ power_text o)
fraction_of_parts (Some part) o all = leading_digits part (power_text o) all (power_end o)
fraction_of_parts None None all = (refl, refl)
fraction_of_parts None (Some p) all = letter p.capital where
  letter : (b : Bool) → (fraction (cond b 69 101 ∷ (sign_text p.sign ++ p.digits)) ≡ []) × (after_fraction (cond b 69 101 ∷ (sign_text p.sign ++ p.digits)) ≡ cond b 69 101 ∷ (sign_text p.sign ++ p.digits))
  letter false = (refl, refl)
  letter true = (refl, refl)

exponent_of_parts : (s : Sign) (ds : List ℕ) → IsTrue (all_ascii_digits ds) × (0 < length ds) × (length ds ≤ 6)
    → exponent_of (sign_text s ++ ds) ≡ Some (cond (is_minus s) 0 (number_from_digits 10 (values ds)), cond (is_minus s) (number_from_digits 10 (values ds)) 0)
exponent_of_parts s ds good =
    let plain : IsPlain ds = rw append-nil at (plain_digits ds [] good.0 good.1) in
    let sign = unsigned_sign s ds plain in
    let digits : all_ascii_digits ds ≡ true = good.0 in
    let some : nat_lt 0 (length ds) ≡ true = grind (arith, nat_tests, good.1) in
    let few : nat_le (length ds) 6 ≡ true = grind (arith, nat_tests, good.2) in
    let test : is_exponent ds ≡ true = rw (digits, some, few) refl in
    rw (sign.0, sign.1, test) (ap Some (chosen (is_minus s) (number_from_digits 10 (values ds))))

power_of_parts : (o : Option Power) → IsPower o → power_of (power_text o) ≡ Some (raised_by o, lowered_by o)
power_of_parts None good = refl
power_of_parts (Some p) good = letter p.capital ∙ exponent_of_parts p.sign p.digits good where
  letter : (b : Bool) → power_of (cond b 69 101 ∷ (sign_text p.sign ++ p.digits)) ≡ exponent_of (sign_text p.sign ++ p.digits)
  letter false = refl
  letter true = refl

number_of_text : (p : NumberParts) → IsNumberText p → number_of (parts_text p) ≡ Some (parts_number p)
number_of_text p good =
    let text : List ℕ = parts_text p in
    let tail : List ℕ = fraction_text p.fraction ++ power_text p.power in
    let sign = unsigned_sign p.sign (p.whole ++ tail) (plain_parts p.whole p.fraction (power_text p.power) good.whole good.some) in
    let whole = leading_digits p.whole tail good.whole (fraction_end p.fraction p.power) in
    let part = fraction_of_parts p.fraction p.power good.fraction in
    let lead : leading (unsigned text) ≡ p.whole = ap leading sign.0 ∙ whole.0 in
    let follow : following (unsigned text) ≡ tail = ap following sign.0 ∙ whole.1 in
    let digits : fraction (following (unsigned text)) ≡ fraction_digits p.fraction = ap fraction follow ∙ part.0 in
    let power : power_of (after_fraction (following (unsigned text))) ≡ Some (raised_by p.power, lowered_by p.power) =
    ap power_of (ap after_fraction follow ∙ part.1) ∙ power_of_parts p.power good.power in
    number_of_parts text (raised_by p.power, lowered_by p.power) good.short (omega (arith, good.some, ap length lead, ap length digits)) power
    ∙ ap Some (ap (λ b. number_with b (leading (unsigned text)) (fraction (following (unsigned text))) (raised_by p.power, lowered_by p.power)) sign.1
    ∙ ap (λ ds. number_with (is_minus p.sign) ds (fraction (following (unsigned text))) (raised_by p.power, lowered_by p.power)) lead
    ∙ ap (λ ds. number_with (is_minus p.sign) p.whole ds (raised_by p.power, lowered_by p.power)) digits)

pub read : (text : List ℕ) (n : Number) → IsWritten text n → number_of text ≡ Some n
read text n (p, good, text_is, n_is) = ap number_of text_is ∙ number_of_text p good ∙ ap Some (sym n_is)
