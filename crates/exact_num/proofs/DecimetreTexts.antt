-- Texts of values in decimetres give the values back.
use Rattle.std.proofs.Common.{◌≡◌, ℕ, ◌+◌, ◌-◌, ◌*◌, ◌/◌, ◌%◌, ◌^◌, ◌<◌, ℤ, pos, negsuc, unsigned_abs, Bool, true, false, ◌==◌, cond, List, [], ◌∷◌, ◌++◌, refl, sym, ap, ◌∙◌, arith, rules, FitsSigned}
use Rattle.std.proofs.lemmas.Bool.{false≢true}
use Rattle.std.proofs.lemmas.Bool.Decides.{nat_tests, Decides-eqb}
use Rattle.std.proofs.lemmas.List.{append-nil}
use Rattle.std.proofs.lemmas.Fmt.{digits_decimal, decimal_injective, decimal_nonempty}
use Rattle.std.proofs.lemmas.Str.Parse.{IsNumeralModel, numerals_by_fold}
use Rattle.std.specs.Int.{w32, is_negative}
use Rattle.std.specs.Fmt.{decimal, sign_text}
use Rattle.std.specs.Str.{all_ascii_digits}
use Rattle.exact_num.specs.Text.{has_minus, leading, following}
use Rattle.exact_num.specs.Printed.{metres, decimetres}
use Rattle.exact_num.proofs.ReadParts.{IsEnd, plain_digits, leading_digits}

abbrev read_on : ℕ → List ℕ → ℕ
read_on n [] = n
read_on n (c ∷ cs) = read_on (n * 10 + (c - 48)) cs

own : IsNumeralModel (λ ds. all_ascii_digits ds ≡ true) (read_on 0)
own = numerals_by_fold _ (search rules) read_on (search rules)

all_digits : (n : ℕ) → n < 2 ^ 64 → all_ascii_digits (decimal n) ≡ true
all_digits n small = digits_decimal own n small

-- what follows the whole metres
abbrev tenths : ℕ → List ℕ
tenths n = cond (n == 0) [] (46 ∷ decimal n)

metres_parts : (n : ℕ) → metres n ≡ decimal (n / 10) ++ tenths (n % 10)
metres_parts n = by_test (n % 10 == 0) where
  by_test : (t : Bool) → cond t (decimal (n / 10)) (decimal (n / 10) ++ (46 ∷ decimal (n % 10))) ≡ decimal (n / 10) ++ cond t [] (46 ∷ decimal (n % 10))
  by_test true = sym (append-nil (decimal (n / 10)))
  by_test false = refl

tenths_end : (n : ℕ) → IsEnd (tenths n)
tenths_end n = by_test (n == 0) where
  by_test : (t : Bool) → IsEnd (cond t [] (46 ∷ decimal n))
  by_test true = (refl, refl)
  by_test false = (refl, refl)

tenths_same : (m n : ℕ) → m < 10 → n < 10 → tenths m ≡ tenths n → m ≡ n
tenths_same m n few small e = by_tests (m == 0) (n == 0) (Decides-eqb m 0).0 (Decides-eqb n 0).0 e where
  by_tests : (s t : Bool) → (s ≡ true → m ≡ 0) → (t ≡ true → n ≡ 0) → cond s [] (46 ∷ decimal m) ≡ cond t [] (46 ∷ decimal n) → m ≡ n
  by_tests true true f g e = f refl ∙ sym (g refl)
  by_tests true false f g e = cc
  by_tests false true f g e = cc
  by_tests false false f g e = decimal_injective m n (omega arith) (omega arith) (cc)

metres_same : (m n : ℕ) → m < 2 ^ 32 → n < 2 ^ 32 → metres m ≡ metres n → m ≡ n
metres_same m n few small e =
    let parts : decimal (m / 10) ++ tenths (m % 10) ≡ decimal (n / 10) ++ tenths (n % 10) = sym (metres_parts m) ∙ e ∙ metres_parts n in
    let first = leading_digits (decimal (m / 10)) (tenths (m % 10)) (all_digits (m / 10) (omega arith)) (tenths_end (m % 10)) in
    let second = leading_digits (decimal (n / 10)) (tenths (n % 10)) (all_digits (n / 10) (omega arith)) (tenths_end (n % 10)) in
    let whole : m / 10 ≡ n / 10 = decimal_injective (m / 10) (n / 10) (omega arith) (omega arith) (sym first.0 ∙ ap leading parts ∙ second.0) in
    let part : m % 10 ≡ n % 10 = tenths_same (m % 10) (n % 10) (omega arith) (omega arith) (sym first.1 ∙ ap following parts ∙ second.1) in
    omega (arith, whole, part)

metres_plain : (n : ℕ) → n < 2 ^ 32 → has_minus (metres n) ≡ false
metres_plain n small = ap has_minus (metres_parts n) ∙ (plain_digits (decimal (n / 10)) (tenths (n % 10)) (all_digits (n / 10) (omega arith)) (decimal_nonempty (n / 10) (omega arith))).1

signs_same : (b c : Bool) (xs ys : List ℕ) → has_minus xs ≡ false → has_minus ys ≡ false → sign_text b ++ xs ≡ sign_text c ++ ys → (b ≡ c) × (xs ≡ ys)
signs_same false false xs ys p q e = (refl, e)
signs_same true true xs ys p q e = (refl, (cc))
signs_same false true xs ys p q e = absurd (false≢true (sym p ∙ ap has_minus e))
signs_same true false xs ys p q e = absurd (false≢true (sym q ∙ ap has_minus (sym e)))

magnitudes_same : (y z : ℤ) → is_negative y ≡ is_negative z → unsigned_abs y ≡ unsigned_abs z → y ≡ z
magnitudes_same (pos a) (pos b) s e = ap pos e
magnitudes_same (negsuc a) (negsuc b) s e = ap negsuc (omega (arith, e))
magnitudes_same (pos a) (negsuc b) s e = absurd (false≢true (sym (not_negative a) ∙ s)) where
  not_negative : (a : ℕ) → is_negative (pos a) ≡ false
  not_negative a = grind (arith, nat_tests)
magnitudes_same (negsuc a) (pos b) s e = absurd (false≢true (sym (not_negative b) ∙ sym s)) where
  not_negative : (a : ℕ) → is_negative (pos a) ≡ false
  not_negative a = grind (arith, nat_tests)

magnitude_fits : (z : ℤ) → FitsSigned w32 z → unsigned_abs z < 2 ^ 32
magnitude_fits (pos n) fits = omega (arith, fits.sfits)
magnitude_fits (negsuc n) fits = omega (arith, fits.sfits)

pub decimetres_same : (y z : ℤ) → FitsSigned w32 y → FitsSigned w32 z → decimetres y ≡ decimetres z → y ≡ z
unfolding decimetres
decimetres_same y z fits g e =
    let few = magnitude_fits y fits in
    let small = magnitude_fits z g in
    let both = signs_same (is_negative y) (is_negative z) (metres (unsigned_abs y)) (metres (unsigned_abs z)) (metres_plain (unsigned_abs y) few) (metres_plain (unsigned_abs z) small) e in
    magnitudes_same y z both.0 (metres_same (unsigned_abs y) (unsigned_abs z) few small both.1)
