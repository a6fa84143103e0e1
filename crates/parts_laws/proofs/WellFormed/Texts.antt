-- Texts without the byte that ends one: decimal numbers, depths in metres, and the texts of a header.
use Rattle.std.proofs.Common.{◌≡◌, ◌≢◌, ℕ, zero, suc, ℤ, ◌+◌, ◌/◌, ◌%◌, ◌==◌, ◌||◌, Bool, true, false, cond, List, [], ◌∷◌, ◌++◌, refl, sym, subst, arith, ⊎_elim, unsigned_abs}
use Rattle.std.specs.Prelude.{codes, nat_lt}
use Rattle.std.specs.Char.{is_ascii_digit, is_ascii_uppercase}
use Rattle.std.specs.Fmt.{decimal, digit_glyph, digits, digits_onto, sign_text}
use Rattle.std.specs.Int.{is_negative}
use Rattle.std.specs.List.{list_all}
use Rattle.std.proofs.lemmas.Bool.{and_parts, or_cases}
use Rattle.std.proofs.lemmas.Bool.Decides.{nat_tests}
use Rattle.std.proofs.lemmas.List.Elements.{All-append, All-cons, All-nil}
use Rattle.chart_definitions.specs.Rest.{IsHeader}
use Rattle.chart_model.specs.Whole.{HasTexts, IsText}
use Rattle.chart_model.specs.declared.records.Header.{Header}
use Rattle.exact_num.specs.Printed.{decimetres, metres}
use Rattle.rule_sheet.specs.Values.{IsSheet, SheetView}

no_text : IsText []
no_text = All-nil (λ b. b ≢ 31)

one_more : (b : ℕ) (bs : List ℕ) → b ≢ 31 → IsText bs → IsText (b ∷ bs)
one_more b bs n t = All-cons (λ b. b ≢ 31) b bs n t

joined : (xs ys : List ℕ) → IsText xs → IsText ys → IsText (xs ++ ys)
joined xs ys t u = All-append (λ b. b ≢ 31) xs ys t u

-- a text of which each byte passes a test that 31 doesn't pass
pub text_by : (test : ℕ → Bool) → ((b : ℕ) → test b ≡ true → b ≢ 31) → (bs : List ℕ) → list_all test bs ≡ true → IsText bs
text_by test other [] h = no_text
text_by test other (b ∷ bs) h = let p = and_parts (test b) (list_all test bs) h in one_more b bs (other b p.0) (text_by test other bs p.1)

-- a text that is given
pub given : (bs : List ℕ) → list_all (λ b. nat_lt 31 b) bs ≡ true → IsText bs
given bs h = text_by (λ b. nat_lt 31 b) (λ b t. grind (arith, nat_tests)) bs h

-- ---- numbers

glyph : (d : ℕ) → digit_glyph false d ≢ 31
glyph d = by (nat_lt d 10)
  where
    by : (b : Bool) → cond b (48 + d) (cond false (55 + d) (87 + d)) ≢ 31
    by true = λ e. omega (arith, e)
    by false = λ e. omega (arith, e)

digits_text : (k n : ℕ) (acc : List ℕ) → IsText acc → IsText (digits_onto k 10 false n acc)
digits_text zero n acc t = t
digits_text (suc k) n acc t =
    let more = one_more (digit_glyph false (n % 10)) acc (glyph (n % 10)) t in
    by (n / 10 == 0) more (digits_text k (n / 10) (digit_glyph false (n % 10) ∷ acc) more)
  where
    by : (b : Bool) → IsText (digit_glyph false (n % 10) ∷ acc) → IsText (digits_onto k 10 false (n / 10) (digit_glyph false (n % 10) ∷ acc))
        → IsText (cond b (digit_glyph false (n % 10) ∷ acc) (digits_onto k 10 false (n / 10) (digit_glyph false (n % 10) ∷ acc)))
    by true first rest = first
    by false first rest = rest

pub decimal_text : (n : ℕ) → IsText (decimal n)
unfolding digits
decimal_text n = digits_text 64 n [] no_text

metres_text : (n : ℕ) → IsText (metres n)
metres_text n = by (n % 10 == 0)
  where
    by : (b : Bool) → IsText (cond b (decimal (n / 10)) (decimal (n / 10) ++ (46 ∷ decimal (n % 10))))
    by true = decimal_text (n / 10)
    by false = joined (decimal (n / 10)) (46 ∷ decimal (n % 10)) (decimal_text (n / 10)) (one_more 46 (decimal (n % 10)) (λ e. omega (arith, e)) (decimal_text (n % 10)))

sign : (b : Bool) → IsText (sign_text b)
sign true = one_more 45 [] (λ e. omega (arith, e)) no_text
sign false = no_text

pub decimetres_text : (z : ℤ) → IsText (decimetres z)
unfolding decimetres
decimetres_text z = joined (sign_text (is_negative z)) (metres (unsigned_abs z)) (sign (is_negative z)) (metres_text (unsigned_abs z))

-- ---- the header

name_byte : (b : ℕ) → (is_ascii_uppercase b || is_ascii_digit b) ≡ true → b ≢ 31
name_byte b h = ⊎_elim (λ u. grind (arith, nat_tests)) (λ d. grind (arith, nat_tests)) (or_cases (is_ascii_uppercase b) (is_ascii_digit b) h)

pub header_texts : (s : SheetView) (h : Header) → IsSheet s → IsHeader s h → HasTexts h
header_texts s h sheet is =
    let name : IsText s.name = text_by (λ b. is_ascii_uppercase b || is_ascii_digit b) name_byte s.name (and_parts _ (list_all (λ b. is_ascii_uppercase b || is_ascii_digit b) s.name) sheet.name).1 in
    record {
      dsnm = subst IsText (sym is.name) (joined s.name (codes ".000") name (given (codes ".000") refl));
      edtn = subst IsText (sym is.edition.0) (decimal_text s.edition);
      updn = subst IsText (sym is.edition.1) (given (codes "0") refl);
      psdn = subst IsText (sym is.standard.2) no_text;
      pred = subst IsText (sym is.standard.3) (given (codes "2.0") refl);
      comt = subst IsText (sym is.agency.1) no_text;
      note = subst IsText (sym is.scale.3) no_text;
    }
