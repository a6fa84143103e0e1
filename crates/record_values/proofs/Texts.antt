-- Texts that are read don't have the byte that ends one.
use Rattle.std.proofs.Common.{◌≡◌, ◌≢◌, ℕ, zero, suc, List, [], ◌∷◌, ◌++◌, Bool, true, false, Option, Some, None, refl, sym, ap, ◌∙◌, subst, cond, option_map, drop}
use Rattle.std.specs.Prelude.{◌==◌}
use Rattle.std.specs.Int.{w16}
use Rattle.std.proofs.lemmas.Bool.{false≢true}
use Rattle.std.proofs.lemmas.List.Elements.{All-nil, All-cons, All-append}
use Rattle.chart_model.specs.Whole.{IsText}
use Rattle.readings.proofs.Steps.{bind_some}
use Rattle.chart_model.specs.declared.records.Attribute.{Attribute}
use Rattle.s57_records.specs.Formats.{Format, b11, b12, b14, b24, A, As, Value, N, Z, T, longer, text_at, number_at, value_at, values_in, attribute_at}
use Rattle.record_values.specs.Attributes.{attributes_at, attributes_in, attributes_of}
use Rattle.record_values.specs.Sound.{HasTexts, AreTexts}

same_some : {X : Type 0} (x y : X) → Some x ≡ Some y → x ≡ y
same_some x y h = cc

not_end : (byte : ℕ) → (byte == 31) ≡ false → byte ≢ 31
not_end byte h e = false≢true (sym h ∙ ap (λ b. b == 31) e)

text_step : (byte : ℕ) (bytes : List ℕ) (ends : Bool) (o : Option (List ℕ × List ℕ)) (x : List ℕ × List ℕ) → (byte == 31) ≡ ends → ((y : List ℕ × List ℕ) → o ≡ Some y → IsText y.0)
    → cond ends (Some ([], bytes)) (longer byte o) ≡ Some x → IsText x.0
text_step byte bytes true o x e further h =
    let none : [] ≡ x.0 = cc in
    subst IsText none (All-nil (λ b. b ≢ 31))
text_step byte bytes false None x e further h = cc
text_step byte bytes false (Some y) x e further h =
    let more : byte ∷ y.0 ≡ x.0 = cc in
    subst IsText more (All-cons (λ b. b ≢ 31) byte y.0 (not_end byte e) (further y refl))

-- a text up to the byte that ends it
pub text_is : (bytes : List ℕ) (x : List ℕ × List ℕ) → text_at bytes ≡ Some x → IsText x.0
text_is [] x h = cc
text_is (byte ∷ bytes) x h = text_step byte bytes (byte == 31) (text_at bytes) x refl (text_is bytes) h

-- ---- fields

abbrev IsTextValue : Format → Value → Type 0
IsTextValue A (T text) = IsText text
IsTextValue _ _ = Unit {0}

put_text : (f : Format) (v : Value) (fs : List Format) (vs : List Value) → IsTextValue f v → HasTexts fs vs → HasTexts (f ∷ fs) (v ∷ vs)
put_text A (T text) fs vs is rest = (is, rest)
put_text A (N n) fs vs is rest = rest
put_text A (Z z) fs vs is rest = rest
put_text b11 v fs vs is rest = rest
put_text b12 v fs vs is rest = rest
put_text b14 v fs vs is rest = rest
put_text b24 v fs vs is rest = rest
put_text (As n) v fs vs is rest = rest

read_text : (bytes : List ℕ) (o : Option (List ℕ × List ℕ)) (first : Value × List ℕ) → text_at bytes ≡ o → option_map (λ x. (T x.0, x.1)) o ≡ Some first → IsTextValue A first.0
read_text bytes None first e h = cc
read_text bytes (Some x) first e h =
    let is : T x.0 ≡ first.0 = cc in
    subst (IsTextValue A) is (text_is bytes x e)

value_is : (f : Format) (bytes : List ℕ) (first : Value × List ℕ) → value_at f bytes ≡ Some first → IsTextValue f first.0
value_is A bytes first h = read_text bytes (text_at bytes) first refl h
value_is b11 bytes first h = tt
value_is b12 bytes first h = tt
value_is b14 bytes first h = tt
value_is b24 bytes first h = tt
value_is (As n) bytes first h = tt

-- the texts of a field
pub values_are : (fs : List Format) (bytes : List ℕ) (vs : List Value) → values_in fs bytes ≡ Some vs → HasTexts fs vs
values_are [] bytes vs h = tt
values_are (f ∷ fs) bytes vs h =
    let first = bind_some (value_at f bytes) _ vs h in
    let others = bind_some (values_in fs first.0.1) _ vs first.2 in
    let is : first.0.0 ∷ others.0 ≡ vs = cc (others.2) in
    subst (HasTexts (f ∷ fs)) is (put_text f first.0.0 fs others.0 (value_is f bytes first.0 first.1) (values_are fs first.0.1 others.0 others.1))

-- ---- attributes

attribute_is : (bytes : List ℕ) (x : ℕ × (List ℕ × ℕ)) → attribute_at bytes ≡ Some x → IsText x.1.0
attribute_is bytes x h =
    let code = bind_some (number_at w16 bytes) _ x h in
    let text = bind_some (text_at code.0.1) _ x code.2 in
    let is : text.0.0 ≡ x.1.0 = ap (λ (y : ℕ × (List ℕ × ℕ)). y.1.0) (same_some _ _ text.2) in
    subst IsText is (text_is code.0.1 text.0 text.1)

attributes_are : (turns : ℕ) (bytes : List ℕ) (xs : List Attribute) → attributes_at turns bytes ≡ Some xs → AreTexts xs
attributes_are zero [] xs h = let is : [] ≡ xs = cc in subst AreTexts is (All-nil (λ (a : Attribute). IsText a.text))
attributes_are (suc turns) [] xs h = let is : [] ≡ xs = cc in subst AreTexts is (All-nil (λ (a : Attribute). IsText a.text))
attributes_are zero (byte ∷ bytes) xs h = cc
attributes_are (suc turns) (byte ∷ bytes) xs h =
    let first = bind_some (attribute_at (byte ∷ bytes)) _ xs h in
    let others = bind_some (attributes_at turns (drop first.0.1.1 (byte ∷ bytes))) _ xs first.2 in
    let a : Attribute = record { code = first.0.0; text = first.0.1.0 } in
    let is : a ∷ others.0 ≡ xs = cc (others.2) in
    subst AreTexts is (All-cons (λ (b : Attribute). IsText b.text) a others.0 (attribute_is (byte ∷ bytes) first.0 first.1) (attributes_are turns (drop first.0.1.1 (byte ∷ bytes)) others.0 others.1))

-- the texts of attributes
pub all_are : (bodies : List (List ℕ)) (xs : List Attribute) → attributes_of bodies ≡ Some xs → AreTexts xs
all_are [] xs h = let is : [] ≡ xs = cc in subst AreTexts is (All-nil (λ (a : Attribute). IsText a.text))
all_are (body ∷ bodies) xs h =
    let here = bind_some (attributes_in body) _ xs h in
    let others = bind_some (attributes_of bodies) _ xs here.2 in
    let is : here.0 ++ others.0 ≡ xs = cc (others.2) in
    subst AreTexts is (All-append (λ (a : Attribute). IsText a.text) here.0 others.0 (attributes_are _ body here.0 here.1) (all_are bodies others.0 others.1))
