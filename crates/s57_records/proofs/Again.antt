-- What is written is read back.
use Rattle.std.proofs.Common.{◌≡◌, ℕ, ℤ, ◌^◌, ◌<◌, Bool, true, false, ◌&&◌, eqb, List, [], ◌∷◌, ◌++◌, length, Some, refl, sym, ap, ◌∙◌, append_assoc, arith, pos, negsuc, to_z-of_z}
use Rattle.std.specs.Prelude.{not, FitsSigned}
use Rattle.std.specs.Int.{w16, w32, to_le_bytes, cast_unsigned}
use Rattle.std.proofs.lemmas.Bool.{le-ltb}
use Rattle.std.proofs.lemmas.List.{take_at, drop_at, length-append}
use Rattle.std.proofs.lemmas.Nat.{from_le_bytes-to_le_bytes_2, from_le_bytes-to_le_bytes_4}
use Rattle.s57_records.specs.Formats.{Format, b11, b12, b14, b24, A, As, Value, N, Z, T, number_at, signed, text_at, bytes_at, value_at, values_in, bytes_of, field_of, is_text, Fits, AllFit}

pub again_2 : (n : ℕ) (rest : List ℕ) → n < 2 ^ 16 → number_at w16 (to_le_bytes w16 n ++ rest) ≡ Some (n, rest)
again_2 n rest h = rw (le-ltb (length (to_le_bytes w16 n ++ rest)) 2 (omega (arith, length-append (to_le_bytes w16 n) rest)), from_le_bytes-to_le_bytes_2 n h) refl

again_4 : (n : ℕ) (rest : List ℕ) → n < 2 ^ 32 → number_at w32 (to_le_bytes w32 n ++ rest) ≡ Some (n, rest)
again_4 n rest h = rw (le-ltb (length (to_le_bytes w32 n ++ rest)) 4 (omega (arith, length-append (to_le_bytes w32 n) rest)), from_le_bytes-to_le_bytes_4 n h) refl

other_first : (same others : Bool) → (not same && others) ≡ true → (same ≡ false) × (others ≡ true)
other_first true others e = absurd cc
other_first false others e = (refl, e)

pub text_again : (text rest : List ℕ) → is_text text ≡ true → text_at (text ++ (31 ∷ rest)) ≡ Some (text, rest)
text_again [] rest h = refl
text_again (b ∷ text) rest h =
    let o = other_first (eqb b 31) (is_text text) h in
    rw (o.0, text_again text rest o.1) refl

bytes_again : (n : ℕ) (text rest : List ℕ) → length text ≡ n → bytes_at n (text ++ rest) ≡ Some (text, rest)
bytes_again n text rest h = rw (le-ltb (length (text ++ rest)) n (omega (arith, h, length-append text rest)), take_at text rest n h, drop_at text rest n h) refl

fits_unsigned : (z : ℤ) → FitsSigned w32 z → cast_unsigned w32 z < 2 ^ 32
fits_unsigned (pos n) h = omega (arith, h)
fits_unsigned (negsuc n) h = omega (arith, h)

signed_again : (z : ℤ) → FitsSigned w32 z → signed (cast_unsigned w32 z) ≡ z
unfolding signed
signed_again z h = to_z-of_z h

value_again : (f : Format) (v : Value) (rest : List ℕ) → Fits f v → value_at f (bytes_of f v ++ rest) ≡ Some (v, rest)
value_again b11 (N n) rest h = refl
value_again b12 (N n) rest h = rw (again_2 n rest h) refl
value_again b14 (N n) rest h = rw (again_4 n rest h) refl
value_again b24 (Z z) rest h = rw (again_4 (cast_unsigned w32 z) rest (fits_unsigned z h)) (ap (λ (y : ℤ). Some (Z y, rest)) (signed_again z h))
value_again A (T text) rest h = rw (append_assoc text (31 ∷ []) rest, text_again text rest h) refl
value_again (As n) (T text) rest h = rw (bytes_again n text rest h) refl
value_again b11 (T text) rest h = absurd h
value_again b12 (T text) rest h = absurd h
value_again b14 (T text) rest h = absurd h
value_again A (N n) rest h = absurd h
value_again (As k) (N n) rest h = absurd h
value_again b24 (N n) rest h = absurd h
value_again b24 (T text) rest h = absurd h
value_again b11 (Z z) rest h = absurd h
value_again b12 (Z z) rest h = absurd h
value_again b14 (Z z) rest h = absurd h
value_again A (Z z) rest h = absurd h
value_again (As k) (Z z) rest h = absurd h

pub reads_back : (fs : List Format) (vs : List Value) → AllFit fs vs → values_in fs (field_of fs vs) ≡ Some vs
reads_back [] [] h = refl
reads_back [] (v ∷ vs) h = absurd h
reads_back (f ∷ fs) [] h = absurd h
reads_back (f ∷ fs) (v ∷ vs) h = rw (value_again f v (field_of fs vs) h.0, reads_back fs vs h.1) refl

pub field_append : (fs gs : List Format) (vs ws : List Value) → length fs ≡ length vs → field_of (fs ++ gs) (vs ++ ws) ≡ field_of fs vs ++ field_of gs ws
field_append [] gs [] ws e = refl
field_append [] gs (v ∷ vs) ws e = absurd (omega (arith, e))
field_append (f ∷ fs) gs [] ws e = absurd (omega (arith, e))
field_append (f ∷ fs) gs (v ∷ vs) ws e = ap (λ (t : List ℕ). bytes_of f v ++ t) (field_append fs gs vs ws (omega (arith, e))) ∙ sym (append_assoc (bytes_of f v) (field_of fs vs) (field_of gs ws))

-- two parts of a field and its closing byte, appended one after the other
pub closed : (old r s p q a b e : List ℕ) → r ≡ old → s ≡ r ++ a → p ≡ s ++ b → q ≡ p ++ 30 ∷ [] → e ≡ a ++ b → q ≡ old ++ (e ++ 30 ∷ [])
closed old r s p q a b e e1 e2 e3 e4 e5 = rw (e4, e3, e2, e1, e5) (simp append_assoc)
