-- The first word of a text.
use Rattle.std.proofs.Common.{◌≡◌, ℕ, zero, suc, ◌+◌, ◌-◌, ◌<◌, ◌≤◌, List, [], ◌∷◌, length, get_or, take, drop, Bool, true, false, not, cond, refl, ap, ap₂, ◌∙◌, arith, slice_range, length-drop}
use Rattle.std.proofs.lemmas.List.{get_or-drop, drop-drop}
use Rattle.grid_reader.specs.Words.{is_space, begins_word, with_byte, words, Word}

abbrev word : ℕ → List ℕ → Word
word at bytes = record { at = at; bytes = bytes }

one_byte : (at c : ℕ) (a b : Bool) (us vs ws : List Word) → a ≡ false → b ≡ false → cond a us (with_byte at c b ws) ≡ word at (c ∷ []) ∷ ws
one_byte at c true b us vs ws h k = cc
one_byte at c false true us vs ws h k = cc
one_byte at c false false us vs ws h k = refl

more_bytes : (at c : ℕ) (a b : Bool) (us ws : List Word) → a ≡ false → b ≡ false → cond a us (with_byte at c (not b) ws) ≡ with_byte at c true ws
more_bytes at c true b us ws h k = cc
more_bytes at c false true us ws h k = cc
more_bytes at c false false us ws h k = refl

-- bytes of a word, at least one, and then white space or nothing
pub word_first : (at n : ℕ) (t : List ℕ) → n < length t → ((k : ℕ) → k ≤ n → is_space (get_or t k 0) ≡ false) → begins_word (drop (suc n) t) ≡ false →
    words at t ≡ word at (take (suc n) t) ∷ words (at + suc n) (drop (suc n) t)
word_first at n [] h all end = absurd (omega arith)
word_first at zero (c ∷ cs) h all end = one_byte at c (is_space c) (begins_word cs) (words (at + 1) cs) [] (words (at + 1) cs) (all 0 (omega arith)) end
word_first at (suc n) (c ∷ []) h all end = absurd (omega arith)
word_first at (suc n) (c ∷ d ∷ ds) h all end =
    let rest = word_first (at + 1) n (d ∷ ds) (omega arith) (λ k l. all (suc k) (omega arith)) end in
    let place : at + 1 + suc n ≡ at + suc (suc n) = omega arith in
    more_bytes at c (is_space c) (is_space d) (words (at + 1) (d ∷ ds)) (words (at + 1) (d ∷ ds)) (all 0 (omega arith)) (all 1 (omega arith))
    ∙ ap (with_byte at c true) rest
    ∙ ap (λ m. word at (c ∷ take (suc n) (d ∷ ds)) ∷ words m (drop (suc n) (d ∷ ds))) place

-- no word begins where white space stands, or past the end
pub no_word : (t : List ℕ) (n : ℕ) → (n < length t → is_space (get_or t n 0) ≡ true) → begins_word (drop n t) ≡ false
no_word [] zero h = refl
no_word [] (suc n) h = refl
no_word (c ∷ cs) zero h = ap not (h (omega arith))
no_word (c ∷ cs) (suc n) h = no_word cs n (λ l. h (omega arith))

-- the same of a word from `from` to `end` of a text
pub word_at : (text : List ℕ) (from end : ℕ) → from < end → end ≤ length text → ((k : ℕ) → from ≤ k → k < end → is_space (get_or text k 0) ≡ false) → (end < length text → is_space (get_or text end 0) ≡ true) →
    words from (drop from text) ≡ word from (slice_range text from end) ∷ words end (drop end text)
word_at text from end some within all stop =
    let n : ℕ = end - from - 1 in
    let size : suc n ≡ end - from = omega arith in
    let last : from + suc n ≡ end = omega arith in
    let rest : drop (suc n) (drop from text) ≡ drop end text = drop-drop (suc n) from text ∙ ap (λ m. drop m text) last in
    let first = word_first from n (drop from text) (omega (arith, length-drop from text))
    (λ k l. ap is_space (get_or-drop from text k 0) ∙ all (from + k) (omega arith) (omega arith))
    (ap begins_word rest ∙ no_word text end stop) in
    first ∙ ap₂ (λ (m : ℕ) (us : List Word). word from (take m (drop from text)) ∷ us) size (ap₂ words last rest)
