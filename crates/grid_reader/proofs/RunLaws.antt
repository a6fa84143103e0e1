-- The words of a text are its maximal runs, and no other list is that.
use Rattle.std.proofs.Common.{◌≡◌, ℕ, zero, suc, ◌+◌, ◌-◌, ◌<◌, ◌≤◌, List, [], ◌∷◌, length, get_or, take, drop, Bool, true, false, not, cond, Some, refl, sym, ap, ap₂, subst, ◌∙◌, inl, inr, arith, slice_range, drop-cons}
use Rattle.std.specs.List.{slice_get}
use Rattle.std.proofs.lemmas.Bool.{cases_order}
use Rattle.std.proofs.lemmas.List.{drop_all}
use Rattle.grid_reader.specs.Words.{is_space, begins_word, with_byte, words, Word}
use Rattle.grid_reader.specs.Runs.{end_of, IsRun, IsInWord, AreWords}

abbrev word : ℕ → List ℕ → Word
word at bytes = record { at = at; bytes = bytes }

-- a maximal run of the text from a place on: what stands before that place doesn't count
record IsRunFrom (text : List ℕ) (from : ℕ) (w : Word) : Type 0 where
  begin : from ≤ w.at
  some : 0 < length w.bytes
  within : end_of w ≤ length text
  bytes : w.bytes ≡ slice_range text w.at (end_of w)
  solid : (k : ℕ) → w.at ≤ k → k < end_of w → is_space (get_or text k 0) ≡ false
  before : (k : ℕ) → from ≤ k → k + 1 ≡ w.at → is_space (get_or text k 0) ≡ true
  behind : end_of w < length text → is_space (get_or text (end_of w) 0) ≡ true

record AreFrom (text : List ℕ) (from : ℕ) (ws : List Word) : Type 0 where
  runs : (i : ℕ) (w : Word) → slice_get ws i ≡ Some w → IsRunFrom text from w
  rising : (i k : ℕ) (v w : Word) → i < k → slice_get ws i ≡ Some v → slice_get ws k ≡ Some w → v.at < w.at
  all : (k : ℕ) → from ≤ k → k < length text → is_space (get_or text k 0) ≡ false → IsInWord ws k

pub slice_more : (text : List ℕ) (from next end : ℕ) → next ≡ from + 1 → from < end → end ≤ length text → get_or text from 0 ∷ slice_range text next end ≡ slice_range text from end
slice_more text from next end e some within =
    let size : end - from ≡ suc (end - next) = omega arith in
    let inside : from < length text = omega arith in
    let place : next ≡ suc from = omega arith in
    ap (λ m. get_or text from 0 ∷ take (end - next) (drop m text)) place
    ∙ sym (ap₂ (λ n us. take n us) size (drop-cons text from 0 inside))

slice_one : (text : List ℕ) (from : ℕ) → from < length text → get_or text from 0 ∷ [] ≡ slice_range text from (from + 1)
slice_one text from inside =
    let size : from + 1 - from ≡ suc 0 = omega arith in
    sym (ap₂ (λ n us. take n us) size (drop-cons text from 0 inside))

begins : (n : ℕ) (text : List ℕ) → begins_word (drop n text) ≡ true → (n < length text) × (is_space (get_or text n 0) ≡ false)
begins zero [] h = cc
begins (suc n) [] h = cc
begins zero (c ∷ cs) h = (omega arith, turned (is_space c) h)
  where
    turned : (a : Bool) → not a ≡ true → a ≡ false
    turned true e = cc
    turned false e = refl
begins (suc n) (c ∷ cs) h = let rest = begins n cs h in (omega (arith, rest.0), rest.1)

ends : (n : ℕ) (text : List ℕ) → begins_word (drop n text) ≡ false → n < length text → is_space (get_or text n 0) ≡ true
ends zero [] h l = absurd (omega arith)
ends (suc n) [] h l = absurd (omega arith)
ends zero (c ∷ cs) h l = turned (is_space c) h
  where
    turned : (a : Bool) → not a ≡ false → a ≡ true
    turned true e = refl
    turned false e = cc
ends (suc n) (c ∷ cs) h l = ends n cs h (omega arith)

abbrev White : List ℕ → ℕ → Type 0
White text k = is_space (get_or text k 0) ≡ true

abbrev Solid : List ℕ → ℕ → Type 0
Solid text k = is_space (get_or text k 0) ≡ false

-- what holds from the next place on, and at this place, holds from here on
from_next : (P : ℕ → Type 0) (from k : ℕ) → from ≤ k → (from + 1 ≤ k → P k) → P from → P k
from_next P from k l rest here = elim (cases_order from k) [ inl e ↦ subst P e here | inr o ↦ elim o [ inl h ↦ rest (omega arith) | inr h ↦ absurd (omega arith) ] ]

module _ (text : List ℕ) (from : ℕ) where
  -- a run from the next place on is one from here on, where a space stands here or the run begins later
  wider : (w : Word) → (from + 1 ≡ w.at → White text from) → IsRunFrom text (from + 1) w → IsRunFrom text from w
  wider w here r = record {
    begin = omega (arith, r.begin);
    some = r.some;
    within = r.within;
    bytes = r.bytes;
    solid = r.solid;
    before = λ k l m. from_next (λ j. j + 1 ≡ w.at → White text j) from k l (λ n. r.before k n) here m;
    behind = r.behind;
  }

  passed : (ws : List Word) → White text from → AreFrom text (from + 1) ws → AreFrom text from ws
  passed ws white h = record {
    runs = λ i w e. wider w (λ m. white) (h.runs i w e);
    rising = h.rising;
    all = λ k l m. from_next (λ j. j < length text → Solid text j → IsInWord ws j) from k l (λ n. h.all k n) (λ n e. absurd (cc (white, e))) m;
  }

  abbrev one : Word
  one = word from (get_or text from 0 ∷ [])

  one_run : from < length text → Solid text from → (from + 1 < length text → White text (from + 1)) → IsRunFrom text from one
  one_run inside solid stop = record {
    begin = omega arith;
    some = omega arith;
    within = omega arith;
    bytes = slice_one text from inside;
    solid = λ k l m. (let same : from ≡ k = omega arith in subst (Solid text) same solid);
    before = λ k l m. absurd (omega arith);
    behind = stop;
  }

  alone : (ws : List Word) → from < length text → Solid text from → (from + 1 < length text → White text (from + 1)) → AreFrom text (from + 1) ws → AreFrom text from (one ∷ ws)
  alone ws inside solid stop h = record {
    runs = runs;
    rising = rising;
    all = λ k l m. from_next (λ j. j < length text → Solid text j → IsInWord (one ∷ ws) j) from k l (later k) here m;
  }
    where
      runs : (i : ℕ) (w : Word) → slice_get (one ∷ ws) i ≡ Some w → IsRunFrom text from w
      runs zero w e = let same : one ≡ w = cc in subst (IsRunFrom text from) same (one_run inside solid stop)
      runs (suc i) w e = let r = h.runs i w e in wider w (λ m. absurd (cc (stop (omega (arith, m, r.some, r.within)), subst (Solid text) (sym m) (r.solid w.at (omega arith) (omega (arith, r.some)))))) r

      rising : (i k : ℕ) (v w : Word) → i < k → slice_get (one ∷ ws) i ≡ Some v → slice_get (one ∷ ws) k ≡ Some w → v.at < w.at
      rising i zero v w l e f = absurd (omega arith)
      rising zero (suc k) v w l e f = let r = h.runs k w f in let same : one ≡ v = cc in let first : from ≡ v.at = ap (λ u. u.at) same in omega (arith, r.begin)
      rising (suc i) (suc k) v w l e f = h.rising i k v w (omega arith) e f

      later : (k : ℕ) → from + 1 ≤ k → k < length text → Solid text k → IsInWord (one ∷ ws) k
      later k n m e = let old = h.all k n m e in record { i = suc old.i; w = old.w; is_there = old.is_there; from = old.from; to = old.to }

      here : from < length text → Solid text from → IsInWord (one ∷ ws) from
      here m e = record { i = 0; w = one; is_there = refl; from = omega arith; to = omega arith }

  abbrev longer : Word → Word
  longer w = word from (get_or text from 0 ∷ w.bytes)

  longer_run : (w : Word) → w.at ≡ from + 1 → Solid text from → IsRunFrom text (from + 1) w → IsRunFrom text from (longer w)
  longer_run w e solid r =
      let end : from + suc (length w.bytes) ≡ end_of w = omega arith in
      record {
        begin = omega arith;
        some = omega arith;
        within = omega (arith, r.within);
        bytes = ap (λ us. get_or text from 0 ∷ us) r.bytes ∙ slice_more text from w.at (end_of w) e (omega (arith, r.some)) r.within ∙ ap (slice_range text from) (sym end);
        solid = λ k l m. from_next (Solid text) from k l (λ n. r.solid k (omega arith) (omega arith)) solid;
        before = λ k l m. absurd (omega arith);
        behind = λ m. subst (White text) (sym end) (r.behind (omega arith));
      }

  joined : (w : Word) (ws : List Word) → w.at ≡ from + 1 → Solid text from → AreFrom text (from + 1) (w ∷ ws) → AreFrom text from (longer w ∷ ws)
  joined w ws e solid h = record {
    runs = runs;
    rising = rising;
    all = λ k l m. from_next (λ j. j < length text → Solid text j → IsInWord (longer w ∷ ws) j) from k l (later k) here m;
  }
    where
      run : IsRunFrom text (from + 1) w
      run = h.runs 0 w refl

      runs : (i : ℕ) (v : Word) → slice_get (longer w ∷ ws) i ≡ Some v → IsRunFrom text from v
      runs zero v f = let same : longer w ≡ v = cc in subst (IsRunFrom text from) same (longer_run w e solid run)
      runs (suc i) v f = let later = h.rising 0 (suc i) w v (omega arith) refl f in wider v (λ m. absurd (omega arith)) (h.runs (suc i) v f)

      rising : (i k : ℕ) (u v : Word) → i < k → slice_get (longer w ∷ ws) i ≡ Some u → slice_get (longer w ∷ ws) k ≡ Some v → u.at < v.at
      rising i zero u v l f g = absurd (omega arith)
      rising zero (suc k) u v l f g = let later = h.rising 0 (suc k) w v (omega arith) refl g in let same : longer w ≡ u = cc in let first : from ≡ u.at = ap (λ x. x.at) same in omega arith
      rising (suc i) (suc k) u v l f g = h.rising (suc i) (suc k) u v l f g

      moved : (k i : ℕ) (v : Word) → slice_get (w ∷ ws) i ≡ Some v → v.at ≤ k → k < end_of v → IsInWord (longer w ∷ ws) k
      moved k zero v f from_v to_v = let same : w ≡ v = cc in let first : w.at ≡ v.at = ap (λ x. x.at) same in let last : end_of w ≡ end_of v = ap end_of same in record { i = 0; w = longer w; is_there = refl; from = omega arith; to = omega arith }
      moved k (suc i) v f from_v to_v = record { i = suc i; w = v; is_there = f; from = from_v; to = to_v }

      later : (k : ℕ) → from + 1 ≤ k → k < length text → Solid text k → IsInWord (longer w ∷ ws) k
      later k n m f = let old = h.all k n m f in moved k old.i old.w old.is_there old.from old.to

      here : from < length text → Solid text from → IsInWord (longer w ∷ ws) from
      here m f = record { i = 0; w = longer w; is_there = refl; from = omega arith; to = omega arith }

  -- where the next byte is of a word, that word is the first, and begins there
  first_of_all : (ws : List Word) → from + 1 < length text → Solid text (from + 1) → AreFrom text (from + 1) ws → (v : Word) (vs : List Word) → ws ≡ v ∷ vs → v.at ≡ from + 1
  first_of_all ws inside solid h v vs e =
      let here = h.all (from + 1) (omega arith) inside solid in
      let is_first : slice_get ws 0 ≡ Some v = ap (λ us. slice_get us 0) e in
      let run = h.runs 0 v is_first in
      placed here.i here.w here.is_there here.from run.begin is_first
    where
      placed : (i : ℕ) (w : Word) → slice_get ws i ≡ Some w → w.at ≤ from + 1 → from + 1 ≤ v.at → slice_get ws 0 ≡ Some v → v.at ≡ from + 1
      placed zero w f l m g = let same : w ≡ v = cc in let first : w.at ≡ v.at = ap (λ x. x.at) same in omega arith
      placed (suc i) w f l m g = let later = h.rising 0 (suc i) v w (omega arith) g f in absurd (omega arith)

  one_step : (a b : Bool) (ws : List Word) → from < length text → is_space (get_or text from 0) ≡ a → begins_word (drop (from + 1) text) ≡ b → AreFrom text (from + 1) ws → AreFrom text from (cond a ws (with_byte from (get_or text from 0) b ws))
  one_step true b ws inside e f h = passed ws e h
  one_step false false ws inside e f h = alone ws inside e (ends (from + 1) text f) h
  one_step false true [] inside e f h = let next = begins (from + 1) text f in let in_word = h.all (from + 1) (omega arith) next.0 next.1 in absurd (cc (in_word.is_there))
  one_step false true (w ∷ ws) inside e f h = let next = begins (from + 1) text f in joined w ws (first_of_all (w ∷ ws) next.0 next.1 h w ws refl) e h

no_words_left : (text : List ℕ) (from : ℕ) → length text ≤ from → AreFrom text from []
no_words_left text from end = record {
  runs = λ i w e. absurd (cc);
  rising = λ i k v w l e f. absurd (cc);
  all = λ k l m e. absurd (omega arith);
}

words_step : (text : List ℕ) (from : ℕ) → from < length text → words from (drop from text) ≡ cond (is_space (get_or text from 0)) (words (from + 1) (drop (from + 1) text)) (with_byte from (get_or text from 0) (begins_word (drop (from + 1) text)) (words (from + 1) (drop (from + 1) text)))
words_step text from inside =
    let next : suc from ≡ from + 1 = omega arith in
    ap (words from) (drop-cons text from 0 inside)
    ∙ ap (λ m. cond (is_space (get_or text from 0)) (words (from + 1) (drop m text)) (with_byte from (get_or text from 0) (begins_word (drop m text)) (words (from + 1) (drop m text)))) next

words_from : (n : ℕ) (text : List ℕ) (from : ℕ) → from + n ≡ length text → AreFrom text from (words from (drop from text))
words_from zero text from size =
    let end : length text ≤ from = omega arith in
    let none : words from (drop from text) ≡ [] = ap (words from) (drop_all from text end) in
    subst (AreFrom text from) (sym none) (no_words_left text from end)
words_from (suc n) text from size =
    let inside : from < length text = omega arith in
    subst (AreFrom text from) (sym (words_step text from inside))
    (one_step text from (is_space (get_or text from 0)) (begins_word (drop (from + 1) text)) (words (from + 1) (drop (from + 1) text)) inside refl refl (words_from n text (from + 1) (omega arith)))

pub are_words : (text : List ℕ) → AreWords text (words 0 text)
are_words text =
    let h = words_from (length text) text 0 (omega arith) in
    record {
      runs = λ i w e. (let r = h.runs i w e in record { some = r.some; within = r.within; bytes = r.bytes; solid = r.solid; before = λ k m. r.before k (omega arith) m; behind = r.behind });
      rising = h.rising;
      all = λ k m e. (h.all k (omega arith) m e);
    }

-- two maximal runs that have a byte in common are one
module _ (text : List ℕ) where
  begins_last : (v w : Word) → IsRun text v → IsRun text w → w.at < end_of v → v.at ≤ w.at → v.at ≡ w.at
  begins_last v w p q l m = elim (cases_order v.at w.at) [ inl e ↦ e | inr o ↦ elim o [ inl h ↦ absurd (between h) | inr h ↦ absurd (omega arith) ] ]
    where
      between : v.at < w.at → ⊥
      between h = let white = q.before (w.at - 1) (omega arith) in let solid = p.solid (w.at - 1) (omega arith) (omega arith) in cc

  no_longer : (v w : Word) → IsRun text v → IsRun text w → v.at ≡ w.at → end_of v < end_of w → ⊥
  no_longer v w p q e l = let white = p.behind (omega (arith, q.within)) in let solid = q.solid (end_of v) (omega arith) l in cc

  same_runs : (v w : Word) → IsRun text v → IsRun text w → v.at ≡ w.at → v ≡ w
  same_runs v w p q e =
      let end : end_of v ≡ end_of w = elim (cases_order (end_of v) (end_of w)) [ inl f ↦ f | inr o ↦ elim o [ inl h ↦ absurd (no_longer v w p q e h) | inr h ↦ absurd (no_longer w v q p (sym e) h) ] ] in
      let bytes : v.bytes ≡ w.bytes = p.bytes ∙ ap₂ (λ a b. slice_range text a b) e end ∙ sym q.bytes in
      ap₂ word e bytes

  -- each of these words is one of those
  moved_word : (ws vs : List Word) → AreWords text ws → AreWords text vs → (i : ℕ) (w : Word) → slice_get ws i ≡ Some w → (k : ℕ) × (slice_get vs k ≡ Some w)
  moved_word ws vs h g i w e =
      let run = h.runs i w e in
      let there = g.all w.at (omega (arith, run.some, run.within)) (run.solid w.at (omega arith) (omega (arith, run.some))) in
      let other = g.runs there.i there.w there.is_there in
      let same = same_runs there.w w other run (begins_last there.w w other run there.to there.from) in
      (there.i, there.is_there ∙ ap Some same)

abbrev Rising : List Word → Type 0
Rising ws = (i k : ℕ) (v w : Word) → i < k → slice_get ws i ≡ Some v → slice_get ws k ≡ Some w → v.at < w.at

abbrev Among : List Word → List Word → Type 0
Among ws vs = (i : ℕ) (w : Word) → slice_get ws i ≡ Some w → (k : ℕ) × (slice_get vs k ≡ Some w)

least_first : (v w : Word) (vs : List Word) (k : ℕ) → Rising (v ∷ vs) → slice_get (v ∷ vs) k ≡ Some w → v.at ≤ w.at
least_first v w vs zero rising e = let same : v ≡ w = cc in let first : v.at ≡ w.at = ap (λ x. x.at) same in omega arith
least_first v w vs (suc k) rising e = let later = rising 0 (suc k) v w (omega arith) refl e in omega arith

first_same : (v w : Word) (vs : List Word) (k : ℕ) → Rising (v ∷ vs) → slice_get (v ∷ vs) k ≡ Some w → w.at ≤ v.at → v ≡ w
first_same v w vs zero rising e l = cc
first_same v w vs (suc k) rising e l = let later = rising 0 (suc k) v w (omega arith) refl e in absurd (omega arith)

tail_rising : (w : Word) (ws : List Word) → Rising (w ∷ ws) → Rising ws
tail_rising w ws rising i k u v l e f = rising (suc i) (suc k) u v (omega arith) e f

tail_among : (w : Word) (ws vs : List Word) → Rising (w ∷ ws) → Among (w ∷ ws) (w ∷ vs) → Among ws vs
tail_among w ws vs rising among i u e =
    let old = among (suc i) u e in
    let later = rising 0 (suc i) w u (omega arith) refl e in
    behind old.0 old.1 later
  where
    behind : (k : ℕ) → slice_get (w ∷ vs) k ≡ Some u → w.at < u.at → (j : ℕ) × (slice_get vs j ≡ Some u)
    behind zero f l = let same : w ≡ u = cc in let first : w.at ≡ u.at = ap (λ x. x.at) same in absurd (omega arith)
    behind (suc k) f l = (k, f)

-- rising words that are the same are one list
one_list : (ws vs : List Word) → Rising ws → Rising vs → Among ws vs → Among vs ws → ws ≡ vs
one_list [] [] p q a b = refl
one_list [] (v ∷ vs) p q a b = let in_none = b 0 v refl in absurd (cc (in_none.1))
one_list (w ∷ ws) [] p q a b = let in_none = a 0 w refl in absurd (cc (in_none.1))
one_list (w ∷ ws) (v ∷ vs) p q a b =
    let there = a 0 w refl in
    let here = b 0 v refl in
    let first : v ≡ w = first_same v w vs there.0 q there.1 (least_first w v ws here.0 p here.1) in
    let q' = subst (λ u. Rising (u ∷ vs)) first q in
    let a' = subst (λ u. Among (w ∷ ws) (u ∷ vs)) first a in
    let b' = subst (λ u. Among (u ∷ vs) (w ∷ ws)) first b in
    ap₂ (λ (u : Word) (us : List Word). u ∷ us) (sym first) (one_list ws vs (tail_rising w ws p) (tail_rising w vs q') (tail_among w ws vs p a') (tail_among w vs ws q' b'))

pub same_words : (text : List ℕ) (ws vs : List Word) → AreWords text ws → AreWords text vs → ws ≡ vs
same_words text ws vs h g = one_list ws vs h.rising g.rising (moved_word text ws vs h g) (moved_word text vs ws g h)
