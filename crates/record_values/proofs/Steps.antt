-- One step of each loop.
use Rattle.std.proofs.Common.{◌≡◌, ℕ, suc, zero, ◌+◌, List, [], ◌∷◌, ◌++◌, take, map, Option, Some, None, refl, sym, ap, ◌∙◌, arith, append_assoc, flat_map, option_to_list, option_map}
use Rattle.std.proofs.lemmas.List.{append-nil, map_more}
use Rattle.std.proofs.lemmas.Option.{slice_get_within, get_or_from_slice_get}
use Rattle.std.specs.List.{range_with_len, slice_get}
use Rattle.record_values.specs.Groups.{each}

each_from : {X : Type 0} (g : ℕ → List X) (a n : ℕ) → flat_map g (range_with_len a (suc n)) ≡ flat_map g (range_with_len a n) ++ g (a + n)
each_from g a zero = let here : a + 0 ≡ a = omega arith in append-nil (g a) ∙ ap g (sym here)
each_from g a (suc n) =
    let there : (a + 1) + n ≡ a + suc n = omega arith in
    let more : flat_map g (range_with_len (a + 1) (suc n)) ≡ flat_map g (range_with_len (a + 1) n) ++ g (a + suc n) = each_from g (a + 1) n ∙ ap (λ k. flat_map g (range_with_len (a + 1) n) ++ g k) there in
    ap (λ l. g a ++ l) more ∙ sym (append_assoc (g a) (flat_map g (range_with_len (a + 1) n)) (g (a + suc n)))

-- one more of a list of what is there under each number
pub each_more : {X : Type 0} (f : ℕ → Option X) (k : ℕ) → each f (k + 1) ≡ each f k ++ option_to_list (f k)
each_more f k =
    let next : k + 1 ≡ suc k = omega arith in
    let here : 0 + k ≡ k = omega arith in
    ap (each f) next ∙ each_from (λ n. option_to_list (f n)) 0 k ∙ ap (λ n. each f k ++ option_to_list (f n)) here

seen_at : {X Y : Type 0} (view : X → Y) (xs : List X) (k : ℕ) (y : Y) (o : Option X) → slice_get xs k ≡ o → option_map view o ≡ Some y → map view (take (k + 1) xs) ≡ map view (take k xs) ++ y ∷ []
seen_at view xs k y None at e = cc
seen_at view xs k y (Some x) at e =
    let is : view x ≡ y = cc in
    map_more view xs k x (slice_get_within xs k x at) ∙ ap (λ z. map view (take k xs) ++ z ∷ []) (ap view (get_or_from_slice_get xs k x x at) ∙ is)

-- one more element of a list, seen
pub seen_more : {X Y : Type 0} (view : X → Y) (xs : List X) (k : ℕ) (y : Y) → option_map view (slice_get xs k) ≡ Some y → map view (take (k + 1) xs) ≡ map view (take k xs) ++ y ∷ []
seen_more view xs k y e = seen_at view xs k y (slice_get xs k) refl e

-- the same behind a list
pub each_appended : {X : Type 0} (f : ℕ → Option X) (k : ℕ) (old before after : List X) (found : Option X) → before ≡ old ++ each f k → found ≡ f k → after ≡ before ++ option_to_list found → after ≡ old ++ each f (k + 1)
each_appended f k old before after found e is h =
    h ∙ ap (λ l. l ++ option_to_list found) e ∙ ap (λ o. (old ++ each f k) ++ option_to_list o) is ∙ append_assoc old (each f k) (option_to_list (f k)) ∙ ap (λ l. old ++ l) (sym (each_more f k))
