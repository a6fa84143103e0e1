-- The pairs of a header by their places in the list of words.
use Rattle.std.proofs.Common.{◌≡◌, ℕ, zero, suc, ◌+◌, ◌*◌, ◌<◌, List, [], ◌∷◌, length, drop, cond, is_some, Option, Some, None, refl, sym, ap, subst, ◌∙◌, inl, inr, arith}
use Rattle.std.specs.List.{slice_get}
use Rattle.std.specs.Option.{IsSome}
use Rattle.std.proofs.lemmas.Bool.{cases_order}
use Rattle.grid_reader.specs.declared.key.Key.{Key}
use Rattle.grid_reader.specs.Words.{Word}
use Rattle.grid_reader.specs.Keys.{key_of}
use Rattle.grid_reader.specs.Header.{Pair, with_pair, pairs, values}
use Rattle.grid_reader.specs.Stands.{key_at}

-- what stands at a place within a list
pub there : {X : Type 0} (xs : List X) (k : ℕ) → k < length xs → (x : X) × (slice_get xs k ≡ Some x)
there [] k l = absurd (omega arith)
there (x ∷ xs) zero l = (x, refl)
there (x ∷ xs) (suc k) l = there xs k (omega arith)

-- a pair is the words at two places
pub record IsPairAt (ws : List Word) (k : ℕ) (p : Pair) : Type 0 where
  pub spelled : key_at ws (2 * k) ≡ Some p.key
  pub valued : p.value ≡ slice_get ws (2 * k + 1)

further : (w v : Word) (ws : List Word) (k : ℕ) (p : Pair) → IsPairAt ws k p → IsPairAt (w ∷ v ∷ ws) (suc k) p
further w v ws k p h =
    let first : 2 * suc k ≡ suc (suc (2 * k)) = omega arith in
    let second : 2 * suc k + 1 ≡ suc (suc (2 * k + 1)) = omega arith in
    record {
      spelled = ap (key_at (w ∷ v ∷ ws)) first ∙ h.spelled;
      valued = h.valued ∙ sym (ap (slice_get (w ∷ v ∷ ws)) second);
    }

pub pair_at : (ws : List Word) (k : ℕ) (p : Pair) → slice_get (pairs ws) k ≡ Some p → IsPairAt ws k p
pair_at [] k p e = absurd (cc)
pair_at (w ∷ []) k p e = single (key_of w.bytes) refl k e
  where
    single : (o : Option Key) → key_of w.bytes ≡ o → (k : ℕ) → slice_get (with_pair o w.at None []) k ≡ Some p → IsPairAt (w ∷ []) k p
    single None f k e = absurd (cc)
    single (Some key) f zero e =
        let pair : Pair = record { key = key; at = w.at; value = None } in
        let same : pair ≡ p = cc in
        subst (IsPairAt (w ∷ []) 0) same (record { spelled = f; valued = refl })
    single (Some key) f (suc k) e = absurd (cc)
pair_at (w ∷ v ∷ ws) k p e = whole (λ j. pair_at ws j p) (key_of w.bytes) refl k e
  where
    whole : ((j : ℕ) → slice_get (pairs ws) j ≡ Some p → IsPairAt ws j p) → (o : Option Key) → key_of w.bytes ≡ o → (k : ℕ) → slice_get (with_pair o w.at (Some v) (pairs ws)) k ≡ Some p → IsPairAt (w ∷ v ∷ ws) k p
    whole rest None f k e = absurd (cc)
    whole rest (Some key) f zero e =
        let pair : Pair = record { key = key; at = w.at; value = Some v } in
        let same : pair ≡ p = cc in
        subst (IsPairAt (w ∷ v ∷ ws) 0) same (record { spelled = f; valued = refl })
    whole rest (Some key) f (suc k) e = further w v ws k p (rest k e)

-- behind the pairs no key stands
pub pairs_end : (ws : List Word) → key_at ws (2 * length (pairs ws)) ≡ None
pairs_end [] = refl
pairs_end (w ∷ []) = single (key_of w.bytes) refl
  where
    single : (o : Option Key) → key_of w.bytes ≡ o → key_at (w ∷ []) (2 * length (with_pair o w.at None [])) ≡ None
    single None f = f
    single (Some key) f = refl
pairs_end (w ∷ v ∷ ws) = whole (pairs_end ws) (key_of w.bytes) refl
  where
    whole : key_at ws (2 * length (pairs ws)) ≡ None → (o : Option Key) → key_of w.bytes ≡ o → key_at (w ∷ v ∷ ws) (2 * length (with_pair o w.at (Some v) (pairs ws))) ≡ None
    whole rest None f = f
    whole rest (Some key) f =
        let two : 2 * suc (length (pairs ws)) ≡ suc (suc (2 * length (pairs ws))) = omega arith in
        ap (key_at (w ∷ v ∷ ws)) two ∙ rest

-- the values are the words behind the pairs
pub values_behind : (ws : List Word) → values ws ≡ drop (2 * length (pairs ws)) ws
values_behind [] = refl
values_behind (w ∷ []) = single (key_of w.bytes)
  where
    single : (o : Option Key) → cond (is_some o) [] (w ∷ []) ≡ drop (2 * length (with_pair o w.at None [])) (w ∷ [])
    single None = refl
    single (Some key) = refl
values_behind (w ∷ v ∷ ws) = whole (values_behind ws) (key_of w.bytes)
  where
    whole : values ws ≡ drop (2 * length (pairs ws)) ws → (o : Option Key) → cond (is_some o) (values ws) (w ∷ (v ∷ ws)) ≡ drop (2 * length (with_pair o w.at (Some v) (pairs ws))) (w ∷ (v ∷ ws))
    whole rest None = refl
    whole rest (Some key) =
        let two : 2 * suc (length (pairs ws)) ≡ suc (suc (2 * length (pairs ws))) = omega arith in
        rest ∙ sym (ap (λ n. drop n (w ∷ (v ∷ ws))) two)

-- so many keys and then none: so many pairs
pub pair_count : (ws : List Word) (n : ℕ) → ((k : ℕ) → k < n → IsSome (key_at ws (2 * k))) → key_at ws (2 * n) ≡ None → length (pairs ws) ≡ n
pair_count ws n keys none = elim (cases_order (length (pairs ws)) n) [ inl e ↦ e | inr o ↦ elim o [ inl h ↦ absurd (fewer h) | inr h ↦ absurd (more h) ] ]
  where
    fewer : length (pairs ws) < n → ⊥
    fewer h = let some = keys (length (pairs ws)) h in let end = pairs_end ws in cc

    more : n < length (pairs ws) → ⊥
    more h = let p = there (pairs ws) n h in let pair = pair_at ws n p.0 p.1 in cc (pair.spelled, none)
