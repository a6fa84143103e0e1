-- One more item of a list that a row reads or tests.
use Rattle.std.proofs.Common.{◌≡◌, ℕ, ℤ, ◌+◌, ◌<◌, ◌&&◌, List, [], ◌∷◌, ◌++◌, length, get_or, drop, take, set, map, ◌∙◌, Option, Some, None, option_map, refl, sym, ap, append_assoc}
use Rattle.std.specs.Prelude.{int_lt, unsigned_abs}
use Rattle.std.proofs.lemmas.List.{drop_more, take_more, take_more_set, map-append}
use Rattle.toml.specs.Data.{as_integer}
use Rattle.toml.specs.View.{view, items_view}
use Rattle.toml.specs.declared.value.Value.{Value}
use Rattle.rule_sheet.specs.Rows.{rises_from, join, integers_in}

pub rises_from-drop : (z : ℤ) (zs : List ℤ) (i : ℕ) (d : ℤ) → i < length zs → rises_from z (drop i zs) ≡ (int_lt z (get_or zs i d) && rises_from (get_or zs i d) (drop (i + 1) zs))
rises_from-drop z zs i d h = ap (rises_from z) (drop_more zs i d h)

pub integers_in-drop : (vs : List Value) (i : ℕ) (d : Value) → i < length vs → integers_in (items_view (drop i vs)) ≡ join (as_integer (view (get_or vs i d))) (integers_in (items_view (drop (i + 1) vs)))
integers_in-drop vs i d h = ap (λ rest. integers_in (items_view rest)) (drop_more vs i d h)

-- the numbers so far before those of the rest
abbrev pub with_front : List ℤ → Option (List ℤ) → Option (List ℤ)
with_front front o = option_map (λ zs. front ++ zs) o

pub with_front-join : (front : List ℤ) (z : ℤ) (o : Option (List ℤ)) → with_front front (join (Some z) o) ≡ with_front (front ++ z ∷ []) o
with_front-join front z None = refl
with_front-join front z (Some zs) = ap Some (sym (append_assoc front (z ∷ []) zs))

-- one more magnitude at the beginning of an array
pub magnitudes_more : (front : List ℕ) (zs : List ℤ) (k : ℕ) (d : ℤ) → k < length front → k < length zs → take k front ≡ map unsigned_abs (take k zs) → take (k + 1) (set front k (unsigned_abs (get_or zs k d))) ≡ map unsigned_abs (take (k + 1) zs)
magnitudes_more front zs k d h l e = take_more_set front k _ h ∙ ap (λ xs. xs ++ unsigned_abs (get_or zs k d) ∷ []) e ∙ sym (ap (map unsigned_abs) (take_more zs k d l) ∙ map-append unsigned_abs (take k zs) (get_or zs k d ∷ []))
