-- Where no two records have one number, none before a record has its number.
use Rattle.std.proofs.Common.{◌≡◌, ◌≢◌, ℕ, suc, None, List, [], ◌∷◌, ◌++◌, length, map, get_or, refl, sym, ap, ◌∙◌, arith, ◌<◌, length-append}
use Rattle.std.specs.Prelude.{find, AllPairs}
use Rattle.std.proofs.lemmas.Bool.{ne_eqb}
use Rattle.std.proofs.lemmas.List.{map-append, length-map, get_or_at}
use Rattle.record_table.specs.Records.{is_numbered}

module _ {X : Type 0} (number : X → ℕ) where
  number_between : (xs ys : List X) (x : X) (d : ℕ) → get_or (map number (xs ++ x ∷ ys)) (length xs) d ≡ number x
  number_between xs ys x d =
      ap (λ ns. get_or ns (length xs) d) (map-append number xs (x ∷ ys))
      ∙ get_or_at (map number xs) (number x) (map number ys) d (length xs) (length-map xs number)

  pub none_before : (xs ys : List X) (x : X) → AllPairs ◌≢◌ (map number (xs ++ x ∷ ys)) → find (is_numbered number (number x)) xs ≡ None
  none_before [] ys x single = refl
  none_before (y ∷ xs) ys x single =
      let inside : suc (length xs) < length (map number (y ∷ (xs ++ x ∷ ys))) = omega (arith, length-map (xs ++ x ∷ ys) number, length-append xs (x ∷ ys)) in
      let other : number y ≡ number x → ⊥ = λ same. single 0 (suc (length xs)) 0 (omega arith) inside (same ∙ sym (number_between xs ys x 0)) in
      rw (ne_eqb (number y) (number x) other) (none_before xs ys x (λ i j d below within. single (suc i) (suc j) d (omega arith) (omega arith)))
