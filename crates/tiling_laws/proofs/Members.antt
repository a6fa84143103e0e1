-- What a list has that is searched or turned about, and partners in lists that go together.
use Rattle.std.proofs.Common.{◌≡◌, Bool, true, false, cond, Some, List, [], ◌∷◌, reverse, refl, subst, ◌⊎◌, inl, inr, ⊎_elim, find, option_to_list}
use Rattle.std.proofs.lemmas.List.Sorted.{IsPermutation-reverse, IsPermutation-sym, Contains-permutation}
use Rattle.std.specs.List.{AllZip}
use Rattle.plane_laws.proofs.Members.{In, contains, is_in}

pub from_find : {X : Type 0} (test : X → Bool) (xs : List X) (y : X) → In (option_to_list (find test xs)) y → In xs y
from_find test [] y h = absurd h
from_find test (x ∷ xs) y h = by_test (test x) (from_find test xs y) h
  where
    by_test : (b : Bool) → (In (option_to_list (find test xs)) y → In xs y) → In (option_to_list (cond b (Some x) (find test xs))) y → (x ≡ y) ⊎ In xs y
    by_test true f h = ⊎_elim (λ e. inl e) (λ n. absurd n) h
    by_test false f h = inr (f h)

-- partners in two lists that go together
pub partner : {X Y : Type 0} (R : X → Y → Type 0) (xs : List X) (ys : List Y) → AllZip R xs ys → (x : X) → In xs x → (y : Y) × In ys y × R x y
partner R [] ys z x h = absurd h
partner R (a ∷ xs) [] z x h = absurd z
partner R (a ∷ xs) (b ∷ ys) z x h = ⊎_elim
    (λ e. (b, inl refl, subst (λ w. R w b) e z.0))
    (λ i. let r = partner R xs ys z.1 x i in (r.0, inr r.1, r.2))
    h

pub partner_back : {X Y : Type 0} (R : X → Y → Type 0) (xs : List X) (ys : List Y) → AllZip R xs ys → (y : Y) → In ys y → (x : X) × In xs x × R x y
partner_back R [] [] z y h = absurd h
partner_back R [] (b ∷ ys) z y h = absurd z
partner_back R (a ∷ xs) [] z y h = absurd h
partner_back R (a ∷ xs) (b ∷ ys) z y h = ⊎_elim
    (λ e. (a, inl refl, subst (λ w. R a w) e z.0))
    (λ i. let r = partner_back R xs ys z.1 y i in (r.0, inr r.1, r.2))
    h

pub from_reverse : {X : Type 0} (xs : List X) (y : X) → In (reverse xs) y → In xs y
from_reverse xs y h = is_in xs y (Contains-permutation (reverse xs) xs y (IsPermutation-sym xs (reverse xs) (IsPermutation-reverse xs)) (contains (reverse xs) y h))
