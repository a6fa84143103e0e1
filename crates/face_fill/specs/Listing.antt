-- What stands in a list that is made of lists.
use Rattle.std.proofs.Common.{◌≡◌, ℕ, zero, suc, ◌+◌, ◌-◌, ◌<◌, ◌≤◌, ◌⊎◌, inl, inr, ⊎_elim, List, [], ◌∷◌, map, refl, sym, ap, ◌∙◌, subst, arith}
use Rattle.std.specs.Prelude.{Contains, flat_map}
use Rattle.std.specs.List.{range_with_len}
use Rattle.std.proofs.lemmas.List.{length-map, get_or-map}
use Rattle.std.proofs.lemmas.List.Elements.{Contains-append_left, Contains-append_right, Contains-append_cases}
use Rattle.std.proofs.lemmas.List.FromFn.{length-range_with_len, get_or-range_with_len}

pub in_nothing : {X : Type 0} (x : X) → Contains [] x → ⊥
in_nothing x c = omega (arith, c.1)

pub in_first : {X : Type 0} (x : X) (xs : List X) → Contains (x ∷ xs) x
in_first x xs = (0, omega arith, refl)

pub in_rest : {X : Type 0} (y x : X) (xs : List X) → Contains xs x → Contains (y ∷ xs) x
in_rest y x xs c = (suc c.0, omega (arith, c.1), c.2)

pub in_either : {X : Type 0} (y x : X) (xs : List X) → Contains (y ∷ xs) x → (y ≡ x) ⊎ Contains xs x
in_either y x xs (zero, l, e) = inl e
in_either y x xs (suc k, l, e) = inr (k, omega (arith, l), e)

pub in_map : {X Y : Type 0} (g : X → Y) (xs : List X) (x : X) → Contains xs x → Contains (map g xs) (g x)
in_map g xs x c = (c.0, omega (arith, c.1, length-map xs g), get_or-map g xs c.0 x (g x) c.1 ∙ ap g c.2)

pub of_map : {X Y : Type 0} (g : X → Y) (xs : List X) (y : Y) → Contains (map g xs) y → (x : X) × Contains xs x × (g x ≡ y)
of_map g [] y c = absurd (in_nothing y c)
of_map g (x ∷ xs) y c = ⊎_elim
    (λ e. (x, in_first x xs, e))
    (λ d. let r = of_map g xs y d in (r.0, in_rest x r.0 xs r.1, r.2))
    (in_either (g x) y (map g xs) c)

pub in_flat_map : {X Y : Type 0} (g : X → List Y) (xs : List X) (x : X) (y : Y) → Contains xs x → Contains (g x) y → Contains (flat_map g xs) y
in_flat_map g [] x y c d = absurd (in_nothing x c)
in_flat_map g (z ∷ xs) x y c d = ⊎_elim
    (λ e. Contains-append_left (g z) (flat_map g xs) y (subst (λ w. Contains (g w) y) (sym e) d))
    (λ i. Contains-append_right (g z) (flat_map g xs) y (in_flat_map g xs x y i d))
    (in_either z x xs c)

pub of_flat_map : {X Y : Type 0} (g : X → List Y) (xs : List X) (y : Y) → Contains (flat_map g xs) y → (x : X) × Contains xs x × Contains (g x) y
of_flat_map g [] y c = absurd (in_nothing y c)
of_flat_map g (x ∷ xs) y c = ⊎_elim
    (λ d. (x, in_first x xs, d))
    (λ d. let r = of_flat_map g xs y d in (r.0, in_rest x r.0 xs r.1, r.2))
    (Contains-append_cases (g x) (flat_map g xs) y c)

pub in_range : (a n x : ℕ) → a ≤ x → x < a + n → Contains (range_with_len a n) x
in_range a n x l h = (x - a, omega (arith, l, h, length-range_with_len a n), get_or-range_with_len a n (x - a) x (omega (arith, l, h)) ∙ omega (arith, l))

pub of_range : (a n x : ℕ) → Contains (range_with_len a n) x → (a ≤ x) × (x < a + n)
of_range a n x c =
    let l : c.0 < n = omega (arith, c.1, length-range_with_len a n) in
    let e : a + c.0 ≡ x = sym (get_or-range_with_len a n c.0 x l) ∙ c.2 in
    (omega (arith, e), omega (arith, e, l))
