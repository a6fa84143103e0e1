-- What a list has, by recursion on it.
use Rattle.std.proofs.Common.{◌≡◌, ◌≢◌, ℕ, zero, suc, ◌<◌, List, [], ◌∷◌, ◌++◌, map, length, get_or, AllPairs, Contains, ap, sym, arith, ◌⊎◌, inl, inr, ⊎_elim}
use Rattle.std.proofs.lemmas.List.Elements.{Contains-append_right}

abbrev pub In : {X : Type 0} → List X → X → Type 0
In [] y = ⊥
In (x ∷ xs) y = (x ≡ y) ⊎ In xs y

pub contains : {X : Type 0} (xs : List X) (y : X) → In xs y → Contains xs y
contains [] y h = absurd h
contains (x ∷ xs) y h = ⊎_elim
    (λ e. (0, omega arith, e))
    (λ i. Contains-append_right (x ∷ []) xs y (contains xs y i))
    h

at_index : {X : Type 0} (xs : List X) (y : X) (k : ℕ) → k < length xs → get_or xs k y ≡ y → In xs y
at_index [] y k l e = absurd (omega arith)
at_index (x ∷ xs) y zero l e = inl e
at_index (x ∷ xs) y (suc k) l e = inr (at_index xs y k (omega arith) e)

pub is_in : {X : Type 0} (xs : List X) (y : X) → Contains xs y → In xs y
is_in xs y c = at_index xs y c.0 c.1 c.2

pub in_map : {X Y : Type 0} (f : X → Y) (xs : List X) (x : X) → In xs x → In (map f xs) (f x)
in_map f [] x h = h
in_map f (y ∷ ys) x h = ⊎_elim (λ e. inl (ap f e)) (λ i. inr (in_map f ys x i)) h

pub in_left : {X : Type 0} (xs ys : List X) (x : X) → In xs x → In (xs ++ ys) x
in_left [] ys x h = absurd h
in_left (y ∷ xs) ys x h = ⊎_elim (λ e. inl e) (λ i. inr (in_left xs ys x i)) h

pub in_right : {X : Type 0} (xs ys : List X) (x : X) → In ys x → In (xs ++ ys) x
in_right [] ys x h = h
in_right (y ∷ xs) ys x h = inr (in_right xs ys x h)

-- no element stands twice
abbrev pub Distinct : {X : Type 0} → List X → Type 0
Distinct [] = Unit {0}
Distinct (x ∷ xs) = ¬ (In xs x) × Distinct xs

pub distinct : {X : Type 0} (xs : List X) → AllPairs ◌≢◌ xs → Distinct xs
distinct [] h = tt
distinct (x ∷ xs) h = (
  λ i. let c = contains xs x i in h 0 (suc c.0) x (omega arith) (let l = c.1 in omega arith) (sym c.2),
  distinct xs (λ i j d l m. h (suc i) (suc j) d (omega arith) (omega arith)),
)
