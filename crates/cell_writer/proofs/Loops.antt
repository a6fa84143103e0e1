-- A step of a loop that appends what is to come.
use Rattle.std.proofs.Common.{◌≡◌, ℕ, ◌+◌, ◌<◌, ◌≤◌, List, ◌∷◌, ◌++◌, length, get_or, drop, take, subst, sym, ap, ◌∙◌, append_assoc}
use Rattle.std.specs.List.{All}
use Rattle.std.proofs.lemmas.List.{at_drop_more, take_all}
use Rattle.std.proofs.lemmas.List.Elements.{All-more}

-- g says what is appended for a list, and f for its first element
pub more : {X : Type 0} (g : List X → List ℕ) (f : X → List ℕ) (xs : List X) (k : ℕ) (x : X) (out next whole : List ℕ)
    → k < length xs → x ≡ get_or xs k x → g (x ∷ drop (k + 1) xs) ≡ f x ++ g (drop (k + 1) xs) → next ≡ out ++ f x → out ++ g (drop k xs) ≡ whole
    → next ++ g (drop (k + 1) xs) ≡ whole
more g f xs k x out next whole lt is unfolds put so =
    let front : g (drop k xs) ≡ f x ++ g (drop (k + 1) xs) = at_drop_more g xs k x lt ∙ ap (λ y. g (y ∷ drop (k + 1) xs)) (sym is) ∙ unfolds in
    ap (λ t. t ++ g (drop (k + 1) xs)) put ∙ append_assoc out (f x) (g (drop (k + 1) xs)) ∙ ap (λ t. out ++ t) (sym front) ∙ so

-- what holds of the first k, and of the next, holds of the first k + 1
pub one_more : {X : Type 0} (P : X → Type 0) (xs : List X) (k : ℕ) (x : X) → k < length xs → x ≡ get_or xs k x → All P (take k xs) → P x → All P (take (k + 1) xs)
one_more P xs k x lt is so here = All-more P xs k x lt so (subst P is here)

-- what holds of all k that there are holds of all
pub all_through : {X : Type 0} (P : X → Type 0) (xs : List X) (k : ℕ) → length xs ≤ k → All P (take k xs) → All P xs
all_through P xs k le so = subst (All P) (take_all k xs le) so
