-- Texts that are put one after the other, and the elements of a list that pass a test.
use Rattle.std.proofs.Common.{◌≡◌, ℕ, ◌+◌, ◌<◌, Bool, cond, List, [], ◌∷◌, ◌++◌, length, take, get_or, sym, ap, ◌∙◌, append_assoc}
use Rattle.std.proofs.lemmas.List.Elements.{filter_more}
use Rattle.std.specs.List.{filter}

pub two : (o p q a b : List ℕ) → p ≡ o ++ a → q ≡ p ++ b → q ≡ o ++ (a ++ b)
two o p q a b e f = f ∙ ap (λ t. t ++ b) e ∙ append_assoc o a b

pub three : (o p q r a b c : List ℕ) → p ≡ o ++ a → q ≡ p ++ b → r ≡ q ++ c → r ≡ o ++ (a ++ (b ++ c))
three o p q r a b c e f g = two o p r a (b ++ c) e (two p q r b c f g)

pub four : (o p q r s a b c d : List ℕ) → p ≡ o ++ a → q ≡ p ++ b → r ≡ q ++ c → s ≡ r ++ d → s ≡ o ++ (a ++ (b ++ (c ++ d)))
four o p q r s a b c d e f g h = two o p s a (b ++ (c ++ d)) e (three p q r s b c d f g h)

pub five : (o p q r s t a b c d v : List ℕ) → p ≡ o ++ a → q ≡ p ++ b → r ≡ q ++ c → s ≡ r ++ d → t ≡ s ++ v → t ≡ o ++ (a ++ (b ++ (c ++ (d ++ v))))
five o p q r s t a b c d v e f g h i = two o p t a (b ++ (c ++ (d ++ v))) e (four p q r s t b c d v f g h i)

pub six : (o p q r s t u a b c d v w : List ℕ) → p ≡ o ++ a → q ≡ p ++ b → r ≡ q ++ c → s ≡ r ++ d → t ≡ s ++ v → u ≡ t ++ w → u ≡ o ++ (a ++ (b ++ (c ++ (d ++ (v ++ w)))))
six o p q r s t u a b c d v w e f g h i j = two o p u a (b ++ (c ++ (d ++ (v ++ w)))) e (five p q r s t u b c d v w f g h i j)

pub filtered : {X : Type 0} (test : X → Bool) (xs : List X) (i : ℕ) (x : X) (b : Bool) → i < length xs → x ≡ get_or xs i x → test x ≡ b → filter test (take (i + 1) xs) ≡ filter test (take i xs) ++ cond b (x ∷ []) []
filtered test xs i x b at is passes =
    filter_more test xs i x at
    ∙ ap (λ y. filter test (take i xs) ++ cond (test y) (y ∷ []) []) (sym is)
    ∙ ap (λ v. filter test (take i xs) ++ cond v (x ∷ []) []) passes
