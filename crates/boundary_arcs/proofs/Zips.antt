-- Lists that are zipped.
use Rattle.std.proofs.Common.{◌≡◌, ℕ, zero, suc, ◌<◌, List, [], ◌∷◌, ◌++◌, length, get_or, refl, ap, arith}
use Rattle.std.specs.List.{AllZip}

-- of two zipped lists what is at one place
pub AllZip-at : {A B : Type 0} (R : A → B → Type 0) (xs : List A) (ys : List B) (i : ℕ) (d : A) (e : B) → AllZip R xs ys → i < length xs → R (get_or xs i d) (get_or ys i e)
AllZip-at R [] ys i d e h l = absurd (omega arith)
AllZip-at R (x ∷ xs) [] i d e h l = absurd h
AllZip-at R (x ∷ xs) (y ∷ ys) zero d e h l = h.0
AllZip-at R (x ∷ xs) (y ∷ ys) (suc i) d e h l = AllZip-at R xs ys i d e h.1 (omega arith)

pub AllZip-length : {A B : Type 0} (R : A → B → Type 0) (xs : List A) (ys : List B) → AllZip R xs ys → length xs ≡ length ys
AllZip-length R [] [] h = refl
AllZip-length R [] (y ∷ ys) h = absurd h
AllZip-length R (x ∷ xs) [] h = absurd h
AllZip-length R (x ∷ xs) (y ∷ ys) h = ap suc (AllZip-length R xs ys h.1)

pub AllZip-add : {A B : Type 0} (R : A → B → Type 0) (xs : List A) (ys : List B) (x : A) (y : B) → AllZip R xs ys → R x y → AllZip R (xs ++ x ∷ []) (ys ++ y ∷ [])
AllZip-add R [] [] x y h r = (r, tt)
AllZip-add R [] (b ∷ bs) x y h r = absurd h
AllZip-add R (a ∷ xs) [] x y h r = absurd h
AllZip-add R (a ∷ xs) (b ∷ bs) x y h r = (h.0, AllZip-add R xs bs x y h.1 r)

pub AllZip-weaker : {A B : Type 0} (R S : A → B → Type 0) → ((x : A) (y : B) → R x y → S x y) → (xs : List A) (ys : List B) → AllZip R xs ys → AllZip S xs ys
AllZip-weaker R S f [] [] h = tt
AllZip-weaker R S f [] (b ∷ bs) h = absurd h
AllZip-weaker R S f (a ∷ xs) [] h = absurd h
AllZip-weaker R S f (a ∷ xs) (b ∷ bs) h = (f a b h.0, AllZip-weaker R S f xs bs h.1)

-- lists of one length are zipped where what is at each place is related
pub AllZip-from_at : {A B : Type 0} (R : A → B → Type 0) (d : A) (e : B) (xs : List A) (ys : List B) → length xs ≡ length ys → ((i : ℕ) → i < length xs → R (get_or xs i d) (get_or ys i e)) → AllZip R xs ys
AllZip-from_at R d e [] [] w h = tt
AllZip-from_at R d e [] (b ∷ bs) w h = absurd (omega (arith, w))
AllZip-from_at R d e (a ∷ xs) [] w h = absurd (omega (arith, w))
AllZip-from_at R d e (a ∷ xs) (b ∷ bs) w h = (h 0 (omega arith), AllZip-from_at R d e xs bs (omega (arith, w)) (λ i l. h (suc i) (omega (arith, l))))
