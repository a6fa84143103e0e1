-- Segments of lists that are joined and don't coincide.
use Rattle.std.proofs.Common.{◌≡◌, ◌≢◌, false, List, [], ◌∷◌, ◌++◌, flat_map, sym, ◌∙◌, subst, ⊎_elim}
use Rattle.std.specs.List.{AllByRecursion, IsDistinct}
use Rattle.tiling_laws.proofs.Coinciding.{coincide, flips}
use Rattle.plane_geom.specs.declared.Seg.{Seg}
use Rattle.plane_laws.proofs.Lists.{in_flat_map}
use Rattle.plane_laws.proofs.Members.{In, in_right}

met : (a : Seg) (xs : List Seg) (b : Seg) → AllByRecursion (λ y. coincide a y ≡ false) xs → In xs b → coincide a b ≡ false
met a [] b h i = absurd i
met a (x ∷ xs) b h i = ⊎_elim (λ e. subst (λ z. coincide a z ≡ false) e h.0) (λ j. met a xs b h.1 j) i

pub distinct_right : (xs ys : List Seg) → IsDistinct coincide (xs ++ ys) → IsDistinct coincide ys
unfolding IsDistinct
distinct_right [] ys h = h
distinct_right (x ∷ xs) ys h = distinct_right xs ys h.1

front : (P : Seg → Type 0) (xs ys : List Seg) → AllByRecursion P (xs ++ ys) → AllByRecursion P xs
front P [] ys h = tt
front P (x ∷ xs) ys h = (h.0, front P xs ys h.1)

pub distinct_left : (xs ys : List Seg) → IsDistinct coincide (xs ++ ys) → IsDistinct coincide xs
unfolding IsDistinct
distinct_left [] ys h = tt
distinct_left (x ∷ xs) ys h = (front (λ y. coincide x y ≡ false) xs ys h.0, distinct_left xs ys h.1)

across : (xs ys : List Seg) (a b : Seg) → IsDistinct coincide (xs ++ ys) → In xs a → In ys b → coincide a b ≡ false
unfolding IsDistinct
across [] ys a b h i j = absurd i
across (x ∷ xs) ys a b h i j = ⊎_elim
    (λ e. subst (λ z. coincide z b ≡ false) e (met x (xs ++ ys) b h.0 (in_right xs ys b j)))
    (λ k. across xs ys a b h.1 k j)
    i

-- each part is distinct
pub distinct_part : {X : Type 0} (g : X → List Seg) (xs : List X) (x : X) → IsDistinct coincide (flat_map g xs) → In xs x → IsDistinct coincide (g x)
distinct_part g [] x h i = absurd i
distinct_part g (y ∷ ys) x h i = ⊎_elim
    (λ e. subst (λ z. IsDistinct coincide (g z)) e (distinct_left (g y) (flat_map g ys) h))
    (λ j. distinct_part g ys x (distinct_right (g y) (flat_map g ys) h) j)
    i

-- and segments of two parts don't coincide
pub parts_apart : {X : Type 0} (g : X → List Seg) (xs : List X) (x y : X) (a b : Seg) → IsDistinct coincide (flat_map g xs) → In xs x → In xs y → x ≢ y → In (g x) a → In (g y) b → coincide a b ≡ false
parts_apart g [] x y a b h i j n k l = absurd i
parts_apart g (z ∷ zs) x y a b h i j n k l = ⊎_elim
    (λ (e : z ≡ x). ⊎_elim
    (λ (f : z ≡ y). absurd (n (sym e ∙ f)))
    (λ (f : In zs y). across (g z) (flat_map g zs) a b h (subst (λ w. In (g w) a) (sym e) k) (in_flat_map g zs y b f l))
    j)
    (λ (e : In zs x). ⊎_elim
    (λ (f : z ≡ y). flips a b ∙ across (g z) (flat_map g zs) b a h (subst (λ w. In (g w) b) (sym f) l) (in_flat_map g zs x a e k))
    (λ (f : In zs y). parts_apart g zs x y a b (distinct_right (g z) (flat_map g zs) h) e f n k l)
    j)
    i
