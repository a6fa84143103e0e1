-- The parity of the segments that pass a point's height east of it is that of their winding number.
use Rattle.std.proofs.Common.{◌≡◌, ℤ, pos, negsuc, ◌+ℤ◌, Bool, true, false, cond, ◌||◌, List, [], ◌∷◌, fold, IsTrue, IsFalse, IsPermutation, ◌↔◌, refl, subst, sym, arith}
use Rattle.std.proofs.lemmas.Int.{ints}
use Rattle.plane_geom.specs.Geom.{passes, odd_of, turn_of, winding_number, falls_east, rises_east, xor}
use Rattle.plane_geom.specs.declared.Point.{Point}
use Rattle.plane_geom.specs.declared.Seg.{Seg}
use Rattle.plane_laws.specs.CountLaws.{IsOdd, IsEven}
use Rattle.plane_laws.proofs.Counts.{counts_in_any_order}

-- a number is odd or even as a flag says
abbrev Parity : ℤ → Bool → Type 0
Parity z b = (k : ℤ) × (z ≡ (k +ℤ k) +ℤ cond b (pos 1) (pos 0))

-- one turn more
one_more : (z : ℤ) (b f r : Bool) → Parity z b → Parity (z +ℤ cond f (pos 1) (cond r (negsuc 0) (pos 0))) (xor b (f || r))
one_more z true true r h = (h.0 +ℤ pos 1, omega (arith, ints, h.1))
one_more z true false true h = (h.0, omega (arith, ints, h.1))
one_more z true false false h = (h.0, omega (arith, ints, h.1))
one_more z false true r h = (h.0, omega (arith, ints, h.1))
one_more z false false true h = (h.0 +ℤ negsuc 0, omega (arith, ints, h.1))
one_more z false false false h = (h.0, omega (arith, ints, h.1))

parity_from : (p : Point) (segs : List Seg) (z : ℤ) (b : Bool) → Parity z b → Parity (fold (λ t s. t +ℤ turn_of s p) z segs) (fold (λ t s. xor t (passes s p)) b segs)
parity_from p [] z b h = h
parity_from p (s ∷ segs) z b h = parity_from p segs (z +ℤ turn_of s p) (xor b (passes s p)) (one_more z b (falls_east s p) (rises_east s p) h)

parity : (segs : List Seg) (p : Point) → Parity (winding_number segs p) (odd_of segs p)
parity segs p = parity_from p segs (pos 0) false (pos 0, refl)

odd_is : (z : ℤ) (b : Bool) → Parity z b → IsTrue b ↔ IsOdd z
odd_is z true h = (λ t. h, λ o. refl)
odd_is z false h = (λ t. absurd (cc), λ o. absurd (omega (arith, ints, h.1, o.1)))

even_is : (z : ℤ) (b : Bool) → Parity z b → IsFalse b ↔ IsEven z
even_is z true h = (λ t. absurd (cc), λ o. absurd (omega (arith, ints, h.1, o.1)))
even_is z false h = (λ t. (h.0, omega (arith, ints, h.1)), λ o. refl)

pub odd_count : (segs : List Seg) (p : Point) → IsTrue (odd_of segs p) ↔ IsOdd (winding_number segs p)
odd_count segs p = odd_is (winding_number segs p) (odd_of segs p) (parity segs p)

pub even_count : (segs : List Seg) (p : Point) → IsFalse (odd_of segs p) ↔ IsEven (winding_number segs p)
even_count segs p = even_is (winding_number segs p) (odd_of segs p) (parity segs p)

same_parity : (z : ℤ) (a b : Bool) → Parity z a → Parity z b → a ≡ b
same_parity z true true h k = refl
same_parity z true false h k = absurd (omega (arith, ints, h.1, k.1))
same_parity z false true h k = absurd (omega (arith, ints, h.1, k.1))
same_parity z false false h k = refl

pub odd_in_any_order : (xs ys : List Seg) (p : Point) → IsPermutation xs ys → odd_of xs p ≡ odd_of ys p
odd_in_any_order xs ys p h = same_parity (winding_number xs p) (odd_of xs p) (odd_of ys p) (parity xs p) (subst (λ z. Parity z (odd_of ys p)) (sym (counts_in_any_order xs ys p h)) (parity ys p))
