-- Signed counts of lists and of walks.
use Rattle.std.proofs.Common.{◌≡◌, ℤ, pos, ◌+ℤ◌, ◌-ℤ◌, neg_ℤ, List, [], ◌∷◌, ◌++◌, reverse, IsPermutation, refl, ap, ap₂, sym, ◌∙◌, arith}
use Rattle.std.proofs.lemmas.Int.{ints}
use Rattle.std.proofs.lemmas.List.{reverse-append}
use Rattle.plane_geom.specs.Geom.{cross_of, turn_of, winding_number}
use Rattle.plane_geom.specs.Segments.{joins, turned}
use Rattle.plane_geom.specs.declared.Point.{Point}
use Rattle.plane_geom.specs.declared.Seg.{Seg}
use Rattle.plane_laws.specs.Outlines.{seg}
use Rattle.plane_laws.specs.Borders.{total}
use Rattle.plane_laws.proofs.Algebra.{ring, V, Sub, Mul, Neg}
use Rattle.plane_laws.proofs.Passing.{passes_back, passes_level}
use Rattle.plane_laws.proofs.Sums.{total-append, total-IsPermutation, fold_total}

abbrev pub count : Point → List Seg → ℤ
count p segs = total (λ s. turn_of s p) segs

pub count_is : (segs : List Seg) (p : Point) → winding_number segs p ≡ count p segs
count_is segs p = fold_total (λ s. turn_of s p) (pos 0) segs ∙ zero_left (count p segs)
  where
    zero_left : (z : ℤ) → pos 0 +ℤ z ≡ z
    zero_left z = omega (arith, ints)

pub counts_add : (xs ys : List Seg) (p : Point) → winding_number (xs ++ ys) p ≡ winding_number xs p +ℤ winding_number ys p
counts_add xs ys p = count_is (xs ++ ys) p ∙ total-append (λ s. turn_of s p) xs ys ∙ sym (ap₂ ◌+ℤ◌ (count_is xs p) (count_is ys p))

pub counts_in_any_order : (xs ys : List Seg) (p : Point) → IsPermutation xs ys → winding_number xs p ≡ winding_number ys p
counts_in_any_order xs ys p h = count_is xs p ∙ total-IsPermutation (λ s. turn_of s p) xs ys h ∙ sym (count_is ys p)

pub turns_back : (s : Seg) (p : Point) → turn_of (turned s) p ≡ neg_ℤ (turn_of s p)
turns_back s p =
    let e : cross_of p s.b s.a ≡ neg_ℤ (cross_of p s.a s.b) = ring (Sub (Mul (V (s.b.x -ℤ p.x)) (V (s.a.y -ℤ p.y))) (Mul (V (s.b.y -ℤ p.y)) (V (s.a.x -ℤ p.x)))) (Neg (Sub (Mul (V (s.a.x -ℤ p.x)) (V (s.b.y -ℤ p.y))) (Mul (V (s.a.y -ℤ p.y)) (V (s.b.x -ℤ p.x))))) (omega arith) in
    passes_back p.y s.a.y s.b.y (cross_of p s.a s.b) (cross_of p s.b s.a) e

pub points_count_nothing : (a p : Point) → turn_of (seg a a) p ≡ pos 0
points_count_nothing a p = passes_level p.y a.y a.y (cross_of p a a) refl

-- a walk, cut at one of its points
pub walk_adds : (p : Point) (before : List Point) (q : Point) (after : List Point) → count p (joins (before ++ q ∷ after)) ≡ count p (joins (before ++ q ∷ [])) +ℤ count p (joins (q ∷ after))
walk_adds p [] q after = omega (arith, ints)
walk_adds p (a ∷ []) q after = omega (arith, ints)
walk_adds p (a ∷ b ∷ before) q after = omega (arith, ints, walk_adds p (b ∷ before) q after)

pub walks_add : (before : List Point) (q : Point) (after : List Point) (p : Point) → winding_number (joins (before ++ q ∷ after)) p ≡ winding_number (joins (before ++ q ∷ [])) p +ℤ winding_number (joins (q ∷ after)) p
walks_add before q after p = count_is _ p ∙ walk_adds p before q after ∙ sym (ap₂ ◌+ℤ◌ (count_is (joins (before ++ q ∷ [])) p) (count_is (joins (q ∷ after)) p))

walk_back : (p : Point) (points : List Point) → count p (joins (reverse points)) ≡ neg_ℤ (count p (joins points))
walk_back p [] = refl
walk_back p (a ∷ []) = refl
walk_back p (a ∷ b ∷ rest) =
    let whole : reverse (a ∷ b ∷ rest) ≡ reverse rest ++ b ∷ a ∷ [] = reverse-append (a ∷ b ∷ []) rest in
    let tail : reverse (b ∷ rest) ≡ reverse rest ++ b ∷ [] = reverse-append (b ∷ []) rest in
    let h = sym (ap (λ z. count p (joins z)) tail) ∙ walk_back p (b ∷ rest) in
    let w = walk_adds p (reverse rest) b (a ∷ []) in
    let t = turns_back (seg a b) p in
    ap (λ z. count p (joins z)) whole ∙ omega (arith, ints, h, w, t)

pub walks_back : (points : List Point) (p : Point) → winding_number (joins (reverse points)) p ≡ neg_ℤ (winding_number (joins points) p)
walks_back points p = count_is (joins (reverse points)) p ∙ walk_back p points ∙ ap neg_ℤ (sym (count_is (joins points) p))
