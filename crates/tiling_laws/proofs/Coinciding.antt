-- Segments that join the same two points.
use Rattle.std.proofs.Common.{◌≡◌, ◌⊎◌, ℕ, zero, suc, ◌<◌, Bool, true, false, ◌&&◌, ◌||◌, List, [], ◌∷◌, map, length, get_or, AllPairs, refl, sym, ap, ap₂, ◌∙◌, arith, inl, inr, ⊎_elim}
use Rattle.std.proofs.lemmas.Bool.Decides.{Decides-and, Decides-int_eq, Decides-like, Decides-or, not_from_Decides, same_from_decides}
use Rattle.std.proofs.lemmas.List.Elements.{All-from_recursion}
use Rattle.std.specs.Bool.{Decides}
use Rattle.std.specs.List.{AllByRecursion, IsDistinct}
use Rattle.std.specs.Ordering.{int_eq}
use Rattle.chart_definitions.specs.SoundEdges.{DontCoincide}
use Rattle.plane_geom.specs.Segments.{turned}
use Rattle.plane_geom.specs.declared.Point.{Point}
use Rattle.plane_geom.specs.declared.Seg.{Seg}

abbrev pub same_point : Point → Point → Bool
same_point p q = int_eq p.x q.x && int_eq p.y q.y

abbrev pub same_seg : Seg → Seg → Bool
same_seg t u = same_point t.a u.a && same_point t.b u.b

point_decides : (p q : Point) → Decides (same_point p q) (p ≡ q)
point_decides p q = Decides-like (same_point p q)
    (λ h. ap₂ (λ x y. let r : Point = record { x = x; y = y } in r) h.0 h.1)
    (λ e. (ap (λ (r : Point). r.x) e, ap (λ (r : Point). r.y) e))
    (Decides-and (int_eq p.x q.x) (int_eq p.y q.y) (Decides-int_eq p.x q.x) (Decides-int_eq p.y q.y))

pub seg_decides : (t u : Seg) → Decides (same_seg t u) (t ≡ u)
seg_decides t u = Decides-like (same_seg t u)
    (λ h. ap₂ (λ a b. let r : Seg = record { a = a; b = b } in r) h.0 h.1)
    (λ e. (ap (λ (r : Seg). r.a) e, ap (λ (r : Seg). r.b) e))
    (Decides-and (same_point t.a u.a) (same_point t.b u.b) (point_decides t.a u.a) (point_decides t.b u.b))

-- whether two segments join the same two points
abbrev pub coincide : Seg → Seg → Bool
coincide t u = same_seg t u || same_seg t (turned u)

pub coincide_decides : (t u : Seg) → Decides (coincide t u) ((t ≡ u) ⊎ (t ≡ turned u))
coincide_decides t u = Decides-or (same_seg t u) (same_seg t (turned u)) (seg_decides t u) (seg_decides t (turned u))

pub flips : (t u : Seg) → coincide t u ≡ coincide u t
flips t u = same_from_decides (coincide t u) (coincide u t) (coincide_decides t u) (Decides-like (coincide u t) (back u t) (back t u) (coincide_decides u t))
  where
    back : (t u : Seg) → (t ≡ u) ⊎ (t ≡ turned u) → (u ≡ t) ⊎ (u ≡ turned t)
    back t u h = ⊎_elim (λ e. inl (sym e)) (λ e. inr (sym (ap turned e))) h

other_order : (a b : Bool) → (a || b) ≡ (b || a)
other_order true true = refl
other_order true false = refl
other_order false true = refl
other_order false false = refl

-- the direction of neither matters
pub turned_second : (t u : Seg) → coincide t (turned u) ≡ coincide t u
turned_second t u = other_order (same_seg t (turned u)) (same_seg t u)

pub turned_first : (t u : Seg) → coincide (turned t) u ≡ coincide t u
turned_first t u = flips (turned t) u ∙ turned_second u t ∙ flips u t

pub is_false : (b : Bool) → (b ≡ true → ⊥) → b ≡ false
is_false true h = absurd (h refl)
is_false false h = refl

apart_false : (t u : Seg) → DontCoincide t u → coincide t u ≡ false
apart_false t u h = is_false (coincide t u) (λ e. ⊎_elim h.0 h.1 ((coincide_decides t u).0 e))

false_apart : (t u : Seg) → coincide t u ≡ false → DontCoincide t u
false_apart t u h = let n = not_from_Decides (coincide t u) (coincide_decides t u) h in (λ e. n (inl e), λ e. n (inr e))

-- a list in which no two elements have coinciding segments, said in two ways
pub distinct_from : {X : Type 0} (f : X → Seg) (xs : List X) → AllPairs (λ u w. DontCoincide (f u) (f w)) xs → IsDistinct coincide (map f xs)
unfolding IsDistinct
distinct_from f [] h = tt
distinct_from {X = X} f (x ∷ xs) h = (each xs (λ k d l. h 0 (suc k) d (omega arith) (omega arith)), distinct_from f xs (λ i j d l m. h (suc i) (suc j) d (omega arith) (omega arith)))
  where
    each : (ys : List X) → ((k : ℕ) (d : X) → k < length ys → DontCoincide (f x) (f (get_or ys k d))) → AllByRecursion (λ y. coincide (f x) y ≡ false) (map f ys)
    each [] h = tt
    each (y ∷ ys) h = (apart_false (f x) (f y) (h 0 y (omega arith)), each ys (λ k d l. h (suc k) d (omega arith)))

pub pairs_from : (xs : List Seg) → IsDistinct coincide xs → AllPairs DontCoincide xs
unfolding IsDistinct
pairs_from [] h i j d l b = absurd (omega arith)
pairs_from (x ∷ xs) h i zero d l b = absurd (omega arith)
pairs_from (x ∷ xs) h zero (suc j) d l b = false_apart x (get_or xs j d) (All-from_recursion (λ y. coincide x y ≡ false) xs h.0 j d (omega arith))
pairs_from (x ∷ xs) h (suc i) (suc j) d l b = pairs_from xs h.1 i j d (omega arith) (omega arith)

-- it doesn't matter which of two segments an element has where these coincide alike
pub distinct_like : {X : Type 0} (f g : X → Seg) → ((x y : X) → coincide (f x) (f y) ≡ coincide (g x) (g y)) → (xs : List X) → IsDistinct coincide (map f xs) → IsDistinct coincide (map g xs)
unfolding IsDistinct
distinct_like f g same [] h = tt
distinct_like {X = X} f g same (x ∷ xs) h = (each xs h.0, distinct_like f g same xs h.1)
  where
    each : (ys : List X) → AllByRecursion (λ y. coincide (f x) y ≡ false) (map f ys) → AllByRecursion (λ y. coincide (g x) y ≡ false) (map g ys)
    each [] h = tt
    each (y ∷ ys) h = (sym (same x y) ∙ h.0, each ys h.1)
