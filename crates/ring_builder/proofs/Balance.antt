-- As many parts that border a set leave as come to each node, since that holds of each face of the set.
use Rattle.std.proofs.Common.{◌≡◌, ℕ, zero, suc, ◌+◌, ◌<◌, ◌≤◌, ℤ, pos, ◌+ℤ◌, ◌-ℤ◌, ◌*ℤ◌, Bool, true, false, cond, nat_eq, List, [], ◌∷◌, map, flat_map, length, All, count_by, refl, ap, ap₂, sym, ◌∙◌, ⊎_elim, arith, eq-eqb, ne_eqb}
use Rattle.std.specs.List.{range_with_len}
use Rattle.std.proofs.lemmas.Bool.{cases_eq}
use Rattle.std.proofs.lemmas.Int.{ints}
use Rattle.std.proofs.lemmas.List.Sums.{sum_by-cons}
use Rattle.boundary_arcs.specs.Edges.{HasSidesBelow, arc_of, at, here, pull}
use Rattle.boundary_arcs.specs.declared.arc.Arc.{Arc}
use Rattle.boundary_arcs.specs.declared.arc.Side.TheVariants.{Outside, Face}
use Rattle.boundary_arcs.specs.declared.arc.Side.{Side}
use Rattle.plane_laws.proofs.Algebra.{ring}
use Rattle.plane_laws.proofs.Algebra.Poly.{V, Add, Sub, Mul}
use Rattle.plane_laws.proofs.Sums.{total-append, total-map, total-add, total-zero, total_same, total_agree}
use Rattle.plane_laws.specs.Borders.{total}
use Rattle.ring_builder.proofs.Places.{each_place, of_each}
use Rattle.ring_builder.specs.Parts.{bordering, hop_of, is_set, owner_on, parts_at, parts_of}
use Rattle.ring_builder.specs.declared.ring.Part.{Part}
use Rattle.ring_cutter.specs.declared.Hop.{Hop}

abbrev tick : Bool → ℤ
tick b = cond b (pos 1) (pos 0)

total-flat_map : {X Y : Type 0} (f : Y → ℤ) (g : X → List Y) (xs : List X) → total f (flat_map g xs) ≡ total (λ x. total f (g x)) xs
total-flat_map f g [] = refl
total-flat_map f g (x ∷ xs) = total-append f (g x) (flat_map g xs) ∙ ap (λ z. total f (g x) +ℤ z) (total-flat_map f g xs)

chosen_zero : {X : Type 0} (b : Bool) (f : X → ℤ) (xs : List X) → total f xs ≡ pos 0 → total (λ x. cond b (f x) (pos 0)) xs ≡ pos 0
chosen_zero true f xs h = h
chosen_zero false f xs h = total-zero xs

-- ---- one edge
no_times : (d : ℤ) → pos 0 ≡ (pos 0 -ℤ pos 0) *ℤ d
no_times d = ring (V (pos 0)) (Mul (Sub (V (pos 0)) (V (pos 0))) (V d)) (omega arith)

one_less_one : (d : ℤ) → pos 0 ≡ (pos 1 -ℤ pos 1) *ℤ d
one_less_one d = ring (V (pos 0)) (Mul (Sub (V (pos 1)) (V (pos 1))) (V d)) (omega arith)

forth : (u v : ℤ) → (u -ℤ v) +ℤ pos 0 ≡ (pos 1 -ℤ pos 0) *ℤ (u -ℤ v)
forth u v = ring (Add (Sub (V u) (V v)) (V (pos 0))) (Mul (Sub (V (pos 1)) (V (pos 0))) (Sub (V u) (V v))) (omega arith)

back : (u v : ℤ) → (v -ℤ u) +ℤ pos 0 ≡ (pos 0 -ℤ pos 1) *ℤ (u -ℤ v)
back u v = ring (Add (Sub (V v) (V u)) (V (pos 0))) (Mul (Sub (V (pos 0)) (V (pos 1))) (Sub (V u) (V v))) (omega arith)

spread : (b : Bool) (x y u v d : ℤ) → ((x +ℤ cond b u (pos 0)) -ℤ (y +ℤ cond b v (pos 0))) *ℤ d ≡ (x -ℤ y) *ℤ d +ℤ cond b ((u -ℤ v) *ℤ d) (pos 0)
spread true x y u v d = ring (Mul (Sub (Add (V x) (V u)) (Add (V y) (V v))) (V d)) (Add (Mul (Sub (V x) (V y)) (V d)) (Mul (Sub (V u) (V v)) (V d))) (omega arith)
spread false x y u v d = ring (Mul (Sub (Add (V x) (V (pos 0))) (Add (V y) (V (pos 0)))) (V d)) (Add (Mul (Sub (V x) (V y)) (V d)) (V (pos 0))) (omega arith)

-- ---- counts at a node
counted : (b e : Bool) (m n : ℕ) (t : ℤ) → pos m -ℤ pos n ≡ t → pos (cond b 1 0 + m) -ℤ pos (cond e 1 0 + n) ≡ (tick b -ℤ tick e) +ℤ t
counted true true m n t h = omega (arith, ints)
counted true false m n t h = omega (arith, ints)
counted false true m n t h = omega (arith, ints)
counted false false m n t h = omega (arith, ints)

equal_counts : (m n : ℕ) → pos m -ℤ pos n ≡ pos 0 → m ≡ n
equal_counts m n h = omega (arith, ints)

module _ (p : ℕ) where
  -- 1 for a hop that leaves the node, less 1 where it comes to it
  abbrev leaves : Hop → ℤ
  leaves h = here p h.begin -ℤ here p h.end

  counts : (hops : List Hop) → pos (count_by (λ h. nat_eq h.begin p) hops) -ℤ pos (count_by (λ h. nat_eq h.end p) hops) ≡ total leaves hops
  counts [] = refl
  counts (h ∷ hs) =
      ap₂ (λ m n. pos m -ℤ pos n) (sum_by-cons (λ (h : Hop). cond (nat_eq h.begin p) 1 0) h hs) (sum_by-cons (λ (h : Hop). cond (nat_eq h.end p) 1 0) h hs)
      ∙ counted (nat_eq h.begin p) (nat_eq h.end p) (count_by (λ h. nat_eq h.begin p) hs) (count_by (λ h. nat_eq h.end p) hs) (total leaves hs) (counts hs)

  -- how often an edge leaves the node less how often it comes to it
  abbrev gain : Arc → ℤ
  gain a = here p a.begin -ℤ here p a.end

  edge_leaves : (arcs : List Arc) (right left : Bool) (n : ℕ) → total (λ q. leaves (hop_of arcs q)) (parts_of right left n) ≡ (tick right -ℤ tick left) *ℤ gain (arc_of arcs n)
  edge_leaves arcs true true n = one_less_one (gain (arc_of arcs n))
  edge_leaves arcs true false n = forth (here p (arc_of arcs n).begin) (here p (arc_of arcs n).end)
  edge_leaves arcs false true n = back (here p (arc_of arcs n).begin) (here p (arc_of arcs n).end)
  edge_leaves arcs false false n = no_times (gain (arc_of arcs n))

-- ---- the faces of a set, one by one
nothing_more : (b : Bool) (z : ℤ) → z ≡ pos 0 → z +ℤ cond b (pos 0) (pos 0) ≡ pos 0
nothing_more true z h = omega (arith, ints)
nothing_more false z h = omega (arith, ints)

nothing_else : (b : Bool) (z t : ℤ) → z ≡ t → z +ℤ cond b (pos 0) (pos 0) ≡ t
nothing_else true z t h = omega (arith, ints)
nothing_else false z t h = omega (arith, ints)

from_nothing : (z t : ℤ) → z ≡ pos 0 → z +ℤ t ≡ t
from_nothing z t h = omega (arith, ints)

module _ (owner : ℕ → ℕ) (k : ℕ) where
  -- 1 where a side is one of the first n faces and of set k, else 0
  abbrev among : ℕ → Side → ℤ
  among zero s = pos 0
  among (suc n) s = among n s +ℤ cond (nat_eq (owner n) k) (at n s) (pos 0)

  among_outside : (n : ℕ) → among n Outside ≡ pos 0
  among_outside zero = refl
  among_outside (suc n) = nothing_more (nat_eq (owner n) k) (among n Outside) (among_outside n)

  not_at : (n x : ℕ) → (x ≡ n → ⊥) → at n (Face x) ≡ pos 0
  not_at n x d = ap tick (ne_eqb x n d)

  among_past : (n x : ℕ) → n ≤ x → among n (Face x) ≡ pos 0
  among_past zero x l = refl
  among_past (suc n) x l =
      ap (λ z. among n (Face x) +ℤ cond (nat_eq (owner n) k) z (pos 0)) (not_at n x (λ e. omega (arith, e, l)))
      ∙ nothing_more (nat_eq (owner n) k) (among n (Face x)) (among_past n x (omega arith))

  among_in : (n x : ℕ) → x < n → among n (Face x) ≡ tick (nat_eq (owner x) k)
  among_in zero x l = absurd (omega arith)
  among_in (suc n) x l = ⊎_elim
      (λ e.
      ap (λ z. among n (Face x) +ℤ cond (nat_eq (owner n) k) z (pos 0)) (ap tick (eq-eqb x n e))
      ∙ from_nothing (among n (Face x)) (tick (nat_eq (owner n) k)) (among_past n x (omega (arith, e)))
      ∙ ap (λ z. tick (nat_eq (owner z) k)) (sym e))
      (λ d.
      ap (λ z. among n (Face x) +ℤ cond (nat_eq (owner n) k) z (pos 0)) (not_at n x d)
      ∙ nothing_else (nat_eq (owner n) k) (among n (Face x)) (tick (nat_eq (owner x) k)) (among_in n x (omega (arith, d, l))))
      (cases_eq x n)

  among_all : (faces : ℕ) (s : Side) → ((x : ℕ) → s ≡ Face x → x < faces) → among faces s ≡ tick (is_set k (owner_on owner s))
  among_all faces Outside h = among_outside faces
  among_all faces (Face x) h = among_in faces x (h x refl)

  module _ (p : ℕ) (arcs : List Arc) (balanced : (k p : ℕ) → total (pull k p) arcs ≡ pos 0) where
    abbrev drawn : ℕ → Arc → ℤ
    drawn n a = (among n a.right -ℤ among n a.left) *ℤ gain p a

    cancels : (n : ℕ) → total (drawn n) arcs ≡ pos 0
    cancels zero = total_same (drawn zero) (λ a. pos 0) (λ a. sym (no_times (gain p a))) arcs ∙ total-zero arcs
    cancels (suc n) =
        total_same (drawn (suc n)) (λ a. drawn n a +ℤ cond (nat_eq (owner n) k) (pull n p a) (pos 0)) (λ a. spread (nat_eq (owner n) k) (among n a.right) (among n a.left) (at n a.right) (at n a.left) (gain p a)) arcs
        ∙ total-add (drawn n) (λ a. cond (nat_eq (owner n) k) (pull n p a) (pos 0)) arcs
        ∙ ap₂ ◌+ℤ◌ (cancels n) (chosen_zero (nat_eq (owner n) k) (pull n p) arcs (balanced n p))

    -- taken with the set on the right
    abbrev set_pull : Arc → ℤ
    set_pull a = (tick (is_set k (owner_on owner a.right)) -ℤ tick (is_set k (owner_on owner a.left))) *ℤ gain p a

    set_cancels : (faces : ℕ) → All (HasSidesBelow faces) arcs → total set_pull arcs ≡ pos 0
    set_cancels faces h =
        total_agree set_pull (drawn faces) arcs (λ a i. let s = of_each (HasSidesBelow faces) arcs a h i in ap₂ (λ r l. (r -ℤ l) *ℤ gain p a) (sym (among_all faces a.right s.right)) (sym (among_all faces a.left s.left)))
        ∙ cancels faces

    pub even : (faces : ℕ) → All (HasSidesBelow faces) arcs → count_by (λ (h : Hop). nat_eq h.begin p) (map (hop_of arcs) (bordering arcs owner k)) ≡ count_by (λ (h : Hop). nat_eq h.end p) (map (hop_of arcs) (bordering arcs owner k))
    even faces h =
        let parts = bordering arcs owner k in
        let f : Part → ℤ = λ q. leaves p (hop_of arcs q) in
        let g : ℕ → List Part = λ n. parts_at owner k (arc_of arcs n) n in
        let all : List ℕ = range_with_len 0 (length arcs) in
        equal_counts (count_by (λ (h : Hop). nat_eq h.begin p) (map (hop_of arcs) parts)) (count_by (λ (h : Hop). nat_eq h.end p) (map (hop_of arcs) parts))
        (counts p (map (hop_of arcs) parts) ∙ total-map (leaves p) (hop_of arcs) parts ∙ total-flat_map f g all
        ∙ total_same (λ n. total f (g n)) (λ n. set_pull (arc_of arcs n)) (λ n. edge_leaves p arcs (is_set k (owner_on owner (arc_of arcs n).right)) (is_set k (owner_on owner (arc_of arcs n).left)) n) all
        ∙ sym (total-map set_pull (arc_of arcs) all) ∙ ap (total set_pull) (each_place arcs (record { points = []; begin = 0; end = 0; left = Outside; right = Outside })) ∙ set_cancels faces h)
