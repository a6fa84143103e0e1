-- Boundaries add up over pieces: what two pieces share is walked both ways and cancels.
use Rattle.std.proofs.Common.{◌≡◌, ℤ, pos, ◌+ℤ◌, ◌-ℤ◌, neg_ℤ, Bool, true, false, cond, not, ◌&&◌, Option, Some, None, List, [], ◌∷◌, map, refl, ap, ap₂, sym, ◌∙◌, subst, arith, ◌⊎◌, inl, inr, ⊎_elim, Contains}
use Rattle.std.proofs.lemmas.Int.{ints}
use Rattle.plane_geom.specs.Geom.{turn_of, winding_number}
use Rattle.plane_geom.specs.declared.Point.{Point}
use Rattle.plane_geom.specs.declared.Seg.{Seg}
use Rattle.plane_laws.specs.Borders.{total, part, Borders, steps, within, beside, boundary, TurnsTwice, HasPieces, IsSameness, IsSigned, IsPlacement}
use Rattle.plane_laws.proofs.Counts.{count_is, turns_back}
use Rattle.plane_laws.proofs.Members.{In, contains, is_in, in_map, in_left, in_right, Distinct, distinct}
use Rattle.plane_laws.proofs.Sums.{total_same, total-append, total-map, total-add, total-filter, total-zero, total_swap, total_agree, total-sub}

true_or : (b : Bool) → (b ≡ true) ⊎ (b ≡ false)
true_or true = inl refl
true_or false = inr refl

-- ---- the piece on a side, found among all pieces
module _ {Q : Type 0} (same : Q → Q → Bool) (tells : IsSameness same) (F : Q → Bool) (t : ℤ) where
  abbrev share : Option Q → Q → ℤ
  share o q = cond (F q) (cond (within (same q) o) t (pos 0)) (pos 0)

  nothing : (b : Bool) → cond b (pos 0) (pos 0) ≡ pos 0
  nothing true = refl
  nothing false = refl

  of_other : (y q : Q) → ¬ (q ≡ y) → share (Some y) q ≡ pos 0
  of_other y q d = ⊎_elim
      (λ e. absurd (d ((tells q y).0 e)))
      (λ e. ap (λ b. cond (F q) (cond b t (pos 0)) (pos 0)) e ∙ nothing (F q))
      (true_or (same q y))

  of_itself : (y : Q) → share (Some y) y ≡ cond (F y) t (pos 0)
  of_itself y = ap (λ b. cond (F y) (cond b t (pos 0)) (pos 0)) ((tells y y).1 refl)

  of_none_in : (y : Q) (xs : List Q) → ¬ (In xs y) → total (share (Some y)) xs ≡ pos 0
  of_none_in y [] n = refl
  of_none_in y (x ∷ xs) n = ap₂ ◌+ℤ◌ (of_other y x (λ e. n (inl e))) (of_none_in y xs (λ i. n (inr i)))

  of_one_in : (y : Q) (xs : List Q) → Distinct xs → In xs y → total (share (Some y)) xs ≡ cond (F y) t (pos 0)
  of_one_in y [] d i = absurd i
  of_one_in y (x ∷ xs) d i = ⊎_elim
      (λ e. ap₂ ◌+ℤ◌ (subst (λ z. share (Some y) z ≡ cond (F y) t (pos 0)) (sym e) (of_itself y)) (of_none_in y xs (subst (λ z. ¬ (In xs z)) e d.0)) ∙ zero_right (cond (F y) t (pos 0)))
      (λ j. ap₂ ◌+ℤ◌ (of_other y x (λ e. d.0 (subst (In xs) (sym e) j))) (of_one_in y xs d.1 j) ∙ zero_left (cond (F y) t (pos 0)))
      i
    where
      zero_right : (z : ℤ) → z +ℤ pos 0 ≡ z
      zero_right z = omega (arith, ints)

      zero_left : (z : ℤ) → pos 0 +ℤ z ≡ z
      zero_left z = omega (arith, ints)

  -- what a side has of a set is what it has of the set's pieces, one by one
  side_sum : (xs : List Q) (o : Option Q) → Distinct xs → ((y : Q) → o ≡ Some y → In xs y) → total (share o) xs ≡ cond (within F o) t (pos 0)
  side_sum xs None d h = total_same (share None) (λ q. pos 0) (λ q. nothing (F q)) xs ∙ total-zero xs
  side_sum xs (Some y) d h = of_one_in y xs d (h y refl)

-- ---- boundaries

-- a step with the set on its right adds its value, and one with the set on its left takes it away
abbrev gain : {X Q : Type 0} → Borders X Q → (X → ℤ) → (Q → Bool) → X → ℤ
gain b f F x = cond (within F (b.right x)) (f x) (pos 0) -ℤ cond (within F (b.right (b.back x))) (f x) (pos 0)

one_side : (r l : Bool) (u v : ℤ) → v ≡ neg_ℤ u → cond (r && not l) u (pos 0) +ℤ cond (l && not r) v (pos 0) ≡ cond r u (pos 0) -ℤ cond l u (pos 0)
one_side true true u v e = omega (arith, ints)
one_side true false u v e = omega (arith, ints)
one_side false true u v e = omega (arith, ints)
one_side false false u v e = omega (arith, ints)

both_sides : (r l : Bool) (u v : ℤ) → v ≡ neg_ℤ u → cond r u (pos 0) +ℤ cond l v (pos 0) ≡ cond r u (pos 0) -ℤ cond l u (pos 0)
both_sides r true u v e = omega (arith, ints)
both_sides r false u v e = omega (arith, ints)

module _ {X Q : Type 0} (b : Borders X Q) (f : X → ℤ) (twice : TurnsTwice b) (h : IsSigned b f) where
  -- the sum over all steps, from those that are listed
  over_steps : (g : X → ℤ) → total g (steps b) ≡ total (λ x. g x +ℤ g (b.back x)) b.listed
  over_steps g = total-append g b.listed (map b.back b.listed) ∙ ap (λ z. total g b.listed +ℤ z) (total-map g b.back b.listed) ∙ sym (total-add g (λ x. g (b.back x)) b.listed)

  along_boundary : (F : Q → Bool) → total f (boundary b F) ≡ total (gain b f F) b.listed
  along_boundary F =
      let g : X → ℤ = λ x. cond (within F (b.right x) && not (within F (b.right (b.back x)))) (f x) (pos 0) in
      let each : (x : X) → In b.listed x → g x +ℤ g (b.back x) ≡ gain b f F x = λ x i. let c = contains b.listed x i in subst (λ z. g x +ℤ cond (within F (b.right (b.back x)) && not (within F (b.right z))) (f (b.back x)) (pos 0) ≡ gain b f F x) (sym (twice x c)) (one_side (within F (b.right x)) (within F (b.right (b.back x))) (f x) (f (b.back x)) (h x c)) in
      total-filter f (λ x. within F (b.right x) && not (within F (b.right (b.back x)))) (steps b) ∙ over_steps g ∙ total_agree (λ x. g x +ℤ g (b.back x)) (gain b f F) b.listed each

  along_beside : (F : Q → Bool) → total f (beside b F) ≡ total (gain b f F) b.listed
  along_beside F =
      let g : X → ℤ = λ x. cond (within F (b.right x)) (f x) (pos 0) in
      total-filter f (λ x. within F (b.right x)) (steps b) ∙ over_steps g ∙ total_agree (λ x. g x +ℤ g (b.back x)) (gain b f F) b.listed (λ x i. both_sides (within F (b.right x)) (within F (b.right (b.back x))) (f x) (f (b.back x)) (h x (contains b.listed x i)))

pub boundary_sum : {X Q : Type 0} (b : Borders X Q) (F : Q → Bool) (f : X → ℤ) → TurnsTwice b → IsSigned b f → total f (boundary b F) ≡ total f (beside b F)
boundary_sum b F f twice h = along_boundary b f twice h F ∙ sym (along_beside b f twice h F)

apart : (c : Bool) (u v : ℤ) → cond c (u -ℤ v) (pos 0) ≡ cond c u (pos 0) -ℤ cond c v (pos 0)
apart true u v = refl
apart false u v = refl

chosen : {X : Type 0} (c : Bool) (g : X → ℤ) (xs : List X) → total (λ x. cond c (g x) (pos 0)) xs ≡ cond c (total g xs) (pos 0)
chosen true g xs = refl
chosen false g xs = total-zero xs

pub sum_over_pieces : {X Q : Type 0} (b : Borders X Q) (same : Q → Q → Bool) (pieces : List Q) (F : Q → Bool) (f : X → ℤ) → TurnsTwice b → IsSameness same → HasPieces b pieces → IsSigned b f → total f (boundary b F) ≡ part (λ q. total f (boundary b (same q))) F pieces
sum_over_pieces {X} {Q} b same pieces F f twice tells have h =
    let one : X → Q → ℤ = λ x q. cond (F q) (gain b f (same q) x) (pos 0) in
    let once = distinct pieces have.once in
    let right : X → Q → ℤ = λ x. share same tells F (f x) (b.right x) in
    let left : X → Q → ℤ = λ x. share same tells F (f x) (b.right (b.back x)) in
    let ahead : (x : X) → In b.listed x → Contains (steps b) x = λ x i. contains (steps b) x (in_left b.listed (map b.back b.listed) x i) in
    let behind : (x : X) → In b.listed x → Contains (steps b) (b.back x) = λ x i. contains (steps b) (b.back x) (in_right b.listed (map b.back b.listed) (b.back x) (in_map b.back b.listed x i)) in
    let each : (x : X) → In b.listed x → gain b f F x ≡ total (one x) pieces = λ x i. sym (
    total_same (one x) (λ q. right x q -ℤ left x q) (λ q. apart (F q) (cond (within (same q) (b.right x)) (f x) (pos 0)) (cond (within (same q) (b.right (b.back x))) (f x) (pos 0))) pieces
    ∙ total-sub (right x) (left x) pieces
    ∙ ap₂ ◌-ℤ◌ (side_sum same tells F (f x) pieces (b.right x) once (λ y e. is_in pieces y (have.sides x y (ahead x i) e))) (side_sum same tells F (f x) pieces (b.right (b.back x)) once (λ y e. is_in pieces y (have.sides (b.back x) y (behind x i) e)))
    ) in
    along_boundary b f twice h F
    ∙ total_agree (gain b f F) (λ x. total (one x) pieces) b.listed each
    ∙ total_swap one b.listed pieces
    ∙ total_same (λ q. total (λ x. one x q) b.listed) (λ q. cond (F q) (total f (boundary b (same q))) (pos 0)) (λ q. chosen (F q) (gain b f (same q)) b.listed ∙ ap (λ z. cond (F q) z (pos 0)) (sym (along_boundary b f twice h (same q)))) pieces

-- ---- winding numbers

count_along : {X : Type 0} (place : X → Seg) (p : Point) (xs : List X) → winding_number (map place xs) p ≡ total (λ x. turn_of (place x) p) xs
count_along place p xs = count_is (map place xs) p ∙ total-map (λ s. turn_of s p) place xs

pub count_over_pieces : {X Q : Type 0} (b : Borders X Q) (same : Q → Q → Bool) (pieces : List Q) (F : Q → Bool) (place : X → Seg) (p : Point) → TurnsTwice b → IsSameness same → HasPieces b pieces → IsPlacement b place → winding_number (map place (boundary b F)) p ≡ part (λ q. winding_number (map place (boundary b (same q))) p) F pieces
count_over_pieces {X} {Q} b same pieces F place p twice tells have lies =
    let turn : X → ℤ = λ x. turn_of (place x) p in
    let signed : IsSigned b turn = λ x c. ap (λ s. turn_of s p) (lies x c) ∙ turns_back (place x) p in
    count_along place p (boundary b F)
    ∙ sum_over_pieces b same pieces F turn twice tells have signed
    ∙ total_same (λ q. cond (F q) (total turn (boundary b (same q))) (pos 0)) (λ q. cond (F q) (winding_number (map place (boundary b (same q))) p) (pos 0)) (λ q. ap (λ z. cond (F q) z (pos 0)) (sym (count_along place p (boundary b (same q))))) pieces

pub outline_sum : {X Q : Type 0} (b : Borders X Q) (same : Q → Q → Bool) (pieces : List Q) (place : X → Seg) (p : Point) → TurnsTwice b → IsSameness same → HasPieces b pieces → IsPlacement b place → total (λ q. winding_number (map place (boundary b (same q))) p) pieces ≡ winding_number (map place (boundary b (λ q. true))) p
outline_sum b same pieces place p twice tells have lies = sym (count_over_pieces b same pieces (λ q. true) place p twice tells have lies)
