-- Lines that stand for the drawn sub-segments of a mesh are a net.
use Rattle.std.proofs.Common.{◌≡◌, ◌≢◌, ℕ, suc, ◌<◌, ◌≤◌, ℤ, pos, ◌+ℤ◌, ◌-ℤ◌, ◌*ℤ◌, int_le, ◌&&◌, List, [], ◌∷◌, Bool, true, false, cond, nat_eq, Option, Some, None, length, get_or, map, ⊎_elim, refl, sym, ap, ap₂, subst, ◌∙◌, arith, eq-eqb, ne_eqb}
use Rattle.std.specs.List.{AllZip}
use Rattle.std.specs.Option.{option_map}
use Rattle.std.specs.Prelude.{All, AllPairs, Contains, slice_get}
use Rattle.std.proofs.lemmas.Bool.{cases_lt, cases_eq, false≢true}
use Rattle.std.proofs.lemmas.Int.{ints}
use Rattle.std.proofs.lemmas.List.{length-map, get_or-map}
use Rattle.std.proofs.lemmas.List.Elements.{All-get_or, All-from_get_or, All-filter, All-contains_itself, Contains-append_left, Contains-append_right, filter_passes}
use Rattle.std.proofs.lemmas.Option.{slice_get_within, get_or_from_slice_get}
use Rattle.boundary_arcs.specs.ChainEdges.{point_at, HasFacesBelow}
use Rattle.boundary_arcs.specs.Nets.{drawn_of, all_drawn, Shows, AreLinesOf}
use Rattle.boundary_arcs.proofs.Along.{one_place}
use Rattle.boundary_arcs.proofs.Zips.{AllZip-at, AllZip-length}
use Rattle.chains.specs.declared.Line.{Line}
use Rattle.chains.specs.Nets as nets
use Rattle.chains.specs.Nets.{line_at, IsNet}
use Rattle.mesh_definitions.specs.Edges.{same_point}
use Rattle.mesh_definitions.specs.Faces.{NumbersFaces, IsGapless, borders, drawn, is_drawn, steps_of}
use Rattle.mesh_definitions.specs.Pieces.{Mesh, ahead, back, left_of}
use Rattle.mesh_definitions.specs.declared.Piece.{Piece}
use Rattle.mesh_definitions.specs.declared.Sub.TheVariants.{Chord}
use Rattle.mesh_definitions.specs.declared.Sub.{Sub}
use Rattle.mesh_laws.specs.FaceLaws as faced
use Rattle.mesh_laws.specs.FaceLaws.{FacesBalance, DrawnParts, AreClosed}
use Rattle.plane_geom.specs.declared.Point.{Point}
use Rattle.plane_laws.specs.Borders as plane
use Rattle.plane_laws.specs.Borders.{HasPieces}

-- what a read past the end of a list of sub-segments gives
abbrev pub no_sub : Sub
no_sub = Chord (record { row = 0; col = 0; upper = true }) 0

same_point_true : (p q : Point) → p ≡ q → same_point p q ≡ true
same_point_true p q e = subst (λ z. same_point p z ≡ true) e (grind (arith, ints))

le_both : (a b : ℤ) → (int_le a b && int_le b a) ≡ true → a ≡ b
le_both a b e = grind (arith, ints)

and_first : (a b : Bool) → (a && b) ≡ true → (a ≡ true) × (b ≡ true)
and_first true b e = (refl, e)
and_first false b e = absurd (false≢true e)

same_point_same : (p q : Point) → same_point p q ≡ true → p ≡ q
same_point_same p q e =
    let h = and_first (int_le p.x q.x && int_le q.x p.x) (int_le p.y q.y && int_le q.y p.y) e in
    ap₂ (λ x y. let z : Point = record { x = x; y = y } in z) (le_both p.x q.x h.0) (le_both p.y q.y h.1)

not_true : (b : Bool) → (b ≡ true → ⊥) → b ≡ false
not_true true n = absurd (n refl)
not_true false n = refl

-- the test whether a point is the one with a number is that whether numbers are the same
module _ (points : List Point) (once : AllPairs ◌≢◌ points) (n p : ℕ) (x : Point) (there : slice_get points n ≡ Some x) (l : p < length points) where
  number_same : x ≡ point_at points p → n ≡ p
  number_same e = one_place points _ once n p (slice_get_within points n x there) l (get_or_from_slice_get points n x _ there ∙ e)

  number_point : n ≡ p → x ≡ point_at points p
  number_point e = sym (get_or_from_slice_get points n x _ there) ∙ ap (point_at points) e

  pub test_is : nat_eq n p ≡ same_point x (point_at points p)
  test_is = ⊎_elim
      (λ e. eq-eqb n p e ∙ sym (same_point_true x (point_at points p) (number_point e)))
      (λ d. ne_eqb n p d ∙ sym (not_true _ (λ t. d (number_same (same_point_same x (point_at points p) t)))))
      (cases_eq n p)

  pub test_turned : nat_eq n p ≡ same_point (point_at points p) x
  test_turned = ⊎_elim
      (λ e. eq-eqb n p e ∙ sym (same_point_true (point_at points p) x (sym (number_point e))))
      (λ d. ne_eqb n p d ∙ sym (not_true _ (λ t. d (number_same (sym (same_point_same (point_at points p) x t))))))
      (cases_eq n p)

Contains-map : {X Y : Type 0} (f : X → Y) (xs : List X) (x : X) → Contains xs x → Contains (map f xs) (f x)
Contains-map f xs x h = (h.0, let l = h.1 in omega (arith, l, length-map xs f), get_or-map f xs h.0 x (f x) h.1 ∙ ap f h.2)

-- both steps along a sub-segment of a mesh are steps of it
ahead_there : (m : Mesh) (s : Sub) → Contains m.subs s → Contains (steps_of m) (ahead s)
ahead_there m s h = Contains-append_left (map ahead m.subs) (map back (map ahead m.subs)) (ahead s) (Contains-map ahead m.subs s h)

back_there : (m : Mesh) (s : Sub) → Contains m.subs s → Contains (steps_of m) (back (ahead s))
back_there m s h = Contains-append_right (map ahead m.subs) (map back (map ahead m.subs)) (back (ahead s)) (Contains-map back (map ahead m.subs) (ahead s) (Contains-map ahead m.subs s h))

nothing_pulled : (k p : ℕ) (lines : List Line) → ((i : ℕ) → i < length lines → (nat_eq (line_at lines i).begin p ≡ false) × (nat_eq (line_at lines i).end p ≡ false)) → nets.total (nets.pull k p) lines ≡ pos 0
nothing_pulled k p [] h = refl
nothing_pulled k p (x ∷ xs) h =
    let a = h 0 (omega arith) in
    let w = nets.at k x.right -ℤ nets.at k x.left in
    ap₂ ◌+ℤ◌ (ap₂ (λ b e. w *ℤ (cond b (pos 1) (pos 0) -ℤ cond e (pos 1) (pos 0))) a.0 a.1 ∙ zero_of w) (nothing_pulled k p xs (λ i l. h (suc i) (omega (arith, l))))
  where
    zero_of : (w : ℤ) → w *ℤ (pos 0 -ℤ pos 0) ≡ pos 0
    zero_of w = omega (arith, ints)

module _ (m : Mesh) (face : Piece → ℕ) (points : List Point) (lines : List Line) (s : AreLinesOf points lines (all_drawn m face)) where
  -- the sub-segment that a line stands for
  abbrev pub sub_of : ℕ → Sub
  sub_of i = get_or (drawn m) i no_sub

  pub as_many : length lines ≡ length (drawn m)
  as_many = AllZip-length (Shows points) lines (all_drawn m face) s.each ∙ length-map (drawn m) (drawn_of m face)

  pub shows : (i : ℕ) → i < length lines → Shows points (line_at lines i) (drawn_of m face (sub_of i))
  shows i l = subst (Shows points (line_at lines i)) (get_or-map (drawn_of m face) (drawn m) i no_sub (drawn_of m face no_sub) (omega (arith, l, as_many))) (AllZip-at (Shows points) lines (all_drawn m face) i _ (drawn_of m face no_sub) s.each l)

  sub_there : (i : ℕ) → i < length lines → Contains m.subs (sub_of i)
  sub_there i l = All-get_or (Contains m.subs) (drawn m) i no_sub (omega (arith, l, as_many)) (All-filter (is_drawn m) (Contains m.subs) m.subs (All-contains_itself m.subs))

  sub_drawn : (i : ℕ) → i < length lines → is_drawn m (sub_of i) ≡ true
  sub_drawn i l = All-get_or (λ x. is_drawn m x ≡ true) (drawn m) i no_sub (omega (arith, l, as_many)) (filter_passes (is_drawn m) m.subs)

  -- what a line counts where it begins and ends is what its sub-segment counts
  same_at : (k : ℕ) (side : Option ℕ) (o : Option Piece) → side ≡ option_map face o → nets.at k side ≡ faced.at face k o
  same_at k side None e = ap (nets.at k) e
  same_at k side (Some q) e = ap (nets.at k) e

  same_pulls : (k p : ℕ) → p < length points → (ls : List Line) (subs : List Sub) → AllZip (Shows points) ls (map (drawn_of m face) subs) → nets.total (nets.pull k p) ls ≡ plane.total (faced.pull m face k (point_at points p)) subs
  same_pulls k p l [] [] h = refl
  same_pulls k p l [] (y ∷ ys) h = absurd h
  same_pulls k p l (x ∷ xs) [] h = absurd h
  same_pulls k p l (x ∷ xs) (y ∷ ys) h =
      let w = h.0 in
      ap₂ ◌+ℤ◌
      (ap₂ ◌*ℤ◌
      (ap₂ ◌-ℤ◌ (same_at k x.right (m.right_of (ahead y)) w.right) (same_at k x.left (left_of m (ahead y)) w.left))
      (ap₂ ◌-ℤ◌ (ap (λ b. cond b (pos 1) (pos 0)) (test_turned points s.once x.begin p (m.ends y).a w.begins l)) (ap (λ b. cond b (pos 1) (pos 0)) (test_turned points s.once x.end p (m.ends y).b w.ends l))))
      (same_pulls k p l xs ys h.1)

  module _ (pieces : HasPieces (borders m) m.pieces) (numbers : NumbersFaces m face) where
    pub is_net : AreClosed m → FacesBalance → DrawnParts → IsNet lines (length points)
    is_net closed balance apart = record {
      few = omega (arith, s.few);
      small = omega (arith, s.few_points);
      begin_inside = λ i l. slice_get_within points _ _ (shows i l).begins;
      end_inside = λ i l. slice_get_within points _ _ (shows i l).ends;
      parted = λ i l e. false≢true (sym ((apart m face pieces numbers (sub_of i) (sub_there i l)).1 (sym (shows i l).right ∙ sym e ∙ (shows i l).left)) ∙ sub_drawn i l);
      even = even;
    }
      where
        far : (k p : ℕ) → length points ≤ p → nets.total (nets.pull k p) lines ≡ pos 0
        far k p h = nothing_pulled k p lines (λ i l. (
          ne_eqb (line_at lines i).begin p (λ e. let b = slice_get_within points _ _ (shows i l).begins in omega (arith, b, e, h)),
          ne_eqb (line_at lines i).end p (λ e. let b = slice_get_within points _ _ (shows i l).ends in omega (arith, b, e, h)),
        ))

        even : (k p : ℕ) → nets.total (nets.pull k p) lines ≡ pos 0
        even k p = ⊎_elim
            (λ l. same_pulls k p l lines (drawn m) s.each ∙ balance m face pieces numbers closed k (point_at points p))
            (far k p)
            (cases_lt p (length points))

    module _ (count : ℕ) (gapless : IsGapless m face count) where
      below : (o : Option Piece) (k : ℕ) → ((q : Piece) → o ≡ Some q → Contains m.pieces q) → option_map face o ≡ Some k → k < count
      below None k h e = absurd (grind (arith, e))
      below (Some q) k h e = let f : face q ≡ k = cc in subst (λ z. z < count) f (gapless.below q (h q refl))

      pub sides_below : All (HasFacesBelow count) lines
      sides_below = All-from_get_or (HasFacesBelow count) lines _ (λ i l. record {
        left = λ k e. below (left_of m (ahead (sub_of i))) k (λ q. pieces.sides (back (ahead (sub_of i))) q (back_there m (sub_of i) (sub_there i l))) (sym (shows i l).left ∙ e);
        right = λ k e. below (m.right_of (ahead (sub_of i))) k (λ q. pieces.sides (ahead (sub_of i)) q (ahead_there m (sub_of i) (sub_there i l))) (sym (shows i l).right ∙ e);
      })
