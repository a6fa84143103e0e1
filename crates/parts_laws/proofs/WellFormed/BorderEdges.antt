-- A set of faces that is on one side alone of a step has an edge on its border.
use Rattle.std.proofs.Common.{◌≡◌, ℕ, ◌+◌, ◌<◌, ⊎_elim, Bool, true, false, not, Some, None, List, [], ◌∷◌, get_or, length, map, refl, sym, ap, ◌∙◌, subst, arith}
use Rattle.std.specs.Prelude.{Option, Contains, filter, flat_map, nat_eq, option_map}
use Rattle.std.specs.List.{AllZip, range_with_len}
use Rattle.std.proofs.lemmas.Bool.Decides.{nat_tests}
use Rattle.std.proofs.lemmas.List.Elements.{All-contains}
use Rattle.std.proofs.lemmas.List.Sorted.{Contains-permutation}
use Rattle.boundary_arcs.specs.Edges.{AreArcsOf, RunsAlong, arc_of, face_on}
use Rattle.boundary_arcs.specs.declared.arc.Arc.{Arc}
use Rattle.boundary_arcs.specs.declared.arc.Side.TheVariants.{Outside, Face}
use Rattle.boundary_arcs.specs.declared.arc.Side.{Side}
use Rattle.mesh_definitions.specs.Faces.{NumbersFaces, borders, drawn, is_drawn}
use Rattle.mesh_definitions.specs.Pieces.{Mesh, ahead, left_of}
use Rattle.mesh_definitions.specs.declared.Piece.{Piece}
use Rattle.mesh_definitions.specs.declared.Step.{Step}
use Rattle.mesh_definitions.specs.declared.Sub.{Sub}
use Rattle.face_fill.specs.Listing.{in_either, in_first, in_flat_map, in_nothing, in_range, of_flat_map, of_map}
use Rattle.parts_laws.proofs.WellFormed.WaysToBorder.{Bounds}
use Rattle.mesh_laws.specs.FaceLaws.{DrawnParts}
use Rattle.plane_laws.proofs.Lists.{in_filter}
use Rattle.plane_laws.proofs.Members.{contains, is_in}
use Rattle.plane_laws.specs.Borders.{HasPieces}
use Rattle.ring_builder.specs.Parts.{bordering, is_set, owner_on, parts_at, parts_of}
use Rattle.ring_builder.specs.declared.ring.Part.{Part}

-- ---- lists

-- what passes a test and is in a list is among those that pass it
passing : {X : Type 0} (test : X → Bool) (xs : List X) (x : X) → Contains xs x → test x ≡ true → Contains (filter test xs) x
passing test xs x c e = contains (filter test xs) x (in_filter test xs x (is_in xs x c) e)

-- what goes with an element of the second of two zipped lists
pub record Partner {A B : Type 0} (R : A → B → Type 0) (xs : List A) (y : B) (d : A) : Type 0 where
  pub place : ℕ
  pub below : place < length xs
  pub goes : R (get_or xs place d) y

pub partner : {A B : Type 0} (R : A → B → Type 0) (xs : List A) (ys : List B) (y : B) (d : A) → AllZip R xs ys → Contains ys y → Partner R xs y d
partner R [] [] y d h c = absurd (in_nothing y c)
partner R [] (b ∷ ys) y d h c = absurd h
partner R (a ∷ xs) [] y d h c = absurd h
partner R (a ∷ xs) (b ∷ ys) y d h c = ⊎_elim
    (λ s. record { place = 0; below = omega arith; goes = subst (R a) s h.0 })
    (λ i. let p = partner R xs ys y d h.1 i in later p)
    (in_either b y ys c)
  where
    later : Partner R xs y d → Partner R (a ∷ xs) y d
    later p = let l = p.below in record { place = p.place + 1; below = omega (arith, l); goes = subst (λ x. R x y) (sym (shifted p.place)) p.goes }
      where
        shifted : (k : ℕ) → get_or (a ∷ xs) (k + 1) d ≡ get_or xs k d
        shifted k = grind arith

-- ---- sides

composed : {X : Type 0} (g : X → ℕ) (owner : ℕ → ℕ) (o : Option X) → option_map (λ x. owner (g x)) o ≡ option_map owner (option_map g o)
composed g owner None = refl
composed g owner (Some x) = refl

owned : (owner : ℕ → ℕ) (s : Side) → option_map owner (face_on s) ≡ owner_on owner s
owned owner Outside = refl
owned owner (Face k) = refl

set_here : (k : ℕ) (o : Option ℕ) → o ≡ Some k → is_set k o ≡ true
set_here k None e = cc (e)
set_here k (Some x) e = let s : x ≡ k = cc (e) in grind (arith, nat_tests)

set_elsewhere : (k : ℕ) (o : Option ℕ) → (o ≡ Some k → ⊥) → is_set k o ≡ false
set_elsewhere k None n = refl
set_elsewhere k (Some x) n = by (nat_eq x k) refl
  where
    by : (b : Bool) → nat_eq x k ≡ b → b ≡ false
    by true e = let s : x ≡ k = grind (arith, nat_tests) in absurd (n (ap Some s))
    by false e = refl

-- an edge with the set on one side alone is a part
right_part : (n : ℕ) (right left : Bool) → right ≡ true → left ≡ false → (p : Part) × Contains (parts_of right left n) p
right_part n true false r l = (record { arc = n; forward = true }, in_first (record { arc = n; forward = true }) [])
right_part n true true r l = cc (l)
right_part n false left r l = cc (r)

left_part : (n : ℕ) (right left : Bool) → right ≡ false → left ≡ true → (p : Part) × Contains (parts_of right left n) p
left_part n false true r l = (record { arc = n; forward = false }, in_first (record { arc = n; forward = false }) [])
left_part n false false r l = cc (l)
left_part n true left r l = cc (r)

-- ---- the edge along which a step runs

module _ (m : Mesh) (face : Piece → ℕ) (owner : ℕ → ℕ) (k : ℕ) where
  abbrev number : Piece → ℕ
  number p = owner (face p)

  -- a step that has the set on one side alone has different faces on its sides
  faces_apart : (u : Sub) (forward : Bool) → option_map number (m.right_of (record { sub = u; forward = forward })) ≡ Some k
      → (option_map number (m.right_of (record { sub = u; forward = not forward })) ≡ Some k → ⊥)
      → option_map face (m.right_of (ahead u)) ≡ option_map face (left_of m (ahead u)) → ⊥
  faces_apart u forward e n same =
      let both : option_map number (m.right_of (ahead u)) ≡ option_map number (left_of m (ahead u)) = composed face owner (m.right_of (ahead u)) ∙ ap (option_map owner) same ∙ sym (composed face owner (left_of m (ahead u))) in
      by forward e n both
    where
      by : (forward : Bool) → option_map number (m.right_of (record { sub = u; forward = forward })) ≡ Some k
          → (option_map number (m.right_of (record { sub = u; forward = not forward })) ≡ Some k → ⊥)
          → option_map number (m.right_of (record { sub = u; forward = true })) ≡ option_map number (m.right_of (record { sub = u; forward = false })) → ⊥
      by true e n both = n (sym both ∙ e)
      by false e n both = n (both ∙ e)

  module _ (have : HasPieces (borders m) m.pieces) (numbers : NumbersFaces m face) (parts : DrawnParts) (arcs : List Arc) (are : AreArcsOf m face arcs) where
    step_drawn : (b : Bounds m number k) → is_drawn m b.step.sub ≡ true
    step_drawn b = by (is_drawn m b.step.sub) refl
      where
        by : (t : Bool) → is_drawn m b.step.sub ≡ t → t ≡ true
        by true e = refl
        by false e = absurd (faces_apart b.step.sub b.step.forward b.right b.left ((parts m face have numbers b.step.sub b.there).0 e))

    -- the edge with a trace that has the step's sub-segment
    record Along (u : Sub) : Type 0 where
      pub step : Step
      pub same : step.sub ≡ u
      pub place : ℕ
      pub below : place < length arcs
      pub right : option_map number (m.right_of step) ≡ owner_on owner (arc_of arcs place).right
      pub left : option_map number (left_of m step) ≡ owner_on owner (arc_of arcs place).left

    along : (u : Sub) → Contains m.subs u → is_drawn m u ≡ true → Along u
    along u c e =
        let there = Contains-permutation (drawn m) (map (λ (s : Step). s.sub) (flat_map (λ (t : List Step). t) are.traces)) u are.each_once (passing (is_drawn m) m.subs u c e) in
        let step = of_map (λ (s : Step). s.sub) (flat_map (λ (t : List Step). t) are.traces) u there in
        let trace = of_flat_map (λ (t : List Step). t) are.traces step.0 step.1 in
        let p = partner (RunsAlong m face) arcs are.traces trace.0 (record { points = []; begin = 0; end = 0; left = Outside; right = Outside }) are.edges trace.1 in
        let sides = p.goes.sides in
        let a = arc_of arcs p.place in
        let right : option_map face (m.right_of step.0) ≡ face_on a.right = All-contains (λ s. option_map face (m.right_of s) ≡ face_on a.right) trace.0 step.0 sides.rights trace.2 in
        let left : option_map face (left_of m step.0) ≡ face_on a.left = All-contains (λ s. option_map face (left_of m s) ≡ face_on a.left) trace.0 step.0 sides.lefts trace.2 in
        record {
          step = step.0;
          same = step.2;
          place = p.place;
          below = p.below;
          right = composed face owner (m.right_of step.0) ∙ ap (option_map owner) right ∙ owned owner a.right;
          left = composed face owner (left_of m step.0) ∙ ap (option_map owner) left ∙ owned owner a.left;
        }

    -- the edge has the set on one side alone
    its_part : (u : Sub) (x y : Bool) (n : ℕ) (right left : Option ℕ)
        → option_map number (m.right_of (record { sub = u; forward = x })) ≡ Some k → (option_map number (m.right_of (record { sub = u; forward = not x })) ≡ Some k → ⊥)
        → option_map number (m.right_of (record { sub = u; forward = y })) ≡ right → option_map number (m.right_of (record { sub = u; forward = not y })) ≡ left
        → (p : Part) × Contains (parts_of (is_set k right) (is_set k left) n) p
    its_part u true true n right left e other r l = right_part n (is_set k right) (is_set k left) (set_here k right (sym r ∙ e)) (set_elsewhere k left (λ q. other (l ∙ q)))
    its_part u false false n right left e other r l = right_part n (is_set k right) (is_set k left) (set_here k right (sym r ∙ e)) (set_elsewhere k left (λ q. other (l ∙ q)))
    its_part u true false n right left e other r l = left_part n (is_set k right) (is_set k left) (set_elsewhere k right (λ q. other (r ∙ q))) (set_here k left (sym l ∙ e))
    its_part u false true n right left e other r l = left_part n (is_set k right) (is_set k left) (set_elsewhere k right (λ q. other (r ∙ q))) (set_here k left (sym l ∙ e))

    pub bordered : Bounds m number k → (p : Part) × Contains (bordering arcs owner k) p
    bordered b =
        let a = along b.step.sub b.there (step_drawn b) in
        let right : option_map number (m.right_of (record { sub = b.step.sub; forward = a.step.forward })) ≡ owner_on owner (arc_of arcs a.place).right = subst (λ (u : Sub). option_map number (m.right_of (record { sub = u; forward = a.step.forward })) ≡ owner_on owner (arc_of arcs a.place).right) a.same a.right in
        let left : option_map number (m.right_of (record { sub = b.step.sub; forward = not a.step.forward })) ≡ owner_on owner (arc_of arcs a.place).left = subst (λ (u : Sub). option_map number (m.right_of (record { sub = u; forward = not a.step.forward })) ≡ owner_on owner (arc_of arcs a.place).left) a.same a.left in
        let p = its_part b.step.sub b.step.forward a.step.forward a.place (owner_on owner (arc_of arcs a.place).right) (owner_on owner (arc_of arcs a.place).left) b.right b.left right left in
        (p.0, in_flat_map (λ n. parts_at owner k (arc_of arcs n) n) (range_with_len 0 (length arcs)) a.place p.0 (in_range 0 (length arcs) a.place (omega arith) (let l = a.below in omega (arith, l))) p.1)
