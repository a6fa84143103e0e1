-- The steps of traces run along drawn sub-segments; what filters and ranges have.
use Rattle.std.proofs.Common.{◌≡◌, ℕ, zero, suc, ◌+◌, ◌<◌, ◌≤◌, Bool, true, false, List, [], ◌∷◌, map, flat_map, refl, ap, ⊎_elim, arith}
use Rattle.std.specs.List.{range_with_len}
use Rattle.std.proofs.lemmas.List.Sorted.{Contains-permutation, IsPermutation-sym}
use Rattle.plane_laws.proofs.Lists.{in_flat_map}
use Rattle.mesh_definitions.specs.Edges.{DrawsAll}
use Rattle.mesh_definitions.specs.Faces.{drawn, steps_of}
use Rattle.mesh_definitions.specs.Pieces.{Mesh, ahead, back}
use Rattle.mesh_definitions.specs.declared.Step.{Step}
use Rattle.mesh_definitions.specs.declared.Sub.{Sub}
use Rattle.plane_laws.proofs.Members.{In, contains, in_left, in_map, in_right, is_in}

pub map_twice : {X Y Z : Type 0} (f : Y → Z) (g : X → Y) (xs : List X) → map f (map g xs) ≡ map (λ x. f (g x)) xs
map_twice f g [] = refl
map_twice f g (x ∷ xs) = ap (λ zs. f (g x) ∷ zs) (map_twice f g xs)

pub from_range : (a n k : ℕ) → In (range_with_len a n) k → (a ≤ k) × (k < a + n)
from_range a zero k i = absurd i
from_range a (suc n) k i = ⊎_elim (λ e. (omega (arith, e), omega (arith, e))) (λ j. let r = from_range (a + 1) n k j in let x = r.0 in let y = r.1 in (omega (arith, x), omega (arith, y))) i

-- a step of a trace runs along a drawn sub-segment
pub step_drawn : (m : Mesh) (traces : List (List Step)) → DrawsAll m traces → (trace : List Step) (s : Step) → In traces trace → In trace s → In (drawn m) s.sub
step_drawn m traces h trace s i j =
    let subs = map (λ (s : Step). s.sub) (flat_map (λ t. t) traces) in
    let k : In subs s.sub = in_map (λ s. s.sub) (flat_map (λ t. t) traces) s (in_flat_map (λ t. t) traces trace s i j) in
    is_in (drawn m) s.sub (Contains-permutation subs (drawn m) s.sub (IsPermutation-sym (drawn m) subs h) (contains subs s.sub k))

-- a sub-segment's step, either way, is one of all steps
pub listed : (m : Mesh) (s : Step) → In m.subs s.sub → In (steps_of m) s
listed m s i = go s.sub s.forward i
  where
    go : (u : Sub) (b : Bool) → In m.subs u → In (steps_of m) (record { sub = u; forward = b })
    go u true i = in_left (map ahead m.subs) (map back (map ahead m.subs)) (ahead u) (in_map ahead m.subs u i)
    go u false i = in_right (map ahead m.subs) (map back (map ahead m.subs)) (back (ahead u)) (in_map back (map ahead m.subs) (ahead u) (in_map ahead m.subs u i))
