-- Edges along the border of a set of faces: each has a step of its own there, and as many as it has segments.
use Rattle.std.proofs.Common.{◌≡◌, ℕ, zero, suc, ◌+◌, ◌*◌, ◌<◌, ◌≤◌, Bool, true, false, option_map, List, [], ◌∷◌, ◌++◌, length, map, flat_map, refl, ap, ap₂, ◌∙◌, arith}
use Rattle.std.specs.List.{All, AllZip, Contains, sum_by}
use Rattle.std.proofs.lemmas.List.{length-map}
use Rattle.std.proofs.lemmas.List.Elements.{All-contains_itself, All-cons, All-filter, All-head, All-nil, All-tail}
use Rattle.std.proofs.lemmas.List.Sorted.{All-permutation, sum_by-IsPermutation}
use Rattle.std.proofs.lemmas.List.Sums.{sum_by-append, sum_by-cons}
use Rattle.boundary_arcs.specs.Edges.{RunsAlong, face_on}
use Rattle.boundary_arcs.specs.declared.arc.Arc.{Arc}
use Rattle.boundary_arcs.specs.declared.arc.Side.TheVariants.{Face, Outside}
use Rattle.boundary_arcs.specs.declared.arc.Side.{Side}
use Rattle.mesh_definitions.specs.Edges.{DrawsAll}
use Rattle.mesh_definitions.specs.Faces.{boundary, drawn, is_drawn}
use Rattle.mesh_definitions.specs.Pieces.{Mesh, ahead, back, left_of, walked}
use Rattle.mesh_definitions.specs.declared.Piece.{Piece}
use Rattle.mesh_definitions.specs.declared.Step.{Step}
use Rattle.mesh_definitions.specs.declared.Sub.{Sub}
use Rattle.plane_laws.proofs.Lists.{all_left, all_right}
use Rattle.record_size_laws.proofs.Records.Borders.{border_length, on_border, one_sided, one_sided_back}
use Rattle.record_size_laws.proofs.Records.Sums.{sum_by-filter-le, sum_by-map}
use Rattle.plane_geom.specs.Segments.{joins}
use Rattle.plane_geom.specs.declared.Point.{Point}
use Rattle.plane_laws.specs.Borders.{within}
use Rattle.ring_builder.specs.Parts.{is_set, owner_on}

-- ---- how many points a walk has

pub length-joins : (p : Point) (ps : List Point) → length (joins (p ∷ ps)) ≡ length ps
length-joins p [] = refl
length-joins p (q ∷ qs) = ap suc (length-joins q qs)

-- an edge has a point more than its trace has steps
trace_length : (m : Mesh) (face : Piece → ℕ) (a : Arc) (t : List Step) → RunsAlong m face a t → length a.points ≡ 1 + length t
trace_length m face a t r =
    let steps : length (joins (r.first ∷ (r.between ++ r.last ∷ []))) ≡ length (map (walked m) t) = ap length r.edge.follows in
    omega (arith, ap length r.points, length-joins r.first (r.between ++ r.last ∷ []), steps, length-map t (walked m))

-- ---- sides

-- 1 where set k is on one side of an edge alone, else 0
abbrev pub sided : (ℕ → ℕ) → ℕ → Arc → ℕ
sided owner k a = one_sided (is_set k (owner_on owner a.right)) (is_set k (owner_on owner a.left))

-- F has the pieces of the faces of set k, beside the sub-segments of a mesh
abbrev pub Agrees : Mesh → (Piece → ℕ) → (ℕ → ℕ) → ℕ → (Piece → Bool) → Type 0
Agrees m face owner k F = (s : Step) → Contains m.subs s.sub → within F (m.right_of s) ≡ is_set k (option_map owner (option_map face (m.right_of s)))

-- a step is one of a mesh
abbrev pub IsOf : Mesh → Step → Type 0
IsOf m s = Contains m.subs s.sub

module _ (m : Mesh) (face : Piece → ℕ) (owner : ℕ → ℕ) (k : ℕ) (F : Piece → Bool) (agrees : Agrees m face owner k F) where
  owner_side : (x : Side) → is_set k (option_map owner (face_on x)) ≡ is_set k (owner_on owner x)
  owner_side Outside = refl
  owner_side (Face a) = refl

  on_side : (s : Step) (x : Side) → IsOf m s → option_map face (m.right_of s) ≡ face_on x → within F (m.right_of s) ≡ is_set k (owner_on owner x)
  on_side s x there is = agrees s there ∙ ap (λ o. is_set k (option_map owner o)) is ∙ owner_side x

  step_counts : (a : Arc) (s : Sub) (forward : Bool) → Contains m.subs s → option_map face (m.right_of (record { sub = s; forward = forward })) ≡ face_on a.right
      → option_map face (left_of m (record { sub = s; forward = forward })) ≡ face_on a.left → on_border m F s ≡ sided owner k a
  step_counts a s true there right left = ap₂ one_sided (on_side (ahead s) a.right there right) (on_side (back (ahead s)) a.left there left)
  step_counts a s false there right left =
      ap₂ one_sided (on_side (ahead s) a.left there left) (on_side (back (ahead s)) a.right there right) ∙ one_sided_back (is_set k (owner_on owner a.right)) (is_set k (owner_on owner a.left))

  -- all steps of an edge are on the border, or none is
  trace_counts : (a : Arc) (t : List Step) → All (IsOf m) t → All (λ s. option_map face (m.right_of s) ≡ face_on a.right) t → All (λ s. option_map face (left_of m s) ≡ face_on a.left) t
      → sum_by (λ (s : Step). on_border m F s.sub) t ≡ length t * sided owner k a
  trace_counts a [] there rights lefts = let none : 0 ≡ 0 * sided owner k a = omega arith in none
  trace_counts a (s ∷ t) there rights lefts =
      let one = step_counts a s.sub s.forward (All-head (IsOf m) s t there) (All-head (λ s. option_map face (m.right_of s) ≡ face_on a.right) s t rights) (All-head (λ s. option_map face (left_of m s) ≡ face_on a.left) s t lefts) in
      let rest = trace_counts a t (All-tail (IsOf m) s t there) (All-tail (λ s. option_map face (m.right_of s) ≡ face_on a.right) s t rights) (All-tail (λ s. option_map face (left_of m s) ≡ face_on a.left) s t lefts) in
      let more : length (s ∷ t) * sided owner k a ≡ sided owner k a + length t * sided owner k a = omega arith in
      omega (arith, one, rest, more, sum_by-cons (λ (s : Step). on_border m F s.sub) s t)

  arc_counts : (a : Arc) (t : List Step) → RunsAlong m face a t → All (IsOf m) t → sum_by (λ (s : Step). on_border m F s.sub) t ≡ length t * sided owner k a
  arc_counts a t r there = trace_counts a t there r.sides.rights r.sides.lefts

  -- edges on the border have at least as many steps there together
  arcs_counted : (arcs : List Arc) (traces : List (List Step)) → AllZip (RunsAlong m face) arcs traces → All (IsOf m) (flat_map (λ t. t) traces)
      → sum_by (sided owner k) arcs ≤ sum_by (λ (s : Step). on_border m F s.sub) (flat_map (λ t. t) traces)
  arcs_counted [] [] h there = omega arith
  arcs_counted [] (t ∷ ts) h there = absurd h
  arcs_counted (a ∷ arcs) [] h there = absurd h
  arcs_counted (a ∷ arcs) (t ∷ ts) h there =
      let rest = arcs_counted arcs ts h.1 (all_right (IsOf m) t (flat_map (λ t. t) ts) there) in
      let one = arc_counts a t h.0 (all_left (IsOf m) t (flat_map (λ t. t) ts) there) in
      let once = at_least_once (length t) (sided owner k a) h.0.edge.some in
      omega (arith, rest, one, once, sum_by-cons (sided owner k) a arcs, sum_by-append (λ (s : Step). on_border m F s.sub) t (flat_map (λ t. t) ts))
    where
      at_least_once : (n c : ℕ) → 0 < n → c ≤ n * c
      at_least_once zero c some = absurd (omega (arith, some))
      at_least_once (suc n) c some = omega arith

  -- one edge on the border has no more steps than all steps count there
  each_counted : (n : ℕ) (arcs : List Arc) (traces : List (List Step)) → AllZip (RunsAlong m face) arcs traces → All (IsOf m) (flat_map (λ t. t) traces)
      → sum_by (λ (s : Step). on_border m F s.sub) (flat_map (λ t. t) traces) ≤ n → All (λ (a : Arc). sided owner k a ≡ 1 → length a.points ≤ 1 + n) arcs
  each_counted n [] [] h there few = All-nil (λ (a : Arc). sided owner k a ≡ 1 → length a.points ≤ 1 + n)
  each_counted n [] (t ∷ ts) h there few = absurd h
  each_counted n (a ∷ arcs) [] h there few = absurd h
  each_counted n (a ∷ arcs) (t ∷ ts) h there few =
      let both = sum_by-append (λ (s : Step). on_border m F s.sub) t (flat_map (λ t. t) ts) in
      let one = arc_counts a t h.0 (all_left (IsOf m) t (flat_map (λ t. t) ts) there) in
      All-cons (λ (a : Arc). sided owner k a ≡ 1 → length a.points ≤ 1 + n) a arcs
      (λ is. let all = all_of (length t) (sided owner k a) is in omega (arith, few, both, one, all, trace_length m face a t h.0))
      (each_counted n arcs ts h.1 (all_right (IsOf m) t (flat_map (λ t. t) ts) there) (omega (arith, few, both)))
    where
      all_of : (n c : ℕ) → c ≡ 1 → n * c ≡ n
      all_of n c is = ap (λ z. n * z) is ∙ (let once : n * 1 ≡ n = omega arith in once)

  -- ---- edges along all drawn sub-segments

  module _ (arcs : List Arc) (traces : List (List Step)) (draws : DrawsAll m traces) (runs : AllZip (RunsAlong m face) arcs traces) where
    abbrev steps : List Step
    steps = flat_map (λ t. t) traces

    steps_there : All (IsOf m) steps
    steps_there =
        let subs = All-permutation (Contains m.subs) (drawn m) (map (λ (s : Step). s.sub) steps) draws (All-filter (is_drawn m) (Contains m.subs) m.subs (All-contains_itself m.subs)) in
        All-unmapped steps subs
      where
        All-unmapped : (ss : List Step) → All (Contains m.subs) (map (λ (s : Step). s.sub) ss) → All (IsOf m) ss
        All-unmapped [] h = All-nil (IsOf m)
        All-unmapped (s ∷ ss) h = All-cons (IsOf m) s ss (All-head (Contains m.subs) s.sub (map (λ (s : Step). s.sub) ss) h) (All-unmapped ss (All-tail (Contains m.subs) s.sub (map (λ (s : Step). s.sub) ss) h))

    steps_on_border : sum_by (λ (s : Step). on_border m F s.sub) steps ≤ length (boundary m F)
    steps_on_border =
        omega (
          arith,
          sum_by-map (on_border m F) (λ (s : Step). s.sub) steps,
          sum_by-IsPermutation (on_border m F) (drawn m) (map (λ (s : Step). s.sub) steps) draws,
          sum_by-filter-le (on_border m F) (is_drawn m) m.subs,
          border_length m F,
        )

    -- no more edges border the set than its border has steps
    pub arcs_on_border : sum_by (sided owner k) arcs ≤ length (boundary m F)
    arcs_on_border = omega (arith, arcs_counted arcs traces runs steps_there, steps_on_border)

    -- and each of them is no longer than the border
    pub arc_on_border : All (λ (a : Arc). sided owner k a ≡ 1 → length a.points ≤ 1 + length (boundary m F)) arcs
    arc_on_border = each_counted (length (boundary m F)) arcs traces runs steps_there steps_on_border
