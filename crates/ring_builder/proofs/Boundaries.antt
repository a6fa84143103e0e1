-- The boundary of a set of pieces is what the arcs that border it run along.
use Rattle.std.proofs.Common.{◌≡◌, ℕ, ◌<◌, Bool, true, false, cond, not, ◌&&◌, eqb, Option, Some, None, List, [], ◌∷◌, ◌++◌, map, flat_map, filter, reverse, length, get_or, Contains, IsPermutation, refl, sym, ap, ap₂, ◌∙◌, subst, arith}
use Rattle.std.specs.List.{range_with_len}
use Rattle.std.specs.Prelude.{option_map}
use Rattle.std.proofs.lemmas.List.{append-nil, map-append, map-id}
use Rattle.std.proofs.lemmas.List.Concat.{flat_map_single}
use Rattle.std.proofs.lemmas.List.Elements.{All-contains, Contains-get_or, filter-append}
use Rattle.std.proofs.lemmas.List.FromFn.{fill_by_all}
use Rattle.std.proofs.lemmas.List.Sorted.{IsPermutation-append_comm, IsPermutation-map, IsPermutation-refl, IsPermutation-reverse, IsPermutation-sym, IsPermutation-trans}
use Rattle.plane_laws.proofs.Lists.{from_filter}
use Rattle.boundary_arcs.proofs.Zips.{AllZip-at, AllZip-length}
use Rattle.boundary_arcs.specs.Edges.{AreArcsOf, RunsAlong, arc_of, face_on}
use Rattle.boundary_arcs.specs.declared.arc.Arc.{Arc}
use Rattle.boundary_arcs.specs.declared.arc.Side.TheVariants.{Outside, Face}
use Rattle.boundary_arcs.specs.declared.arc.Side.{Side}
use Rattle.mesh_definitions.specs.Faces.{borders, boundary, drawn, is_drawn, steps_of}
use Rattle.mesh_definitions.specs.Pieces.{Mesh, ahead, back, left_of, walked}
use Rattle.mesh_definitions.specs.declared.Piece.{Piece}
use Rattle.mesh_definitions.specs.declared.Step.{Step}
use Rattle.mesh_definitions.specs.declared.Sub.{Sub}
use Rattle.plane_laws.proofs.Members.{In, contains, is_in}
use Rattle.ring_builder.proofs.Orders.{filter_joined, flat_map_both, flat_map_each, flat_map_filter, flat_map_map, flat_map_none, flat_map_permuted, flat_map_same, flat_map_twice, one, order_by, same_order}
use Rattle.plane_geom.specs.Segments.{joins, turned}
use Rattle.plane_laws.specs.Borders.{HasPieces, within}
use Rattle.ring_builder.proofs.Outlines.{no_arc}
use Rattle.ring_builder.proofs.Traced.{from_range, listed, map_twice, step_drawn}
use Rattle.ring_builder.specs.Parts.{bordering, is_set, owner_on, part_segments, parts_at, parts_of}
use Rattle.ring_builder.specs.declared.ring.Part.{Part}

joined_map : {X Y Z : Type 0} (f : Y → Z) (g : X → List Y) (xs : List X) → map f (flat_map g xs) ≡ flat_map (λ x. map f (g x)) xs
joined_map f g [] = refl
joined_map f g (x ∷ xs) = map-append f (g x) (flat_map g xs) ∙ ap (λ t. map f (g x) ++ t) (joined_map f g xs)

walked_back : (m : Mesh) (ss : List Step) → map (walked m) (map back ss) ≡ map turned (map (walked m) ss)
walked_back m [] = refl
walked_back m (s ∷ ss) = ap₂ ◌∷◌ (go s.sub s.forward) (walked_back m ss)
  where
    go : (u : Sub) (b : Bool) → walked m (back (record { sub = u; forward = b })) ≡ turned (walked m (record { sub = u; forward = b }))
    go u true = refl
    go u false = refl

-- a set of pieces by their numbers, where the owner of a piece's face is the piece's number
module _ (m : Mesh) (face number : Piece → ℕ) (owner : ℕ → ℕ) (pieces : HasPieces (borders m) m.pieces) (owns : (q : Piece) → Contains m.pieces q → owner (face q) ≡ number q) (alike : (u : Sub) → In m.subs u → is_drawn m u ≡ false → option_map number (m.right_of (ahead u)) ≡ option_map number (left_of m (ahead u))) (k : ℕ) where
  abbrev set : Piece → Bool
  set q = eqb (number q) k

  -- whether the set lies on the right of a step alone
  abbrev bounds : Step → Bool
  bounds s = within set (m.right_of s) && not (within set (left_of m s))

  by_number : (o : Option Piece) → within set o ≡ is_set k (option_map number o)
  by_number None = refl
  by_number (Some q) = refl

  by_side : (o : Option Piece) (s : Side) → ((q : Piece) → o ≡ Some q → Contains m.pieces q) → option_map face o ≡ face_on s → within set o ≡ is_set k (owner_on owner s)
  by_side None Outside there e = refl
  by_side None (Face x) there e = absurd (cc)
  by_side (Some q) Outside there e = absurd (cc)
  by_side (Some q) (Face x) there e =
      let same : face q ≡ x = cc in
      ap (λ z. eqb z k) (sym (owns q (there q refl)) ∙ ap owner same)

  and_not : (b : Bool) → (b && not b) ≡ false
  and_not true = refl
  and_not false = refl

  -- ---- both steps along a sub-segment, where they bound the set
  abbrev both : Sub → List Step
  both u = one bounds (ahead u) ++ one bounds (back (ahead u))

  undrawn : (u : Sub) → In m.subs u → is_drawn m u ≡ false → both u ≡ []
  undrawn u i e =
      let same : within set (m.right_of (ahead u)) ≡ within set (left_of m (ahead u)) = by_number (m.right_of (ahead u)) ∙ ap (is_set k) (alike u i e) ∙ sym (by_number (left_of m (ahead u))) in
      let first : bounds (ahead u) ≡ false = ap (λ b. b && not (within set (left_of m (ahead u)))) same ∙ and_not (within set (left_of m (ahead u))) in
      let second : bounds (back (ahead u)) ≡ false = ap (λ b. within set (left_of m (ahead u)) && not b) same ∙ and_not (within set (left_of m (ahead u))) in
      ap₂ (λ a b. cond a (ahead u ∷ []) [] ++ cond b (back (ahead u) ∷ []) []) first second

  -- the boundary is those of the drawn sub-segments
  of_drawn : IsPermutation (boundary m set) (flat_map both (drawn m))
  of_drawn = order_by (boundary m set)
      (flat_map (λ u. one bounds (ahead u)) m.subs ++ flat_map (λ u. one bounds (back (ahead u))) m.subs)
      (flat_map both m.subs)
      (flat_map both (drawn m))
      (filter-append bounds (map ahead m.subs) (map back (map ahead m.subs)) ∙ ap₂ ◌++◌ (filter_joined bounds ahead m.subs) (ap (filter bounds) (map_twice back ahead m.subs) ∙ filter_joined bounds (λ u. back (ahead u)) m.subs))
      (IsPermutation-sym (flat_map both m.subs) (flat_map (λ u. one bounds (ahead u)) m.subs ++ flat_map (λ u. one bounds (back (ahead u))) m.subs) (flat_map_both (λ u. one bounds (ahead u)) (λ u. one bounds (back (ahead u))) m.subs))
      (flat_map_filter both (is_drawn m) m.subs undrawn)

  -- a step and the same walked back are both steps along its sub-segment
  abbrev ways : Step → List Step
  ways s = one bounds s ++ one bounds (back s)

  both_ways : (s : Step) → IsPermutation (both s.sub) (ways s)
  both_ways s = go s.sub s.forward
    where
      go : (u : Sub) (b : Bool) → IsPermutation (both u) (ways (record { sub = u; forward = b }))
      go u true = IsPermutation-refl (both u)
      go u false = IsPermutation-append_comm (one bounds (ahead u)) (one bounds (back (ahead u)))

  -- ---- along a trace
  module _ (arcs : List Arc) (are : AreArcsOf m face arcs) where
    there : (trace : List Step) (s : Step) (q : Piece) → In are.traces trace → In trace s → m.right_of s ≡ Some q → Contains m.pieces q
    there trace s q i j e = pieces.sides s q (contains (steps_of m) s (listed m s (from_filter (is_drawn m) m.subs s.sub (step_drawn m are.traces are.each_once trace s i j)).0)) e

    there_back : (trace : List Step) (s : Step) (q : Piece) → In are.traces trace → In trace s → left_of m s ≡ Some q → Contains m.pieces q
    there_back trace s q i j e = pieces.sides (back s) q (contains (steps_of m) (back s) (listed m (back s) (from_filter (is_drawn m) m.subs s.sub (step_drawn m are.traces are.each_once trace s i j)).0)) e

    module _ (a : Arc) (trace : List Step) (i : In are.traces trace) (r : RunsAlong m face a trace) where
      abbrev right : Bool
      right = is_set k (owner_on owner a.right)

      abbrev left : Bool
      left = is_set k (owner_on owner a.left)

      right_is : (s : Step) → In trace s → within set (m.right_of s) ≡ right
      right_is s j = by_side (m.right_of s) a.right (λ q e. there trace s q i j e) (All-contains (λ t. option_map face (m.right_of t) ≡ face_on a.right) trace s r.sides.rights (contains trace s j))

      left_is : (s : Step) → In trace s → within set (left_of m s) ≡ left
      left_is s j = by_side (left_of m s) a.left (λ q e. there_back trace s q i j e) (All-contains (λ t. option_map face (left_of m t) ≡ face_on a.left) trace s r.sides.lefts (contains trace s j))

      again : (s : Step) → left_of m (back s) ≡ m.right_of s
      again s = go s.sub s.forward
        where
          go : (u : Sub) (b : Bool) → left_of m (back (record { sub = u; forward = b })) ≡ m.right_of (record { sub = u; forward = b })
          go u true = refl
          go u false = refl

      -- all steps of a trace bound the set alike
      abbrev alike_ways : Bool → Bool → Step → List Step
      alike_ways x y s = cond (x && not y) (s ∷ []) [] ++ cond (y && not x) (back s ∷ []) []

      ways_are : (s : Step) → In trace s → ways s ≡ alike_ways right left s
      ways_are s j =
          let first : bounds s ≡ (right && not left) = ap₂ (λ x y. x && not y) (right_is s j) (left_is s j) in
          let second : bounds (back s) ≡ (left && not right) = ap₂ (λ x y. x && not y) (left_is s j) (ap (within set) (again s) ∙ right_is s j) in
          ap₂ (λ x y. cond x (s ∷ []) [] ++ cond y (back s ∷ []) []) first second

      segments : joins a.points ≡ map (walked m) trace
      segments = ap joins r.points ∙ r.edge.follows

      abbrev forwards : ℕ → Part
      forwards n = record { arc = n; forward = true }

      along : (n : ℕ) (x y : Bool) → arc_of arcs n ≡ a → IsPermutation (map (walked m) (flat_map (alike_ways x y) trace)) (flat_map (part_segments arcs) (parts_of x y n))
      along n true true e = same_order (map (walked m) (flat_map (alike_ways true true) trace)) [] (ap (map (walked m)) (flat_map_none trace))
      along n false false e = same_order (map (walked m) (flat_map (alike_ways false false) trace)) [] (ap (map (walked m)) (flat_map_none trace))
      along n true false e = same_order (map (walked m) (flat_map (alike_ways true false) trace)) (flat_map (part_segments arcs) (parts_of true false n))
          (ap (map (walked m)) (flat_map_single (λ (s : Step). s) trace ∙ map-id trace) ∙ sym segments ∙ ap (λ (z : Arc). joins z.points) (sym e) ∙ sym (append-nil (joins (arc_of arcs n).points)))
      along n false true e = order_by (map (walked m) (flat_map (alike_ways false true) trace)) (map turned (map (walked m) trace)) (map turned (reverse (map (walked m) trace))) (flat_map (part_segments arcs) (parts_of false true n))
          (ap (map (walked m)) (flat_map_single back trace) ∙ walked_back m trace)
          (IsPermutation-map turned (map (walked m) trace) (reverse (map (walked m) trace)) (IsPermutation-reverse (map (walked m) trace)))
          (ap (λ t. map turned (reverse t)) (sym segments ∙ ap (λ (z : Arc). joins z.points) (sym e)) ∙ sym (append-nil (map turned (reverse (joins (arc_of arcs n).points)))))

      -- the steps along a trace that bound the set lie where the part of its arc does
      pub trace_bounds : (n : ℕ) → arc_of arcs n ≡ a → IsPermutation (map (walked m) (flat_map ways trace)) (flat_map (part_segments arcs) (parts_at owner k a n))
      trace_bounds n e = subst (λ t. IsPermutation (map (walked m) t) (flat_map (part_segments arcs) (parts_at owner k a n))) (sym (flat_map_same ways (alike_ways right left) trace ways_are)) (along n right left e)

    -- ---- over all traces
    abbrev trace_of : ℕ → List Step
    trace_of n = get_or are.traces n []

    as_many : length arcs ≡ length are.traces
    as_many = AllZip-length (RunsAlong m face) arcs are.traces are.edges

    all_traces : are.traces ≡ map trace_of (range_with_len 0 (length arcs))
    all_traces = fill_by_all trace_of are.traces (length arcs) [] (sym as_many) (λ n l. refl)

    abbrev steps : List Step
    steps = flat_map (λ t. t) are.traces

    -- the boundary, step by step along the traces
    by_steps : IsPermutation (boundary m set) (flat_map ways steps)
    by_steps = IsPermutation-trans (boundary m set) (flat_map both (drawn m)) (flat_map ways steps) of_drawn
        (IsPermutation-trans (flat_map both (drawn m)) (flat_map both (map (λ s. s.sub) steps)) (flat_map ways steps)
        (flat_map_permuted both (drawn m) (map (λ s. s.sub) steps) are.each_once)
        (order_by (flat_map both (map (λ s. s.sub) steps)) (flat_map (λ s. both s.sub) steps) (flat_map ways steps) (flat_map ways steps) (flat_map_map both (λ s. s.sub) steps) (flat_map_each (λ s. both s.sub) ways steps (λ s i. both_ways s)) refl))

    by_arcs : map (walked m) (flat_map ways steps) ≡ flat_map (λ n. map (walked m) (flat_map ways (trace_of n))) (range_with_len 0 (length arcs))
    by_arcs =
        ap (map (walked m)) (flat_map_twice ways (λ t. t) are.traces)
        ∙ joined_map (walked m) (flat_map ways) are.traces
        ∙ ap (flat_map (λ t. map (walked m) (flat_map ways t))) all_traces
        ∙ flat_map_map (λ t. map (walked m) (flat_map ways t)) trace_of (range_with_len 0 (length arcs))

    -- the boundary of the set lies where the parts of the arcs that border it do
    pub bordered : IsPermutation (map (walked m) (boundary m set)) (flat_map (part_segments arcs) (bordering arcs owner k))
    bordered = IsPermutation-trans (map (walked m) (boundary m set)) (map (walked m) (flat_map ways steps)) (flat_map (part_segments arcs) (bordering arcs owner k))
        (IsPermutation-map (walked m) (boundary m set) (flat_map ways steps) by_steps)
        (order_by (map (walked m) (flat_map ways steps))
        (flat_map (λ n. map (walked m) (flat_map ways (trace_of n))) (range_with_len 0 (length arcs)))
        (flat_map (λ n. flat_map (part_segments arcs) (parts_at owner k (arc_of arcs n) n)) (range_with_len 0 (length arcs)))
        (flat_map (part_segments arcs) (bordering arcs owner k))
        by_arcs
        (flat_map_each (λ n. map (walked m) (flat_map ways (trace_of n))) (λ n. flat_map (part_segments arcs) (parts_at owner k (arc_of arcs n) n)) (range_with_len 0 (length arcs)) each)
        (sym (flat_map_twice (part_segments arcs) (λ n. parts_at owner k (arc_of arcs n) n) (range_with_len 0 (length arcs)))))
      where
        each : (n : ℕ) → In (range_with_len 0 (length arcs)) n → IsPermutation (map (walked m) (flat_map ways (trace_of n))) (flat_map (part_segments arcs) (parts_at owner k (arc_of arcs n) n))
        each n i =
            let b = from_range 0 (length arcs) n i in
            let l : n < length arcs = let below = b.1 in omega (arith, below) in
            trace_bounds (arc_of arcs n) (trace_of n) (is_in are.traces (trace_of n) (Contains-get_or are.traces n [] (let z = as_many in omega (arith, z, l)))) (AllZip-at (RunsAlong m face) arcs are.traces n no_arc [] are.edges l) n refl
