-- The edges and connected nodes of made parts are those of the mesh.
use Rattle.std.proofs.Common.{◌≡◌, ◌≢◌, ◌⊎◌, ℕ, ◌+◌, ◌<◌, ℤ, int_le, ◌&&◌, Bool, true, false, eqb, Some, List, [], ◌∷◌, ◌++◌, map, flat_map, length, get_or, AllPairs, Contains, refl, sym, ap, ap₂, ◌∙◌, subst, inl, inr, ⊎_elim, arith}
use Rattle.std.specs.List.{AllZip, range_with_len}
use Rattle.std.proofs.lemmas.Bool.{and_parts}
use Rattle.std.proofs.lemmas.Int.{ints}
use Rattle.std.proofs.lemmas.List.{get_or_default}
use Rattle.std.proofs.lemmas.List.Elements.{All-contains, All-contains_itself}
use Rattle.std.proofs.lemmas.List.FromFn.{fill_by_all}
use Rattle.std.proofs.lemmas.List.Sorted.{Contains-permutation}
use Rattle.boundary_arcs.proofs.Zips.{AllZip-at}
use Rattle.boundary_arcs.specs.Edges.{AreArcs, AreArcsOf, RunsAlong}
use Rattle.boundary_arcs.specs.declared.arc.Arc.{Arc}
use Rattle.mesh_definitions.specs.Edges.{DrawsAll, IsJunction, drawn_steps, same_point}
use Rattle.mesh_definitions.specs.Faces.{drawn}
use Rattle.mesh_definitions.specs.Pieces.{Mesh, ahead, back, walked}
use Rattle.mesh_definitions.specs.declared.Piece.{Piece}
use Rattle.mesh_definitions.specs.declared.Step.{Step}
use Rattle.mesh_definitions.specs.declared.Sub.{Sub}
use Rattle.chart_definitions.specs.Edges.{FollowsTrace, HasEdges, IsClosedAt, node_points}
use Rattle.chart_model.proofs.Finding.{found_keeps}
use Rattle.chart_model.specs.Lines.{connected_at, node_at}
use Rattle.chart_model.specs.declared.records.Connected.{Connected}
use Rattle.chart_model.specs.declared.records.Edge.{Edge}
use Rattle.chart_model.specs.declared.records.Parts.{Parts}
use Rattle.built_parts.specs.Nodes.{connected_record, connected_records, edge_record, edge_records}
use Rattle.tiling_laws.proofs.Lines.{subs_of}
use Rattle.tiling_laws.proofs.Members.{partner_back}
use Rattle.tiling_laws.proofs.Numbers.{flag, number, number_is}
use Rattle.mesh_laws.proofs.Once.{mapped}
use Rattle.mesh_laws.proofs.Places.{in_range}
use Rattle.parts_laws.proofs.Lists.{map_twice}
use Rattle.parts_laws.proofs.Chart.Traces.{all_follow, follows, no_arc, node_lies, origin}
use Rattle.parts_laws.proofs.Chart.Used.{AreUsed}
use Rattle.plane_geom.specs.Segments.{joins}
use Rattle.plane_geom.specs.declared.Point.{Point}
use Rattle.plane_geom.specs.declared.Seg.{Seg}
use Rattle.plane_laws.proofs.Lists.{from_flat_map, from_map, from_append}
use Rattle.plane_laws.proofs.Members.{In, contains, in_map, is_in}

-- ---- points by tests

le_both : (a b : ℤ) → (int_le a b && int_le b a) ≡ true → a ≡ b
le_both a b e = grind (arith, ints)

same_place : (p q : Point) → same_point p q ≡ true → p ≡ q
same_place p q e =
    let h = and_parts (int_le p.x q.x && int_le q.x p.x) (int_le p.y q.y && int_le q.y p.y) e in
    ap₂ (λ x y. let r : Point = record { x = x; y = y } in r) (le_both p.x q.x h.0) (le_both p.y q.y h.1)

-- ---- members

-- where more than none passes a test, one does
some_passes : {X : Type 0} (test : X → Bool) (xs : List X) → 0 < number test xs → (x : X) × In xs x × (test x ≡ true)
some_passes test [] l = absurd (omega (arith, l))
some_passes {X} test (x ∷ xs) l = go (test x) refl (some_passes test xs)
  where
    go : (b : Bool) → test x ≡ b → (0 < number test xs → (y : X) × In xs y × (test y ≡ true)) → (y : X) × In (x ∷ xs) y × (test y ≡ true)
    go true e rest = (x, inl refl, e)
    go false e rest = let r = rest (let none = ap flag e in omega (arith, l, none)) in (r.0, inr r.1, r.2)

-- the points at the ends of a segment along points are among them
on_joins : (ps : List Point) (t : Seg) → In (joins ps) t → In ps t.a × In ps t.b
on_joins [] t i = absurd i
on_joins (p ∷ []) t i = absurd i
on_joins (p ∷ q ∷ ps) t i = ⊎_elim
    (λ e. (inl (ap (λ (s : Seg). s.a) e), inr (inl (ap (λ (s : Seg). s.b) e))))
    (λ j. let r = on_joins (q ∷ ps) t j in (inr r.0, inr r.1))
    i

-- each drawn sub-segment has its step
pub drawn_step : (m : Mesh) (traces : List (List Step)) → DrawsAll m traces → (u : Sub) → In (drawn m) u → (trace : List Step) × (s : Step) × In traces trace × In trace s × (s.sub ≡ u)
drawn_step m traces h u i =
    let there : In (subs_of traces) u = is_in (subs_of traces) u (Contains-permutation (drawn m) (subs_of traces) u h (contains (drawn m) u i)) in
    let s = from_map (λ s. s.sub) (flat_map (λ t. t) traces) u there in
    let t = from_flat_map (λ t. t) traces s.0 s.1 in
    (t.0, s.0, t.1, t.2, s.2)

-- a step begins at one of the ends of each step along its sub-segment
begins_there : (m : Mesh) (u : Sub) (a b : Bool) → let s : Step = record { sub = u; forward = a } in let t : Step = record { sub = u; forward = b } in ((walked m s).a ≡ (walked m t).a) ⊎ ((walked m s).a ≡ (walked m t).b)
begins_there m u true true = inl refl
begins_there m u true false = inr refl
begins_there m u false true = inr refl
begins_there m u false false = inl refl

one_there : (ps : List Point) (x : Point) (t : Seg) (p : Point) → x ≡ p → (x ≡ t.a) ⊎ (x ≡ t.b) → In ps t.a → In ps t.b → In ps p
one_there ps x t p e h a b = ⊎_elim (λ y. subst (In ps) (sym y ∙ e) a) (λ y. subst (In ps) (sym y ∙ e) b) h

-- of points between a first and a last one, those that aren't between are one of the two
either_end : (first : Point) (between : List Point) (last p : Point) → In (first ∷ (between ++ last ∷ [])) p → ¬ (In between p) → (first ≡ p) ⊎ (last ≡ p)
either_end first between last p i off = ⊎_elim
    (λ e. inl e)
    (λ j. ⊎_elim (λ k. absurd (off k)) (λ k. ⊎_elim (λ e. inr e) (λ n. absurd n) k) (from_append between (last ∷ []) p j))
    i

module _ (m : Mesh) (face : Piece → ℕ) (nodes : List Point) (arcs : List Arc) (faces : ℕ) (keep : AreArcs nodes arcs faces) (are : AreArcsOf m face arcs) (used : AreUsed nodes arcs) (c : Parts) (connected : c.connected ≡ connected_records nodes) (edges : c.edges ≡ edge_records arcs) where
  points_are : node_points c ≡ nodes
  points_are =
      ap (map (λ (k : Connected). k.at)) connected
      ∙ map_twice (λ (k : Connected). k.at) (connected_record nodes) (range_with_len 0 (length nodes))
      ∙ sym (fill_by_all (λ k. get_or nodes k origin) nodes (length nodes) origin refl (λ k l. refl))

  -- a point that a node by a number has is one of the nodes' points
  node_known : (n : ℕ) (p : Point) → node_at c n ≡ Some p → Contains (node_points c) p
  node_known n p e =
      let k = mapped (λ (k : Connected). k.at) (connected_at c n) p e in
      let there : Contains c.connected k.0 = found_keeps (Contains c.connected) (λ (k : Connected). eqb k.rcid n) c.connected k.0 (All-contains_itself c.connected) k.1 in
      contains (node_points c) p (subst (In (node_points c)) k.2 (in_map (λ (k : Connected). k.at) c.connected k.0 (is_in c.connected k.0 there)))

  all : AllZip (FollowsTrace m c) c.edges are.traces
  all = all_follow nodes arcs faces keep c connected edges m face are.traces are.edges

  -- a junction on an edge is where it begins or ends
  junction_on : (e : Edge) (trace : List Step) (p : Point) (f : FollowsTrace m c e trace) → In (f.first ∷ (e.inner ++ f.last ∷ [])) p → IsJunction m p → Contains (node_points c) p
  junction_on e trace p f i j = ⊎_elim {C = Contains (node_points c) p}
      (λ x. node_known e.first p (f.begins ∙ ap Some x))
      (λ x. node_known e.last p (f.ends ∙ ap Some x))
      (either_end f.first e.inner f.last p i (λ k. All-contains (λ q. ¬ (IsJunction m q)) e.inner p f.along.no_junction (contains e.inner p k) j))

  -- a step along an edge's trace begins and ends at points of the edge
  step_on : (e : Edge) (trace : List Step) (s : Step) (f : FollowsTrace m c e trace) → In trace s → In (f.first ∷ (e.inner ++ f.last ∷ [])) (walked m s).a × In (f.first ∷ (e.inner ++ f.last ∷ [])) (walked m s).b
  step_on e trace s f i = on_joins (f.first ∷ (e.inner ++ f.last ∷ [])) (walked m s) (subst (λ z. In z (walked m s)) (sym f.along.follows) (in_map (walked m) trace s i))

  -- where a drawn sub-segment's step begins at a junction, the junction is known
  junction_at : (t s : Step) (e : Edge) (trace : List Step) (p : Point) → (walked m t).a ≡ p → ((walked m t).a ≡ (walked m s).a) ⊎ ((walked m t).a ≡ (walked m s).b) → In trace s → FollowsTrace m c e trace → IsJunction m p → Contains (node_points c) p
  junction_at t s e trace p at one i f j =
      let ends = step_on e trace s f i in
      junction_on e trace p f (one_there (f.first ∷ (e.inner ++ f.last ∷ [])) (walked m t).a (walked m s) p at one ends.0 ends.1) j

  junction_known : (p : Point) → IsJunction m p → Contains (node_points c) p
  junction_known p j =
      let test : Step → Bool = λ s. same_point (walked m s).a p in
      let t = some_passes test (drawn_steps m) (let e = number_is test (drawn_steps m) in omega (arith, e, j)) in
      let s = drawn_step m are.traces are.each_once t.0.sub (drawn_sub t.0 t.1) in
      let e = partner_back (FollowsTrace m c) c.edges are.traces all s.0 s.2 in
      junction_at t.0 s.1 e.0 s.0 p (same_place (walked m t.0).a p t.2) (one_of t.0 s.1 s.4) s.3 e.2 j
    where
      drawn_sub : (t : Step) → In (drawn_steps m) t → In (drawn m) t.sub
      drawn_sub t i = ⊎_elim
          (λ j. let r = from_map ahead (drawn m) t j in subst (λ z. In (drawn m) z.sub) r.2 r.1)
          (λ j. let r = from_map back (map ahead (drawn m)) t j in let q = from_map ahead (drawn m) r.0 r.1 in subst (λ z. In (drawn m) z.sub) r.2 (subst (λ z. In (drawn m) z.sub) q.2 q.1))
          (from_append (map ahead (drawn m)) (map back (map ahead (drawn m))) t i)

      one_of : (t s : Step) → s.sub ≡ t.sub → ((walked m t).a ≡ (walked m s).a) ⊎ ((walked m t).a ≡ (walked m s).b)
      one_of t s e = subst (λ u. ((walked m t).a ≡ (walked m (record { sub = u; forward = s.forward })).a) ⊎ ((walked m t).a ≡ (walked m (record { sub = u; forward = s.forward })).b)) (sym e) (begins_there m t.sub t.forward s.forward)

  some_same : (x y : Point) → Some x ≡ Some y → x ≡ y
  some_same x y e = cc

  -- where an edge begins or ends there is a junction, or the edge is closed
  begin_known : (e : Edge) (trace : List Step) (p : Point) → Contains c.edges e → FollowsTrace m c e trace → node_at c e.first ≡ Some p → IsJunction m p ⊎ IsClosedAt c p
  begin_known e trace p there f at =
      let same : f.first ≡ p = some_same f.first p (sym f.begins ∙ at) in
      ⊎_elim {C = IsJunction m p ⊎ IsClosedAt c p}
      (λ j. inl (subst (IsJunction m) same j.0))
      (λ j. inr (record { edge = e; there = there; begins = f.begins ∙ ap Some same; ends = f.ends ∙ ap Some (sym j.0 ∙ same) }))
      f.along.ends

  end_known : (e : Edge) (trace : List Step) (p : Point) → Contains c.edges e → FollowsTrace m c e trace → node_at c e.last ≡ Some p → IsJunction m p ⊎ IsClosedAt c p
  end_known e trace p there f at =
      let same : f.last ≡ p = some_same f.last p (sym f.ends ∙ at) in
      ⊎_elim {C = IsJunction m p ⊎ IsClosedAt c p}
      (λ j. inl (subst (IsJunction m) same j.1))
      (λ j. inr (record { edge = e; there = there; begins = f.begins ∙ ap Some (j.0 ∙ same); ends = f.ends ∙ ap Some same }))
      f.along.ends

  -- and a node is a junction, or where a closed edge begins
  known_node : (p : Point) → Contains (node_points c) p → IsJunction m p ⊎ IsClosedAt c p
  known_node p i =
      let at : Contains nodes p = subst (λ z. Contains z p) points_are i in
      let u = used at.0 at.1 in
      let trace = get_or are.traces u.arc [] in
      let f : FollowsTrace m c (edge_record arcs u.arc) trace = follows nodes arcs faces keep c connected edges m face are.traces are.edges u.arc trace u.there (AllZip-at (RunsAlong m face) arcs are.traces u.arc no_arc [] are.edges u.there) in
      let there : Contains c.edges (edge_record arcs u.arc) = edge_there u.arc u.there in
      let lies : node_at c (at.0 + 1) ≡ Some p = node_lies nodes arcs faces keep c connected edges at.0 at.1 ∙ ap Some (get_or_default nodes at.0 origin p at.1 ∙ at.2) in
      ⊎_elim {C = IsJunction m p ⊎ IsClosedAt c p}
      (λ b. begin_known (edge_record arcs u.arc) trace p there f (ap (λ n. node_at c (n + 1)) b ∙ lies))
      (λ b. end_known (edge_record arcs u.arc) trace p there f (ap (λ n. node_at c (n + 1)) b ∙ lies))
      u.ends_there
    where
      edge_there : (n : ℕ) → n < length arcs → Contains c.edges (edge_record arcs n)
      edge_there n l = subst (λ z. Contains z (edge_record arcs n)) (sym edges) (contains (edge_records arcs) (edge_record arcs n) (in_map (edge_record arcs) (range_with_len 0 (length arcs)) n (in_range 0 (length arcs) n (omega arith) (omega (arith, l)))))

  closed_known : (p : Point) → IsClosedAt c p → Contains (node_points c) p
  closed_known p h = node_known h.edge.first p h.begins

  -- edges between nodes of which each is used are those of the mesh
  pub edges_are : HasEdges m are.traces c
  edges_are = record {
    each_once = are.each_once;
    edges = all;
    nodes = λ p. (known_node p, λ h. ⊎_elim (junction_known p) (closed_known p) h);
    nodes_once = subst (AllPairs ◌≢◌) (sym points_are) keep.nodes_once;
  }
