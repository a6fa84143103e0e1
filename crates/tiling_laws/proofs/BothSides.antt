-- An edge is named by the areas on its two sides alone, once by each and in opposite directions.
use Rattle.std.proofs.Common.{◌≡◌, ◌≢◌, ◌++◌, ℕ, ℤ, ◌<◌, Bool, true, false, cond, not, ◌&&◌, eqb, Some, List, map, get_or, length, AllPairs, Contains, refl, sym, ap, ◌∙◌, subst}
use Rattle.std.proofs.lemmas.Bool.{eqb-true}
use Rattle.std.proofs.lemmas.List.Elements.{All-contains}
use Rattle.mesh_definitions.specs.Faces.{Joined, NumbersFaces, borders, boundary, is_drawn, kind, steps_of}
use Rattle.mesh_definitions.specs.Faces.Joined.{Here, Over}
use Rattle.mesh_definitions.specs.Pieces.{Mesh, ahead, back, left_of, walked}
use Rattle.mesh_definitions.specs.declared.Piece.{Piece}
use Rattle.mesh_definitions.specs.declared.Step.{Step}
use Rattle.mesh_definitions.specs.declared.Sub.{Sub}
use Rattle.chart_definitions.specs.Areas.{HasAreas}
use Rattle.chart_definitions.specs.Contours.{side_kind}
use Rattle.chart_definitions.specs.Edges.{FollowsTrace, HasEdges, traced}
use Rattle.chart_definitions.specs.Pointers.{HasPointers, HasRings, IsRingOf, IsRingPointer, usage_of}
use Rattle.chart_definitions.specs.SoundEdges.{names, times}
use Rattle.chart_model.specs.Areas.{areas}
use Rattle.chart_model.specs.Lines.{area_segments, pointed}
use Rattle.chart_model.specs.Numbers.{edge_numbers}
use Rattle.chart_model.specs.declared.records.Edge.{Edge}
use Rattle.chart_model.specs.declared.records.Feature.{Feature}
use Rattle.chart_model.specs.declared.records.Parts.{Parts}
use Rattle.chart_model.specs.declared.records.Pointer.{Pointer}
use Rattle.tiling_laws.proofs.AreaDepths.{on_side}
use Rattle.tiling_laws.proofs.Coinciding.{same_seg}
use Rattle.tiling_laws.proofs.Lines.{step_drawn}
use Rattle.tiling_laws.proofs.Named.{along, way, zipped}
use Rattle.tiling_laws.proofs.Numbers.{flag, number, number_flat, number_is, number_permuted}
use Rattle.tiling_laws.proofs.Once.{distinct_segments}
use Rattle.tiling_laws.proofs.Outlines.{bounds, in_boundary}
use Rattle.tiling_laws.proofs.Sides.{traces_part}
use Rattle.tiling_laws.specs.EdgeLines.{SidesDiffer}
use Rattle.tiling_laws.specs.SoundEdges.{IsNamed, LineLaws, once_at}
use Rattle.plane_geom.specs.Segments.{turned}
use Rattle.plane_laws.proofs.Lists.{from_flat_map, from_filter}
use Rattle.plane_laws.proofs.Members.{In, contains, in_left, in_map, in_right, is_in}
use Rattle.plane_laws.specs.Borders.{HasPieces, within}
use Rattle.shoal_buffer.specs.Charted.{ChartedView}

-- pieces of one face are of one kind
pub one_kind : (m : Mesh) (p q : Piece) → Joined m p q → kind m p ≡ kind m q
one_kind m p q Here = refl
one_kind m p q (Over a rest) = a.alike ∙ one_kind m _ q rest

-- a step in its own direction, or back
abbrev pub step_way : Bool → Step → Step
step_way true s = s
step_way false s = back s

pub walked_way : (m : Mesh) (b : Bool) (s : Step) → walked m (step_way b s) ≡ way b (walked m s)
walked_way m true s = refl
walked_way m false s = go s.sub s.forward
  where
    go : (u : Sub) (b : Bool) → walked m (back (record { sub = u; forward = b })) ≡ turned (walked m (record { sub = u; forward = b }))
    go u true = refl
    go u false = refl

pub sub_way : (b : Bool) (s : Step) → (step_way b s).sub ≡ s.sub
sub_way true s = refl
sub_way false s = refl

-- a sub-segment's step, either way, is one of all steps
pub listed : (m : Mesh) (s : Step) → In m.subs s.sub → In (steps_of m) s
listed m s i = go s.sub s.forward i
  where
    go : (u : Sub) (b : Bool) → In m.subs u → In (steps_of m) (record { sub = u; forward = b })
    go u true i = in_left (map ahead m.subs) (map back (map ahead m.subs)) (ahead u) (in_map ahead m.subs u i)
    go u false i = in_right (map ahead m.subs) (map back (map ahead m.subs)) (back (ahead u)) (in_map back (map ahead m.subs) (ahead u) (in_map ahead m.subs u i))

pub differ_way : (m : Mesh) (b : Bool) (s : Step) → SidesDiffer m s → SidesDiffer m (step_way b s)
differ_way m true s h = h
differ_way m false s h = go s.sub s.forward h
  where
    go : (u : Sub) (b : Bool) → SidesDiffer m (record { sub = u; forward = b }) → SidesDiffer m (back (record { sub = u; forward = b }))
    go u true h e = h (sym e)
    go u false h e = h (sym e)

-- a step whose sides differ bounds a face where it has it on the right
pub right_alone : (m : Mesh) (face : Piece → ℕ) (k : ℕ) (s : Step) → HasPieces (borders m) m.pieces → NumbersFaces m face → In m.subs s.sub → SidesDiffer m s → flag (bounds m (λ q. eqb (face q) k) s) ≡ once_at face k (m.right_of s)
right_alone m face k s pieces faces i differ = go (within (λ q. eqb (face q) k) (m.right_of s)) (within (λ q. eqb (face q) k) (left_of m s)) refl refl
  where
    both : within (λ q. eqb (face q) k) (m.right_of s) ≡ true → within (λ q. eqb (face q) k) (left_of m s) ≡ true → ⊥
    both a b =
        let p = on_side (λ q. eqb (face q) k) (m.right_of s) a in
        let q = on_side (λ q. eqb (face q) k) (left_of m s) b in
        let same : face p.0 ≡ face q.0 = eqb-true (face p.0) k p.2 ∙ sym (eqb-true (face q.0) k q.2) in
        let there = pieces.sides s p.0 (contains (steps_of m) s (listed m s i)) p.1 in
        let over = pieces.sides (back s) q.0 (contains (steps_of m) (back s) (listed m (back s) i)) q.1 in
        let alike : kind m p.0 ≡ kind m q.0 = one_kind m p.0 q.0 ((faces p.0 q.0 there over).0 same) in
        differ (ap (side_kind m) p.1 ∙ ap (λ z. Some z) alike ∙ sym (ap (side_kind m) q.1))

    go : (a b : Bool) → within (λ q. eqb (face q) k) (m.right_of s) ≡ a → within (λ q. eqb (face q) k) (left_of m s) ≡ b → flag (within (λ q. eqb (face q) k) (m.right_of s) && not (within (λ q. eqb (face q) k) (left_of m s))) ≡ cond (within (λ q. eqb (face q) k) (m.right_of s)) 1 0
    go true true x y = absurd (both x y)
    go true false x y = rw (x, y)
    go false b x y = rw x

module _ (v : ChartedView) (levels : List ℤ) (m : Mesh) (traces : List (List Step)) (face : Piece → ℕ) (c : Parts) (pieces : HasPieces (borders m) m.pieces) (laws : LineLaws m) (edges : HasEdges m traces c) (have : HasAreas v levels m face c) (pointers : HasPointers m traces c) (numbers : AllPairs ◌≢◌ (edge_numbers c)) where
  -- a pointer of an area stands on one of its rings
  on_ring : (k : ℕ) (d : Feature) (p : Pointer) → k < length (areas c) → In (get_or (areas c) k d).pointers p → (usage : ℕ) × IsRingPointer m traces c usage p
  on_ring k d p l i =
      let rings : HasRings m traces c (get_or (areas c) k d) = pointers.areas k d l in
      let all = rings.exterior ++ rings.interior in
      let r = from_flat_map (λ ring. ring) all p (subst (λ z. In z p) rings.in_order i) in
      let ring : IsRingOf m traces c r.0 = All-contains (IsRingOf m traces c) all r.0 rings.rings (contains all r.0 r.1) in
      (usage_of c r.0, All-contains (IsRingPointer m traces c (usage_of c r.0)) r.0 p ring.pointers (contains r.0 p r.2))

  named_way : (b : Bool) (e : Edge) (trace : List Step) (s : Step) → Contains (traced c traces) (e, trace) → Contains trace s → (k : ℕ) (d : Feature) → k < length (areas c) → times b e (get_or (areas c) k d) ≡ once_at face k (m.right_of (step_way b s))
  named_way b e trace s there on k d l =
      let a = get_or (areas c) k d in
      let F : Piece → Bool = λ q. eqb (face q) k in
      let edge = zipped (FollowsTrace m c) c.edges traces (e, trace) edges.edges (is_in (traced c traces) (e, trace) there) in
      let i = is_in trace s on in
      let sub : In m.subs s.sub = (from_filter (is_drawn m) m.subs s.sub (step_drawn m traces edges.each_once trace s edge.1 i)).0 in
      let long : (walked m s).a ≢ (walked m s).b = long_way s (All-contains (λ (u : Sub). (m.ends u).a ≢ (m.ends u).b) m.subs s.sub laws.long (contains m.subs s.sub sub)) in
      let distinct = distinct_segments m traces c laws edges in
      let each : (p : Pointer) → In a.pointers p → number (same_seg (way b (walked m s))) (pointed c p) ≡ flag (names b e p) =
      λ p j. let r = on_ring k d p l j in
      let q = (zipped (FollowsTrace m c) c.edges traces (r.1.edge, r.1.trace) edges.edges (is_in (traced c traces) (r.1.edge, r.1.trace) r.1.there)).0 in
      along m traces c edges distinct numbers e trace s edge.0 edge.2 i long b p r.1.edge q r.1.record_is r.1.number in
      let outline = map (walked m) (boundary m F) in
      sym (number_is (names b e) a.pointers)
      ∙ sym (number_flat (same_seg (way b (walked m s))) (names b e) (pointed c) a.pointers each)
      ∙ sym (number_permuted (same_seg (way b (walked m s))) outline (area_segments c a) (have.outlines k d l))
      ∙ ap (λ w. number (same_seg w) outline) (sym (walked_way m b s))
      ∙ in_boundary m F (step_way b s) laws (subst (In m.subs) (sym (sub_way b s)) sub)
      ∙ right_alone m face k (step_way b s) pieces have.faces (subst (In m.subs) (sym (sub_way b s)) sub) (differ_way m b s (traces_part m traces edges.each_once trace s edge.1 i))
    where
      long_way : (s : Step) → (m.ends s.sub).a ≢ (m.ends s.sub).b → (walked m s).a ≢ (walked m s).b
      long_way s n = go s.sub s.forward n
        where
          go : (u : Sub) (b : Bool) → (m.ends u).a ≢ (m.ends u).b → (walked m (record { sub = u; forward = b })).a ≢ (walked m (record { sub = u; forward = b })).b
          go u true n = n
          go u false n = λ e. n (sym e)

  pub named_by_sides : (e : Edge) (trace : List Step) (s : Step) → Contains (traced c traces) (e, trace) → Contains trace s → IsNamed m face c e s
  named_by_sides e trace s there on = record { forwards = named_way true e trace s there on; back = named_way false e trace s there on }
