-- The pointers of the areas and blocks of made parts: what they run along, ring by ring, and how they are marked.
use Rattle.std.proofs.Common.{◌≡◌, ℕ, ◌+◌, ◌<◌, ◌⊎◌, Bool, true, false, cond, not, eqb, Option, Some, None, List, [], ◌∷◌, ◌++◌, map, flat_map, filter, reverse, length, get_or, All, Contains, IsPermutation, option_to_list, refl, sym, ap, ap₂, ◌∙◌, subst, inl, inr, arith}
use Rattle.std.specs.Prelude.{IsTrue, IsFalse, option_map}
use Rattle.std.proofs.lemmas.Bool.{false≢true}
use Rattle.std.proofs.lemmas.Bool.Decides.{nat_tests}
use Rattle.std.proofs.lemmas.List.{append-nil}
use Rattle.std.proofs.lemmas.List.Concat.{flat_map-append}
use Rattle.std.proofs.lemmas.List.Elements.{All-append, All-contains, Contains-get_or}
use Rattle.std.proofs.lemmas.List.Sorted.{IsPermutation-trans}
use Rattle.boundary_arcs.proofs.Zips.{AllZip-at, AllZip-length}
use Rattle.boundary_arcs.specs.Edges.{AreArcs, AreArcsOf, RunsAlong, arc_of, face_on}
use Rattle.boundary_arcs.specs.declared.arc.Arc.{Arc}
use Rattle.boundary_arcs.specs.declared.arc.Side.TheVariants.{Outside, Face}
use Rattle.boundary_arcs.specs.declared.arc.Side.{Side}
use Rattle.mesh_definitions.specs.Faces.{borders, is_drawn, steps_of}
use Rattle.mesh_definitions.specs.Pieces.{Mesh, back, left_of}
use Rattle.mesh_definitions.specs.Rings.{IsRing, is_exterior}
use Rattle.mesh_definitions.specs.declared.Piece.{Piece}
use Rattle.mesh_definitions.specs.declared.Step.{Step}
use Rattle.chart_definitions.specs.Pointers.Run.{Border as RunBorder, Seam as RunSeam, Within as RunWithin}
use Rattle.chart_definitions.specs.Pointers.{HasRings as HasPointerRings, IsMarked, IsRingOf, IsRingPointer, Run, run_along, run_of, usage_of}
use Rattle.chart_model.specs.Lines.{area_segments, edge_at, edge_segments, pointed}
use Rattle.chart_model.specs.declared.records.Feature.{Feature}
use Rattle.chart_model.specs.declared.records.Parts.{Parts}
use Rattle.chart_model.specs.declared.records.Pointer.{Pointer}
use Rattle.built_parts.specs.Areas.{area_pointers, exteriors, interiors, line_of, mask_of, pointer_of, ring_pointers, usag_of}
use Rattle.built_parts.specs.Nodes.{connected_records, edge_record, edge_records}
use Rattle.built_parts.specs.declared.EdgePlace.TheVariants.{Border, Seam, Within}
use Rattle.built_parts.specs.declared.EdgePlace.{EdgePlace}
use Rattle.tiling_laws.proofs.BothSides.{listed}
use Rattle.tiling_laws.proofs.Lines.{segments_are, step_drawn}
use Rattle.face_fill.specs.Numbered.{FacesView, block_of}
use Rattle.mesh_laws.proofs.Once.{mapped}
use Rattle.plane_laws.proofs.Lists.{from_map, from_filter, all_of}
use Rattle.plane_laws.proofs.Members.{In, contains, is_in}
use Rattle.ring_builder.proofs.Orders.{flat_map_both, flat_map_map, flat_map_permuted, flat_map_same, flat_map_twice, order_by}
use Rattle.parts_laws.proofs.Chart.Traces.{arc_traced, edge_lies, follows, no_arc}
use Rattle.parts_laws.proofs.RingPointers.{rings_known}
use Rattle.plane_geom.specs.Segments.{joins, turned}
use Rattle.plane_geom.specs.declared.Point.{Point}
use Rattle.plane_laws.specs.Borders.{HasPieces}
use Rattle.ring_builder.specs.Lists.{IsPart}
use Rattle.ring_builder.specs.Parts.{bordering, part_segments}
use Rattle.ring_builder.specs.Rings.{AreRings, ring_segments}
use Rattle.ring_builder.specs.declared.ring.Part.{Part}
use Rattle.ring_builder.specs.declared.ring.Ring.{Ring}
use Rattle.s57_codes.specs.Catalogue.{ornt_forward, ornt_reverse, usag_exterior, usag_interior}

-- each part of a ring is an edge that is there
pub parts_there : (arcs : List Arc) (owner : ℕ → ℕ) (k : ℕ) (rings : List Ring) → AreRings arcs owner k rings → (r : Ring) (p : Part) → In rings r → In r.parts p → p.arc < length arcs
parts_there arcs owner k rings h r p i j =
    All-contains (IsPart arcs) r.parts p (All-contains (λ (r : Ring). All (IsPart arcs) r.parts) rings r (rings_known arcs owner k rings h) (contains rings r i)) (contains r.parts p j)

passing : {X Y : Type 0} (test : X → Bool) (g : X → List Y) (xs : List X) → flat_map (λ x. cond (test x) (g x) []) xs ≡ flat_map g (filter test xs)
passing test g [] = refl
passing test g (x ∷ xs) = go (test x) (passing test g xs)
  where
    go : (b : Bool) → flat_map (λ x. cond (test x) (g x) []) xs ≡ flat_map g (filter test xs) → cond b (g x) [] ++ flat_map (λ x. cond (test x) (g x) []) xs ≡ flat_map g (cond b (x ∷ filter test xs) (filter test xs))
    go true e = ap (λ t. g x ++ t) e
    go false e = e

-- ---- where a step runs

-- a line where an edge lies, and where a step along it runs
abbrev IsSame : EdgePlace → Run → Type 0
IsSame Border x = x ≡ RunBorder
IsSame Seam x = x ≡ RunSeam
IsSame Within x = x ≡ RunWithin

run_right : (m : Mesh) (s : Step) → m.right_of s ≡ None → run_of m s ≡ RunBorder
run_right m s e = rw e refl

run_left : (m : Mesh) (s : Step) → left_of m s ≡ None → run_of m s ≡ RunBorder
run_left m s e = go (m.right_of s) refl
  where
    go : (o : Option Piece) → m.right_of s ≡ o → run_of m s ≡ RunBorder
    go None r = rw r refl
    go (Some p) r = rw (r, e) refl

run_both : (m : Mesh) (s : Step) (p q : Piece) → m.right_of s ≡ Some p → left_of m s ≡ Some q → run_of m s ≡ cond (eqb (m.block p) (m.block q)) RunWithin RunSeam
run_both m s p q r l = rw (r, l) refl

module _ (m : Mesh) (face : Piece → ℕ) (v : FacesView) (kinds : (q : Piece) → Contains m.pieces q → block_of v (face q) ≡ m.block q) (pieces : HasPieces (borders m) m.pieces) (nodes : List Point) (arcs : List Arc) (faces : ℕ) (keep : AreArcs nodes arcs faces) (are : AreArcsOf m face arcs) (c : Parts) (connected : c.connected ≡ connected_records nodes) (edges : c.edges ≡ edge_records arcs) where
  -- the trace of an arc, along which it runs
  abbrev trace_of : ℕ → List Step
  trace_of n = get_or are.traces n []

  runs : (n : ℕ) → n < length arcs → RunsAlong m face (arc_of arcs n) (trace_of n)
  runs n l = AllZip-at (RunsAlong m face) arcs are.traces n no_arc [] are.edges l

  -- the segments of an edge are those of its arc
  edge_joins : (n : ℕ) → n < length arcs → edge_segments c (edge_record arcs n) ≡ joins (arc_of arcs n).points
  edge_joins n l =
      let r = runs n l in
      segments_are m c (edge_record arcs n) (trace_of n) (follows nodes arcs faces keep c connected edges m face are.traces are.edges n (trace_of n) l r)
      ∙ sym (ap joins r.points ∙ r.edge.follows)

  -- a pointer to an arc's edge names the segments of the part
  pointed_part : (exterior : Bool) (p : Part) → p.arc < length arcs → pointed c (pointer_of v arcs exterior p) ≡ part_segments arcs p
  pointed_part exterior p l = go p.forward
    where
      named : flat_map (edge_segments c) (option_to_list (edge_at c (p.arc + 1))) ≡ joins (arc_of arcs p.arc).points
      named = ap (λ o. flat_map (edge_segments c) (option_to_list o)) (edge_lies nodes arcs faces keep c connected edges p.arc l) ∙ append-nil (edge_segments c (edge_record arcs p.arc)) ∙ edge_joins p.arc l

      go : (b : Bool) → pointed c (pointer_of v arcs exterior (record { arc = p.arc; forward = b })) ≡ part_segments arcs (record { arc = p.arc; forward = b })
      go true = named
      go false = ap (λ t. map turned (reverse t)) named

  -- the pointers of a ring run along it
  ring_run : (r : Ring) → ((p : Part) → In r.parts p → p.arc < length arcs) → run_along c (ring_pointers v arcs r) ≡ ring_segments arcs r
  ring_run r h = flat_map_map (pointed c) (pointer_of v arcs r.exterior) r.parts ∙ flat_map_same (λ p. pointed c (pointer_of v arcs r.exterior p)) (part_segments arcs) r.parts (λ p i. pointed_part r.exterior p (h p i))

  -- ---- the marks of a pointer

  module _ (a : Arc) (trace : List Step) (i : In are.traces trace) (r : RunsAlong m face a trace) (s : Step) (j : In trace s) where
    sub : In m.subs s.sub
    sub = (from_filter (is_drawn m) m.subs s.sub (step_drawn m are.traces are.each_once trace s i j)).0

    right_face : option_map face (m.right_of s) ≡ face_on a.right
    right_face = All-contains (λ t. option_map face (m.right_of t) ≡ face_on a.right) trace s r.sides.rights (contains trace s j)

    left_face : option_map face (left_of m s) ≡ face_on a.left
    left_face = All-contains (λ t. option_map face (left_of m t) ≡ face_on a.left) trace s r.sides.lefts (contains trace s j)

    beyond : (o : Option Piece) → option_map face o ≡ None → o ≡ None
    beyond None e = refl
    beyond (Some q) e = absurd (cc)

    by_block : (x y z w : ℕ) (t : Run) → x ≡ z → y ≡ w → t ≡ cond (eqb w z) RunWithin RunSeam → IsSame (cond (eqb x y) Within Seam) t
    by_block x y z w t e g h = go (eqb x y) (eqb w z) (ap₂ eqb (sym g) (sym e) ∙ eqb_sym y x) h
      where
        eqb_sym : (a b : ℕ) → eqb a b ≡ eqb b a
        eqb_sym a b = grind (arith, nat_tests)

        go : (p q : Bool) → q ≡ p → t ≡ cond q RunWithin RunSeam → IsSame (cond p Within Seam) t
        go true true e h = h
        go true false e h = absurd (false≢true e)
        go false true e h = absurd (false≢true (sym e))
        go false false e h = h

    line_run : (L R : Side) → a.left ≡ L → a.right ≡ R → IsSame (line_of v L R) (run_of m s)
    line_run Outside R l e = run_left m s (beyond (left_of m s) (left_face ∙ ap face_on l))
    line_run (Face x) Outside l e = run_right m s (beyond (m.right_of s) (right_face ∙ ap face_on e))
    line_run (Face x) (Face y) l e =
        let p = mapped face (m.right_of s) y (right_face ∙ ap face_on e) in
        let q = mapped face (left_of m s) x (left_face ∙ ap face_on l) in
        let there : Contains m.pieces p.0 = pieces.sides s p.0 (contains (steps_of m) s (listed m s sub)) p.1 in
        let over : Contains m.pieces q.0 = pieces.sides (back s) q.0 (contains (steps_of m) (back s) (listed m (back s) sub)) q.1 in
        by_block (block_of v x) (block_of v y) (m.block q.0) (m.block p.0) (run_of m s) (ap (block_of v) (sym q.2) ∙ kinds q.0 over) (ap (block_of v) (sym p.2) ∙ kinds p.0 there) (run_both m s p.0 q.0 p.1 q.1)

    marked : (exterior : Bool) (p : Pointer) → p.usag ≡ usag_of exterior (line_of v a.left a.right) → p.mask ≡ mask_of (line_of v a.left a.right) → IsMarked (cond exterior usag_exterior usag_interior) p (run_of m s)
    marked exterior p u k = go (line_of v a.left a.right) (line_run a.left a.right refl refl) u k
      where
        go : (x : EdgePlace) → IsSame x (run_of m s) → p.usag ≡ usag_of exterior x → p.mask ≡ mask_of x → IsMarked (cond exterior usag_exterior usag_interior) p (run_of m s)
        go Border e u k = subst (IsMarked (cond exterior usag_exterior usag_interior) p) (sym e) (u, k)
        go Seam e u k = subst (IsMarked (cond exterior usag_exterior usag_interior) p) (sym e) (u, k)
        go Within e u k = subst (IsMarked (cond exterior usag_exterior usag_interior) p) (sym e) (u, k)

  -- ---- an area with the rings of a set

  module _ (owner : ℕ → ℕ) (k : ℕ) (rings : List Ring) (h : AreRings arcs owner k rings) (f : Feature) (pointers : f.pointers ≡ area_pointers v arcs rings) where
    run : (r : Ring) → In rings r → run_along c (ring_pointers v arcs r) ≡ ring_segments arcs r
    run r i = ring_run r (λ p j. parts_there arcs owner k rings h r p i j)

    abbrev first : Ring → List Pointer
    first r = cond r.exterior (ring_pointers v arcs r) []

    abbrev second : Ring → List Pointer
    second r = cond r.exterior [] (ring_pointers v arcs r)

    one_or_other : (r : Ring) → ring_pointers v arcs r ≡ first r ++ second r
    one_or_other r = go r.exterior (ring_pointers v arcs r)
      where
        go : (b : Bool) (ps : List Pointer) → ps ≡ cond b ps [] ++ cond b [] ps
        go true ps = sym (append-nil ps)
        go false ps = refl

    -- the segments of an area with these rings are those of what borders the set
    pub area_along : IsPermutation (flat_map (part_segments arcs) (bordering arcs owner k)) (area_segments c f)
    area_along =
        let parts = flat_map (λ (r : Ring). r.parts) rings in
        IsPermutation-trans (flat_map (part_segments arcs) (bordering arcs owner k)) (flat_map (part_segments arcs) parts) (area_segments c f)
        (flat_map_permuted (part_segments arcs) (bordering arcs owner k) parts h.once)
        (order_by (flat_map (part_segments arcs) parts) (flat_map (pointed c) (flat_map (λ r. first r ++ second r) rings)) (flat_map (pointed c) (exteriors v arcs rings ++ interiors v arcs rings)) (area_segments c f)
        (flat_map_twice (part_segments arcs) (λ (r : Ring). r.parts) rings
        ∙ sym (flat_map_same (λ r. run_along c (ring_pointers v arcs r)) (ring_segments arcs) rings run)
        ∙ sym (flat_map_twice (pointed c) (ring_pointers v arcs) rings)
        ∙ ap (flat_map (pointed c)) (flat_map_same (ring_pointers v arcs) (λ r. first r ++ second r) rings (λ r i. one_or_other r)))
        (flat_map_permuted (pointed c) (flat_map (λ r. first r ++ second r) rings) (exteriors v arcs rings ++ interiors v arcs rings) (flat_map_both first second rings))
        (ap (flat_map (pointed c)) (sym pointers)))

    -- ---- its pointers ring by ring

    abbrev outers : List Ring
    outers = filter (λ (r : Ring). r.exterior) rings

    abbrev inners : List Ring
    inners = filter (λ (r : Ring). not r.exterior) rings

    turned_cond : (r : Ring) → second r ≡ cond (not r.exterior) (ring_pointers v arcs r) []
    turned_cond r = go r.exterior (ring_pointers v arcs r)
      where
        go : (b : Bool) (ps : List Pointer) → cond b [] ps ≡ cond (not b) ps []
        go true ps = refl
        go false ps = refl

    exteriors_are : exteriors v arcs rings ≡ flat_map (ring_pointers v arcs) outers
    exteriors_are = passing (λ (r : Ring). r.exterior) (ring_pointers v arcs) rings

    interiors_are : interiors v arcs rings ≡ flat_map (ring_pointers v arcs) inners
    interiors_are = flat_map_same second (λ (r : Ring). cond (not r.exterior) (ring_pointers v arcs r) []) rings (λ r i. turned_cond r) ∙ passing (λ (r : Ring). not r.exterior) (ring_pointers v arcs) rings

    pointers_in_order : f.pointers ≡ flat_map (λ ring. ring) (map (ring_pointers v arcs) outers ++ map (ring_pointers v arcs) inners)
    pointers_in_order = pointers ∙ ap₂ ◌++◌ exteriors_are interiors_are
        ∙ sym (flat_map-append (λ (ring : List Pointer). ring) (map (ring_pointers v arcs) outers) (map (ring_pointers v arcs) inners)
        ∙ ap₂ ◌++◌ (flat_map_map (λ (ring : List Pointer). ring) (ring_pointers v arcs) outers) (flat_map_map (λ (ring : List Pointer). ring) (ring_pointers v arcs) inners))

    its_use : (r : Ring) → In rings r → is_exterior (run_along c (ring_pointers v arcs r)) ≡ r.exterior
    its_use r i = ap is_exterior (run r i) ∙ sym (All-contains (λ (r : Ring). r.exterior ≡ is_exterior (ring_segments arcs r)) rings r h.exterior (contains rings r i))

    not_exterior : (b : Bool) → not b ≡ true → b ≡ false
    not_exterior true e = absurd (false≢true e)
    not_exterior false e = refl

    is_outer : (ring : List Pointer) → In (map (ring_pointers v arcs) outers) ring → IsTrue (is_exterior (run_along c ring))
    is_outer ring i =
        let r = from_map (ring_pointers v arcs) outers ring i in
        subst (λ ring. IsTrue (is_exterior (run_along c ring))) r.2 (its_use r.0 (from_filter (λ (r : Ring). r.exterior) rings r.0 r.1).0 ∙ (from_filter (λ (r : Ring). r.exterior) rings r.0 r.1).1)

    is_inner : (ring : List Pointer) → In (map (ring_pointers v arcs) inners) ring → IsFalse (is_exterior (run_along c ring))
    is_inner ring i =
        let r = from_map (ring_pointers v arcs) inners ring i in
        subst (λ ring. IsFalse (is_exterior (run_along c ring))) r.2 (its_use r.0 (from_filter (λ (r : Ring). not r.exterior) rings r.0 r.1).0 ∙ not_exterior r.0.exterior (from_filter (λ (r : Ring). not r.exterior) rings r.0 r.1).1)

    ring_pointer : (r : Ring) (p : Part) → In rings r → In r.parts p → IsRingPointer m are.traces c (usage_of c (ring_pointers v arcs r)) (pointer_of v arcs r.exterior p)
    ring_pointer r p i j =
        let l : p.arc < length arcs = parts_there arcs owner k rings h r p i j in
        let a = arc_of arcs p.arc in
        let z = AllZip-length (RunsAlong m face) arcs are.traces are.edges in
        let trace = trace_of p.arc in
        let t : In are.traces trace = is_in are.traces trace (Contains-get_or are.traces p.arc [] (omega (arith, z, l))) in
        record {
          edge = edge_record arcs p.arc;
          trace = trace;
          there = arc_traced nodes arcs faces keep c connected edges m face are.traces are.edges p.arc l;
          record_is = refl;
          number = refl;
          way = way_of p.forward;
          marked = all_of (λ s. IsMarked (usage_of c (ring_pointers v arcs r)) (pointer_of v arcs r.exterior p) (run_of m s)) trace
              (λ s q. subst (λ e. IsMarked (cond e usag_exterior usag_interior) (pointer_of v arcs r.exterior p) (run_of m s)) (sym (its_use r i)) (marked a trace t (runs p.arc l) s q r.exterior (pointer_of v arcs r.exterior p) refl refl));
        }
      where
        way_of : (b : Bool) → (cond b ornt_forward ornt_reverse ≡ ornt_forward) ⊎ (cond b ornt_forward ornt_reverse ≡ ornt_reverse)
        way_of true = inl refl
        way_of false = inr refl

    is_ring : (r : Ring) → In rings r → IsRingOf m are.traces c (ring_pointers v arcs r)
    is_ring r i = record {
      closed = subst IsRing (sym (run r i)) (All-contains (λ r. IsRing (ring_segments arcs r)) rings r h.closed (contains rings r i));
      pointers = all_of (IsRingPointer m are.traces c (usage_of c (ring_pointers v arcs r))) (ring_pointers v arcs r)
          (λ p j. let q = from_map (pointer_of v arcs r.exterior) r.parts p j in subst (IsRingPointer m are.traces c (usage_of c (ring_pointers v arcs r))) q.2 (ring_pointer r q.0 i q.1));
    }

    among : (test : Ring → Bool) (ring : List Pointer) → In (map (ring_pointers v arcs) (filter test rings)) ring → IsRingOf m are.traces c ring
    among test ring i =
        let r = from_map (ring_pointers v arcs) (filter test rings) ring i in
        subst (IsRingOf m are.traces c) r.2 (is_ring r.0 (from_filter test rings r.0 r.1).0)

    -- its pointers stand ring by ring, exterior rings first, with the marks of their lines
    pub rings_are : HasPointerRings m are.traces c f
    rings_are = record {
      exterior = map (ring_pointers v arcs) outers;
      interior = map (ring_pointers v arcs) inners;
      in_order = pointers_in_order;
      outer = all_of (λ ring. IsTrue (is_exterior (run_along c ring))) (map (ring_pointers v arcs) outers) is_outer;
      inner = all_of (λ ring. IsFalse (is_exterior (run_along c ring))) (map (ring_pointers v arcs) inners) is_inner;
      rings = All-append (IsRingOf m are.traces c) (map (ring_pointers v arcs) outers) (map (ring_pointers v arcs) inners)
          (all_of (IsRingOf m are.traces c) (map (ring_pointers v arcs) outers) (among (λ (r : Ring). r.exterior)))
          (all_of (IsRingOf m are.traces c) (map (ring_pointers v arcs) inners) (among (λ (r : Ring). not r.exterior)));
    }
