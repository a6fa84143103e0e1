-- The contours of made parts are those of the mesh.
use Rattle.std.proofs.Common.{◌≡◌, ℕ, ◌+◌, ◌-◌, ◌<◌, ℤ, Option, Some, None, List, [], map, length, get_or, Contains, refl, sym, ap, ◌∙◌, subst, inl, inr, ⊎_elim, arith}
use Rattle.std.specs.List.{range_with_len}
use Rattle.std.specs.Prelude.{option_map}
use Rattle.std.proofs.lemmas.List.Elements.{All-contains, Contains-get_or}
use Rattle.boundary_arcs.proofs.Zips.{AllZip-at, AllZip-length}
use Rattle.boundary_arcs.specs.Edges.{AreArcs, AreArcsOf, RunsAlong, arc_of, face_on}
use Rattle.boundary_arcs.specs.declared.arc.Arc.{Arc}
use Rattle.boundary_arcs.specs.declared.arc.Side.TheVariants.{Face}
use Rattle.mesh_definitions.specs.Faces.{borders, kind}
use Rattle.mesh_definitions.specs.Field.{Field}
use Rattle.mesh_definitions.specs.Pieces.{Mesh, left_of, whole_mesh}
use Rattle.mesh_definitions.specs.declared.Class.TheVariants.{Band}
use Rattle.mesh_definitions.specs.declared.Class.{Class}
use Rattle.mesh_definitions.specs.declared.Piece.{Piece}
use Rattle.mesh_definitions.specs.declared.Step.{Step}
use Rattle.chart_definitions.specs.Contours.{HasContours, IsContour, PartsBands, PartsBandsAt, side_kind}
use Rattle.chart_definitions.specs.Edges.{FollowsTrace, traced}
use Rattle.chart_definitions.specs.Meaning.{of_code}
use Rattle.chart_model.specs.declared.records.Edge.{Edge}
use Rattle.chart_model.specs.declared.records.Feature.{Feature}
use Rattle.chart_model.specs.declared.records.Parts.{Parts}
use Rattle.built_parts.specs.Contours.{contour_at, contour_content, contour_contents, contour_of, level_on, value_of}
use Rattle.built_parts.specs.Contents.{FeatureContent, content_of}
use Rattle.built_parts.specs.Nodes.{connected_records, edge_record, edge_records}
use Rattle.tiling_laws.proofs.Named.{zipped}
use Rattle.depth_rounding.specs.Bands.{level_at}
use Rattle.face_fill.specs.Numbered.{AreFaces, FacesView, block_of, class_of, face_in}
use Rattle.mesh_laws.proofs.Once.{mapped}
use Rattle.mesh_laws.proofs.Places.{in_range, in_range_high}
use Rattle.parts_laws.proofs.Chart.Levels.{AreNext, HasLevel, level_there, pointers_apart, there_level}
use Rattle.parts_laws.proofs.Chart.Sides.{IsOn, face_side, left_on, no_step, right_on}
use Rattle.parts_laws.proofs.Chart.Traces.{all_follow, along, arc_traced, no_arc}
use Rattle.plane_geom.specs.declared.Point.{Point}
use Rattle.plane_laws.proofs.Lists.{from_flat_map, from_map, in_flat_map}
use Rattle.plane_laws.proofs.Members.{In, contains, in_map, is_in}
use Rattle.plane_laws.specs.Borders.{HasPieces}
use Rattle.s57_codes.specs.Catalogue.{objl_depcnt}

-- the draft of the contour of the edge at a place is there exactly where a level is
contour_there : (levels : List ℤ) (v : FacesView) (arcs : List Arc) (n level : ℕ) → n < length arcs → level_on v (arc_of arcs n).left (arc_of arcs n).right ≡ Some level → In (contour_contents levels v arcs) (contour_content levels n level)
contour_there levels v arcs n level l e =
    in_flat_map (λ k. contour_at levels v (arc_of arcs k) k) (range_with_len 0 (length arcs)) n (contour_content levels n level) (in_range 0 (length arcs) n (omega arith) (omega (arith, l)))
    (subst (λ o. In (contour_of levels n o) (contour_content levels n level)) (sym e) (inl refl))

record IsAt (levels : List ℤ) (v : FacesView) (arcs : List Arc) (d : FeatureContent) : Type 0 where
  arc : ℕ
  there : arc < length arcs
  level : ℕ
  drawn : level_on v (arc_of arcs arc).left (arc_of arcs arc).right ≡ Some level
  is : d ≡ contour_content levels arc level

there_contour : (levels : List ℤ) (v : FacesView) (arcs : List Arc) (d : FeatureContent) → In (contour_contents levels v arcs) d → IsAt levels v arcs d
there_contour levels v arcs d i =
    let r = from_flat_map (λ k. contour_at levels v (arc_of arcs k) k) (range_with_len 0 (length arcs)) d i in
    let below = in_range_high 0 (length arcs) r.0 r.1 in
    go r.0 (omega (arith, below)) (level_on v (arc_of arcs r.0).left (arc_of arcs r.0).right) refl r.2
  where
    go : (n : ℕ) → n < length arcs → (o : Option ℕ) → level_on v (arc_of arcs n).left (arc_of arcs n).right ≡ o → In (contour_of levels n o) d → IsAt levels v arcs d
    go n l None e j = absurd j
    go n l (Some level) e j = ⊎_elim (λ s. record { arc = n; there = l; level = level; drawn = e; is = sym s }) (λ k. absurd k) j

module _ (f : Field) (block : ℕ → ℕ → ℕ) (v : FacesView) (faces : AreFaces f block v) (pieces : HasPieces (borders (whole_mesh f block)) (whole_mesh f block).pieces) (nodes : List Point) (arcs : List Arc) (keep : AreArcs nodes arcs (length v.classes)) (are : AreArcsOf (whole_mesh f block) (face_in f v) arcs) (c : Parts) (connected : c.connected ≡ connected_records nodes) (edges : c.edges ≡ edge_records arcs) (levels : List ℤ) (drafts : map content_of (of_code objl_depcnt c) ≡ contour_contents levels v arcs) where
  abbrev m : Mesh
  m = whole_mesh f block

  abbrev face : Piece → ℕ
  face = face_in f v

  -- the trace of an arc
  abbrev trace_of : ℕ → List Step
  trace_of n = get_or are.traces n []

  runs : (n : ℕ) → n < length arcs → RunsAlong m face (arc_of arcs n) (trace_of n)
  runs n l = AllZip-at (RunsAlong m face) arcs are.traces n no_arc [] are.edges l

  trace_in : (n : ℕ) → n < length arcs → In are.traces (trace_of n)
  trace_in n l = is_in are.traces (trace_of n) (Contains-get_or are.traces n [] (let z = AllZip-length (RunsAlong m face) arcs are.traces are.edges in omega (arith, z, l)))

  -- a step between bands lies along an edge whose faces have them
  parted : (a : Arc) (trace : List Step) (s : Step) (b : ℕ) → In are.traces trace → RunsAlong m face a trace → In trace s → PartsBands m b s → HasLevel v a.left a.right b
  parted a trace s b i r j p = ⊎_elim
      (λ h. make (Band b) (Band (b + 1)) h.on_right h.on_left (λ k l x y. inr (y, x)))
      (λ h. make (Band (b + 1)) (Band b) h.on_right h.on_left (λ k l x y. inl (y, x)))
      p.1
    where
      make : (A B : Class) → side_kind m (m.right_of s) ≡ Some (A, p.0) → side_kind m (left_of m s) ≡ Some (B, p.0) → ((k l : ℕ) → class_of v k ≡ A → class_of v l ≡ B → AreNext b (class_of v l) (class_of v k)) → HasLevel v a.left a.right b
      make A B x y next =
          let q = mapped (kind m) (m.right_of s) (A, p.0) x in
          let t = mapped (kind m) (left_of m s) (B, p.0) y in
          let right : a.right ≡ Face (face q.0) = face_side a.right (face q.0) (sym (All-contains (λ t. option_map face (m.right_of t) ≡ face_on a.right) trace s r.sides.rights (contains trace s j)) ∙ ap (option_map face) q.1) in
          let left : a.left ≡ Face (face t.0) = face_side a.left (face t.0) (sym (All-contains (λ t. option_map face (left_of m t) ≡ face_on a.left) trace s r.sides.lefts (contains trace s j)) ∙ ap (option_map face) t.1) in
          let one = right_on f block v faces pieces are.traces arcs are.each_once a trace s (face q.0) i r j right in
          let two = left_on f block v faces pieces are.traces arcs are.each_once a trace s (face t.0) i r j left in
          let ka : (class_of v (face q.0), block_of v (face q.0)) ≡ (A, p.0) = same_kind (m.right_of s) (face q.0) one (A, p.0) x in
          let kb : (class_of v (face t.0), block_of v (face t.0)) ≡ (B, p.0) = same_kind (left_of m s) (face t.0) two (B, p.0) y in
          record { i = face t.0; j = face q.0; on_left = left; on_right = right; one_block = ap (λ z. z.1) kb ∙ sym (ap (λ z. z.1) ka); next = next (face q.0) (face t.0) (ap (λ z. z.0) ka) (ap (λ z. z.0) kb) }
        where
          same_kind : (side : Option Piece) (k : ℕ) → IsOn f block v faces pieces side k → (z : Class × ℕ) → side_kind m side ≡ Some z → (class_of v k, block_of v k) ≡ z
          same_kind side k on z e =
              let same : Some (kind m on.piece) ≡ Some z = sym (ap (side_kind m) on.is) ∙ e in
              let just : kind m on.piece ≡ z = cc in
              sym on.kind_is ∙ just

  -- and the steps along an edge whose faces have neighbouring bands part these
  parts : (a : Arc) (trace : List Step) (s : Step) (b : ℕ) → In are.traces trace → RunsAlong m face a trace → In trace s → HasLevel v a.left a.right b → PartsBands m b s
  parts a trace s b i r j h =
      let one = right_on f block v faces pieces are.traces arcs are.each_once a trace s h.j i r j h.on_right in
      let two = left_on f block v faces pieces are.traces arcs are.each_once a trace s h.i i r j h.on_left in
      let right : side_kind m (m.right_of s) ≡ Some (class_of v h.j, block_of v h.j) = ap (side_kind m) one.is ∙ ap Some one.kind_is in
      let left : side_kind m (left_of m s) ≡ Some (class_of v h.i, block_of v h.j) = ap (side_kind m) two.is ∙ ap Some (two.kind_is ∙ ap (λ (k : ℕ). (class_of v h.i, k)) h.one_block) in (
        block_of v h.j,
        ⊎_elim
            (λ e. inr (record { on_right = right ∙ ap (λ (K : Class). Some (K, block_of v h.j)) e.1; on_left = left ∙ ap (λ (K : Class). Some (K, block_of v h.j)) e.0 }))
            (λ e. inl (record { on_right = right ∙ ap (λ (K : Class). Some (K, block_of v h.j)) e.1; on_left = left ∙ ap (λ (K : Class). Some (K, block_of v h.j)) e.0 }))
            h.next,
      )

  -- a feature with the draft of a contour is it
  is_contour : (n b : ℕ) (h : Feature) → content_of h ≡ contour_content levels n (b + 1) → IsContour levels b (edge_record arcs n) h
  is_contour n b h e =
      let back : b + 1 - 1 ≡ b = omega arith in
      record {
        along = ap (λ (d : FeatureContent). d.pointers) e;
        level = ap (λ (d : FeatureContent). d.attributes) e ∙ ap (λ k. value_of (level_at levels k)) back;
      }

  each : (e : Edge) (b : ℕ) → PartsBandsAt m are.traces c b e → (h : Feature) × Contains (of_code objl_depcnt c) h × IsContour levels b e h
  each e b p =
      let a = along nodes arcs (length v.classes) keep c connected edges m face are.traces are.edges e p.trace p.there in
      let i : In are.traces p.trace = (zipped (FollowsTrace m c) c.edges are.traces (e, p.trace) (all_follow nodes arcs (length v.classes) keep c connected edges m face are.traces are.edges) (is_in (traced c are.traces) (e, p.trace) p.there)).1 in
      let s : Step = get_or p.trace 0 no_step in
      let j : In p.trace s = is_in p.trace s (Contains-get_or p.trace 0 no_step a.runs.edge.some) in
      let level = parted (arc_of arcs a.arc) p.trace s b i a.runs j (p.each 0 no_step a.runs.edge.some) in
      let draft = contour_there levels v arcs a.arc (b + 1) a.there (level_there v (arc_of arcs a.arc).left (arc_of arcs a.arc).right b level) in
      let h = from_map content_of (of_code objl_depcnt c) (contour_content levels a.arc (b + 1)) (subst (λ ds. In ds (contour_content levels a.arc (b + 1))) (sym drafts) draft) in
      (h.0, contains (of_code objl_depcnt c) h.0 h.1, subst (λ z. IsContour levels b z h.0) (sym a.edge_is) (is_contour a.arc b h.0 h.2))

  only : (h : Feature) → Contains (of_code objl_depcnt c) h → (e : Edge) × (b : ℕ) × PartsBandsAt m are.traces c b e × IsContour levels b e h
  only h i =
      let d = there_contour levels v arcs (content_of h) (subst (λ ds. In ds (content_of h)) drafts (in_map content_of (of_code objl_depcnt c) h (is_in (of_code objl_depcnt c) h i))) in
      let l = there_level v (arc_of arcs d.arc).left (arc_of arcs d.arc).right d.level d.drawn in (
        edge_record arcs d.arc,
        l.0,
        record {
          trace = trace_of d.arc;
          there = arc_traced nodes arcs (length v.classes) keep c connected edges m face are.traces are.edges d.arc d.there;
          each = λ k s b. parts (arc_of arcs d.arc) (trace_of d.arc) (get_or (trace_of d.arc) k s) l.0 (trace_in d.arc d.there) (runs d.arc d.there) (is_in (trace_of d.arc) (get_or (trace_of d.arc) k s) (Contains-get_or (trace_of d.arc) k s b)) l.2;
        },
        is_contour d.arc l.0 h (d.is ∙ ap (contour_content levels d.arc) l.1),
      )

  -- the contours of made parts are those of the mesh
  pub contours_are : HasContours levels m are.traces c
  contours_are = record {
    each = each;
    only = only;
    once = pointers_apart levels (λ k. level_on v (arc_of arcs k).left (arc_of arcs k).right) (length arcs) (of_code objl_depcnt c) drafts;
  }
