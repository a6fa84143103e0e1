-- The edges of a chart lie exactly on the drawn lines of its mesh, and its areas' segments on its edges.
use Rattle.std.proofs.Common.{◌≡◌, ◌<◌, ◌++◌, eqb, Bool, true, false, cond, List, length, map, reverse, flat_map, option_to_list, All, ap, ap₂, sym, ◌∙◌, subst, arith}
use Rattle.std.proofs.lemmas.List.{length-map}
use Rattle.std.proofs.lemmas.List.Sorted.{Contains-permutation, IsPermutation-sym}
use Rattle.mesh_definitions.specs.Edges.{DrawsAll}
use Rattle.mesh_definitions.specs.Faces.{OnLine, drawn}
use Rattle.mesh_definitions.specs.Pieces.{Mesh, walked}
use Rattle.mesh_definitions.specs.declared.Step.{Step}
use Rattle.mesh_definitions.specs.declared.Sub.{Sub}
use Rattle.chart_definitions.specs.Edges.{FollowsTrace, HasEdges}
use Rattle.chart_definitions.specs.Meaning.{OnEdge}
use Rattle.chart_model.specs.Lines.{edge_at, edge_segments, pointed, area_segments}
use Rattle.chart_model.specs.declared.records.Edge.{Edge}
use Rattle.chart_model.specs.declared.records.Feature.{Feature}
use Rattle.chart_model.specs.declared.records.Parts.{Parts}
use Rattle.chart_model.specs.declared.records.Pointer.{Pointer}
use Rattle.tiling_laws.proofs.Members.{from_find, from_reverse, partner, partner_back}
use Rattle.plane_geom.specs.Geom.{IsOn, OnSome}
use Rattle.plane_geom.specs.Segments.{joins, turned}
use Rattle.plane_geom.specs.declared.Point.{Point}
use Rattle.plane_geom.specs.declared.Seg.{Seg}
use Rattle.plane_laws.proofs.Lists.{all_of, from_map, in_flat_map, from_flat_map}
use Rattle.plane_laws.proofs.Members.{In, contains, is_in, in_map}
use Rattle.plane_laws.specs.LineLaws.{OnTurned}

-- the sub-segments that traces run along
abbrev pub subs_of : List (List Step) → List Sub
subs_of traces = map (λ s. s.sub) (flat_map (λ t. t) traces)

-- a step of a trace runs along a drawn sub-segment
pub step_drawn : (m : Mesh) (traces : List (List Step)) → DrawsAll m traces → (trace : List Step) (s : Step) → In traces trace → In trace s → In (drawn m) s.sub
step_drawn m traces h trace s i j =
    let k : In (subs_of traces) s.sub = in_map (λ s. s.sub) (flat_map (λ t. t) traces) s (in_flat_map (λ t. t) traces trace s i j) in
    is_in (drawn m) s.sub (Contains-permutation (subs_of traces) (drawn m) s.sub (IsPermutation-sym (drawn m) (subs_of traces) h) (contains (subs_of traces) s.sub k))

-- and each drawn sub-segment has its step
drawn_step : (m : Mesh) (traces : List (List Step)) → DrawsAll m traces → (u : Sub) → In (drawn m) u → (trace : List Step) × (s : Step) × In traces trace × In trace s × (s.sub ≡ u)
drawn_step m traces h u i =
    let there : In (subs_of traces) u = is_in (subs_of traces) u (Contains-permutation (drawn m) (subs_of traces) u h (contains (drawn m) u i)) in
    let s = from_map (λ s. s.sub) (flat_map (λ t. t) traces) u there in
    let t = from_flat_map (λ t. t) traces s.0 s.1 in
    (t.0, s.0, t.1, t.2, s.2)

-- the segments of an edge are the steps of its trace
pub segments_are : (m : Mesh) (c : Parts) (e : Edge) (trace : List Step) → FollowsTrace m c e trace → edge_segments c e ≡ map (walked m) trace
segments_are m c e trace h = ap₂ (λ a b. joins (option_to_list a ++ (e.inner ++ option_to_list b))) h.begins h.ends ∙ h.along.follows

pub edges_have_segments : (m : Mesh) (traces : List (List Step)) (c : Parts) → HasEdges m traces c → All (λ (e : Edge). 0 < length (edge_segments c e)) c.edges
edges_have_segments m traces c h = all_of (λ (e : Edge). 0 < length (edge_segments c e)) c.edges (λ e i.
    let tr = partner (FollowsTrace m c) c.edges traces h.edges e i in
    let same : length (edge_segments c e) ≡ length tr.0 = ap length (segments_are m c e tr.0 tr.2) ∙ length-map tr.0 (walked m) in
    let some = tr.2.along.some in
    omega (arith, same, some))

module _ (on_turned : OnTurned) where
  -- a step and its sub-segment have the same points
  on_walked : (m : Mesh) (p : Point) (s : Step) → IsOn (m.ends s.sub) p → IsOn (walked m s) p
  on_walked m p s h = go s.sub s.forward h
    where
      go : (u : Sub) (b : Bool) → IsOn (m.ends u) p → IsOn (walked m (record { sub = u; forward = b })) p
      go u true h = h
      go u false h = on_turned (m.ends u) p h

  on_ends : (m : Mesh) (p : Point) (s : Step) → IsOn (walked m s) p → IsOn (m.ends s.sub) p
  on_ends m p s h = go s.sub s.forward h
    where
      go : (u : Sub) (b : Bool) → IsOn (walked m (record { sub = u; forward = b })) p → IsOn (m.ends u) p
      go u true h = h
      go u false h = on_turned (turned (m.ends u)) p h

  pub line_on_edge : (m : Mesh) (traces : List (List Step)) (c : Parts) (p : Point) → HasEdges m traces c → OnLine m p → OnEdge c p
  line_on_edge m traces c p h l =
      let u = from_map m.ends (drawn m) l.segment (is_in (map m.ends (drawn m)) l.segment l.there) in
      let s = drawn_step m traces h.each_once u.0 u.1 in
      let e = partner_back (FollowsTrace m c) c.edges traces h.edges s.0 s.2 in
      let seg : In (edge_segments c e.0) (walked m s.1) = subst (λ z. In z (walked m s.1)) (sym (segments_are m c e.0 s.0 e.2)) (in_map (walked m) s.0 s.1 s.3) in
      let on : IsOn (walked m s.1) p = on_walked m p s.1 (subst (λ z. IsOn (m.ends z) p) (sym s.4) (subst (λ z. IsOn z p) (sym u.2) l.on)) in
      record { edge = e.0; there = contains c.edges e.0 e.1; on = record { segment = walked m s.1; there = contains (edge_segments c e.0) (walked m s.1) seg; on = on } }

  pub edge_on_line : (m : Mesh) (traces : List (List Step)) (c : Parts) (p : Point) → HasEdges m traces c → OnEdge c p → OnLine m p
  edge_on_line m traces c p h o =
      let tr = partner (FollowsTrace m c) c.edges traces h.edges o.edge (is_in c.edges o.edge o.there) in
      let i : In (map (walked m) tr.0) o.on.segment = subst (λ z. In z o.on.segment) (segments_are m c o.edge tr.0 tr.2) (is_in (edge_segments c o.edge) o.on.segment o.on.there) in
      let s = from_map (walked m) tr.0 o.on.segment i in
      let d = step_drawn m traces h.each_once tr.0 s.0 tr.1 s.1 in
      let on : IsOn (m.ends s.0.sub) p = on_ends m p s.0 (subst (λ z. IsOn z p) (sym s.2) o.on.on) in
      record { segment = m.ends s.0.sub; there = contains (map m.ends (drawn m)) (m.ends s.0.sub) (in_map m.ends (drawn m) s.0.sub d); on = on }

  -- a point of an area's segments is on an edge
  pub area_on_edge : (c : Parts) (f : Feature) (p : Point) → OnSome (area_segments c f) p → OnEdge c p
  area_on_edge c f p o =
      let q = from_flat_map (pointed c) f.pointers o.segment (is_in (area_segments c f) o.segment o.there) in
      either q.0 (eqb q.0.ornt 2) q.2 o.on
    where
      found : (q : Pointer) (s : Seg) → In (flat_map (edge_segments c) (option_to_list (edge_at c q.rcid))) s → IsOn s p → OnEdge c p
      found q s i on =
          let e = from_flat_map (edge_segments c) (option_to_list (edge_at c q.rcid)) s i in
          record { edge = e.0; there = contains c.edges e.0 (from_find (λ (e : Edge). eqb e.rcid q.rcid) c.edges e.0 e.1); on = record { segment = s; there = contains (edge_segments c e.0) s e.2; on = on } }

      either : (q : Pointer) (b : Bool) {s : Seg} → In (cond b (map turned (reverse (flat_map (edge_segments c) (option_to_list (edge_at c q.rcid))))) (flat_map (edge_segments c) (option_to_list (edge_at c q.rcid)))) s → IsOn s p → OnEdge c p
      either q true {s} i on =
          let segments : List Seg = flat_map (edge_segments c) (option_to_list (edge_at c q.rcid)) in
          let r = from_map turned (reverse segments) s i in
          found q r.0 (from_reverse segments r.0 r.1) (on_turned (turned r.0) p (subst (λ z. IsOn z p) (sym r.2) on))
      either q false {s} i on = found q s i on
