-- The edges of made parts follow the traces of the arcs.
use Rattle.std.proofs.Common.{◌≡◌, ℕ, zero, suc, ◌+◌, ◌-◌, ◌<◌, Some, List, [], ◌∷◌, ◌++◌, take, drop, zip, length, get_or, Contains, refl, sym, ap, ap₂, ◌∙◌, subst, arith, pos, length-append}
use Rattle.std.specs.List.{AllZip, slice_get}
use Rattle.std.specs.Prelude.{option_map}
use Rattle.std.proofs.lemmas.List.{get_or_at, get_or_default, take_at}
use Rattle.std.proofs.lemmas.List.Elements.{Contains-append_right}
use Rattle.std.proofs.lemmas.List.FromFn.{get_or-map-range_with_len, length-map-range_with_len}
use Rattle.std.proofs.lemmas.Option.{get_or_from_slice_get, slice_get-get_or}
use Rattle.boundary_arcs.proofs.Zips.{AllZip-at, AllZip-length}
use Rattle.boundary_arcs.specs.Edges.{AreArcs, HasNodes, RunsAlong, arc_of, inner}
use Rattle.boundary_arcs.specs.declared.arc.Arc.{Arc}
use Rattle.boundary_arcs.specs.declared.arc.Side.TheVariants.{Outside}
use Rattle.mesh_definitions.specs.Edges.{IsEdge}
use Rattle.mesh_definitions.specs.Pieces.{Mesh}
use Rattle.mesh_definitions.specs.declared.Piece.{Piece}
use Rattle.mesh_definitions.specs.declared.Step.{Step}
use Rattle.chart_definitions.specs.Edges.{FollowsTrace, traced}
use Rattle.chart_model.specs.Lines.{edge_at, node_at}
use Rattle.chart_model.specs.declared.records.Connected.{Connected}
use Rattle.chart_model.specs.declared.records.Edge.{Edge}
use Rattle.chart_model.specs.declared.records.Parts.{Parts}
use Rattle.built_parts.specs.Nodes.{connected_record, connected_records, edge_record, edge_records}
use Rattle.tiling_laws.proofs.Named.{zipped}
use Rattle.parts_laws.proofs.Counting.{found_place}
use Rattle.plane_geom.specs.declared.Point.{Point}
use Rattle.plane_laws.proofs.Members.{is_in}

-- ---- lists that go together, place by place

pub zip_from : {X Y : Type 0} (R : X → Y → Type 0) (xs : List X) (ys : List Y) → length xs ≡ length ys → ((k : ℕ) (d : X) (e : Y) → k < length xs → R (get_or xs k d) (get_or ys k e)) → AllZip R xs ys
zip_from R [] [] l h = tt
zip_from R [] (y ∷ ys) l h = absurd (omega (arith, l))
zip_from R (x ∷ xs) [] l h = absurd (omega (arith, l))
zip_from R (x ∷ xs) (y ∷ ys) l h = (h 0 x y (omega arith), zip_from R xs ys (omega (arith, l)) (λ k d e m. h (suc k) d e (omega (arith, m))))

pub in_zip : {X Y : Type 0} (xs : List X) (ys : List Y) (k : ℕ) (x : X) (y : Y) → k < length xs → length xs ≡ length ys → ((d : X) → get_or xs k d ≡ x) → ((d : Y) → get_or ys k d ≡ y) → Contains (zip xs ys) (x, y)
in_zip [] ys k x y l e f g = absurd (omega arith)
in_zip (a ∷ xs) [] k x y l e f g = absurd (omega (arith, e))
in_zip (a ∷ xs) (b ∷ ys) zero x y l e f g = (0, omega arith, ap₂ (λ p q. (p, q)) (f x) (g y))
in_zip (a ∷ xs) (b ∷ ys) (suc k) x y l e f g = Contains-append_right ((a, b) ∷ []) (zip xs ys) (x, y) (in_zip xs ys k x y (omega arith) (omega (arith, e)) f g)

abbrev pub origin : Point
origin = record { x = pos 0; y = pos 0 }

abbrev pub no_arc : Arc
no_arc = record { points = []; begin = 0; end = 0; left = Outside; right = Outside }

-- ---- the points of an arc

last_at : (first : Point) (between : List Point) (last : Point) → slice_get (first ∷ (between ++ last ∷ [])) (length (first ∷ (between ++ last ∷ [])) - 1) ≡ Some last
last_at first between last =
    let ps : List Point = first ∷ (between ++ last ∷ []) in
    let long = length-append between (last ∷ []) in
    let place : length (first ∷ between) ≡ length ps - 1 = omega (arith, long) in
    slice_get-get_or ps (length ps - 1) origin (omega (arith, long)) ∙ ap Some (get_or_at (first ∷ between) last [] origin (length ps - 1) place)

inner_at : (first : Point) (between : List Point) (last : Point) → take (length (first ∷ (between ++ last ∷ [])) - 2) (drop 1 (first ∷ (between ++ last ∷ []))) ≡ between
inner_at first between last =
    let long = length-append between (last ∷ []) in
    take_at between (last ∷ []) (length (first ∷ (between ++ last ∷ [])) - 2) (omega (arith, long))

module _ (nodes : List Point) (arcs : List Arc) (faces : ℕ) (keep : AreArcs nodes arcs faces) (c : Parts) (connected : c.connected ≡ connected_records nodes) (edges : c.edges ≡ edge_records arcs) where
  -- where a node lies, by its number
  pub node_lies : (n : ℕ) → n < length nodes → node_at c (n + 1) ≡ Some (get_or nodes n origin)
  node_lies n l = ap (option_map (λ (k : Connected). k.at)) (found_place (λ (k : Connected). k.rcid) (connected_record nodes) c.connected (length nodes) n (λ i. refl) connected l)

  pub edge_lies : (n : ℕ) → n < length arcs → edge_at c (n + 1) ≡ Some (edge_record arcs n)
  edge_lies n l = found_place (λ (k : Edge). k.rcid) (edge_record arcs) c.edges (length arcs) n (λ i. refl) edges l

  module _ (m : Mesh) (face : Piece → ℕ) (traces : List (List Step)) (run : AllZip (RunsAlong m face) arcs traces) where
    -- an edge is the one of an arc, which runs along the trace
    pub record IsAlong (e : Edge) (trace : List Step) : Type 0 where
      pub arc : ℕ
      pub there : arc < length arcs
      pub edge_is : e ≡ edge_record arcs arc
      pub runs : RunsAlong m face (arc_of arcs arc) trace

    pub follows : (n : ℕ) (trace : List Step) → n < length arcs → RunsAlong m face (arc_of arcs n) trace → FollowsTrace m c (edge_record arcs n) trace
    follows n trace l r =
        let a = arc_of arcs n in
        let h : HasNodes nodes a = keep.ends n no_arc l in
        let one : get_or nodes a.begin origin ≡ r.first = get_or_from_slice_get nodes a.begin r.first origin (h.first ∙ ap (λ ps. slice_get ps 0) r.points) in
        let two : get_or nodes a.end origin ≡ r.last = get_or_from_slice_get nodes a.end r.last origin (h.last ∙ ap (λ ps. slice_get ps (length ps - 1)) r.points ∙ last_at r.first r.between r.last) in
        let within : r.between ≡ inner a = sym (ap (λ ps. take (length ps - 2) (drop 1 ps)) r.points ∙ inner_at r.first r.between r.last) in
        record {
          first = r.first;
          begins = node_lies a.begin h.begins ∙ ap Some one;
          last = r.last;
          ends = node_lies a.end h.ends ∙ ap Some two;
          along = subst (λ ps. IsEdge m r.first ps r.last trace) within r.edge;
        }

    edge_count : length c.edges ≡ length arcs
    edge_count = ap length edges ∙ length-map-range_with_len (edge_record arcs) 0 (length arcs)

    each_along : AllZip IsAlong c.edges traces
    each_along = zip_from IsAlong c.edges traces (edge_count ∙ AllZip-length (RunsAlong m face) arcs traces run) (λ k d e l.
        let there : k < length arcs = omega (arith, edge_count, l) in
        record {
          arc = k;
          there = there;
          edge_is = ap (λ xs. get_or xs k d) edges ∙ get_or-map-range_with_len (edge_record arcs) 0 (length arcs) k k d there (omega arith);
          runs = AllZip-at (RunsAlong m face) arcs traces k no_arc e run there;
        })

    pub all_follow : AllZip (FollowsTrace m c) c.edges traces
    all_follow = zip_from (FollowsTrace m c) c.edges traces (AllZip-length IsAlong c.edges traces each_along) (λ k d e l.
        let a = AllZip-at IsAlong c.edges traces k d e each_along l in
        subst (λ z. FollowsTrace m c z (get_or traces k e)) (sym a.edge_is) (follows a.arc (get_or traces k e) a.there a.runs))

    -- an edge with its trace is that of an arc that runs along it
    pub along : (e : Edge) (trace : List Step) → Contains (traced c traces) (e, trace) → IsAlong e trace
    along e trace i = (zipped IsAlong c.edges traces (e, trace) each_along (is_in (traced c traces) (e, trace) i)).2

    -- and each arc's edge has its trace
    pub arc_traced : (n : ℕ) → n < length arcs → Contains (traced c traces) (edge_record arcs n, get_or traces n [])
    arc_traced n l = in_zip c.edges traces n (edge_record arcs n) (get_or traces n []) (omega (arith, edge_count, l)) (AllZip-length IsAlong c.edges traces each_along) at (λ d. same_trace d)
      where
        at : (d : Edge) → get_or c.edges n d ≡ edge_record arcs n
        at d = ap (λ xs. get_or xs n d) edges ∙ get_or-map-range_with_len (edge_record arcs) 0 (length arcs) n n d l (omega arith)

        same_trace : (d : List Step) → get_or traces n d ≡ get_or traces n []
        same_trace d = get_or_default traces n d [] (let z = AllZip-length (RunsAlong m face) arcs traces run in omega (arith, z, l))
