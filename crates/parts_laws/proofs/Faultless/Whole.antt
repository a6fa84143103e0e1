-- Made parts have no fault.
use Rattle.std.proofs.Common.{◌≡◌, ◌≢◌, ℕ, ◌+◌, ◌<◌, ◌/◌, Bool, false, cond, not, Option, Some, None, List, [], ◌∷◌, length, get_or, All, AllPairs, refl, sym, ap, ap₂, subst, ◌∙◌}
use Rattle.std.specs.List.{find, flat_map}
use Rattle.std.specs.Option.{option_map, option_or}
use Rattle.std.proofs.lemmas.List.Elements.{All-append, All-cons, All-head, All-map, All-nil, All-tail}
use Rattle.boundary_arcs.specs.Edges.{HasNodes, arc_of}
use Rattle.boundary_arcs.specs.declared.arc.Arc.{Arc}
use Rattle.chart_model.proofs.Wholeness.{none_from_once}
use Rattle.chart_model.specs.Closed.{is_open_area}
use Rattle.chart_model.specs.Numbers.{connected_numbers, edge_numbers, isolated_numbers}
use Rattle.chart_model.specs.References.{edge_names, feature_names, names, pointer_name, stands}
use Rattle.chart_model.specs.Whole.{first_fault, first_lost, first_open, first_twice, twice}
use Rattle.chart_model.specs.declared.fault.PartFault.TheVariants.{Twice, Unclosed}
use Rattle.chart_model.specs.declared.records.Connected.{Connected}
use Rattle.chart_model.specs.declared.records.Edge.{Edge}
use Rattle.chart_model.specs.declared.records.Feature.{Feature}
use Rattle.chart_model.specs.declared.records.Isolated.{Isolated}
use Rattle.chart_model.specs.declared.records.Parts.{Parts}
use Rattle.built_parts.specs.Contents.{content_of}
use Rattle.built_parts.specs.Made.{AreMade}
use Rattle.built_parts.specs.Nodes.{edge_record, isolated_record, nodes_in}
use Rattle.depth_grid.specs.Grid.{GridView}
use Rattle.parts_laws.proofs.Counting.{CountsUp, made_count, numbers_once}
use Rattle.parts_laws.proofs.Faultless.Features.{IsGood, features_good}
use Rattle.parts_laws.proofs.Lists.{all_made}
use Rattle.parts_laws.proofs.Faultless.Pointers.{HasRecords, connected_count, edges_count, node_stands}
use Rattle.plane_geom.specs.declared.Point.{Point}
use Rattle.plane_laws.proofs.Lists.{all_flat}
use Rattle.rule_sheet.specs.Values.{SheetView}

-- ---- options and searches
none_of_both : {X : Type 0} (a b : Option X) → a ≡ None → b ≡ None → option_or a b ≡ None
none_of_both a b e f = ap₂ option_or e f

none_mapped : {X Y : Type 0} (f : X → Y) (o : Option X) → o ≡ None → option_map f o ≡ None
none_mapped f o e = ap (option_map f) e

none_found : {X : Type 0} (q : X → Bool) (xs : List X) → All (λ x. q x ≡ false) xs → find q xs ≡ None
none_found q [] a = refl
none_found q (x ∷ xs) a = ap (λ t. cond t (Some x) (find q xs)) (All-head (λ y. q y ≡ false) x xs a) ∙ none_found q xs (All-tail (λ y. q y ≡ false) x xs a)

once_kind : (rcnm : ℕ) (ns : List ℕ) → AllPairs ◌≢◌ ns → twice rcnm ns ≡ None
once_kind rcnm ns once = ap (option_map (Twice rcnm)) (none_from_once ns once)

-- ---- parts whose records are numbered by their places, and whose features are good
module _ (c : Parts) (nodes : List Point) (arcs : List Arc) (r : HasRecords c nodes arcs) (ends : All (HasNodes nodes) arcs) (n : CountsUp (λ (f : Feature). f.rcid) c.features) (good : All (λ f. IsGood c (content_of f)) c.features) where
  -- no number stands twice in a list of one kind
  no_number_twice : first_twice c ≡ None
  no_number_twice =
      none_of_both (twice 110 (isolated_numbers c)) _ (once_kind 110 _ (numbers_once (λ (k : Isolated). k.rcid) c.isolated r.isolated))
      (none_of_both (twice 120 (connected_numbers c)) _ (once_kind 120 _ (numbers_once (λ (k : Connected). k.rcid) c.connected (connected_count c nodes arcs r)))
      (none_of_both (twice 130 (edge_numbers c)) _ (once_kind 130 _ (numbers_once (λ (e : Edge). e.rcid) c.edges (edges_count c nodes arcs r)))
      (once_kind 100 _ (numbers_once (λ (f : Feature). f.rcid) c.features n))))

  -- what an edge names stands in the chart, and so does what a feature names
  edge_known : (k : ℕ) → k < length arcs → All (λ name. not (stands c name) ≡ false) (edge_names (edge_record arcs k))
  edge_known k l =
      let h : HasNodes nodes (arc_of arcs k) = ends k _ l in
      All-cons (λ name. not (stands c name) ≡ false) (record { rcnm = 120; rcid = (arc_of arcs k).begin + 1 }) (record { rcnm = 120; rcid = (arc_of arcs k).end + 1 } ∷ []) (ap not (node_stands c nodes arcs r (arc_of arcs k).begin h.begins))
      (All-cons (λ name. not (stands c name) ≡ false) (record { rcnm = 120; rcid = (arc_of arcs k).end + 1 }) [] (ap not (node_stands c nodes arcs r (arc_of arcs k).end h.ends)) (All-nil (λ name. not (stands c name) ≡ false)))

  edges_known : All (λ name. not (stands c name) ≡ false) (flat_map edge_names c.edges)
  edges_known =
      all_flat (λ name. not (stands c name) ≡ false) edge_names c.edges
      (subst (All (λ (e : Edge). All (λ name. not (stands c name) ≡ false) (edge_names e))) (sym r.edges)
      (all_made (λ (e : Edge). All (λ name. not (stands c name) ≡ false) (edge_names e)) (edge_record arcs) (length arcs) edge_known))

  features_known : All (λ name. not (stands c name) ≡ false) (flat_map feature_names c.features)
  features_known =
      all_flat (λ name. not (stands c name) ≡ false) feature_names c.features
      (λ i f l. All-map (λ name. not (stands c name) ≡ false) pointer_name (get_or c.features i f).pointers (λ j p b. ap not ((good i f l).found j p b)))

  -- so no pointer names what isn't there
  nothing_lost : first_lost c ≡ None
  nothing_lost = none_mapped _ _ (none_found (λ name. not (stands c name)) (names c) (All-append (λ name. not (stands c name) ≡ false) (flat_map edge_names c.edges) (flat_map feature_names c.features) edges_known features_known))

  -- every area closes
  all_closed : first_open c ≡ None
  all_closed = ap (option_map (λ (f : Feature). Unclosed f.rcid)) (none_found (is_open_area c) c.features (λ i f l. (good i f l).closed))

  no_fault : first_fault c ≡ None
  no_fault = none_of_both (first_twice c) _ no_number_twice (none_of_both (first_lost c) _ nothing_lost all_closed)

-- so are the parts made of a grid and a sheet
pub made_faultless : (g : GridView) (s : SheetView) (c : Parts) → AreMade g s c → first_fault c ≡ None
made_faultless g s c m =
    let nodes = m.arcs.nodes in
    let arcs = m.arcs.arcs in
    let keep = m.arcs_keep in
    let records : HasRecords c nodes arcs = record {
      isolated = subst (CountsUp (λ (k : Isolated). k.rcid)) (sym m.isolated.are) (made_count (λ (k : Isolated). k.rcid) (λ place. isolated_record m.view (place + 1) (nodes_in m.isolated.chosen place)) ((length m.isolated.chosen + 1999) / 2000) (λ k. refl));
      connected = m.connected;
      edges = m.edges;
    } in
    no_fault c nodes arcs records keep.ends
    (record { each = λ k d l. (m.numbered k d l).rcid })
    (features_good c nodes arcs records keep.nodes_once keep.ends keep.simple m.faces s.levels s.catzoc m.low m.high m.blocks c.features m.features)
