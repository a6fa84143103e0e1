-- The header, the order, the numbers and the names of made parts.
use Rattle.std.proofs.Common.{◌≡◌, ℕ, ◌+◌, ◌/◌, ◌<◌, List, [], map, length, get_or, All, refl, sym, ap, ap₂, ◌∙◌, arith, ◌∷◌}
use Rattle.std.specs.List.{range_with_len}
use Rattle.std.proofs.lemmas.List.{get_or-map, length-map, same_lists}
use Rattle.std.proofs.lemmas.List.Elements.{All-append, All-map, All-same, All-weaker}
use Rattle.std.proofs.lemmas.List.FromFn.{get_or-range_with_len, length-range_with_len}
use Rattle.chart_definitions.specs.Meaning.{of_code}
use Rattle.chart_definitions.specs.Rest.{HasTheRest, IsBeside}
use Rattle.chart_model.specs.declared.records.Connected.{Connected}
use Rattle.chart_model.specs.declared.records.Edge.{Edge}
use Rattle.chart_model.specs.declared.records.Feature.{Feature}
use Rattle.chart_model.specs.declared.records.Isolated.{Isolated}
use Rattle.chart_model.specs.declared.records.Parts.{Parts}
use Rattle.built_parts.specs.Areas.{block_contents, quality_contents}
use Rattle.built_parts.specs.Contours.{contour_contents, sounding_contents}
use Rattle.built_parts.specs.Contents.{FeatureContent, content_of}
use Rattle.built_parts.specs.Made.{AreMade}
use Rattle.built_parts.specs.Nodes.{connected_record, edge_record, isolated_record, nodes_in}
use Rattle.built_parts.specs.Numbered.{AreNumbered}
use Rattle.depth_grid.specs.Grid.{GridView}
use Rattle.parts_laws.proofs.Lists.{counted, map_twice, of_images}
use Rattle.parts_laws.proofs.Chart.FeatureKinds.{HasKind, IsOfSoundings, block_kinds, contour_kinds, quality_kinds, sorted, sounding_kinds}
use Rattle.rule_sheet.specs.Values.{SheetView}
use Rattle.s57_codes.specs.Catalogue.{attl_catcov, objl_depcnt, objl_m_covr, objl_m_qual, objl_soundg, prim_area, prim_line, prim_point}

-- records that are made one for each of so many places, and numbered from 1
numbered_places : {X : Type 0} (number : X → ℕ) (make : ℕ → X) (xs : List X) (n : ℕ) → xs ≡ map make (range_with_len 0 n) → ((k : ℕ) → number (make k) ≡ k + 1) → map number xs ≡ range_with_len 1 (length xs)
numbered_places number make xs n e h =
    let long : length xs ≡ n = ap length e ∙ length-map (range_with_len 0 n) make ∙ length-range_with_len 0 n in
    ap (map number) e ∙ map_twice number make (range_with_len 0 n) ∙ each (range_with_len 0 n) ∙ counted 0 n ∙ ap (range_with_len 1) (sym long)
  where
    each : (ks : List ℕ) → map (λ k. number (make k)) ks ≡ map (λ k. k + 1) ks
    each [] = refl
    each (k ∷ ks) = ap₂ ◌∷◌ (h k) (each ks)

made_each : {X : Type 0} (P : X → Type 0) (make : ℕ → X) (xs : List X) (n : ℕ) → xs ≡ map make (range_with_len 0 n) → ((k : ℕ) → P (make k)) → All P xs
made_each P make xs n e h = All-same P xs (map make (range_with_len 0 n)) e (All-map P make (range_with_len 0 n) (λ i d l. h _))

beside : (prim objl : ℕ) (xs : List Feature) (ds : List FeatureContent) → map content_of xs ≡ ds → All (HasKind prim 2 objl) ds → All (IsBeside prim) xs
beside prim objl xs ds e h = All-weaker (λ f. HasKind prim 2 objl (content_of f)) (IsBeside prim) (λ f k. record { prim_is = k.prim_is; group = k.grup_is }) xs (of_images content_of (HasKind prim 2 objl) xs ds e h)

-- numbered features have the numbers from 1 on
feature_places : (agency : ℕ) (fs : List Feature) → AreNumbered agency fs → map (λ (f : Feature). f.rcid) fs ≡ range_with_len 1 (length fs)
feature_places agency fs h = same_lists (map (λ (f : Feature). f.rcid) fs) (range_with_len 1 (length fs))
    (length-map fs (λ (f : Feature). f.rcid) ∙ sym (length-range_with_len 1 (length fs)))
    (λ k d l. at k d (let e = length-map fs (λ (f : Feature). f.rcid) in omega (arith, e, l)))
  where
    at : (k d : ℕ) → k < length fs → get_or (map (λ (f : Feature). f.rcid) fs) k d ≡ get_or (range_with_len 1 (length fs)) k d
    at k d l =
        let e : k + 1 ≡ 1 + k = omega arith in
        get_or-map (λ (f : Feature). f.rcid) fs k no_feature d l ∙ (h k no_feature l).rcid ∙ e ∙ sym (get_or-range_with_len 1 (length fs) k d l)
      where
        no_feature : Feature
        no_feature = record { rcid = 0; rver = 0; prim = 0; grup = 0; objl = 0; agen = 0; fidn = 0; fids = 0; attributes = []; pointers = [] }

-- made parts have all that isn't said of edges, areas, coverage, contours and soundings
pub rest_is : (g : GridView) (s : SheetView) (c : Parts) → AreMade g s c → HasTheRest s c
rest_is g s c m =
    let k = sorted s.levels s.catzoc m.low m.high m.faces m.arcs.arcs m.blocks (length c.isolated) c m.features in
    record {
      header = m.header;
      order = k.order;
      features = λ i f l. let n = m.numbered i f l in record { version = n.rver; agency = n.agen; name = (n.fidn ∙ sym n.rcid, n.fids) };
      covers = All-append (IsBeside prim_area) (of_code objl_m_covr c) (of_code objl_m_qual c)
          (beside prim_area objl_m_covr (of_code objl_m_covr c) (block_contents objl_m_covr attl_catcov 1 m.faces m.arcs.arcs k.block_rings) k.covers (block_kinds objl_m_covr attl_catcov 1 m.faces m.arcs.arcs k.block_rings))
          (beside prim_area objl_m_qual (of_code objl_m_qual c) (quality_contents s.catzoc m.faces m.arcs.arcs k.block_rings) k.qualities (quality_kinds s.catzoc m.faces m.arcs.arcs k.block_rings));
      contours = beside prim_line objl_depcnt (of_code objl_depcnt c) (contour_contents s.levels m.faces m.arcs.arcs) k.contours (contour_kinds s.levels m.faces m.arcs.arcs);
      soundings = All-weaker (λ f. IsOfSoundings (content_of f)) (λ (f : Feature). IsBeside prim_point f × (f.attributes ≡ [])) (λ f h. (record { prim_is = h.kind.prim_is; group = h.kind.grup_is }, h.nothing)) (of_code objl_soundg c)
          (of_images content_of IsOfSoundings (of_code objl_soundg c) (sounding_contents (length c.isolated)) k.soundings (sounding_kinds (length c.isolated)));
      isolated_versions = made_each (λ (n : Isolated). n.rver ≡ 1) (λ place. isolated_record m.view (place + 1) (nodes_in m.isolated.chosen place)) c.isolated ((length m.isolated.chosen + 1999) / 2000) m.isolated.are (λ k. refl);
      connected_versions = made_each (λ (n : Connected). n.rver ≡ 1) (connected_record m.arcs.nodes) c.connected (length m.arcs.nodes) m.connected (λ k. refl);
      edge_versions = made_each (λ (n : Edge). n.rver ≡ 1) (edge_record m.arcs.arcs) c.edges (length m.arcs.arcs) m.edges (λ k. refl);
      isolated_count = numbered_places (λ (n : Isolated). n.rcid) (λ place. isolated_record m.view (place + 1) (nodes_in m.isolated.chosen place)) c.isolated ((length m.isolated.chosen + 1999) / 2000) m.isolated.are (λ k. refl);
      connected_count = numbered_places (λ (n : Connected). n.rcid) (connected_record m.arcs.nodes) c.connected (length m.arcs.nodes) m.connected (λ k. refl);
      edge_count = numbered_places (λ (n : Edge). n.rcid) (edge_record m.arcs.arcs) c.edges (length m.arcs.arcs) m.edges (λ k. refl);
      feature_count = feature_places s.agency c.features m.numbered;
    }
