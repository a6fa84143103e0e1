-- What features say of a made chart has pointers to records that are there, and areas that close.
use Rattle.std.proofs.Common.{◌≡◌, ◌≢◌, ℕ, ℤ, pos, ◌+◌, ◌<◌, ◌&&◌, false, cond, eqb, Option, Some, None, List, [], length, get_or, All, AllPairs, refl, sym, ap, subst, ◌∙◌, arith}
use Rattle.std.specs.Bool.{IsTrue}
use Rattle.std.specs.List.{range_with_len}
use Rattle.std.proofs.lemmas.Bool.{and_right}
use Rattle.std.proofs.lemmas.List.Elements.{All-append, All-cons, All-map, All-nil}
use Rattle.boundary_arcs.specs.Edges.{HasNodes, IsSimple, arc_of}
use Rattle.boundary_arcs.specs.declared.arc.Arc.{Arc}
use Rattle.mesh_definitions.specs.Rings.{IsRing}
use Rattle.chart_model.specs.Closed.{is_open}
use Rattle.chart_model.specs.References.{pointer_name, stands}
use Rattle.chart_model.specs.declared.records.Feature.{Feature}
use Rattle.chart_model.specs.declared.records.Parts.{Parts}
use Rattle.chart_model.specs.declared.records.Pointer.{Pointer}
use Rattle.built_parts.specs.Areas.{area_content, area_contents, area_pointers, block_content, block_contents, coverage_contents, exteriors, interiors, pointer_of, quality_contents, ring_pointers, rings_in}
use Rattle.built_parts.specs.Contours.{contour_at, contour_content, contour_contents, contour_of, level_on, sounding_content, sounding_contents}
use Rattle.built_parts.specs.Contents.{FeatureContent, content_of}
use Rattle.built_parts.specs.Order.{AreFeatures}
use Rattle.face_fill.specs.Numbered.{FacesView, class_of}
use Rattle.parts_laws.proofs.Adding.{all_adding}
use Rattle.parts_laws.proofs.Lists.{all_made}
use Rattle.parts_laws.proofs.RingPointers.{all_pointers, if_not, if_so, rings_known}
use Rattle.parts_laws.proofs.Faultless.NodeMeetings.{ring_meets}
use Rattle.parts_laws.proofs.Faultless.Pointers.{HasRecords, MeetsEvenly, both_evenly, each_evenly, edge_stands, ends_counted, isolated_stands, none_evenly, not_open}
use Rattle.plane_geom.specs.declared.Point.{Point}
use Rattle.plane_laws.proofs.Lists.{all_below, all_flat}
use Rattle.ring_builder.specs.Lists.{IsPart}
use Rattle.ring_builder.specs.Rings.{AreRings, HasRings, ring_segments}
use Rattle.ring_builder.specs.declared.ring.Ring.{Ring}

-- what a pointer names stands in the chart
abbrev pub IsFound : Parts → Pointer → Type 0
IsFound c p = IsTrue (stands c (pointer_name p))

-- a feature's pointers name what is there, and if it is an area it closes
pub record IsGood (c : Parts) (d : FeatureContent) : Type 0 where
  pub found : All (IsFound c) d.pointers
  pub closed : (eqb d.prim 3 && is_open c d.pointers) ≡ false

-- the chart has the records of these nodes and arcs
module _ (c : Parts) (nodes : List Point) (arcs : List Arc) (r : HasRecords c nodes arcs) (once : AllPairs ◌≢◌ nodes) (ends : All (HasNodes nodes) arcs) (simple : All IsSimple arcs) (v : FacesView) where
  no_point : Point
  no_point = record { x = pos 0; y = pos 0 }

  -- ---- areas
  ring_found : (ring : Ring) → All (IsPart arcs) ring.parts → All (IsFound c) (ring_pointers v arcs ring)
  ring_found ring h = All-map (IsFound c) (pointer_of v arcs ring.exterior) ring.parts (λ i d l. edge_stands c nodes arcs r (get_or ring.parts i d).arc (h i d l))

  ring_evenly : (ring : Ring) → All (IsPart arcs) ring.parts → IsRing (ring_segments arcs ring) → (k : ℕ) → k < length nodes → MeetsEvenly c (k + 1) (ring_pointers v arcs ring)
  ring_evenly ring h closed k l = let e = ring_meets nodes once no_point arcs ends simple k l ring h closed in record { half = e.half; is = ends_counted c nodes arcs r v ring.exterior k ring.parts h ∙ e.is }

  module _ (owner : ℕ → ℕ) (set : ℕ) (rings : List Ring) (h : AreRings arcs owner set rings) where
    known : All (λ (ring : Ring). All (IsPart arcs) ring.parts) rings
    known = rings_known arcs owner set rings h

    area_found : All (IsFound c) (area_pointers v arcs rings)
    area_found = all_pointers (IsFound c) v arcs rings (λ i d l. ring_found (get_or rings i d) (known i d l))

    area_evenly : (k : ℕ) → k < length nodes → MeetsEvenly c (k + 1) (area_pointers v arcs rings)
    area_evenly k b =
        let evenly = MeetsEvenly c (k + 1) in
        both_evenly c (k + 1) (exteriors v arcs rings) (interiors v arcs rings)
        (each_evenly c (k + 1) (λ (ring : Ring). cond ring.exterior (ring_pointers v arcs ring) []) rings (λ i d l. if_so evenly (none_evenly c (k + 1)) (get_or rings i d).exterior _ (ring_evenly (get_or rings i d) (known i d l) (h.closed i d l) k b)))
        (each_evenly c (k + 1) (λ (ring : Ring). cond ring.exterior [] (ring_pointers v arcs ring)) rings (λ i d l. if_not evenly (none_evenly c (k + 1)) (get_or rings i d).exterior _ (ring_evenly (get_or rings i d) (known i d l) (h.closed i d l) k b)))

    -- a feature with the pointers of an area that has these rings
    area_good : (d : FeatureContent) → d.pointers ≡ area_pointers v arcs rings → IsGood c d
    area_good d e = record {
      found = subst (All (IsFound c)) (sym e) area_found;
      closed = and_right (eqb d.prim 3) (is_open c d.pointers) (ap (is_open c) e ∙ not_open c nodes arcs r (area_pointers v arcs rings) area_evenly);
    }

  areas_good : (levels : List ℤ) (low high : ℤ) (owner : ℕ → ℕ) (sets : ℕ) (rings : List (List Ring)) → HasRings arcs owner sets rings → All (IsGood c) (area_contents levels low high v arcs rings)
  areas_good levels low high owner sets rings h =
      all_made (IsGood c) (λ k. area_content levels low high v arcs (class_of v k) (rings_in rings k)) (length rings)
      (λ k l. area_good owner k (rings_in rings k) (h.rings k (omega (arith, h.each))) (area_content levels low high v arcs (class_of v k) (rings_in rings k)) refl)

  blocks_good : (objl code digit : ℕ) (owner : ℕ → ℕ) (sets : ℕ) (rings : List (List Ring)) → HasRings arcs owner sets rings → All (IsGood c) (block_contents objl code digit v arcs rings)
  blocks_good objl code digit owner sets rings h =
      all_made (IsGood c) (λ k. block_content objl code digit v arcs (rings_in rings k)) (length rings)
      (λ k l. area_good owner k (rings_in rings k) (h.rings k (omega (arith, h.each))) (block_content objl code digit v arcs (rings_in rings k)) refl)

  quality_good : (quality : Option ℕ) (owner : ℕ → ℕ) (sets : ℕ) (rings : List (List Ring)) → HasRings arcs owner sets rings → All (IsGood c) (quality_contents quality v arcs rings)
  quality_good None owner sets rings h = All-nil (IsGood c)
  quality_good (Some zone) owner sets rings h = blocks_good 308 72 zone owner sets rings h

  coverage_good : (quality : Option ℕ) (owner : ℕ → ℕ) (sets : ℕ) (rings : List (List Ring)) → HasRings arcs owner sets rings → All (IsGood c) (coverage_contents quality v arcs rings)
  coverage_good quality owner sets rings h = All-append (IsGood c) (block_contents 302 18 1 v arcs rings) (quality_contents quality v arcs rings) (blocks_good 302 18 1 owner sets rings h) (quality_good quality owner sets rings h)

  -- ---- contours and soundings
  contour_good : (levels : List ℤ) (k : ℕ) → k < length arcs → (level : Option ℕ) → All (IsGood c) (contour_of levels k level)
  contour_good levels k l None = All-nil (IsGood c)
  contour_good levels k l (Some level) = All-cons (IsGood c) (contour_content levels k level) [] (record { found = All-cons (IsFound c) _ [] (edge_stands c nodes arcs r k l) (All-nil (IsFound c)); closed = refl }) (All-nil (IsGood c))

  contours_good : (levels : List ℤ) → All (IsGood c) (contour_contents levels v arcs)
  contours_good levels =
      all_flat (IsGood c) (λ k. contour_at levels v (arc_of arcs k) k) (range_with_len 0 (length arcs))
      (all_below (λ k. All (IsGood c) (contour_at levels v (arc_of arcs k) k)) (length arcs) (λ k l. contour_good levels k l (level_on v (arc_of arcs k).left (arc_of arcs k).right)))

  soundings_good : All (IsGood c) (sounding_contents (length c.isolated))
  soundings_good = all_made (IsGood c) sounding_content (length c.isolated) (λ k l. record { found = All-cons (IsFound c) _ [] (isolated_stands c nodes arcs r k l) (All-nil (IsFound c)); closed = refl })

  -- ---- all features
  abbrev AreGood : List Feature → Type 0
  AreGood fs = All (λ f. IsGood c (content_of f)) fs

  pub features_good : (levels : List ℤ) (quality : Option ℕ) (low high : ℤ) (blocks : ℕ) (fs : List Feature) → AreFeatures levels quality low high v arcs blocks (length c.isolated) fs → AreGood fs
  features_good levels quality low high blocks fs h =
      let ground = all_adding (IsGood c) _ [] h.covers h.ground.added (coverage_good quality _ _ h.ground.rings h.ground.are) (All-nil (λ f. IsGood c (content_of f))) in
      let areas = all_adding (IsGood c) _ h.covers h.faces h.areas.added (areas_good levels low high _ _ h.areas.rings h.areas.are) ground in
      let contours = all_adding (IsGood c) _ h.faces h.lines h.contours (contours_good levels) areas in
      all_adding (IsGood c) _ h.lines fs h.soundings soundings_good contours
