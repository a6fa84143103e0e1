-- What features say is short: at most 12,000 pointers, and few bytes of attributes.
use Rattle.std.proofs.Common.{ℕ, ◌+◌, ◌-◌, ◌<◌, ◌≤◌, ℤ, Option, Some, None, List, [], ◌∷◌, length, map, sym, subst, arith}
use Rattle.std.specs.List.{All, range_with_len, sum_by}
use Rattle.std.proofs.lemmas.List.Elements.{All-append, All-cons, All-head, All-map, All-nil, All-tail}
use Rattle.std.proofs.lemmas.List.Sums.{sum_by-cons}
use Rattle.boundary_arcs.specs.Edges.{arc_of}
use Rattle.boundary_arcs.specs.declared.arc.Arc.{Arc}
use Rattle.cell_writer.proofs.Sizing.{attribute_bytes}
use Rattle.mesh_definitions.specs.declared.Class.TheVariants.{Band, Unsurveyed}
use Rattle.mesh_definitions.specs.declared.Class.{Class}
use Rattle.chart_model.specs.declared.records.Attribute.{Attribute}
use Rattle.chart_model.specs.declared.records.Feature.{Feature}
use Rattle.chart_model.specs.declared.records.Pointer.{Pointer}
use Rattle.built_parts.specs.Areas.{area_content, area_contents, area_pointers, attributes_of, block_content, block_contents, coverage_contents, depth_of, quality_contents, rings_in}
use Rattle.built_parts.specs.Contours.{contour_at, contour_content, contour_contents, contour_of, level_on, sounding_content, sounding_contents}
use Rattle.built_parts.specs.Contents.{Adds, FeatureContent, content_of}
use Rattle.built_parts.specs.Order.{AreFeatures}
use Rattle.depth_rounding.specs.Bands.{AreLevels, deeper_end, level_at, shoaler_end}
use Rattle.exact_num.specs.Printed.{decimetres}
use Rattle.face_fill.specs.Numbered.{FacesView, class_of}
use Rattle.plane_laws.proofs.Lists.{all_below, all_flat}
use Rattle.record_size_laws.proofs.Records.Pointers.{pointers_length}
use Rattle.record_size_laws.proofs.Records.Texts.{IsWithin, deeper_short, level_short, shoaler_short}
use Rattle.record_size_laws.proofs.Records.Traces.{sided}
use Rattle.ring_builder.specs.Parts.{numbers}
use Rattle.ring_builder.specs.Rings.{HasRings}
use Rattle.ring_builder.specs.declared.ring.Ring.{Ring}
use Rattle.s57_codes.specs.Catalogue.{attl_catcov, attl_catzoc, attl_drval1, attl_drval2, attl_valdco, objl_m_covr, objl_m_qual}

-- pointers and attributes that fit in a record
pub record AreFew (attributes : List Attribute) (pointers : List Pointer) : Type 0 where
  pub short : sum_by attribute_bytes attributes ≤ 100
  pub few : length pointers ≤ 12000

abbrev pub IsSmall : FeatureContent → Type 0
IsSmall d = AreFew d.attributes d.pointers

abbrev pub IsShort : Feature → Type 0
IsShort f = IsSmall (content_of f)

-- ---- attributes

one_text : (x : Attribute) (n : ℕ) → length x.text ≤ n → sum_by attribute_bytes (x ∷ []) ≤ n + 3
one_text x n few = omega (arith, few, sum_by-cons attribute_bytes x [])

two_texts : (x y : Attribute) (n : ℕ) → length x.text ≤ n → length y.text ≤ n → sum_by attribute_bytes (x ∷ (y ∷ [])) ≤ n + n + 6
two_texts x y n few small = omega (arith, few, small, sum_by-cons attribute_bytes x (y ∷ []), sum_by-cons attribute_bytes y [])

no_texts : sum_by attribute_bytes [] ≤ 100
no_texts = omega arith

module _ (levels : List ℤ) (are : AreLevels levels) (low high : ℤ) (v : IsWithin low) (w : IsWithin high) where
  class_texts : (k : Class) → sum_by attribute_bytes (attributes_of levels low high k) ≤ 100
  class_texts Unsurveyed = no_texts
  class_texts (Band b) = let h = two_texts (depth_of attl_drval1 (shoaler_end levels low b)) (depth_of attl_drval2 (deeper_end levels low high b)) 8 (shoaler_short levels low b are v) (deeper_short levels low high b are v w) in omega (arith, h)

  -- ---- features of each kind

  module _ (faces : FacesView) (arcs : List Arc) where
    -- no more edges border each of so many sets than a record has room for pointers
    abbrev FewBorder : (ℕ → ℕ) → ℕ → Type 0
    FewBorder owner sets = (k : ℕ) → k < sets → sum_by (sided owner k) arcs ≤ 12000

    -- so an area has no more pointers
    few_pointers : (owner : ℕ → ℕ) (sets : ℕ) (rings : List (List Ring)) → HasRings arcs owner sets rings → FewBorder owner sets → (k : ℕ) → k < length rings → length (area_pointers faces arcs (rings_in rings k)) ≤ 12000
    few_pointers owner sets rings has few k l =
        let inside : k < sets = omega (arith, l, has.each) in
        omega (arith, few k inside, pointers_length faces arcs owner k (rings_in rings k) (has.rings k inside))

    block_contents_small : (objl code digit blocks : ℕ) (rings : List (List Ring)) → HasRings arcs (numbers faces.blocks) blocks rings → FewBorder (numbers faces.blocks) blocks → All IsSmall (block_contents objl code digit faces arcs rings)
    block_contents_small objl code digit blocks rings has few =
        All-map IsSmall (λ k. block_content objl code digit faces arcs (rings_in rings k)) (range_with_len 0 (length rings))
        (all_below (λ k. IsSmall (block_content objl code digit faces arcs (rings_in rings k))) (length rings)
        (λ k l. record { short = omega (arith, one_text (record { code = code; text = (48 + digit) ∷ [] }) 1 (omega arith)); few = few_pointers (numbers faces.blocks) blocks rings has few k (omega (arith, l)) }))

    coverage_small : (quality : Option ℕ) (blocks : ℕ) (rings : List (List Ring)) → HasRings arcs (numbers faces.blocks) blocks rings → FewBorder (numbers faces.blocks) blocks → All IsSmall (coverage_contents quality faces arcs rings)
    coverage_small quality blocks rings has few =
        All-append IsSmall (block_contents objl_m_covr attl_catcov 1 faces arcs rings) (quality_contents quality faces arcs rings) (block_contents_small objl_m_covr attl_catcov 1 blocks rings has few) (by_quality quality)
      where
        by_quality : (q : Option ℕ) → All IsSmall (quality_contents q faces arcs rings)
        by_quality None = All-nil IsSmall
        by_quality (Some zone) = block_contents_small objl_m_qual attl_catzoc zone blocks rings has few

    areas_small : (count : ℕ) (rings : List (List Ring)) → HasRings arcs (λ face. face) count rings → FewBorder (λ face. face) count → All IsSmall (area_contents levels low high faces arcs rings)
    areas_small count rings has few =
        All-map IsSmall (λ k. area_content levels low high faces arcs (class_of faces k) (rings_in rings k)) (range_with_len 0 (length rings))
        (all_below (λ k. IsSmall (area_content levels low high faces arcs (class_of faces k) (rings_in rings k))) (length rings)
        (λ k l. record { short = class_texts (class_of faces k); few = few_pointers (λ face. face) count rings has few k (omega (arith, l)) }))

    contour_small : (k : ℕ) (level : Option ℕ) → All IsSmall (contour_of levels k level)
    contour_small k None = All-nil IsSmall
    contour_small k (Some level) =
        All-cons IsSmall (contour_content levels k level) [] (record { short = let h = one_text (record { code = attl_valdco; text = decimetres (level_at levels (level - 1)) }) 8 (level_short levels are (level - 1)) in omega (arith, h); few = omega arith }) (All-nil IsSmall)

    contours_small : All IsSmall (contour_contents levels faces arcs)
    contours_small =
        all_flat IsSmall (λ k. contour_at levels faces (arc_of arcs k) k) (range_with_len 0 (length arcs))
        (all_below (λ k. All IsSmall (contour_at levels faces (arc_of arcs k) k)) (length arcs) (λ k l. contour_small k (level_on faces (arc_of arcs k).left (arc_of arcs k).right)))

    soundings_small : (nodes : ℕ) → All IsSmall (sounding_contents nodes)
    soundings_small nodes = All-map IsSmall sounding_content (range_with_len 0 nodes) (all_below (λ k. IsSmall (sounding_content k)) nodes (λ k l. record { short = no_texts; few = omega arith }))

    -- ---- all features

    unmapped : (fs : List Feature) → All IsSmall (map content_of fs) → All IsShort fs
    unmapped [] h = All-nil IsShort
    unmapped (f ∷ fs) h = All-cons IsShort f fs (All-head IsSmall (content_of f) (map content_of fs) h) (unmapped fs (All-tail IsSmall (content_of f) (map content_of fs) h))

    -- features that say short things are short
    added_short : (drafts : List FeatureContent) (old new : List Feature) → All IsShort old → Adds drafts old new → All IsSmall drafts → All IsShort new
    added_short drafts old new h adds small =
        subst (All IsShort) (sym adds.behind) (All-append IsShort old adds.added h (unmapped adds.added (subst (All IsSmall) (sym adds.say) small)))

    -- all features of made parts are short
    pub features_short : (quality : Option ℕ) (blocks nodes : ℕ) (fs : List Feature) → AreFeatures levels quality low high faces arcs blocks nodes fs
        → FewBorder (numbers faces.blocks) blocks → FewBorder (λ face. face) (length faces.classes) → All IsShort fs
    features_short quality blocks nodes fs f few_blocks few_faces =
        let ground = added_short (coverage_contents quality faces arcs f.ground.rings) [] f.covers (All-nil IsShort) f.ground.added (coverage_small quality blocks f.ground.rings f.ground.are few_blocks) in
        let areas = added_short (area_contents levels low high faces arcs f.areas.rings) f.covers f.faces ground f.areas.added (areas_small (length faces.classes) f.areas.rings f.areas.are few_faces) in
        let contours = added_short (contour_contents levels faces arcs) f.faces f.lines areas f.contours contours_small in
        added_short (sounding_contents nodes) f.lines fs contours f.soundings (soundings_small nodes)
