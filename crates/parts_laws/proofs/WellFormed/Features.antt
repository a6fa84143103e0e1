-- Features that say what is due keep the conditions: texts, and pointers as their PRIM wants.
use Rattle.std.proofs.Common.{◌≢◌, ℕ, ℤ, ◌+◌, ◌-◌, ◌<◌, Option, Some, None, List, [], ◌∷◌, All, length, refl, arith}
use Rattle.std.specs.Prelude.{IsTrue}
use Rattle.std.specs.List.{range_with_len}
use Rattle.std.proofs.lemmas.List.Elements.{All-append, All-cons, All-map, All-nil}
use Rattle.boundary_arcs.specs.Edges.{arc_of}
use Rattle.boundary_arcs.specs.declared.arc.Arc.{Arc}
use Rattle.mesh_definitions.specs.declared.Class.TheVariants.{Unsurveyed, Band}
use Rattle.mesh_definitions.specs.declared.Class.{Class}
use Rattle.chart_model.specs.Whole.{IsText, is_made}
use Rattle.chart_model.specs.declared.records.Attribute.{Attribute}
use Rattle.chart_model.specs.declared.records.Feature.{Feature}
use Rattle.built_parts.specs.Areas.{area_content, area_contents, area_pointers, attributes_of, block_content, block_contents, coverage_contents, depth_of, quality_contents, rings_in}
use Rattle.built_parts.specs.Contours.{contour_at, contour_content, contour_contents, contour_of, level_on, sounding_content, sounding_contents}
use Rattle.built_parts.specs.Contents.{FeatureContent, content_of}
use Rattle.depth_rounding.specs.Bands.{deeper_end, level_at, shoaler_end}
use Rattle.exact_num.specs.Printed.{decimetres}
use Rattle.face_fill.specs.Numbered.{FacesView, class_of}
use Rattle.parts_laws.proofs.WellFormed.AreaPointers.{area_made, of_edges}
use Rattle.parts_laws.proofs.WellFormed.Texts.{decimetres_text}
use Rattle.plane_laws.proofs.Lists.{all_below, all_flat}
use Rattle.ring_builder.specs.declared.ring.Ring.{Ring}
use Rattle.s57_codes.specs.Catalogue.{attl_catcov, attl_catzoc, attl_drval1, attl_drval2, attl_valdco, objl_m_covr, objl_m_qual}

-- a feature that says this, whatever its number and name
abbrev pub saying : FeatureContent → Feature
saying d = record { rcid = 0; rver = 0; prim = d.prim; grup = d.grup; objl = d.objl; agen = 0; fidn = 0; fids = 0; attributes = d.attributes; pointers = d.pointers }

abbrev pub HaveTexts : List Attribute → Type 0
HaveTexts attributes = All (λ (a : Attribute). IsText a.text) attributes

-- what is said keeps the conditions of features
pub record Keeps (d : FeatureContent) : Type 0 where
  pub made : IsTrue (is_made (saying d))
  pub texts : HaveTexts d.attributes

abbrev pub KeepsAll : List Feature → Type 0
KeepsAll fs = All (λ f. Keeps (content_of f)) fs

-- ---- attributes

one_text : (a : Attribute) (others : List Attribute) → IsText a.text → HaveTexts others → HaveTexts (a ∷ others)
one_text a others t h = All-cons (λ (a : Attribute). IsText a.text) a others t h

no_texts : HaveTexts []
no_texts = All-nil (λ (a : Attribute). IsText a.text)

class_texts : (levels : List ℤ) (least greatest : ℤ) (class : Class) → HaveTexts (attributes_of levels least greatest class)
class_texts levels least greatest Unsurveyed = no_texts
class_texts levels least greatest (Band b) =
    one_text (depth_of attl_drval1 (shoaler_end levels least b)) (depth_of attl_drval2 (deeper_end levels least greatest b) ∷ []) (decimetres_text (shoaler_end levels least b))
    (one_text (depth_of attl_drval2 (deeper_end levels least greatest b)) [] (decimetres_text (deeper_end levels least greatest b)) no_texts)

digit_text : (code digit : ℕ) → HaveTexts (record { code = code; text = (48 + digit) ∷ [] } ∷ [])
digit_text code digit = one_text (record { code = code; text = (48 + digit) ∷ [] }) [] (All-cons (λ b. b ≢ 31) (48 + digit) [] (λ e. omega (arith, e)) (All-nil (λ b. b ≢ 31))) no_texts

-- ---- areas

-- each of so many areas has a pointer
abbrev pub ArePointed : FacesView → List Arc → List (List Ring) → Type 0
ArePointed v arcs rings = (k : ℕ) → k < length rings → 0 < length (area_pointers v arcs (rings_in rings k))

module _ (v : FacesView) (arcs : List Arc) (rings : List (List Ring)) (pointed : ArePointed v arcs rings) where
  area_kept : (levels : List ℤ) (least greatest : ℤ) (k : ℕ) → k < length rings → Keeps (area_content levels least greatest v arcs (class_of v k) (rings_in rings k))
  area_kept levels least greatest k l = record {
    made = area_made (area_pointers v arcs (rings_in rings k)) (pointed k l) (of_edges v arcs (rings_in rings k));
    texts = class_texts levels least greatest (class_of v k);
  }

  pub areas_kept : (levels : List ℤ) (least greatest : ℤ) → All Keeps (area_contents levels least greatest v arcs rings)
  areas_kept levels least greatest = All-map Keeps (λ k. area_content levels least greatest v arcs (class_of v k) (rings_in rings k)) (range_with_len 0 (length rings))
      (all_below (λ k. Keeps (area_content levels least greatest v arcs (class_of v k) (rings_in rings k))) (length rings) (area_kept levels least greatest))

  block_kept : (objl code digit k : ℕ) → k < length rings → Keeps (block_content objl code digit v arcs (rings_in rings k))
  block_kept objl code digit k l = record {
    made = area_made (area_pointers v arcs (rings_in rings k)) (pointed k l) (of_edges v arcs (rings_in rings k));
    texts = digit_text code digit;
  }

  blocks_kept : (objl code digit : ℕ) → All Keeps (block_contents objl code digit v arcs rings)
  blocks_kept objl code digit = All-map Keeps (λ k. block_content objl code digit v arcs (rings_in rings k)) (range_with_len 0 (length rings))
      (all_below (λ k. Keeps (block_content objl code digit v arcs (rings_in rings k))) (length rings) (block_kept objl code digit))

  quality_kept : (quality : Option ℕ) → All Keeps (quality_contents quality v arcs rings)
  quality_kept None = All-nil Keeps
  quality_kept (Some zone) = blocks_kept objl_m_qual attl_catzoc zone

  pub coverage_kept : (quality : Option ℕ) → All Keeps (coverage_contents quality v arcs rings)
  coverage_kept quality = All-append Keeps (block_contents objl_m_covr attl_catcov 1 v arcs rings) (quality_contents quality v arcs rings) (blocks_kept objl_m_covr attl_catcov 1) (quality_kept quality)

-- ---- contours and soundings

contour_kept : (levels : List ℤ) (k level : ℕ) → Keeps (contour_content levels k level)
contour_kept levels k level = record {
  made = refl;
  texts = one_text (record { code = attl_valdco; text = decimetres (level_at levels (level - 1)) }) [] (decimetres_text (level_at levels (level - 1))) no_texts;
}

pub contours_kept : (levels : List ℤ) (v : FacesView) (arcs : List Arc) → All Keeps (contour_contents levels v arcs)
contours_kept levels v arcs =
    all_flat Keeps (λ k. contour_at levels v (arc_of arcs k) k) (range_with_len 0 (length arcs))
    (all_below (λ k. All Keeps (contour_at levels v (arc_of arcs k) k)) (length arcs) (λ k l. one k (level_on v (arc_of arcs k).left (arc_of arcs k).right)))
  where
    one : (k : ℕ) (level : Option ℕ) → All Keeps (contour_of levels k level)
    one k None = All-nil Keeps
    one k (Some level) = All-cons Keeps (contour_content levels k level) [] (contour_kept levels k level) (All-nil Keeps)

pub soundings_kept : (nodes : ℕ) → All Keeps (sounding_contents nodes)
soundings_kept nodes = All-map Keeps sounding_content (range_with_len 0 nodes) (λ i d l. record { made = refl; texts = no_texts })
