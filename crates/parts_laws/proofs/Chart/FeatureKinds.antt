-- The features of made parts, kind by kind.
use Rattle.std.proofs.Common.{◌≡◌, ℕ, ℤ, ◌&&◌, eqb, Bool, true, false, Option, Some, None, List, [], ◌++◌, map, filter, length, All, refl, sym, ap, ap₂, ◌∙◌, append_assoc}
use Rattle.std.specs.List.{range_with_len}
use Rattle.std.proofs.lemmas.List.{append-nil}
use Rattle.std.proofs.lemmas.List.Elements.{All-cons, All-map, All-nil, All-weaker, filter-append}
use Rattle.boundary_arcs.specs.Edges.{arc_of}
use Rattle.boundary_arcs.specs.declared.arc.Arc.{Arc}
use Rattle.mesh_definitions.specs.declared.Class.TheVariants.{Unsurveyed, Band}
use Rattle.mesh_definitions.specs.declared.Class.{Class}
use Rattle.chart_definitions.specs.Meaning.{of_code}
use Rattle.chart_model.specs.Areas.{areas}
use Rattle.chart_model.specs.declared.records.Feature.{Feature}
use Rattle.chart_model.specs.declared.records.Parts.{Parts}
use Rattle.built_parts.specs.Areas.{area_contents, area_content, block_content, block_contents, quality_contents, rings_in}
use Rattle.built_parts.specs.Contours.{contour_at, contour_content, contour_contents, contour_of, level_on, sounding_content, sounding_contents}
use Rattle.built_parts.specs.Contents.{FeatureContent, content_of}
use Rattle.built_parts.specs.Order.{AreFeatures}
use Rattle.face_fill.specs.Numbered.{FacesView, class_of}
use Rattle.parts_laws.proofs.Lists.{IsSplit, cut, of_images, pick, picked}
use Rattle.plane_laws.proofs.Lists.{all_below, all_flat}
use Rattle.ring_builder.specs.Parts.{numbers}
use Rattle.ring_builder.specs.Rings.{HasRings}
use Rattle.ring_builder.specs.declared.ring.Ring.{Ring}
use Rattle.s57_codes.specs.Catalogue.{attl_catcov, attl_catzoc, objl_depcnt, objl_m_covr, objl_m_qual, objl_soundg, prim_area, prim_line, prim_point}

-- ---- what the drafts of a kind have in common

-- PRIM, GRUP and object code
pub record HasKind (prim grup objl : ℕ) (d : FeatureContent) : Type 0 where
  pub prim_is : d.prim ≡ prim
  pub grup_is : d.grup ≡ grup
  pub objl_is : d.objl ≡ objl

-- an area of group 1, with an object code that is none of the other kinds'
pub record IsGround (d : FeatureContent) : Type 0 where
  pub prim_is : d.prim ≡ prim_area
  pub grup_is : d.grup ≡ 1
  pub no_cover : eqb d.objl objl_m_covr ≡ false
  pub no_quality : eqb d.objl objl_m_qual ≡ false
  pub no_contour : eqb d.objl objl_depcnt ≡ false
  pub no_soundings : eqb d.objl objl_soundg ≡ false

pub block_kinds : (objl code digit : ℕ) (v : FacesView) (arcs : List Arc) (rings : List (List Ring)) → All (HasKind prim_area 2 objl) (block_contents objl code digit v arcs rings)
block_kinds objl code digit v arcs rings = All-map (HasKind prim_area 2 objl) (λ k. block_content objl code digit v arcs (rings_in rings k)) (range_with_len 0 (length rings)) (λ k d l. record { prim_is = refl; grup_is = refl; objl_is = refl })

pub quality_kinds : (zone : Option ℕ) (v : FacesView) (arcs : List Arc) (rings : List (List Ring)) → All (HasKind prim_area 2 objl_m_qual) (quality_contents zone v arcs rings)
quality_kinds None v arcs rings = All-nil (HasKind prim_area 2 objl_m_qual)
quality_kinds (Some zone) v arcs rings = block_kinds objl_m_qual attl_catzoc zone v arcs rings

area_kind : (levels : List ℤ) (low high : ℤ) (v : FacesView) (arcs : List Arc) (K : Class) (rings : List Ring) → IsGround (area_content levels low high v arcs K rings)
area_kind levels low high v arcs Unsurveyed rings = record { prim_is = refl; grup_is = refl; no_cover = refl; no_quality = refl; no_contour = refl; no_soundings = refl }
area_kind levels low high v arcs (Band b) rings = record { prim_is = refl; grup_is = refl; no_cover = refl; no_quality = refl; no_contour = refl; no_soundings = refl }

pub area_kinds : (levels : List ℤ) (low high : ℤ) (v : FacesView) (arcs : List Arc) (rings : List (List Ring)) → All IsGround (area_contents levels low high v arcs rings)
area_kinds levels low high v arcs rings = All-map IsGround (λ k. area_content levels low high v arcs (class_of v k) (rings_in rings k)) (range_with_len 0 (length rings)) (λ k d l. area_kind levels low high v arcs (class_of v _) (rings_in rings _))

contour_kind : (levels : List ℤ) (k : ℕ) (o : Option ℕ) → All (HasKind prim_line 2 objl_depcnt) (contour_of levels k o)
contour_kind levels k None = All-nil (HasKind prim_line 2 objl_depcnt)
contour_kind levels k (Some level) = All-cons (HasKind prim_line 2 objl_depcnt) (contour_content levels k level) [] (record { prim_is = refl; grup_is = refl; objl_is = refl }) (All-nil (HasKind prim_line 2 objl_depcnt))

pub contour_kinds : (levels : List ℤ) (v : FacesView) (arcs : List Arc) → All (HasKind prim_line 2 objl_depcnt) (contour_contents levels v arcs)
contour_kinds levels v arcs =
    all_flat (HasKind prim_line 2 objl_depcnt) (λ k. contour_at levels v (arc_of arcs k) k) (range_with_len 0 (length arcs))
    (all_below (λ k. All (HasKind prim_line 2 objl_depcnt) (contour_at levels v (arc_of arcs k) k)) (length arcs) (λ k l. contour_kind levels k (level_on v (arc_of arcs k).left (arc_of arcs k).right)))

-- soundings have no attributes
pub record IsOfSoundings (d : FeatureContent) : Type 0 where
  pub kind : HasKind prim_point 2 objl_soundg d
  pub nothing : d.attributes ≡ []

pub sounding_kinds : (nodes : ℕ) → All IsOfSoundings (sounding_contents nodes)
sounding_kinds nodes = All-map IsOfSoundings sounding_content (range_with_len 0 nodes) (λ k d l. record { kind = record { prim_is = refl; grup_is = refl; objl_is = refl }; nothing = refl })

-- ---- five lists of features, one behind the other

abbrev five : {X : Type 0} → List X → List X → List X → List X → List X → List X
five a b c d e = a ++ (b ++ (c ++ (d ++ e)))

module _ {X : Type 0} (p : X → Bool) (a b c d e : List X) where
  pub filter_five : (i j k l m : Bool) → All (λ x. p x ≡ i) a → All (λ x. p x ≡ j) b → All (λ x. p x ≡ k) c → All (λ x. p x ≡ l) d → All (λ x. p x ≡ m) e → filter p (five a b c d e) ≡ five (pick i a) (pick j b) (pick k c) (pick l d) (pick m e)
  filter_five i j k l m h1 h2 h3 h4 h5 =
      filter-append p a (b ++ (c ++ (d ++ e)))
      ∙ ap₂ ◌++◌ (picked p i a h1) (filter-append p b (c ++ (d ++ e))
      ∙ ap₂ ◌++◌ (picked p j b h2) (filter-append p c (d ++ e)
      ∙ ap₂ ◌++◌ (picked p k c h3) (filter-append p d e
      ∙ ap₂ ◌++◌ (picked p l d h4) (picked p m e h5))))

-- what made parts' features are, kind by kind
pub record AreKinds (levels : List ℤ) (quality : Option ℕ) (low high : ℤ) (v : FacesView) (arcs : List Arc) (blocks nodes : ℕ) (c : Parts) : Type 0 where
  pub block_rings : List (List Ring)
  pub blocks_ringed : HasRings arcs (numbers v.blocks) blocks block_rings
  pub face_rings : List (List Ring)
  pub faces_ringed : HasRings arcs (λ face. face) (length v.classes) face_rings
  pub covers : map content_of (of_code objl_m_covr c) ≡ block_contents objl_m_covr attl_catcov 1 v arcs block_rings
  pub qualities : map content_of (of_code objl_m_qual c) ≡ quality_contents quality v arcs block_rings
  pub grounds : map content_of (areas c) ≡ area_contents levels low high v arcs face_rings
  pub contours : map content_of (of_code objl_depcnt c) ≡ contour_contents levels v arcs
  pub soundings : map content_of (of_code objl_soundg c) ≡ sounding_contents nodes
  pub order : c.features ≡ of_code objl_m_covr c ++ (of_code objl_m_qual c ++ (areas c ++ (of_code objl_depcnt c ++ of_code objl_soundg c)))

module _ (levels : List ℤ) (quality : Option ℕ) (low high : ℤ) (v : FacesView) (arcs : List Arc) (blocks nodes : ℕ) (c : Parts) (f : AreFeatures levels quality low high v arcs blocks nodes c.features) where
  abbrev covers : IsSplit content_of f.ground.added.added (block_contents objl_m_covr attl_catcov 1 v arcs f.ground.rings) (quality_contents quality v arcs f.ground.rings)
  covers = cut content_of f.ground.added.added (block_contents objl_m_covr attl_catcov 1 v arcs f.ground.rings) (quality_contents quality v arcs f.ground.rings) f.ground.added.say

  abbrev V : List Feature
  V = covers.front

  abbrev Q : List Feature
  Q = covers.rest

  abbrev A : List Feature
  A = f.areas.added.added

  abbrev L : List Feature
  L = f.contours.added

  abbrev S : List Feature
  S = f.soundings.added

  all_five : c.features ≡ five V Q A L S
  all_five =
      f.soundings.behind
      ∙ ap (λ t. t ++ S) (f.contours.behind ∙ ap (λ t. t ++ L) (f.areas.added.behind ∙ ap (λ t. t ++ A) (f.ground.added.behind ∙ covers.is)))
      ∙ append_assoc ((V ++ Q) ++ A) L S
      ∙ append_assoc (V ++ Q) A (L ++ S)
      ∙ append_assoc V Q (A ++ (L ++ S))

  of_V : (t : FeatureContent → Bool) (b : Bool) → All (λ d. t d ≡ b) (block_contents objl_m_covr attl_catcov 1 v arcs f.ground.rings) → All (λ h. t (content_of h) ≡ b) V
  of_V t b h = of_images content_of (λ d. t d ≡ b) V (block_contents objl_m_covr attl_catcov 1 v arcs f.ground.rings) covers.fronts h

  of_Q : (t : FeatureContent → Bool) (b : Bool) → All (λ d. t d ≡ b) (quality_contents quality v arcs f.ground.rings) → All (λ h. t (content_of h) ≡ b) Q
  of_Q t b h = of_images content_of (λ d. t d ≡ b) Q (quality_contents quality v arcs f.ground.rings) covers.rests h

  of_A : (t : FeatureContent → Bool) (b : Bool) → All (λ d. t d ≡ b) (area_contents levels low high v arcs f.areas.rings) → All (λ h. t (content_of h) ≡ b) A
  of_A t b h = of_images content_of (λ d. t d ≡ b) A (area_contents levels low high v arcs f.areas.rings) f.areas.added.say h

  of_L : (t : FeatureContent → Bool) (b : Bool) → All (λ d. t d ≡ b) (contour_contents levels v arcs) → All (λ h. t (content_of h) ≡ b) L
  of_L t b h = of_images content_of (λ d. t d ≡ b) L (contour_contents levels v arcs) f.contours.say h

  of_S : (t : FeatureContent → Bool) (b : Bool) → All (λ d. t d ≡ b) (sounding_contents nodes) → All (λ h. t (content_of h) ≡ b) S
  of_S t b h = of_images content_of (λ d. t d ≡ b) S (sounding_contents nodes) f.soundings.say h

  -- a test of PRIM, GRUP and object code keeps whole kinds
  module _ (t : FeatureContent → Bool) (i j k l m : Bool) where
    kept : ((d : FeatureContent) → HasKind prim_area 2 objl_m_covr d → t d ≡ i) → ((d : FeatureContent) → HasKind prim_area 2 objl_m_qual d → t d ≡ j) → ((d : FeatureContent) → IsGround d → t d ≡ k) → ((d : FeatureContent) → HasKind prim_line 2 objl_depcnt d → t d ≡ l) → ((d : FeatureContent) → HasKind prim_point 2 objl_soundg d → t d ≡ m) →
        filter (λ (h : Feature). t (content_of h)) c.features ≡ five (pick i V) (pick j Q) (pick k A) (pick l L) (pick m S)
    kept h1 h2 h3 h4 h5 = ap (filter (λ (h : Feature). t (content_of h))) all_five ∙ filter_five (λ (h : Feature). t (content_of h)) V Q A L S i j k l m
        (of_V t i (All-weaker (HasKind prim_area 2 objl_m_covr) (λ d. t d ≡ i) h1 (block_contents objl_m_covr attl_catcov 1 v arcs f.ground.rings) (block_kinds objl_m_covr attl_catcov 1 v arcs f.ground.rings)))
        (of_Q t j (All-weaker (HasKind prim_area 2 objl_m_qual) (λ d. t d ≡ j) h2 (quality_contents quality v arcs f.ground.rings) (quality_kinds quality v arcs f.ground.rings)))
        (of_A t k (All-weaker IsGround (λ d. t d ≡ k) h3 (area_contents levels low high v arcs f.areas.rings) (area_kinds levels low high v arcs f.areas.rings)))
        (of_L t l (All-weaker (HasKind prim_line 2 objl_depcnt) (λ d. t d ≡ l) h4 (contour_contents levels v arcs) (contour_kinds levels v arcs)))
        (of_S t m (All-weaker IsOfSoundings (λ d. t d ≡ m) (λ d h. h5 d h.kind) (sounding_contents nodes) (sounding_kinds nodes)))

  V_is : of_code objl_m_covr c ≡ V
  V_is = kept (λ d. eqb d.objl objl_m_covr) true false false false false
      (λ d h. ap (λ n. eqb n objl_m_covr) h.objl_is) (λ d h. ap (λ n. eqb n objl_m_covr) h.objl_is) (λ d h. h.no_cover) (λ d h. ap (λ n. eqb n objl_m_covr) h.objl_is) (λ d h. ap (λ n. eqb n objl_m_covr) h.objl_is)
      ∙ append-nil V

  Q_is : of_code objl_m_qual c ≡ Q
  Q_is = kept (λ d. eqb d.objl objl_m_qual) false true false false false
      (λ d h. ap (λ n. eqb n objl_m_qual) h.objl_is) (λ d h. ap (λ n. eqb n objl_m_qual) h.objl_is) (λ d h. h.no_quality) (λ d h. ap (λ n. eqb n objl_m_qual) h.objl_is) (λ d h. ap (λ n. eqb n objl_m_qual) h.objl_is)
      ∙ append-nil Q

  A_is : areas c ≡ A
  A_is = kept (λ d. eqb d.prim prim_area && eqb d.grup 1) false false true false false
      (λ d h. ap₂ (λ x y. eqb x prim_area && eqb y 1) h.prim_is h.grup_is) (λ d h. ap₂ (λ x y. eqb x prim_area && eqb y 1) h.prim_is h.grup_is) (λ d h. ap₂ (λ x y. eqb x prim_area && eqb y 1) h.prim_is h.grup_is) (λ d h. ap₂ (λ x y. eqb x prim_area && eqb y 1) h.prim_is h.grup_is) (λ d h. ap₂ (λ x y. eqb x prim_area && eqb y 1) h.prim_is h.grup_is)
      ∙ append-nil A

  L_is : of_code objl_depcnt c ≡ L
  L_is = kept (λ d. eqb d.objl objl_depcnt) false false false true false
      (λ d h. ap (λ n. eqb n objl_depcnt) h.objl_is) (λ d h. ap (λ n. eqb n objl_depcnt) h.objl_is) (λ d h. h.no_contour) (λ d h. ap (λ n. eqb n objl_depcnt) h.objl_is) (λ d h. ap (λ n. eqb n objl_depcnt) h.objl_is)
      ∙ append-nil L

  S_is : of_code objl_soundg c ≡ S
  S_is = kept (λ d. eqb d.objl objl_soundg) false false false false true
      (λ d h. ap (λ n. eqb n objl_soundg) h.objl_is) (λ d h. ap (λ n. eqb n objl_soundg) h.objl_is) (λ d h. h.no_soundings) (λ d h. ap (λ n. eqb n objl_soundg) h.objl_is) (λ d h. ap (λ n. eqb n objl_soundg) h.objl_is)

  pub sorted : AreKinds levels quality low high v arcs blocks nodes c
  sorted = record {
    block_rings = f.ground.rings;
    blocks_ringed = f.ground.are;
    face_rings = f.areas.rings;
    faces_ringed = f.areas.are;
    covers = ap (map content_of) V_is ∙ covers.fronts;
    qualities = ap (map content_of) Q_is ∙ covers.rests;
    grounds = ap (map content_of) A_is ∙ f.areas.added.say;
    contours = ap (map content_of) L_is ∙ f.contours.say;
    soundings = ap (map content_of) S_is ∙ f.soundings.say;
    order = all_five ∙ sym (ap₂ (λ x t. x ++ t) V_is (ap₂ (λ x t. x ++ t) Q_is (ap₂ (λ x t. x ++ t) A_is (ap₂ (λ x t. x ++ t) L_is S_is))));
  }
