-- The coverage of made parts is that of the blocks, and so is the quality.
use Rattle.std.proofs.Common.{◌≡◌, ℕ, ◌+◌, ◌<◌, Bool, true, false, not, ◌&&◌, eqb, Option, Some, None, List, [], ◌∷◌, map, flat_map, length, get_or, All, refl, sym, ap, ◌∙◌, subst, arith}
use Rattle.std.specs.List.{range_with_len}
use Rattle.std.specs.Prelude.{option_map}
use Rattle.std.proofs.lemmas.Bool.{and_parts, eqb-true, false≢true}
use Rattle.std.proofs.lemmas.Fmt.{decimal_digit}
use Rattle.std.proofs.lemmas.List.{nil_from_length, length-map}
use Rattle.std.proofs.lemmas.List.Elements.{All-map}
use Rattle.std.proofs.lemmas.List.Sorted.{IsPermutation-trans}
use Rattle.boundary_arcs.specs.Edges.{AreArcs, AreArcsOf}
use Rattle.boundary_arcs.specs.declared.arc.Arc.{Arc}
use Rattle.mesh_definitions.specs.Faces.{borders, boundary, is_drawn, same_class, same_kind}
use Rattle.mesh_definitions.specs.Field.{Field}
use Rattle.mesh_definitions.specs.Pieces.{Mesh, ahead, left_of, walked, whole_mesh}
use Rattle.mesh_definitions.specs.declared.Piece.{Piece}
use Rattle.mesh_definitions.specs.declared.Sub.{Sub}
use Rattle.chart_definitions.specs.Areas.{HasOutline}
use Rattle.chart_definitions.specs.Coverage.{HasCoverage, HasQuality, HasText}
use Rattle.chart_definitions.specs.Meaning.{of_code}
use Rattle.chart_definitions.specs.Pointers.{HasRings as HasPointerRings}
use Rattle.chart_model.specs.Lines.{area_segments}
use Rattle.chart_model.specs.declared.records.Feature.{Feature}
use Rattle.chart_model.specs.declared.records.Parts.{Parts}
use Rattle.built_parts.specs.Areas.{block_content, block_contents, quality_contents, rings_in}
use Rattle.built_parts.specs.Contents.{FeatureContent, content_of}
use Rattle.built_parts.specs.Nodes.{connected_records, edge_records}
use Rattle.face_fill.specs.Numbered.{AreFaces, FacesView, face_in}
use Rattle.plane_laws.proofs.Members.{In}
use Rattle.ring_builder.proofs.Boundaries.{bordered}
use Rattle.parts_laws.proofs.Chart.Areas.{drafted_at, drafted_count}
use Rattle.parts_laws.proofs.Lists.{map_twice, of_images}
use Rattle.parts_laws.proofs.Chart.Pointers.{area_along, rings_are}
use Rattle.plane_geom.specs.declared.Point.{Point}
use Rattle.plane_laws.specs.Borders.{HasPieces}
use Rattle.ring_builder.specs.Parts.{bordering, numbers, part_segments}
use Rattle.ring_builder.specs.Rings.{HasRings}
use Rattle.ring_builder.specs.declared.ring.Ring.{Ring}
use Rattle.s57_codes.specs.Catalogue.{attl_catcov, attl_catzoc, objl_m_covr, objl_m_qual}

-- where nothing is drawn there is one block on both sides
one_block : (m : Mesh) (x y : Option Piece) → not (same_kind m x y) ≡ false → option_map m.block x ≡ option_map m.block y
one_block m None None e = refl
one_block m None (Some q) e = absurd (false≢true (sym e))
one_block m (Some p) None e = absurd (false≢true (sym e))
one_block m (Some p) (Some q) e = ap Some (eqb-true (m.block p) (m.block q) (and_parts (same_class (m.class p) (m.class q)) (eqb (m.block p) (m.block q)) (not_not (same_class (m.class p) (m.class q) && eqb (m.block p) (m.block q)) e)).1)
  where
    not_not : (b : Bool) → not b ≡ false → b ≡ true
    not_not true e = refl
    not_not false e = absurd (false≢true (sym e))

-- what features of blocks tell
told : (objl code digit : ℕ) (v : FacesView) (arcs : List Arc) (rings : List (List Ring)) (fs : List Feature) → map content_of fs ≡ block_contents objl code digit v arcs rings → All (HasText code ((48 + digit) ∷ [])) fs
told objl code digit v arcs rings fs e = of_images content_of (λ (d : FeatureContent). d.attributes ≡ record { code = code; text = (48 + digit) ∷ [] } ∷ []) fs (block_contents objl code digit v arcs rings) e
    (All-map (λ (d : FeatureContent). d.attributes ≡ record { code = code; text = (48 + digit) ∷ [] } ∷ []) (λ k. block_content objl code digit v arcs (rings_in rings k)) (range_with_len 0 (length rings)) (λ k d l. refl))

pointers_alike : (fs : List Feature) (objl code digit : ℕ) (v : FacesView) (arcs : List Arc) (rings : List (List Ring)) → map content_of fs ≡ block_contents objl code digit v arcs rings → map (λ (f : Feature). f.pointers) fs ≡ map (λ (d : FeatureContent). d.pointers) (block_contents objl_m_covr attl_catcov 1 v arcs rings)
pointers_alike fs objl code digit v arcs rings e =
    sym (map_twice (λ (d : FeatureContent). d.pointers) content_of fs)
    ∙ ap (map (λ (d : FeatureContent). d.pointers)) e
    ∙ map_twice (λ (d : FeatureContent). d.pointers) (λ k. block_content objl code digit v arcs (rings_in rings k)) (range_with_len 0 (length rings))
    ∙ sym (map_twice (λ (d : FeatureContent). d.pointers) (λ k. block_content objl_m_covr attl_catcov 1 v arcs (rings_in rings k)) (range_with_len 0 (length rings)))

quality_is : (catzoc : Option ℕ) (v : FacesView) (arcs : List Arc) (rings : List (List Ring)) (c : Parts) → ((zone : ℕ) → catzoc ≡ Some zone → zone < 10) → map content_of (of_code objl_m_covr c) ≡ block_contents objl_m_covr attl_catcov 1 v arcs rings → map content_of (of_code objl_m_qual c) ≡ quality_contents catzoc v arcs rings → HasQuality catzoc c
quality_is None v arcs rings c small covers qualities = nil_from_length (of_code objl_m_qual c) (sym (length-map (of_code objl_m_qual c) content_of) ∙ ap length qualities)
quality_is (Some zone) v arcs rings c small covers qualities = (
  pointers_alike (of_code objl_m_qual c) objl_m_qual attl_catzoc zone v arcs rings qualities ∙ sym (pointers_alike (of_code objl_m_covr c) objl_m_covr attl_catcov 1 v arcs rings covers),
  subst (λ t. All (HasText attl_catzoc t) (of_code objl_m_qual c)) (sym (decimal_digit zone (small zone refl))) (told objl_m_qual attl_catzoc zone v arcs rings (of_code objl_m_qual c) qualities),
)

module _ (f : Field) (block : ℕ → ℕ → ℕ) (view : FacesView) (faces : AreFaces f block view) (pieces : HasPieces (borders (whole_mesh f block)) (whole_mesh f block).pieces) (nodes : List Point) (arcs : List Arc) (keep : AreArcs nodes arcs (length view.classes)) (are : AreArcsOf (whole_mesh f block) (face_in f view) arcs) (c : Parts) (connected : c.connected ≡ connected_records nodes) (edges : c.edges ≡ edge_records arcs) (blocks : ℕ) (rings : List (List Ring)) (ringed : HasRings arcs (numbers view.blocks) blocks rings) (drafts : map content_of (of_code objl_m_covr c) ≡ block_contents objl_m_covr attl_catcov 1 view arcs rings) where
  abbrev m : Mesh
  m = whole_mesh f block

  abbrev face : Piece → ℕ
  face = face_in f view

  abbrev draft : ℕ → FeatureContent
  draft k = block_content objl_m_covr attl_catcov 1 view arcs (rings_in rings k)

  count : length (of_code objl_m_covr c) ≡ blocks
  count = drafted_count draft (of_code objl_m_covr c) (length rings) drafts ∙ ringed.each

  drafted : (k : ℕ) (d : Feature) → k < blocks → content_of (get_or (of_code objl_m_covr c) k d) ≡ draft k
  drafted k d l = let r = ringed.each in drafted_at draft (of_code objl_m_covr c) (length rings) k d drafts (omega (arith, r, l))

  alike : (u : Sub) → In m.subs u → is_drawn m u ≡ false → option_map m.block (m.right_of (ahead u)) ≡ option_map m.block (left_of m (ahead u))
  alike u i e = one_block m (m.right_of (ahead u)) (left_of m (ahead u)) e

  outline : (k : ℕ) (d : Feature) → k < blocks → HasOutline m c m.block k (get_or (of_code objl_m_covr c) k d)
  outline k d l =
      let h = get_or (of_code objl_m_covr c) k d in
      IsPermutation-trans (map (walked m) (boundary m (λ q. eqb (m.block q) k))) (flat_map (part_segments arcs) (bordering arcs (numbers view.blocks) k)) (area_segments c h)
      (bordered m face m.block (numbers view.blocks) pieces faces.blocks alike k arcs are)
      (area_along m face view faces.blocks pieces nodes arcs (length view.classes) keep are c connected edges (numbers view.blocks) k (rings_in rings k) (ringed.rings k l) h (ap (λ (d : FeatureContent). d.pointers) (drafted k d l)))

  -- the coverage of made parts is that of the blocks
  pub coverage_is : (catzoc : Option ℕ) → ((zone : ℕ) → catzoc ≡ Some zone → zone < 10) → map content_of (of_code objl_m_qual c) ≡ quality_contents catzoc view arcs rings → HasCoverage catzoc m blocks c
  coverage_is catzoc small qualities = record {
    one_each = count;
    outlines = outline;
    available = told objl_m_covr attl_catcov 1 view arcs rings (of_code objl_m_covr c) drafts;
    quality = quality_is catzoc view arcs rings c small drafts qualities;
  }

  -- and its pointers stand ring by ring
  pub covers_ringed : All (HasPointerRings m are.traces c) (of_code objl_m_covr c)
  covers_ringed k d l =
      let n = count in
      let below : k < blocks = omega (arith, n, l) in
      rings_are m face view faces.blocks pieces nodes arcs (length view.classes) keep are c connected edges (numbers view.blocks) k (rings_in rings k) (ringed.rings k below) (get_or (of_code objl_m_covr c) k d) (ap (λ (d : FeatureContent). d.pointers) (drafted k d below))
