-- The areas of made parts are the faces of the mesh.
use Rattle.std.proofs.Common.{◌≡◌, ℕ, ◌+◌, ◌*◌, ◌<◌, ℤ, pos, Bool, true, false, cond, eqb, Option, Some, None, List, [], ◌∷◌, map, flat_map, length, get_or, All, refl, sym, ap, ◌∙◌, subst, arith}
use Rattle.std.specs.List.{list_all, range_with_len}
use Rattle.std.specs.Prelude.{is_some, option_map, unwrap_or}
use Rattle.std.proofs.lemmas.Bool.{and_parts, false≢true}
use Rattle.std.proofs.lemmas.List.{get_or-map, length-map}
use Rattle.std.proofs.lemmas.List.FromFn.{get_or-map-range_with_len, length-map-range_with_len}
use Rattle.std.proofs.lemmas.List.Sorted.{IsPermutation-trans}
use Rattle.boundary_arcs.specs.Edges.{AreArcs, AreArcsOf}
use Rattle.boundary_arcs.specs.declared.arc.Arc.{Arc}
use Rattle.mesh_definitions.specs.Faces.{borders, boundary, is_drawn}
use Rattle.mesh_definitions.specs.Field.{Field, field_of}
use Rattle.mesh_definitions.specs.Mesh.{corners, surveyed}
use Rattle.mesh_definitions.specs.Pieces.{Mesh, ahead, left_of, walked, whole_mesh}
use Rattle.mesh_definitions.specs.declared.Class.TheVariants.{Unsurveyed, Band}
use Rattle.mesh_definitions.specs.declared.Class.{Class}
use Rattle.mesh_definitions.specs.declared.Piece.{Piece}
use Rattle.mesh_definitions.specs.declared.Sub.{Sub}
use Rattle.mesh_definitions.specs.declared.Tri.{Tri}
use Rattle.chart_definitions.specs.Areas.{HasAreas, HasOutline, IsAreaOf}
use Rattle.chart_definitions.specs.Pointers.{HasRings as HasPointerRings}
use Rattle.chart_model.specs.Areas.{areas}
use Rattle.chart_model.specs.Lines.{area_segments}
use Rattle.chart_model.specs.declared.records.Feature.{Feature}
use Rattle.chart_model.specs.declared.records.Parts.{Parts}
use Rattle.built_parts.specs.Areas.{area_content, area_contents, attributes_of, object_of, rings_in}
use Rattle.built_parts.specs.Contents.{FeatureContent, content_of}
use Rattle.built_parts.specs.Nodes.{connected_records, edge_records}
use Rattle.built_parts.specs.Order.{AreEnds}
use Rattle.depth_grid.specs.declared.node.NodeId.{NodeId}
use Rattle.depth_rounding.specs.Bands.{deeper_end, shoaler_end}
use Rattle.face_fill.specs.Numbered.{AreFaces, FacesView, class_of, face_in}
use Rattle.plane_laws.proofs.Members.{In, contains}
use Rattle.ring_builder.proofs.Boundaries.{bordered}
use Rattle.parts_laws.proofs.Chart.Pointers.{area_along, rings_are}
use Rattle.mesh_laws.specs.FaceLaws.{DrawnParts}
use Rattle.plane_geom.specs.declared.Point.{Point}
use Rattle.plane_laws.specs.Borders.{HasPieces}
use Rattle.ring_builder.specs.Parts.{bordering, part_segments}
use Rattle.ring_builder.specs.Rings.{HasRings}
use Rattle.ring_builder.specs.declared.ring.Ring.{Ring}
use Rattle.shoal_buffer.specs.Charted.{ChartedView, IsExtent, StandsIn}

-- features that are drafted one for each of so many places
pub drafted_count : (make : ℕ → FeatureContent) (fs : List Feature) (n : ℕ) → map content_of fs ≡ map make (range_with_len 0 n) → length fs ≡ n
drafted_count make fs n e = sym (length-map fs content_of) ∙ ap length e ∙ length-map-range_with_len make 0 n

pub drafted_at : (make : ℕ → FeatureContent) (fs : List Feature) (n k : ℕ) (d : Feature) → map content_of fs ≡ map make (range_with_len 0 n) → k < n → content_of (get_or fs k d) ≡ make k
drafted_at make fs n k d e l =
    let long = drafted_count make fs n e in
    sym (get_or-map content_of fs k d (content_of d) (omega (arith, long, l))) ∙ ap (λ ds. get_or ds k (content_of d)) e ∙ get_or-map-range_with_len make 0 n k k (content_of d) l (omega arith)

-- ---- surveyed pieces have charted depths

known : (d : Option ℤ) → is_some d ≡ true → (x : ℤ) × (d ≡ Some x)
known None e = absurd (false≢true e)
known (Some x) e = (x, refl)

surveyed_depth : (f : Field) (t : Tri) → surveyed f t ≡ true → (n : NodeId) × (x : ℤ) × (f.depth n ≡ Some x)
surveyed_depth f t e = first (corners t) some e
  where
    first : (ns : List NodeId) → 0 < length ns → list_all (λ n. is_some (f.depth n)) ns ≡ true → (n : NodeId) × (x : ℤ) × (f.depth n ≡ Some x)
    first [] l e = absurd (omega arith)
    first (n ∷ ns) l e = let x = known (f.depth n) (and_parts (is_some (f.depth n)) (list_all (λ n. is_some (f.depth n)) ns) e).0 in (n, x.0, x.1)

    some : 0 < length (corners t)
    some = go t.upper
      where
        go : (u : Bool) → 0 < length (corners (record { row = t.row; col = t.col; upper = u }))
        go true = omega arith
        go false = omega arith

banded : (f : Field) (block : ℕ → ℕ → ℕ) (p : Piece) (b : ℕ) → (whole_mesh f block).class p ≡ Band b → surveyed f p.tri ≡ true
banded f block p b e = go (surveyed f p.tri) refl e
  where
    go : (t : Bool) → surveyed f p.tri ≡ t → cond t (Band p.band) Unsurveyed ≡ Band b → surveyed f p.tri ≡ true
    go true s e = s
    go false s e = absurd (cc)

-- where there is a charted depth, the ends are the least and the greatest
ends_there : (v : ChartedView) (low high : ℤ) → AreEnds v.charted low high → (x : ℤ) → StandsIn v.charted x → IsExtent v.charted (Some (low, high))
ends_there v low high h x s = go h.extent h.is h.ends
  where
    go : (e : Option (ℤ × ℤ)) → IsExtent v.charted e → unwrap_or e (pos 0, pos 0) ≡ (low, high) → IsExtent v.charted (Some (low, high))
    go None none e = absurd (none x s)
    go (Some ends) is e = subst (λ z. IsExtent v.charted (Some z)) e is

extent_there : (v : ChartedView) (levels : List ℤ) (block : ℕ → ℕ → ℕ) (low high : ℤ) (p : Piece) (b : ℕ) → AreEnds v.charted low high → (whole_mesh (field_of v levels) block).class p ≡ Band b → IsExtent v.charted (Some (low, high))
extent_there v levels block low high p b h e =
    let n = surveyed_depth (field_of v levels) p.tri (banded (field_of v levels) block p b e) in
    ends_there v low high h n.1 (n.0.row * length v.grid.xs + n.0.col, n.2)

-- a feature with the object code and the attributes of a class is its area
area_of : (v : ChartedView) (levels : List ℤ) (low high : ℤ) (K : Class) (h : Feature) → ((b : ℕ) → K ≡ Band b → IsExtent v.charted (Some (low, high))) → h.objl ≡ object_of K → h.attributes ≡ attributes_of levels low high K → IsAreaOf v levels K h
area_of v levels low high Unsurveyed h extent o a = record { code = o; nothing = a }
area_of v levels low high (Band b) h extent o a = (
  shoaler_end levels low b,
  deeper_end levels low high b,
  record { least = low; greatest = high; extent = extent b refl; from = refl; to = refl },
  record { code = o; range = a },
)

module _ (v : ChartedView) (levels : List ℤ) (block : ℕ → ℕ → ℕ) (view : FacesView) (faces : AreFaces (field_of v levels) block view) (pieces : HasPieces (borders (whole_mesh (field_of v levels) block)) (whole_mesh (field_of v levels) block).pieces) (parts_apart : DrawnParts) (nodes : List Point) (arcs : List Arc) (keep : AreArcs nodes arcs (length view.classes)) (are : AreArcsOf (whole_mesh (field_of v levels) block) (face_in (field_of v levels) view) arcs) (c : Parts) (connected : c.connected ≡ connected_records nodes) (edges : c.edges ≡ edge_records arcs) (low high : ℤ) (ends : AreEnds v.charted low high) (rings : List (List Ring)) (ringed : HasRings arcs (λ face. face) (length view.classes) rings) (drafts : map content_of (areas c) ≡ area_contents levels low high view arcs rings) where
  abbrev m : Mesh
  m = whole_mesh (field_of v levels) block

  abbrev face : Piece → ℕ
  face = face_in (field_of v levels) view

  abbrev draft : ℕ → FeatureContent
  draft k = area_content levels low high view arcs (class_of view k) (rings_in rings k)

  count : length (areas c) ≡ length view.classes
  count = drafted_count draft (areas c) (length rings) drafts ∙ ringed.each

  drafted : (k : ℕ) (d : Feature) → k < length (areas c) → content_of (get_or (areas c) k d) ≡ draft k
  drafted k d l = let n = count in let r = ringed.each in drafted_at draft (areas c) (length rings) k d drafts (omega (arith, n, r, l))

  alike : (u : Sub) → In m.subs u → is_drawn m u ≡ false → option_map face (m.right_of (ahead u)) ≡ option_map face (left_of m (ahead u))
  alike u i e = (parts_apart m face pieces faces.faces u (contains m.subs u i)).0 e

  outline : (k : ℕ) (d : Feature) → k < length (areas c) → HasOutline m c face k (get_or (areas c) k d)
  outline k d l =
      let f = get_or (areas c) k d in
      let n = count in
      IsPermutation-trans (map (walked m) (boundary m (λ q. eqb (face q) k))) (flat_map (part_segments arcs) (bordering arcs (λ face. face) k)) (area_segments c f)
      (bordered m face face (λ face. face) pieces (λ q i. refl) alike k arcs are)
      (area_along m face view faces.blocks pieces nodes arcs (length view.classes) keep are c connected edges (λ face. face) k (rings_in rings k) (ringed.rings k (omega (arith, n, l))) f (ap (λ (d : FeatureContent). d.pointers) (drafted k d l)))

  -- the areas of made parts are the faces of the mesh
  pub areas_are : HasAreas v levels m face c
  areas_are = record {
    faces = faces.faces;
    one_each = record { below = λ p i. let l = faces.gapless.below p i in let n = count in omega (arith, l, n); used = λ k l. let n = count in faces.gapless.used k (omega (arith, l, n)) };
    outlines = outline;
    classes = λ p d i.
        let k = face p in
        let l : k < length (areas c) = let b = faces.gapless.below p i in let n = count in omega (arith, b, n) in
        let e = drafted k d l in
        let class : class_of view k ≡ m.class p = faces.classes p i in
        area_of v levels low high (m.class p) (get_or (areas c) k d) (λ b s. extent_there v levels block low high p b ends s)
        (ap (λ (d : FeatureContent). d.objl) e ∙ ap object_of class)
        (ap (λ (d : FeatureContent). d.attributes) e ∙ ap (attributes_of levels low high) class);
  }

  -- and their pointers stand ring by ring
  pub areas_ringed : All (HasPointerRings m are.traces c) (areas c)
  areas_ringed k d l =
      let n = count in
      rings_are m face view faces.blocks pieces nodes arcs (length view.classes) keep are c connected edges (λ face. face) k (rings_in rings k) (ringed.rings k (omega (arith, n, l))) (get_or (areas c) k d) (ap (λ (d : FeatureContent). d.pointers) (drafted k d l))
