-- The rings of sets of faces have the boundaries of their pieces as their segments.
use Rattle.std.proofs.Common.{◌≡◌, ℕ, false, eqb, IsTrue, Option, Some, None, List, [], map, flat_map, get_or, All, Contains, refl, sym, ap, ◌∙◌}
use Rattle.std.specs.List.{Any}
use Rattle.std.specs.Prelude.{option_map}
use Rattle.std.proofs.lemmas.List.Elements.{All-contains, All-map}
use Rattle.std.proofs.lemmas.List.Sorted.{IsPermutation-trans}
use Rattle.boundary_arcs.specs.declared.arc.Arc.{Arc}
use Rattle.exterior_laws.specs.Exterior.{SomeRingIsExterior}
use Rattle.mesh_definitions.specs.Faces.{boundary, is_drawn, steps_of}
use Rattle.mesh_definitions.specs.Pieces.{Mesh, ahead, back, left_of, walked, whole_mesh}
use Rattle.mesh_definitions.specs.Rings.{AreRingsOf, IsRing, is_exterior}
use Rattle.mesh_definitions.specs.declared.Piece.{Piece}
use Rattle.mesh_definitions.specs.declared.Sub.{Sub}
use Rattle.mesh_laws.specs.FaceLaws.{DrawnParts}
use Rattle.mesh_laws.proofs.Triangles.{self_num}
use Rattle.plane_geom.specs.declared.Seg.{Seg}
use Rattle.plane_laws.proofs.Lists.{from_map}
use Rattle.plane_laws.proofs.Members.{In, contains, is_in}
use Rattle.ring_builder.proofs.Boundaries.{bordered}
use Rattle.ring_builder.proofs.Orders.{flat_map_map, flat_map_permuted, flat_map_twice, order_by}
use Rattle.ring_builder.proofs.Traced.{listed}
use Rattle.ring_builder.specs.Parts.{bordering, part_segments}
use Rattle.ring_builder.specs.Rings.{AreEdgesOf, AreRings, BoundFaces, BoundSets, FacesHaveExteriors, HasExterior, HasRings, SetsHaveExteriors, ring_segments}
use Rattle.ring_builder.specs.declared.ring.Ring.{Ring}

module _ (parts_apart : DrawnParts) (arcs : List Arc) (owner : ℕ → ℕ) where
  module _ (m : Mesh) (face number : Piece → ℕ) (are : AreEdgesOf m face arcs) (owns : (p : Piece) → Contains m.pieces p → owner (face p) ≡ number p) where
    -- pieces of one face have one number
    alike : (u : Sub) → In m.subs u → is_drawn m u ≡ false → option_map number (m.right_of (ahead u)) ≡ option_map number (left_of m (ahead u))
    alike u i e = go (m.right_of (ahead u)) (left_of m (ahead u)) (λ p r. are.pieces.sides (ahead u) p (contains (steps_of m) (ahead u) (listed m (ahead u) i)) r) (λ q l. are.pieces.sides (back (ahead u)) q (contains (steps_of m) (back (ahead u)) (listed m (back (ahead u)) i)) l) ((parts_apart m face are.pieces are.faces u (contains m.subs u i)).0 e)
      where
        go : (r l : Option Piece) → ((p : Piece) → r ≡ Some p → Contains m.pieces p) → ((q : Piece) → l ≡ Some q → Contains m.pieces q) → option_map face r ≡ option_map face l → option_map number r ≡ option_map number l
        go None None a b e = refl
        go None (Some q) a b e = absurd (cc)
        go (Some p) None a b e = absurd (cc)
        go (Some p) (Some q) a b e =
            let same : face p ≡ face q = cc in
            ap Some (sym (owns p (a p refl)) ∙ ap owner same ∙ owns q (b q refl))

    rings_of : (k : ℕ) (rings : List Ring) → AreRings arcs owner k rings → AreRingsOf m (λ p. eqb (number p) k) (map (ring_segments arcs) rings)
    rings_of k rings h =
        let parts = flat_map (λ (r : Ring). r.parts) rings in
        record {
          each_once = IsPermutation-trans (map (walked m) (boundary m (λ p. eqb (number p) k))) (flat_map (part_segments arcs) (bordering arcs owner k)) (flat_map (λ ring. ring) (map (ring_segments arcs) rings))
              (bordered m face number owner are.pieces owns alike k arcs are.arcs_are)
              (order_by (flat_map (part_segments arcs) (bordering arcs owner k)) (flat_map (part_segments arcs) (bordering arcs owner k)) (flat_map (part_segments arcs) parts) (flat_map (λ ring. ring) (map (ring_segments arcs) rings)) refl
              (flat_map_permuted (part_segments arcs) (bordering arcs owner k) parts h.once)
              (flat_map_twice (part_segments arcs) (λ (r : Ring). r.parts) rings ∙ sym (flat_map_map (λ ring. ring) (ring_segments arcs) rings)));
          closed = All-map IsRing (ring_segments arcs) rings h.closed;
        }

  pub bound_sets : (sets : ℕ) (all : List (List Ring)) → HasRings arcs owner sets all → BoundSets arcs owner sets all
  bound_sets sets all h m face number are owns k l = rings_of m face number are owns k (get_or all k []) (h.rings k l)

pub bound_faces : DrawnParts → (arcs : List Arc) (faces : ℕ) (all : List (List Ring)) → HasRings arcs (λ face. face) faces all → BoundFaces arcs faces all
bound_faces apart arcs faces all h m face are k l = bound_sets apart arcs (λ face. face) faces all h m face face are (λ p i. refl) k l

-- ---- exterior rings

-- rings that are marked by their area sums, one of which is above 0
marked : (arcs : List Arc) (rings : List Ring) → All (λ (r : Ring). r.exterior ≡ is_exterior (ring_segments arcs r)) rings → Any (λ (ring : List Seg). IsTrue (is_exterior ring)) (map (ring_segments arcs) rings) → HasExterior rings
marked arcs rings are some =
    let segs = map (ring_segments arcs) rings in
    let k = from_map (ring_segments arcs) rings some.1 (is_in segs some.1 (some.0, some.2, some.3)) in
    let there = contains rings k.0 k.1 in
    let flag = All-contains (λ (r : Ring). r.exterior ≡ is_exterior (ring_segments arcs r)) rings k.0 are there in
    (there.0, k.0, there.1, there.2, flag ∙ (ap is_exterior k.2 ∙ some.4))

pub sets_have_exteriors : SomeRingIsExterior → DrawnParts → (arcs : List Arc) (owner : ℕ → ℕ) (sets : ℕ) (all : List (List Ring)) → HasRings arcs owner sets all → SetsHaveExteriors arcs owner sets all
sets_have_exteriors some apart arcs owner sets all h f block face number field are owns p inside l =
    let k = number p in
    let rings = get_or all k [] in
    marked arcs rings (h.rings k l).exterior
    (some f block field (λ q. eqb (number q) k) p inside (self_num k) (map (ring_segments arcs) rings)
    (bound_sets apart arcs owner sets all h (whole_mesh f block) face number are owns k l))

pub faces_have_exteriors : SomeRingIsExterior → DrawnParts → (arcs : List Arc) (faces : ℕ) (all : List (List Ring)) → HasRings arcs (λ face. face) faces all → FacesHaveExteriors arcs faces all
faces_have_exteriors some apart arcs faces all h f block face field are p inside l = sets_have_exteriors some apart arcs (λ face. face) faces all h f block face face field are (λ q i. refl) p inside l
