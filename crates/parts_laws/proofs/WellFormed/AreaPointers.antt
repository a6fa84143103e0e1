-- The pointers of areas: of edges alone, and at least one where an edge lies on the border.
use Rattle.std.proofs.Common.{◌≡◌, ℕ, ◌<◌, ◌&&◌, Bool, true, false, cond, eqb, List, [], ◌∷◌, All, length, get_or, refl, sym, subst, arith}
use Rattle.std.specs.Prelude.{Contains, flat_map, nat_lt}
use Rattle.std.specs.List.{list_all}
use Rattle.std.proofs.lemmas.Bool.{and_from, eq-eqb}
use Rattle.std.proofs.lemmas.List.Elements.{All-head, All-map, All-tail, Contains-append_left, Contains-append_right}
use Rattle.std.proofs.lemmas.List.Sorted.{Contains-permutation}
use Rattle.boundary_arcs.specs.declared.arc.Arc.{Arc}
use Rattle.chart_model.specs.declared.records.Pointer.{Pointer}
use Rattle.built_parts.specs.Areas.{area_pointers, exteriors, interiors, pointer_of, ring_pointers}
use Rattle.face_fill.specs.Listing.{in_flat_map, in_map, of_flat_map}
use Rattle.face_fill.specs.Numbered.{FacesView}
use Rattle.parts_laws.proofs.RingPointers.{all_pointers}
use Rattle.parts_laws.proofs.WellFormed.Portions.{is_more}
use Rattle.ring_builder.specs.Parts.{bordering}
use Rattle.ring_builder.specs.Rings.{AreRings}
use Rattle.ring_builder.specs.declared.ring.Part.{Part}
use Rattle.ring_builder.specs.declared.ring.Ring.{Ring}
use Rattle.s57_codes.specs.Catalogue.{rcnm_edge}

abbrev pub OfEdge : Pointer → Type 0
OfEdge p = p.rcnm ≡ rcnm_edge

all_of_edges : (ps : List Pointer) → All OfEdge ps → list_all (λ (p : Pointer). eqb p.rcnm rcnm_edge) ps ≡ true
all_of_edges [] h = refl
all_of_edges (p ∷ ps) h = and_from (eqb p.rcnm rcnm_edge) (list_all (λ (p : Pointer). eqb p.rcnm rcnm_edge) ps) (eq-eqb p.rcnm rcnm_edge (All-head OfEdge p ps h)) (all_of_edges ps (All-tail OfEdge p ps h))

-- what is asked of the pointers of an area
pub area_made : (ps : List Pointer) → 0 < length ps → All OfEdge ps → (nat_lt 0 (length ps) && list_all (λ (p : Pointer). eqb p.rcnm rcnm_edge) ps) ≡ true
area_made ps l h = and_from (nat_lt 0 (length ps)) (list_all (λ (p : Pointer). eqb p.rcnm rcnm_edge) ps) (is_more (length ps) l) (all_of_edges ps h)

pub some_in : {X : Type 0} (xs : List X) (x : X) → Contains xs x → 0 < length xs
some_in xs x c = omega (arith, c.1)

module _ (v : FacesView) (arcs : List Arc) where
  ring_of_edges : (r : Ring) → All OfEdge (ring_pointers v arcs r)
  ring_of_edges r = All-map OfEdge (pointer_of v arcs r.exterior) r.parts (λ i d l. refl)

  -- an area's pointers are of edges
  pub of_edges : (rings : List Ring) → All OfEdge (area_pointers v arcs rings)
  of_edges rings = all_pointers OfEdge v arcs rings (λ i d l. ring_of_edges (get_or rings i d))

  -- a part of a ring gives a pointer
  ring_pointer : (rings : List Ring) (r : Ring) (p : Part) → Contains rings r → Contains r.parts p → 0 < length (area_pointers v arcs rings)
  ring_pointer rings r p c d = by r.exterior refl
    where
      pointer : Contains (ring_pointers v arcs r) (pointer_of v arcs r.exterior p)
      pointer = in_map (pointer_of v arcs r.exterior) r.parts p d

      by : (b : Bool) → r.exterior ≡ b → 0 < length (area_pointers v arcs rings)
      by true e = some_in (area_pointers v arcs rings) (pointer_of v arcs r.exterior p) (Contains-append_left (exteriors v arcs rings) (interiors v arcs rings) (pointer_of v arcs r.exterior p)
          (in_flat_map (λ (r : Ring). cond r.exterior (ring_pointers v arcs r) []) rings r (pointer_of v arcs r.exterior p) c (subst (λ b. Contains (cond b (ring_pointers v arcs r) []) (pointer_of v arcs r.exterior p)) (sym e) pointer)))
      by false e = some_in (area_pointers v arcs rings) (pointer_of v arcs r.exterior p) (Contains-append_right (exteriors v arcs rings) (interiors v arcs rings) (pointer_of v arcs r.exterior p)
          (in_flat_map (λ (r : Ring). cond r.exterior [] (ring_pointers v arcs r)) rings r (pointer_of v arcs r.exterior p) c (subst (λ b. Contains (cond b [] (ring_pointers v arcs r)) (pointer_of v arcs r.exterior p)) (sym e) pointer)))

  -- where an edge borders a set, the rings of the set give a pointer
  pub rings_some : (owner : ℕ → ℕ) (k : ℕ) (rings : List Ring) (p : Part) → AreRings arcs owner k rings → Contains (bordering arcs owner k) p → 0 < length (area_pointers v arcs rings)
  rings_some owner k rings p are c =
      let there = Contains-permutation (bordering arcs owner k) (flat_map (λ (r : Ring). r.parts) rings) p are.once c in
      let ring = of_flat_map (λ (r : Ring). r.parts) rings p there in
      ring_pointer rings ring.0 p ring.1 ring.2
