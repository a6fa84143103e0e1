-- The pointers of an area, ring by ring: those of the rings on its outside, and then those of the others.
use Rattle.std.proofs.Common.{ℕ, ◌<◌, Bool, true, false, cond, List, [], All, length, get_or}
use Rattle.std.specs.List.{flat_map, range_with_len}
use Rattle.std.proofs.lemmas.List.Elements.{All-append, All-cons, All-nil}
use Rattle.std.proofs.lemmas.List.Sorted.{All-permutation}
use Rattle.boundary_arcs.specs.Edges.{arc_of}
use Rattle.boundary_arcs.specs.declared.arc.Arc.{Arc}
use Rattle.chart_model.specs.declared.records.Pointer.{Pointer}
use Rattle.built_parts.specs.Areas.{area_pointers, exteriors, interiors, ring_pointers}
use Rattle.face_fill.specs.Numbered.{FacesView}
use Rattle.plane_laws.proofs.Lists.{all_below, all_each, all_flat}
use Rattle.ring_builder.specs.Lists.{IsPart}
use Rattle.ring_builder.specs.Parts.{bordering, is_set, owner_on, parts_at, parts_of}
use Rattle.ring_builder.specs.Rings.{AreRings}
use Rattle.ring_builder.specs.declared.ring.Ring.{Ring}

-- ---- the parts of rings are edges that are there

one_known : (arcs : List Arc) (right left : Bool) (n : ℕ) → n < length arcs → All (IsPart arcs) (parts_of right left n)
one_known arcs true true n l = All-nil (IsPart arcs)
one_known arcs true false n l = All-cons (IsPart arcs) (record { arc = n; forward = true }) [] l (All-nil (IsPart arcs))
one_known arcs false true n l = All-cons (IsPart arcs) (record { arc = n; forward = false }) [] l (All-nil (IsPart arcs))
one_known arcs false false n l = All-nil (IsPart arcs)

bordering_known : (arcs : List Arc) (owner : ℕ → ℕ) (k : ℕ) → All (IsPart arcs) (bordering arcs owner k)
bordering_known arcs owner k =
    all_flat (IsPart arcs) (λ n. parts_at owner k (arc_of arcs n) n) (range_with_len 0 (length arcs))
    (all_below (λ n. All (IsPart arcs) (parts_at owner k (arc_of arcs n) n)) (length arcs) (λ n l. one_known arcs (is_set k (owner_on owner (arc_of arcs n).right)) (is_set k (owner_on owner (arc_of arcs n).left)) n l))

pub rings_known : (arcs : List Arc) (owner : ℕ → ℕ) (k : ℕ) (rings : List Ring) → AreRings arcs owner k rings → All (λ (r : Ring). All (IsPart arcs) r.parts) rings
rings_known arcs owner k rings h = all_each (IsPart arcs) (λ (r : Ring). r.parts) rings (All-permutation (IsPart arcs) (bordering arcs owner k) (flat_map (λ (r : Ring). r.parts) rings) h.once (bordering_known arcs owner k))

-- ---- one list of pointers where a test holds, else none

module _ (P : List Pointer → Type 0) (none : P []) where
  pub if_so : (b : Bool) (ps : List Pointer) → P ps → P (cond b ps [])
  if_so true ps h = h
  if_so false ps h = none

  pub if_not : (b : Bool) (ps : List Pointer) → P ps → P (cond b [] ps)
  if_not true ps h = none
  if_not false ps h = h

-- what holds of the pointers of each ring holds of those of the area
pub all_pointers : (P : Pointer → Type 0) (v : FacesView) (arcs : List Arc) (rings : List Ring) → All (λ (r : Ring). All P (ring_pointers v arcs r)) rings → All P (area_pointers v arcs rings)
all_pointers P v arcs rings h =
    All-append P (exteriors v arcs rings) (interiors v arcs rings)
    (all_flat P (λ (r : Ring). cond r.exterior (ring_pointers v arcs r) []) rings (λ i d l. if_so (All P) (All-nil P) (get_or rings i d).exterior (ring_pointers v arcs (get_or rings i d)) (h i d l)))
    (all_flat P (λ (r : Ring). cond r.exterior [] (ring_pointers v arcs r)) rings (λ i d l. if_not (All P) (All-nil P) (get_or rings i d).exterior (ring_pointers v arcs (get_or rings i d)) (h i d l)))
