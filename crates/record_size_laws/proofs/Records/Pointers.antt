-- An area has a pointer for each edge that borders it.
use Rattle.std.proofs.Common.{◌≡◌, ℕ, ◌+◌, Bool, true, false, cond, List, [], ◌∷◌, ◌++◌, length, map, flat_map, refl, sym, ap, ◌∙◌, arith}
use Rattle.std.specs.List.{range_with_len, sum_by}
use Rattle.std.proofs.lemmas.List.{length-append, length-map}
use Rattle.std.proofs.lemmas.List.Concat.{length-flat_map}
use Rattle.std.proofs.lemmas.List.FromFn.{fill_by_all}
use Rattle.std.proofs.lemmas.List.Sorted.{length_permutation}
use Rattle.boundary_arcs.specs.Edges.{arc_of}
use Rattle.boundary_arcs.specs.declared.arc.Arc.{Arc}
use Rattle.boundary_arcs.specs.declared.arc.Side.TheVariants.{Outside}
use Rattle.built_parts.specs.Areas.{area_pointers, exteriors, interiors, ring_pointers, pointer_of}
use Rattle.face_fill.specs.Numbered.{FacesView}
use Rattle.record_size_laws.proofs.Records.Borders.{one_sided}
use Rattle.record_size_laws.proofs.Records.Sums.{sum_by-map, sum_by-same}
use Rattle.record_size_laws.proofs.Records.Traces.{sided}
use Rattle.ring_builder.specs.Parts.{bordering, is_set, owner_on, parts_at, parts_of}
use Rattle.ring_builder.specs.Rings.{AreRings}
use Rattle.ring_builder.specs.declared.ring.Ring.{Ring}

parts_length : (right left : Bool) (n : ℕ) → length (parts_of right left n) ≡ one_sided right left
parts_length true true n = refl
parts_length true false n = refl
parts_length false true n = refl
parts_length false false n = refl

-- as many edges border a set as have it on one side alone
pub bordering_length : (arcs : List Arc) (owner : ℕ → ℕ) (k : ℕ) → length (bordering arcs owner k) ≡ sum_by (sided owner k) arcs
bordering_length arcs owner k =
    let each : arcs ≡ map (arc_of arcs) (range_with_len 0 (length arcs)) = fill_by_all (arc_of arcs) arcs (length arcs) (record { points = []; begin = 0; end = 0; left = Outside; right = Outside }) refl (λ i l. refl) in
    length-flat_map (λ n. parts_at owner k (arc_of arcs n) n) (range_with_len 0 (length arcs))
    ∙ sum_by-same (λ n. length (parts_at owner k (arc_of arcs n) n)) (λ n. sided owner k (arc_of arcs n)) (λ n. parts_length (is_set k (owner_on owner (arc_of arcs n).right)) (is_set k (owner_on owner (arc_of arcs n).left)) n) (range_with_len 0 (length arcs))
    ∙ sym (sum_by-map (sided owner k) (arc_of arcs) (range_with_len 0 (length arcs)))
    ∙ ap (sum_by (sided owner k)) (sym each)

-- the pointers of a ring stand with one kind or the other
either_kind : {X Y : Type 0} (exterior : Bool) (ps outer inner : List X) (parts rest : List Y) → length ps ≡ length parts → length outer + length inner ≡ length rest
    → length (cond exterior ps [] ++ outer) + length (cond exterior [] ps ++ inner) ≡ length (parts ++ rest)
either_kind true ps outer inner parts rest one others = omega (arith, one, others, length-append ps outer, length-append parts rest)
either_kind false ps outer inner parts rest one others = omega (arith, one, others, length-append ps inner, length-append parts rest)

-- the pointers of rings are as many as their parts
rings_pointers : (v : FacesView) (arcs : List Arc) (rings : List Ring) → length (exteriors v arcs rings) + length (interiors v arcs rings) ≡ length (flat_map (λ (r : Ring). r.parts) rings)
rings_pointers v arcs [] = refl
rings_pointers v arcs (r ∷ rings) =
    either_kind r.exterior (ring_pointers v arcs r) (exteriors v arcs rings) (interiors v arcs rings) r.parts (flat_map (λ (r : Ring). r.parts) rings) (length-map r.parts (pointer_of v arcs r.exterior)) (rings_pointers v arcs rings)

pub pointers_length : (v : FacesView) (arcs : List Arc) (owner : ℕ → ℕ) (k : ℕ) (rings : List Ring) → AreRings arcs owner k rings → length (area_pointers v arcs rings) ≡ sum_by (sided owner k) arcs
pointers_length v arcs owner k rings are =
    length-append (exteriors v arcs rings) (interiors v arcs rings)
    ∙ rings_pointers v arcs rings
    ∙ length_permutation (bordering arcs owner k) (flat_map (λ (r : Ring). r.parts) rings) are.once
    ∙ bordering_length arcs owner k
