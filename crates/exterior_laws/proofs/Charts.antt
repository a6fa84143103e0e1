-- The pointers of the areas of a chart begin with an exterior ring.
use Rattle.std.proofs.Common.{◌≡◌, pos, ◌+ℤ◌, ◌≤ℤ◌, ◌<ℤ◌, Bool, true, eqb, IsTrue, IsFalse, List, [], ◌∷◌, ◌++◌, map, flat_map, length, get_or, take, All, refl, sym, ap, subst, ◌∙◌, arith}
use Rattle.std.proofs.lemmas.Int.{ints}
use Rattle.std.proofs.lemmas.List.Concat.{flat_map-append}
use Rattle.std.proofs.lemmas.List.Elements.{All-head, All-tail}
use Rattle.std.proofs.Math.Seq.{take-append_seam}
use Rattle.mesh_definitions.specs.Faces.{boundary}
use Rattle.mesh_definitions.specs.Field.{field_of}
use Rattle.mesh_definitions.specs.Pieces.{Mesh, walked}
use Rattle.mesh_definitions.specs.Rings.{IsRing, area_sum, is_exterior}
use Rattle.mesh_definitions.specs.declared.Piece.{Piece}
use Rattle.mesh_definitions.specs.declared.Step.{Step}
use Rattle.chart_definitions.specs.ChartOf.{mesh_in}
use Rattle.chart_definitions.specs.Pointers.{HasRings, IsRingOf, run_along}
use Rattle.chart_model.specs.Areas.{areas}
use Rattle.chart_model.specs.Lines.{area_segments, pointed}
use Rattle.chart_model.specs.declared.records.Feature.{Feature}
use Rattle.chart_model.specs.declared.records.Parts.{Parts}
use Rattle.chart_model.specs.declared.records.Pointer.{Pointer}
use Rattle.exterior_laws.specs.Begins.{AreasBeginWithExteriors, BeginsWithExterior}
use Rattle.exterior_laws.specs.Exterior.{SetsHaveArea}
use Rattle.exterior_laws.proofs.Fans.{share}
use Rattle.mesh_laws.proofs.Triangles.{self_num}
use Rattle.plane_geom.specs.declared.Seg.{Seg}
use Rattle.plane_laws.specs.Borders.{total}
use Rattle.plane_laws.proofs.Sums.{total-append, total-IsPermutation}
use Rattle.tiling_laws.specs.Truth.{GridsHaveFields}

-- ---- rings one after the other

abbrev joined : List (List Pointer) → List Pointer
joined rings = flat_map (λ ring. ring) rings

area_joined : (c : Parts) (rings : List (List Pointer)) → area_sum (run_along c (joined rings)) ≡ total (λ ring. area_sum (run_along c ring)) rings
area_joined c [] = refl
area_joined c (ring ∷ rings) =
    ap (total share) (flat_map-append (pointed c) ring (joined rings))
    ∙ (total-append share (run_along c ring) (run_along c (joined rings))
    ∙ ap (λ z. area_sum (run_along c ring) +ℤ z) (area_joined c rings))

not_positive : (segs : List Seg) → IsFalse (is_exterior segs) → area_sum segs ≤ℤ pos 0
not_positive segs e = grind (arith, ints, e)

positive : (segs : List Seg) → IsTrue (is_exterior segs) → pos 0 <ℤ area_sum segs
positive segs e = grind (arith, ints, e)

-- interior rings have no area sum above 0, and no more together
none_outside : (c : Parts) (rings : List (List Pointer)) → All (λ ring. IsFalse (is_exterior (run_along c ring))) rings → total (λ ring. area_sum (run_along c ring)) rings ≤ℤ pos 0
none_outside c [] h = omega (arith, ints)
none_outside c (ring ∷ rings) h =
    let Inside : List Pointer → Type 0 = λ ring. IsFalse (is_exterior (run_along c ring)) in
    let one = not_positive (run_along c ring) (All-head Inside ring rings h) in
    let rest = none_outside c rings (All-tail Inside ring rings h) in
    omega (arith, ints, one, rest)

-- ---- an area

module _ (m : Mesh) (traces : List (List Step)) (c : Parts) (f : Feature) (wide : pos 0 <ℤ area_sum (area_segments c f)) where
  abbrev Outside : List Pointer → Type 0
  Outside ring = IsTrue (is_exterior (run_along c ring))

  begins_by : (exterior interior : List (List Pointer)) → f.pointers ≡ joined (exterior ++ interior) → All Outside exterior → All (λ ring. IsFalse (is_exterior (run_along c ring))) interior → All (IsRingOf m traces c) (exterior ++ interior) → BeginsWithExterior c f
  begins_by [] interior e outer inner rings =
      let sum = ap (λ ps. area_sum (run_along c ps)) e ∙ area_joined c interior in
      let none = none_outside c interior inner in
      absurd (omega (arith, ints, wide, sum, none))
  begins_by (ring ∷ exterior) interior e outer inner rings =
      let first : ring ≡ take (length ring) f.pointers = sym (ap (take (length ring)) e ∙ take-append_seam ring (joined (exterior ++ interior))) in
      record {
        count = length ring;
        ring = subst (λ ps. IsRing (run_along c ps)) first (All-head (IsRingOf m traces c) ring (exterior ++ interior) rings).closed;
        clockwise = subst (λ ps. pos 0 <ℤ area_sum (run_along c ps)) first (positive (run_along c ring) (All-head Outside ring exterior outer));
      }

  begins : HasRings m traces c f → BeginsWithExterior c f
  begins h = begins_by h.exterior h.interior h.in_order h.outer h.inner h.rings

pub areas_begin : SetsHaveArea → GridsHaveFields → AreasBeginWithExteriors
areas_begin area fields g s c grid sheet is = λ k d l.
    let m = mesh_in is.view s is.block in
    let F : Piece → Bool = λ p. eqb (is.face p) k in
    let a : Feature = get_or (areas c) k d in
    let used = is.areas.one_each.used k l in
    let e : eqb (is.face used.0) k ≡ true = subst (λ n. eqb n k ≡ true) (sym used.2) (self_num k) in
    let sum : area_sum (map (walked m) (boundary m F)) ≡ area_sum (area_segments c a) = total-IsPermutation share (map (walked m) (boundary m F)) (area_segments c a) (is.areas.outlines k d l) in
    let field = fields g s is.view grid sheet is.generalised in
    begins m is.traces c a (subst (λ z. pos 0 <ℤ z) sum (area (field_of is.view s.levels) is.block field F used.0 used.1 e)) (is.pointers.areas k d l)
