-- Rings as lists of places: each part stands in one of them, once.
use Rattle.std.proofs.Common.{◌≡◌, ℕ, ◌<◌, ◌≤◌, List, [], ◌∷◌, ◌++◌, map, flat_map, length, get_or, All, IsPermutation, refl, ap, sym, subst, subst₂, ◌∙◌, arith, length-append, false}
use Rattle.std.specs.List.{concat, range_with_len}
use Rattle.std.proofs.lemmas.List.{same_lists, get_or_default, length-map, map-append}
use Rattle.std.proofs.lemmas.List.Elements.{All-cons, All-nil, All-map}
use Rattle.std.proofs.lemmas.List.Folds.{flat_map-map}
use Rattle.std.proofs.lemmas.List.FromFn.{get_or-map-range_with_len, length-map-range_with_len, length-range_with_len, get_or-range_with_len}
use Rattle.std.proofs.lemmas.List.Sorted.{IsPermutation-map, All-permutation, length_permutation}
use Rattle.std.proofs.Math.ListN.{get_or-map}
use Rattle.plane_laws.proofs.Lists.{all_left, all_right}
use Rattle.boundary_arcs.specs.declared.arc.Arc.{Arc}
use Rattle.plane_laws.proofs.Members.{In, contains}
use Rattle.ring_builder.specs.Lists.{IsPart, part_at}
use Rattle.ring_builder.specs.Parts.{hop_of}
use Rattle.ring_builder.specs.declared.ring.Part.{Part}
use Rattle.ring_builder.specs.declared.ring.Ring.{Ring}
use Rattle.ring_cutter.specs.Rings.{CutsIntoRings}

-- a list is what stands at each of its places
pub each_place : {X : Type 0} (xs : List X) (d : X) → map (λ i. get_or xs i d) (range_with_len 0 (length xs)) ≡ xs
each_place xs d =
    let n = length-map-range_with_len (λ i. get_or xs i d) 0 (length xs) in
    same_lists (map (λ i. get_or xs i d) (range_with_len 0 (length xs))) xs n (λ k e l.
    let h : k < length xs = omega (arith, n, l) in
    get_or-map-range_with_len (λ i. get_or xs i d) 0 (length xs) k k e h (omega arith) ∙ get_or_default xs k d e h)

-- what holds of all on a list holds of each
pub of_each : {X : Type 0} (P : X → Type 0) (xs : List X) (x : X) → All P xs → In xs x → P x
of_each P xs x h i = let c = contains xs x i in subst P c.2 (h c.0 x c.1)

-- of lists that are seen through f
pub all_seen : {X Y : Type 0} (f : X → Y) (P : Y → Type 0) (xs : List X) → All P (map f xs) → All (λ x. P (f x)) xs
all_seen f P xs h = λ k d l. subst P (get_or-map f xs k d) (h k (f d) (omega (arith, length-map xs f)))

all_within : (P : ℕ → Type 0) (cut : List (List ℕ)) → All P (concat cut) → All (All P) cut
all_within P [] h = All-nil (All P)
all_within P (ring ∷ cut) h = All-cons (All P) ring cut (all_left P ring (concat cut) h) (all_within P cut (all_right P ring (concat cut) h))

each_short : (cut : List (List ℕ)) → All (λ (ring : List ℕ). length ring ≤ length (concat cut)) cut
each_short [] = All-nil (λ (ring : List ℕ). length ring ≤ 0)
each_short (ring ∷ cut) =
    let n = length-append ring (concat cut) in
    let more : (r : List ℕ) → length r ≤ length (concat cut) → length r ≤ length (ring ++ concat cut) = λ r l. omega (arith, n, l) in
    All-cons (λ (r : List ℕ). length r ≤ length (ring ++ concat cut)) ring cut (omega (arith, n)) (λ k d l. more (get_or cut k d) (each_short cut k d l))

map-concat : {X : Type 0} (f : ℕ → X) (cut : List (List ℕ)) → flat_map (λ x. x) (map (map f) cut) ≡ map f (concat cut)
map-concat f [] = refl
map-concat f (ring ∷ cut) = ap (λ z. map f ring ++ z) (map-concat f cut) ∙ sym (map-append f ring (concat cut))

-- the parts at places are edges where all parts are
pub picked_known : (arcs : List Arc) (parts : List Part) (places : List ℕ) → All (IsPart arcs) parts → All (λ i. i < length parts) places → All (IsPart arcs) (map (part_at parts) places)
picked_known arcs parts places h inside = All-map (IsPart arcs) (part_at parts) places (λ k d l. h (get_or places k d) (record { arc = 0; forward = false }) (inside k d l))

module _ (arcs : List Arc) (parts : List Part) (cut : List (List ℕ)) (c : CutsIntoRings (map (hop_of arcs) parts) cut) where
  all_places : IsPermutation (range_with_len 0 (length parts)) (concat cut)
  all_places = subst (λ n. IsPermutation (range_with_len 0 n) (concat cut)) (length-map parts (hop_of arcs)) c.each_once

  range_below : (n : ℕ) → All (λ i. i < n) (range_with_len 0 n)
  range_below n = λ k d l.
      let h : k < n = omega (arith, length-range_with_len 0 n, l) in
      subst (λ i. i < n) (sym (get_or-range_with_len 0 n k d h)) (omega arith)

  pub places_inside : All (All (λ i. i < length parts)) cut
  places_inside = all_within (λ i. i < length parts) cut (All-permutation (λ i. i < length parts) (range_with_len 0 (length parts)) (concat cut) all_places (range_below (length parts)))

  pub places_few : All (λ (ring : List ℕ). length ring ≤ length parts) cut
  places_few =
      let n = length_permutation (range_with_len 0 (length parts)) (concat cut) all_places in
      let m = length-range_with_len 0 (length parts) in
      λ k d l. let s = each_short cut k d l in omega (arith, n, m, s)

  -- each part stands in one ring, once
  pub parts_once : (rings : List Ring) → map (λ (r : Ring). r.parts) rings ≡ map (map (part_at parts)) cut → IsPermutation parts (flat_map (λ (r : Ring). r.parts) rings)
  parts_once rings e =
      let whole : flat_map (λ (r : Ring). r.parts) rings ≡ map (part_at parts) (concat cut) = sym (flat_map-map (λ x. x) (λ (r : Ring). r.parts) rings) ∙ ap (flat_map (λ x. x)) e ∙ map-concat (part_at parts) cut in
      subst₂ IsPermutation (each_place parts (record { arc = 0; forward = false })) (sym whole) (IsPermutation-map (part_at parts) (range_with_len 0 (length parts)) (concat cut) all_places)
