-- At each node an even number of the ends of a ring's edges meets.
use Rattle.std.proofs.Common.{◌≡◌, ◌≢◌, ℕ, ◌+◌, ◌*◌, ◌-◌, ◌<◌, ◌≤◌, ℤ, pos, ◌+ℤ◌, ◌-ℤ◌, Bool, true, false, cond, eqb, Some, List, [], ◌∷◌, length, get_or, All, AllPairs, sum_by, refl, sym, ap, ap₂, ◌∙◌, ⊎_elim, arith}
use Rattle.std.specs.List.{slice_get}
use Rattle.std.proofs.lemmas.Bool.{cases_order}
use Rattle.std.proofs.lemmas.Bool.Decides.{Decides-eqb, Decides-like, same_from_decides}
use Rattle.std.proofs.lemmas.Int.{ints}
use Rattle.std.proofs.lemmas.List.Elements.{All-head, All-tail}
use Rattle.std.proofs.lemmas.List.Sums.{sum_by-cons}
use Rattle.std.proofs.lemmas.Option.{get_or_from_slice_get, slice_get_within}
use Rattle.boundary_arcs.proofs.Numbering.{same_place, same_place_decides}
use Rattle.boundary_arcs.specs.Edges.{HasNodes, IsSimple, arc_of}
use Rattle.boundary_arcs.specs.declared.arc.Arc.{Arc}
use Rattle.mesh_definitions.specs.Rings.{IsRing}
use Rattle.plane_geom.specs.declared.Point.{Point}
use Rattle.plane_laws.specs.Borders.{total}
use Rattle.parts_laws.proofs.Faultless.Flows.{flow, flow_of_part, last_of, last_there, parts_flow}
use Rattle.ring_builder.specs.Lists.{IsPart}
use Rattle.ring_builder.specs.Parts.{part_segments}
use Rattle.ring_builder.specs.Rings.{ring_segments}
use Rattle.ring_builder.specs.declared.ring.Part.{Part}
use Rattle.ring_builder.specs.declared.ring.Ring.{Ring}

-- twice some number
pub record IsEven (n : ℕ) : Type 0 where
  pub half : ℕ
  pub is : n ≡ 2 * half

-- how many of an edge's ends are at node k
abbrev pub meets : ℕ → Arc → ℕ
meets k a = cond (eqb a.begin k) 1 0 + cond (eqb a.end k) 1 0

-- a sum of numbers is even where it differs by twice a number from a sum that is 0
sum_of_both : {X : Type 0} (m h : X → ℕ) (f : X → ℤ) (xs : List X) → All (λ x. pos (m x) ≡ f x +ℤ pos (2 * h x)) xs → pos (sum_by m xs) ≡ total f xs +ℤ pos (2 * sum_by h xs)
sum_of_both m h f [] a = omega (arith, ints)
sum_of_both m h f (x ∷ xs) a =
    let one = All-head (λ z. pos (m z) ≡ f z +ℤ pos (2 * h z)) x xs a in
    let more = sum_of_both m h f xs (All-tail (λ z. pos (m z) ≡ f z +ℤ pos (2 * h z)) x xs a) in
    omega (arith, ints, one, more, sum_by-cons m x xs, sum_by-cons h x xs)

even_sum : {X : Type 0} (m h : X → ℕ) (f : X → ℤ) (xs : List X) → All (λ x. pos (m x) ≡ f x +ℤ pos (2 * h x)) xs → total f xs ≡ pos 0 → sum_by m xs ≡ 2 * sum_by h xs
even_sum m h f xs a e = let s = sum_of_both m h f xs a in omega (arith, ints, s, e)

-- ---- the node at a place
module _ (nodes : List Point) (once : AllPairs ◌≢◌ nodes) (d : Point) where
  -- no point stands at two nodes
  one_number : (j k : ℕ) → j < length nodes → k < length nodes → get_or nodes j d ≡ get_or nodes k d → j ≡ k
  one_number j k l m e = ⊎_elim
      (λ s. s)
      (λ o. ⊎_elim (λ (b : j < k). absurd (once j k d b m e)) (λ (b : k < j). absurd (once k j d b l (sym e))) o)
      (cases_order j k)

  -- a point is at a node exactly where its number is the node's
  pub same_node : (j k : ℕ) (q : Point) → slice_get nodes j ≡ Some q → k < length nodes → same_place q (get_or nodes k d) ≡ eqb j k
  same_node j k q at l =
      let here : get_or nodes j d ≡ q = get_or_from_slice_get nodes j q d at in
      same_from_decides (same_place q (get_or nodes k d)) (eqb j k) (same_place_decides q (get_or nodes k d))
      (Decides-like (eqb j k) (λ (e : j ≡ k). sym here ∙ ap (λ i. get_or nodes i d) e) (λ (e : q ≡ get_or nodes k d). one_number j k (slice_get_within nodes j q at) l (here ∙ e)) (Decides-eqb j k))

  module _ (arcs : List Arc) (ends : All (HasNodes nodes) arcs) (simple : All IsSimple arcs) (k : ℕ) (l : k < length nodes) where
    abbrev place : Point
    place = get_or nodes k d

    -- how often an end that a part comes to is at the node
    abbrev come : Part → ℕ
    come q = cond q.forward (cond (eqb (arc_of arcs q.arc).end k) 1 0) (cond (eqb (arc_of arcs q.arc).begin k) 1 0)

    -- both ends of a part count as much as what leaves less what comes, and what comes twice
    by_direction : (f u v : Bool) → pos (cond u 1 0 + cond v 1 0) ≡ cond f (cond u (pos 1) (pos 0) -ℤ cond v (pos 1) (pos 0)) (cond v (pos 1) (pos 0) -ℤ cond u (pos 1) (pos 0)) +ℤ pos (2 * cond f (cond v 1 0) (cond u 1 0))
    by_direction true true true = omega (arith, ints)
    by_direction true true false = omega (arith, ints)
    by_direction true false true = omega (arith, ints)
    by_direction true false false = omega (arith, ints)
    by_direction false true true = omega (arith, ints)
    by_direction false true false = omega (arith, ints)
    by_direction false false true = omega (arith, ints)
    by_direction false false false = omega (arith, ints)

    -- so do the ends of an edge that runs along these points, from node to node
    with_points : (q : Part) (a : Arc) (xs : List Point) → arc_of arcs q.arc ≡ a → a.points ≡ xs → HasNodes nodes a → 2 ≤ length xs → pos (meets k a) ≡ total (flow place) (part_segments arcs q) +ℤ pos (2 * come q)
    with_points q a [] at is h long = absurd (omega arith)
    with_points q a (x ∷ xs) at is h long =
        let begin : same_place x place ≡ eqb a.begin k = same_node a.begin k x (h.first ∙ ap (λ ps. slice_get ps 0) is) l in
        let short : length (x ∷ xs) - 1 ≡ length xs = omega arith in
        let end : same_place (last_of x xs) place ≡ eqb a.end k = same_node a.end k (last_of x xs) (h.last ∙ ap (λ ps. slice_get ps (length ps - 1)) is ∙ ap (slice_get (x ∷ xs)) short ∙ last_there x xs) l in
        by_direction q.forward (eqb a.begin k) (eqb a.end k)
        ∙ ap₂ (λ u v. cond q.forward (cond u (pos 1) (pos 0) -ℤ cond v (pos 1) (pos 0)) (cond v (pos 1) (pos 0) -ℤ cond u (pos 1) (pos 0)) +ℤ pos (2 * cond q.forward (cond (eqb a.end k) 1 0) (cond (eqb a.begin k) 1 0))) (sym begin) (sym end)
        ∙ ap₂ (λ t b. t +ℤ pos (2 * cond q.forward (cond (eqb b.end k) 1 0) (cond (eqb b.begin k) 1 0))) (sym (flow_of_part place arcs q x xs (ap (λ (b : Arc). b.points) at ∙ is))) (sym at)

    part_meets : (q : Part) → IsPart arcs q → pos (meets k (arc_of arcs q.arc)) ≡ total (flow place) (part_segments arcs q) +ℤ pos (2 * come q)
    part_meets q i =
        let h : HasNodes nodes (arc_of arcs q.arc) = ends q.arc _ i in
        let s : IsSimple (arc_of arcs q.arc) = simple q.arc _ i in
        with_points q (arc_of arcs q.arc) (arc_of arcs q.arc).points refl refl h s.long

    -- an even number of the ends of a ring's edges meets at the node: twice as many as its parts come to it
    pub ring_meets : (r : Ring) → All (IsPart arcs) r.parts → IsRing (ring_segments arcs r) → IsEven (sum_by (λ (q : Part). meets k (arc_of arcs q.arc)) r.parts)
    ring_meets r inside h = record {
      half = sum_by come r.parts;
      is = even_sum (λ (q : Part). meets k (arc_of arcs q.arc)) come (λ q. total (flow place) (part_segments arcs q)) r.parts (λ i e b. part_meets (get_or r.parts i e) (inside i e b)) (parts_flow place arcs r h);
    }
