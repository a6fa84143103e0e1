-- Along a ring as many edges leave a place as come to it, since its segments run head to tail and back to where they began.
use Rattle.std.proofs.Common.{◌≡◌, ℤ, pos, ◌+ℤ◌, ◌-ℤ◌, Bool, true, false, cond, Some, List, [], ◌∷◌, map, reverse, length, take, drop, refl, sym, ap, ◌∙◌, arith}
use Rattle.std.specs.List.{slice_get}
use Rattle.std.proofs.lemmas.Int.{ints}
use Rattle.std.proofs.lemmas.List.{take-append-drop}
use Rattle.std.proofs.lemmas.List.Sorted.{IsPermutation-reverse}
use Rattle.boundary_arcs.proofs.Numbering.{same_place}
use Rattle.boundary_arcs.specs.Edges.{arc_of}
use Rattle.boundary_arcs.specs.declared.arc.Arc.{Arc}
use Rattle.mesh_definitions.specs.Rings.{IsRing, begins}
use Rattle.mesh_laws.proofs.Places.{total-flat_map}
use Rattle.plane_geom.specs.Segments.{joins, turned}
use Rattle.plane_geom.specs.declared.Point.{Point}
use Rattle.plane_geom.specs.declared.Seg.{Seg}
use Rattle.plane_laws.proofs.Sums.{total-append, total-map, total-sub, total-IsPermutation}
use Rattle.plane_laws.specs.Borders.{total}
use Rattle.ring_builder.specs.Parts.{part_segments}
use Rattle.ring_builder.specs.Rings.{ring_segments}
use Rattle.ring_builder.specs.declared.ring.Part.{Part}
use Rattle.ring_builder.specs.declared.ring.Ring.{Ring}

-- the last of points of which there is at least one
abbrev pub last_of : Point → List Point → Point
last_of p [] = p
last_of p (q ∷ qs) = last_of q qs

pub last_there : (p : Point) (ps : List Point) → slice_get (p ∷ ps) (length ps) ≡ Some (last_of p ps)
last_there p [] = refl
last_there p (q ∷ qs) = last_there q qs

less_nothing : (z : ℤ) → pos 0 ≡ z -ℤ z
less_nothing z = omega (arith, ints)

one_on : (a b c t : ℤ) → t ≡ b -ℤ c → (a -ℤ b) +ℤ t ≡ a -ℤ c
one_on a b c t e = omega (arith, ints)

turned_sum : (a b t u : ℤ) → t ≡ a -ℤ b → u ≡ b -ℤ a → u ≡ pos 0 -ℤ t
turned_sum a b t u e f = omega (arith, ints)

swapped : (u x y : ℤ) → x -ℤ y ≡ u → pos 0 -ℤ u ≡ y -ℤ x
swapped u x y e = omega (arith, ints)

nothing_left : (a b : ℤ) → b ≡ a → a -ℤ b ≡ pos 0
nothing_left a b e = omega (arith, ints)

other_order : (t a b : ℤ) → a ≡ t +ℤ b → b +ℤ t ≡ a
other_order t a b e = omega (arith, ints)

module _ (p : Point) where
  -- 1 at the place, else 0
  abbrev pub stands_at : Point → ℤ
  stands_at q = cond (same_place q p) (pos 1) (pos 0)

  -- 1 for a segment that leaves the place, less 1 where it comes to it
  abbrev pub flow : Seg → ℤ
  flow s = stands_at s.a -ℤ stands_at s.b

  pub flow_along : (q : Point) (qs : List Point) → total flow (joins (q ∷ qs)) ≡ stands_at q -ℤ stands_at (last_of q qs)
  flow_along q [] = less_nothing (stands_at q)
  flow_along q (r ∷ rs) = one_on (stands_at q) (stands_at r) (stands_at (last_of r rs)) (total flow (joins (r ∷ rs))) (flow_along r rs)

  flow_turned : (segs : List Seg) → total flow (map turned (reverse segs)) ≡ pos 0 -ℤ total flow segs
  flow_turned segs = turned_sum (total (λ (s : Seg). stands_at s.a) segs) (total (λ (s : Seg). stands_at s.b) segs) (total flow segs) (total flow (map turned (reverse segs)))
      (total-sub (λ (s : Seg). stands_at s.a) (λ (s : Seg). stands_at s.b) segs)
      (total-map flow turned (reverse segs)
      ∙ sym (total-IsPermutation (λ s. flow (turned s)) segs (reverse segs) (IsPermutation-reverse segs))
      ∙ total-sub (λ (s : Seg). stands_at s.b) (λ (s : Seg). stands_at s.a) segs)

  -- what leaves the place at the beginning of a part, less what comes to it at its end
  pub flow_of_part : (arcs : List Arc) (q : Part) (x : Point) (xs : List Point) → (arc_of arcs q.arc).points ≡ x ∷ xs
      → total flow (part_segments arcs q) ≡ cond q.forward (stands_at x -ℤ stands_at (last_of x xs)) (stands_at (last_of x xs) -ℤ stands_at x)
  flow_of_part arcs q x xs e = go q.forward
    where
      forth : total flow (joins (arc_of arcs q.arc).points) ≡ stands_at x -ℤ stands_at (last_of x xs)
      forth = ap (λ ps. total flow (joins ps)) e ∙ flow_along x xs

      go : (f : Bool) → total flow (cond f (joins (arc_of arcs q.arc).points) (map turned (reverse (joins (arc_of arcs q.arc).points)))) ≡ cond f (stands_at x -ℤ stands_at (last_of x xs)) (stands_at (last_of x xs) -ℤ stands_at x)
      go true = forth
      go false = flow_turned (joins (arc_of arcs q.arc).points) ∙ swapped (total flow (joins (arc_of arcs q.arc).points)) (stands_at x) (stands_at (last_of x xs)) (sym forth)

  pub ring_flows : (segs : List Seg) → IsRing segs → total flow segs ≡ pos 0
  ring_flows segs r =
      let first = take 1 (begins segs) in
      let rest = drop 1 (begins segs) in
      let both : total stands_at (begins segs) ≡ total stands_at first +ℤ total stands_at rest = ap (total stands_at) (sym (take-append-drop 1 (begins segs))) ∙ total-append stands_at first rest in
      let coming : total (λ (s : Seg). stands_at s.b) segs ≡ total stands_at rest +ℤ total stands_at first = sym (total-map stands_at (λ (s : Seg). s.b) segs) ∙ ap (total stands_at) r.closed ∙ total-append stands_at rest first in
      total-sub (λ (s : Seg). stands_at s.a) (λ (s : Seg). stands_at s.b) segs
      ∙ nothing_left (total (λ (s : Seg). stands_at s.a) segs) (total (λ (s : Seg). stands_at s.b) segs)
      (coming ∙ other_order (total stands_at first) (total stands_at (begins segs)) (total stands_at rest) both ∙ total-map stands_at (λ (s : Seg). s.a) segs)

  pub parts_flow : (arcs : List Arc) (r : Ring) → IsRing (ring_segments arcs r) → total (λ q. total flow (part_segments arcs q)) r.parts ≡ pos 0
  parts_flow arcs r h = sym (total-flat_map flow (part_segments arcs) r.parts) ∙ ring_flows (ring_segments arcs r) h
