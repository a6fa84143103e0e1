use Rattle.std.proofs.Common.{◌∙◌, ℕ, ◌<◌, ◌≤◌, ◌^◌, All, Global, List, Vec, arith, length, map, subst, sym}
use Rattle.boundary_arcs.specs.Views.{arcs_view}
use Rattle.ring_builder.proofs.Places.{all_seen, places_few, places_inside}
use Rattle.ring_builder.proofs.cutting.cut_parts.Goals as goal
use Rattle.ring_builder.specs.Parts.{hop_of}
use Rattle.ring_cutter.specs.Rings.{CutsIntoRings}

cuts : (c : goal.After-deref-2) → CutsIntoRings (map (hop_of (arcs_view c.args.arcs.now).arcs) c.args.parts.now) (map (λ (v : Vec ℕ Global). v.items) c.in_ok-cut.cut.items)
cuts c = subst (λ hops. CutsIntoRings hops (map (λ (v : Vec ℕ Global). v.items) c.in_ok-cut.cut.items)) (c.deref.ensures.value ∙ c.in_ok-put_hops.ensures) c.in_ok-cut.ensures.rings

pub rings_at-requires-clause-inside : goal.rings_at-requires-clause-inside
rings_at-requires-clause-inside c =
    let n = length c.args.parts.now in
    let seen = all_seen (λ (v : Vec ℕ Global). v.items) (All (λ i. i < n)) c.in_ok-cut.cut.items (places_inside (arcs_view c.args.arcs.now).arcs c.args.parts.now (map (λ (v : Vec ℕ Global). v.items) c.in_ok-cut.cut.items) (cuts c)) in
    subst (All (λ (v : Vec ℕ Global). All (λ i. i < n) v.items)) (sym c.deref-2.ensures.value) seen

pub rings_at-requires-clause-few : goal.rings_at-requires-clause-few
rings_at-requires-clause-few c =
    let n = length c.args.parts.now in
    let seen = all_seen (λ (v : Vec ℕ Global). v.items) (λ (ring : List ℕ). length ring ≤ n) c.in_ok-cut.cut.items (places_few (arcs_view c.args.arcs.now).arcs c.args.parts.now (map (λ (v : Vec ℕ Global). v.items) c.in_ok-cut.cut.items) (cuts c)) in
    subst (All (λ (v : Vec ℕ Global). length v.items ≤ 2 ^ 27)) (sym c.deref-2.ensures.value) (λ k d l. let s = seen k d l in omega (arith, s, c.requires.few))
