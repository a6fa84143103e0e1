-- Parts that lead from node to node are segments that run head to tail.
use Rattle.std.proofs.Common.{◌≡◌, ℕ, suc, ◌+◌, ◌-◌, ◌<◌, ◌≤◌, pos, Bool, true, false, cond, unwrap_or, List, [], ◌∷◌, ◌++◌, map, flat_map, reverse, take, drop, length, get_or, All, refl, ap, ap₂, sym, subst, ◌∙◌, arith, length-append}
use Rattle.std.proofs.lemmas.Grind.{reverse_onto}
use Rattle.std.proofs.lemmas.List.{reverse-append, take_more, take_all}
use Rattle.std.proofs.lemmas.List.Elements.{All-head, All-tail}
use Rattle.std.proofs.lemmas.Option.{unwrap_or-slice_get}
use Rattle.boundary_arcs.specs.Edges.{AreArcs, HasNodes, arc_of, inner}
use Rattle.boundary_arcs.specs.declared.arc.Arc.{Arc}
use Rattle.boundary_arcs.specs.declared.arc.Side.TheVariants.{Outside}
use Rattle.mesh_definitions.specs.Rings.{begins}
use Rattle.chart_model.proofs.Joining.{joins-reverse}
use Rattle.plane_geom.specs.Segments.{joins, turned}
use Rattle.plane_geom.specs.declared.Point.{Point}
use Rattle.plane_geom.specs.declared.Seg.{Seg}
use Rattle.ring_builder.specs.Lists.{IsPart}
use Rattle.ring_builder.specs.Parts.{hop_of, part_segments}
use Rattle.ring_builder.specs.declared.ring.Part.{Part}
use Rattle.ring_cutter.specs.declared.Hop.{Hop}

-- ---- segments head to tail
abbrev pub Chain : Point → List Seg → Point → Type 0
Chain p [] q = p ≡ q
Chain p (s ∷ segs) q = (s.a ≡ p) × Chain s.b segs q

chain-append : (p q r : Point) (xs ys : List Seg) → Chain p xs q → Chain q ys r → Chain p (xs ++ ys) r
chain-append p q r [] ys h k = subst (λ z. Chain z ys r) (sym h) k
chain-append p q r (s ∷ xs) ys h k = (h.0, chain-append s.b q r xs ys h.1 k)

chain_joins : (x z : Point) (between : List Point) → Chain x (joins (x ∷ (between ++ z ∷ []))) z
chain_joins x z [] = (refl, refl)
chain_joins x z (y ∷ between) = (refl, chain_joins y z between)

chain_shifts : (p q : Point) (segs : List Seg) → Chain p segs q → p ∷ map (λ (s : Seg). s.b) segs ≡ begins segs ++ q ∷ []
chain_shifts p q [] h = ap (λ z. z ∷ []) h
chain_shifts p q (s ∷ segs) h = ap₂ ◌∷◌ (sym h.0) (chain_shifts s.b q segs h.1)

-- once they come back, each ends where the next begins
pub chain_closes : (p : Point) (segs : List Seg) → Chain p segs p → map (λ (s : Seg). s.b) segs ≡ drop 1 (begins segs) ++ take 1 (begins segs)
chain_closes p [] h = refl
chain_closes p (s ∷ segs) h = chain_shifts s.b p segs h.1 ∙ ap (λ z. begins segs ++ z ∷ []) (sym h.0)

pub begins_joins : (ps : List Point) (z : Point) → begins (joins (ps ++ z ∷ [])) ≡ ps
begins_joins [] z = refl
begins_joins (x ∷ []) z = refl
begins_joins (x ∷ y ∷ ps) z = ap (λ t. x ∷ t) (begins_joins (y ∷ ps) z)

some_joins : (x z : Point) (between : List Point) → 0 < length (joins (x ∷ (between ++ z ∷ [])))
some_joins x z [] = omega arith
some_joins x z (y ∷ between) = omega arith

-- ---- the points of an edge
abbrev origin : Point
origin = record { x = pos 0; y = pos 0 }

abbrev pub no_arc : Arc
no_arc = record { points = []; begin = 0; end = 0; left = Outside; right = Outside }

-- where a node lies
abbrev pub node : List Point → ℕ → Point
node nodes n = get_or nodes n origin

-- the nodes of a part and its points between them, in its direction
abbrev pub from : List Arc → Part → ℕ
from arcs q = (hop_of arcs q).begin

abbrev pub to : List Arc → Part → ℕ
to arcs q = (hop_of arcs q).end

abbrev pub between : List Arc → Part → List Point
between arcs q = cond q.forward (inner (arc_of arcs q.arc)) (reverse (inner (arc_of arcs q.arc)))

-- two points or more are a first one, those between and a last one
ends_and_inner : (ps : List Point) → 2 ≤ length ps → ps ≡ get_or ps 0 origin ∷ (take (length ps - 2) (drop 1 ps) ++ get_or ps (length ps - 1) origin ∷ [])
ends_and_inner [] h = absurd (omega arith)
ends_and_inner (x ∷ []) h = absurd (omega arith)
ends_and_inner (x ∷ y ∷ ps) h =
    let m = length ps in
    let two : m ≡ suc (suc m) - 2 = omega arith in
    let one : suc m ≡ suc (suc m) - 1 = omega arith in
    let split : y ∷ ps ≡ take m (y ∷ ps) ++ get_or (y ∷ ps) m origin ∷ [] = sym (take_all (m + 1) (y ∷ ps) (omega arith)) ∙ take_more (y ∷ ps) m origin (omega arith) in
    ap (λ t. x ∷ t) split ∙ ap₂ (λ i j. x ∷ (take i (y ∷ ps) ++ get_or (x ∷ y ∷ ps) j origin ∷ [])) two one

reverse-ends : (x z : Point) (ps : List Point) → reverse (x ∷ (ps ++ z ∷ [])) ≡ z ∷ (reverse ps ++ x ∷ [])
reverse-ends x z ps = reverse_onto (ps ++ z ∷ []) x [] ∙ ap (λ t. t ++ x ∷ []) (reverse-append ps (z ∷ []))

abbrev pub hop : Bool → Arc → Hop
hop b a = cond b (record { begin = a.begin; end = a.end }) (record { begin = a.end; end = a.begin })

shape : (b : Bool) (nodes : List Point) (a : Arc) → a.points ≡ node nodes a.begin ∷ (inner a ++ node nodes a.end ∷ []) →
    cond b (joins a.points) (map turned (reverse (joins a.points)))
    ≡ joins (node nodes (hop b a).begin
    ∷ (cond b (inner a) (reverse (inner a)) ++ node nodes (hop b a).end ∷ []))
shape true nodes a h = ap joins h
shape false nodes a h = sym (joins-reverse a.points) ∙ ap joins (ap reverse h ∙ reverse-ends (node nodes a.begin) (node nodes a.end) (inner a))

module _ (nodes : List Point) (arcs : List Arc) (faces : ℕ) (s : AreArcs nodes arcs faces) where
  -- an edge is its begin, its inner points and its end
  pub points_are : (n : ℕ) → n < length arcs → (arc_of arcs n).points ≡ node nodes (arc_of arcs n).begin ∷ (inner (arc_of arcs n) ++ node nodes (arc_of arcs n).end ∷ [])
  points_are n l =
      let a = arc_of arcs n in
      let h : HasNodes nodes a = s.ends n no_arc l in
      let first : get_or a.points 0 origin ≡ node nodes a.begin = sym (unwrap_or-slice_get a.points 0 origin) ∙ ap (λ o. unwrap_or o origin) (sym h.first) ∙ unwrap_or-slice_get nodes a.begin origin in
      let last : get_or a.points (length a.points - 1) origin ≡ node nodes a.end = sym (unwrap_or-slice_get a.points (length a.points - 1) origin) ∙ ap (λ o. unwrap_or o origin) (sym h.last) ∙ unwrap_or-slice_get nodes a.end origin in
      ends_and_inner a.points (s.simple n no_arc l).long ∙ ap₂ (λ u v. u ∷ (inner a ++ v ∷ [])) first last

  -- a part joins the node that it leaves, its points between and the node that it comes to
  pub part_joins : (q : Part) → IsPart arcs q → part_segments arcs q ≡ joins (node nodes (from arcs q) ∷ (between arcs q ++ node nodes (to arcs q) ∷ []))
  part_joins q l = shape q.forward nodes (arc_of arcs q.arc) (points_are q.arc l)

  chain_part : (q : Part) → IsPart arcs q → Chain (node nodes (from arcs q)) (part_segments arcs q) (node nodes (to arcs q))
  chain_part q l = subst (λ z. Chain (node nodes (from arcs q)) z (node nodes (to arcs q))) (sym (part_joins q l)) (chain_joins (node nodes (from arcs q)) (node nodes (to arcs q)) (between arcs q))

  -- parts that lead from node to node, each from where the one before comes to
  abbrev pub PartsLead : ℕ → List Part → ℕ → Type 0
  PartsLead p [] q = p ≡ q
  PartsLead p (x ∷ xs) q = (from arcs x ≡ p) × PartsLead (to arcs x) xs q

  pub chain_parts : (p q : ℕ) (xs : List Part) → All (IsPart arcs) xs → PartsLead p xs q → Chain (node nodes p) (flat_map (part_segments arcs) xs) (node nodes q)
  chain_parts p q [] h l = ap (node nodes) l
  chain_parts p q (x ∷ xs) h l =
      chain-append (node nodes p) (node nodes (to arcs x)) (node nodes q) (part_segments arcs x) (flat_map (part_segments arcs) xs)
      (subst (λ n. Chain (node nodes n) (part_segments arcs x) (node nodes (to arcs x))) l.0 (chain_part x (All-head (IsPart arcs) x xs h)))
      (chain_parts (to arcs x) q xs (All-tail (IsPart arcs) x xs h) l.1)

  pub some_segments : (xs : List Part) → All (IsPart arcs) xs → 0 < length xs → 0 < length (flat_map (part_segments arcs) xs)
  some_segments [] h l = absurd (omega arith)
  some_segments (x ∷ xs) h l =
      let k = subst (λ z. 0 < length z) (sym (part_joins x (All-head (IsPart arcs) x xs h))) (some_joins (node nodes (from arcs x)) (node nodes (to arcs x)) (between arcs x)) in
      omega (arith, k, length-append (part_segments arcs x) (flat_map (part_segments arcs) xs))
