-- Parts of a simple ring of nodes pass no point twice.
use Rattle.std.proofs.Common.{◌≡◌, ◌≢◌, ℕ, zero, suc, ◌-◌, ◌<◌, Bool, true, false, cond, List, [], ◌∷◌, ◌++◌, map, flat_map, reverse, take, drop, length, get_or, All, AllPairs, refl, ap, ap₂, sym, subst, ◌∙◌, ◌⊎◌, inl, inr, ⊎_elim, arith, length-append}
use Rattle.std.proofs.lemmas.Grind.{reverse_onto}
use Rattle.std.proofs.lemmas.Bool.{cases_lt}
use Rattle.std.proofs.lemmas.List.{get_or_default, get_or-map, length-map, take_at, map-append, reverse-append}
use Rattle.std.proofs.lemmas.List.Elements.{All-head, All-tail}
use Rattle.boundary_arcs.specs.Edges.{AreArcs, HasNodes, IsSimple, arc_of, inner}
use Rattle.boundary_arcs.specs.declared.arc.Arc.{Arc}
use Rattle.mesh_definitions.specs.Rings.{IsRing, begins}
use Rattle.plane_geom.specs.declared.Point.{Point}
use Rattle.plane_geom.specs.declared.Seg.{Seg}
use Rattle.plane_laws.proofs.Members.{In, Distinct, contains, is_in, distinct, in_left, in_right}
use Rattle.ring_builder.proofs.Bordering.{Rises, edges_apart}
use Rattle.ring_builder.proofs.Outlines.{PartsLead, begins_joins, between, chain_closes, chain_parts, from, hop, no_arc, node, part_joins, points_are, some_segments, to}
use Rattle.ring_builder.proofs.Places.{of_each, picked_known}
use Rattle.ring_builder.specs.Lists.{IsPart, part_at}
use Rattle.ring_builder.specs.Parts.{hop_of, part_segments}
use Rattle.ring_builder.specs.declared.ring.Part.{Part}
use Rattle.ring_cutter.specs.Rings as cutter
use Rattle.ring_cutter.specs.declared.Hop.{Hop}

-- ---- lists without repetition
in_either : {X : Type 0} (xs ys : List X) (z : X) → In (xs ++ ys) z → In xs z ⊎ In ys z
in_either [] ys z i = inr i
in_either (x ∷ xs) ys z i = ⊎_elim (λ e. inl (inl e)) (λ j. ⊎_elim (λ k. inl (inr k)) (λ k. inr k) (in_either xs ys z j)) i

distinct-append : {X : Type 0} (xs ys : List X) → Distinct xs → Distinct ys → ((z : X) → In xs z → In ys z → ⊥) → Distinct (xs ++ ys)
distinct-append [] ys d e apart = e
distinct-append (x ∷ xs) ys d e apart = (
  λ i. ⊎_elim (λ j. d.0 j) (λ j. apart x (inl refl) j) (in_either xs ys x i),
  distinct-append xs ys d.1 e (λ z i j. apart z (inr i) j),
)

in_reverse : {X : Type 0} (xs : List X) (z : X) → In (reverse xs) z → In xs z
in_reverse [] z i = i
in_reverse (x ∷ xs) z i = ⊎_elim
    (λ j. inr (in_reverse xs z j))
    (λ j. ⊎_elim (λ e. inl e) (λ k. absurd k) j)
    (in_either (reverse xs) (x ∷ []) z (subst (λ l. In l z) (reverse_onto xs x []) i))

distinct-reverse : {X : Type 0} (xs : List X) → Distinct xs → Distinct (reverse xs)
distinct-reverse [] d = tt
distinct-reverse (x ∷ xs) d = subst Distinct (sym (reverse_onto xs x []))
    (distinct-append (reverse xs) (x ∷ []) (distinct-reverse xs d.1) (λ i. i, tt) (λ z i j. ⊎_elim (λ e. d.0 (in_reverse xs x (subst (In (reverse xs)) (sym e) i))) (λ k. k) j))

pub all_apart : {X : Type 0} (xs : List X) → Distinct xs → AllPairs ◌≢◌ xs
all_apart [] d i j e l m = absurd (omega arith)
all_apart (x ∷ xs) d i zero e l m = absurd (omega arith)
all_apart (x ∷ xs) d zero (suc j) e l m = λ q.
    let y = get_or xs j e in
    let k : j < length xs = omega arith in
    d.0 (subst (In xs) (sym q) (is_in xs y (j, k, get_or_default xs j y e k)))
all_apart (x ∷ xs) d (suc i) (suc j) e l m = all_apart xs d.1 i j e (omega arith) (omega arith)

-- the pieces of different elements have nothing in common
abbrev Apart : {X Y : Type 0} → (X → List Y) → List X → Type 0
Apart g [] = Unit {0}
Apart {X} {Y} g (x ∷ xs) = ((q : X) → In xs q → (z : Y) → In (g x) z → In (g q) z → ⊥) × Apart g xs

in_piece : {X Y : Type 0} (g : X → List Y) (xs : List X) (z : Y) → In (flat_map g xs) z → (q : X) × In xs q × In (g q) z
in_piece g [] z i = absurd i
in_piece g (x ∷ xs) z i = ⊎_elim
    (λ j. (x, inl refl, j))
    (λ j. let r = in_piece g xs z j in (r.0, inr r.1, r.2))
    (in_either (g x) (flat_map g xs) z i)

distinct-flat_map : {X Y : Type 0} (g : X → List Y) (xs : List X) → ((q : X) → In xs q → Distinct (g q)) → Apart g xs → Distinct (flat_map g xs)
distinct-flat_map g [] h a = tt
distinct-flat_map g (x ∷ xs) h a = distinct-append (g x) (flat_map g xs) (h x (inl refl)) (distinct-flat_map g xs (λ q i. h q (inr i)) a.1) (λ z i j. let r = in_piece g xs z j in a.0 r.0 r.1 z i r.2)

map-flat_map : {X Y Z : Type 0} (f : Y → Z) (g : X → List Y) (xs : List X) → map f (flat_map g xs) ≡ flat_map (λ x. map f (g x)) xs
map-flat_map f g [] = refl
map-flat_map f g (x ∷ xs) = map-append f (g x) (flat_map g xs) ∙ ap (λ z. map f (g x) ++ z) (map-flat_map f g xs)

flat_map_agree : {X Y : Type 0} (f g : X → List Y) (xs : List X) → ((x : X) → In xs x → f x ≡ g x) → flat_map f xs ≡ flat_map g xs
flat_map_agree f g [] h = refl
flat_map_agree f g (x ∷ xs) h = ap₂ ◌++◌ (h x (inl refl)) (flat_map_agree f g xs (λ y i. h y (inr i)))

-- ---- the points where the segments of a part begin
abbrev starts : List Point → List Arc → Part → List Point
starts nodes arcs q = node nodes (from arcs q) ∷ between arcs q

front : (x z : Point) (ps : List Point) → take (length (x ∷ (ps ++ z ∷ [])) - 1) (x ∷ (ps ++ z ∷ [])) ≡ x ∷ ps
front x z ps = take_at (x ∷ ps) (z ∷ []) (length (x ∷ (ps ++ z ∷ [])) - 1) (omega (arith, length-append ps (z ∷ [])))

inner_in : (b : Bool) (ps : List Point) (z : Point) → In (cond b ps (reverse ps)) z → In ps z
inner_in true ps z i = i
inner_in false ps z i = in_reverse ps z i

-- an edge's own points
module _ (nodes : List Point) (a : Arc) (h : a.points ≡ node nodes a.begin ∷ (inner a ++ node nodes a.end ∷ [])) (s : IsSimple a) where
  ends_in : (b : Bool) → In a.points (node nodes (hop b a).begin)
  ends_in true = subst (λ l. In l (node nodes a.begin)) (sym h) (inl refl)
  ends_in false = subst (λ l. In l (node nodes a.end)) (sym h) (inr (in_right (inner a) (node nodes a.end ∷ []) (node nodes a.end) (inl refl)))

  mids_in : (z : Point) → In (inner a) z → In a.points z
  mids_in z i = subst (λ l. In l z) (sym h) (inr (in_left (inner a) (node nodes a.end ∷ []) z i))

  starts_distinct : (b : Bool) → Distinct (node nodes (hop b a).begin ∷ cond b (inner a) (reverse (inner a)))
  starts_distinct true = subst Distinct (front (node nodes a.begin) (node nodes a.end) (inner a)) (distinct _ (subst (λ l. AllPairs ◌≢◌ (take (length l - 1) l)) h s.but_last))
  starts_distinct false =
      let d = distinct-reverse (inner a ++ node nodes a.end ∷ []) (distinct _ (subst (λ l. AllPairs ◌≢◌ (drop 1 l)) h s.but_first)) in
      subst Distinct (reverse_last (inner a) (node nodes a.end)) d
    where
      reverse_last : (ps : List Point) (z : Point) → reverse (ps ++ z ∷ []) ≡ z ∷ reverse ps
      reverse_last ps z = reverse-append ps (z ∷ [])

module _ (nodes : List Point) (arcs : List Arc) (faces : ℕ) (s : AreArcs nodes arcs faces) where
  begins_part : (q : Part) → IsPart arcs q → begins (part_segments arcs q) ≡ starts nodes arcs q
  begins_part q l = ap begins (part_joins nodes arcs faces s q l) ∙ begins_joins (starts nodes arcs q) (node nodes (to arcs q))

  part_distinct : (q : Part) → IsPart arcs q → Distinct (starts nodes arcs q)
  part_distinct q l = starts_distinct nodes (arc_of arcs q.arc) (points_are nodes arcs faces s q.arc l) (s.simple q.arc no_arc l) q.forward

  node_in : (q : Part) → IsPart arcs q → In (arc_of arcs q.arc).points (node nodes (from arcs q))
  node_in q l = ends_in nodes (arc_of arcs q.arc) (points_are nodes arcs faces s q.arc l) (s.simple q.arc no_arc l) q.forward

  mid_in : (q : Part) (z : Point) → IsPart arcs q → In (between arcs q) z → In (arc_of arcs q.arc).points z
  mid_in q z l i = mids_in nodes (arc_of arcs q.arc) (points_are nodes arcs faces s q.arc l) (s.simple q.arc no_arc l) z (inner_in q.forward (inner (arc_of arcs q.arc)) z i)

  pub from_inside : (q : Part) → IsPart arcs q → from arcs q < length nodes
  from_inside q l = let h : HasNodes nodes (arc_of arcs q.arc) = s.ends q.arc no_arc l in either q.forward (arc_of arcs q.arc) h
    where
      either : (b : Bool) (a : Arc) → HasNodes nodes a → (hop b a).begin < length nodes
      either true a h = h.begins
      either false a h = h.ends

  pub to_inside : (q : Part) → IsPart arcs q → to arcs q < length nodes
  to_inside q l = let h : HasNodes nodes (arc_of arcs q.arc) = s.ends q.arc no_arc l in either q.forward (arc_of arcs q.arc) h
    where
      either : (b : Bool) (a : Arc) → HasNodes nodes a → (hop b a).end < length nodes
      either true a h = h.ends
      either false a h = h.begins

  -- nodes at one place are one
  one_node : (m n : ℕ) → m < length nodes → n < length nodes → node nodes m ≡ node nodes n → m ≡ n
  one_node m n k l e = ⊎_elim
      (λ h. absurd (s.nodes_once m n (node nodes 0) h l (get_or_default nodes m (node nodes 0) _ k ∙ e ∙ sym (get_or_default nodes n (node nodes 0) _ l))))
      (λ h. ⊎_elim (λ g. absurd (s.nodes_once n m (node nodes 0) g k (get_or_default nodes n (node nodes 0) _ l ∙ sym e ∙ sym (get_or_default nodes m (node nodes 0) _ k)))) (λ g. omega (arith, g, h)) (cases_lt n m))
      (cases_lt m n)

  -- an inner point of one edge is no point of another
  lone : (q r : Part) (z : Point) → IsPart arcs q → IsPart arcs r → (q.arc ≡ r.arc → ⊥) → In (between arcs q) z → In (arc_of arcs r.arc).points z → ⊥
  lone q r z l m d i j = s.alone q.arc r.arc z l m d (contains (inner (arc_of arcs q.arc)) z (inner_in q.forward (inner (arc_of arcs q.arc)) z i)) (contains (arc_of arcs r.arc).points z j)

  parts_apart : (q r : Part) → IsPart arcs q → IsPart arcs r → (from arcs q ≡ from arcs r → ⊥) → (q.arc ≡ r.arc → ⊥) → (z : Point) → In (starts nodes arcs q) z → In (starts nodes arcs r) z → ⊥
  parts_apart q r l m f d z i j = ⊎_elim
      (λ e. ⊎_elim
      (λ g. f (one_node (from arcs q) (from arcs r) (from_inside q l) (from_inside r m) (e ∙ sym g)))
      (λ g. lone r q z m l (λ x. d (sym x)) g (subst (In (arc_of arcs q.arc).points) e (node_in q l)))
      j)
      (λ e. ⊎_elim
      (λ g. lone q r z l m d e (subst (In (arc_of arcs r.arc).points) g (node_in r m)))
      (λ g. lone q r z l m d e (mid_in r z m g))
      j)
      i

  -- ---- a ring of places
  module _ (parts : List Part) (known : All (IsPart arcs) parts) (rise : Rises 0 parts) where
    abbrev pub hops_begin : ℕ → ℕ
    hops_begin = cutter.begins (map (hop_of arcs) parts)

    abbrev pub hops_end : ℕ → ℕ
    hops_end = cutter.ends (map (hop_of arcs) parts)

    abbrev no_part : Part
    no_part = record { arc = 0; forward = false }

    hop_at : (i : ℕ) → i < length parts → get_or (map (hop_of arcs) parts) i (record { begin = 0; end = 0 }) ≡ hop_of arcs (part_at parts i)
    hop_at i l = get_or-map (hop_of arcs) parts i no_part (record { begin = 0; end = 0 }) l

    pub begin_at : (i : ℕ) → i < length parts → hops_begin i ≡ from arcs (part_at parts i)
    begin_at i l = ap (λ (h : Hop). h.begin) (hop_at i l)

    pub end_at : (i : ℕ) → i < length parts → hops_end i ≡ to arcs (part_at parts i)
    end_at i l = ap (λ (h : Hop). h.end) (hop_at i l)

    leads_on : (p q : ℕ) (places : List ℕ) → All (λ i. i < length parts) places → cutter.Leads hops_begin hops_end p places q → PartsLead nodes arcs faces s p (map (part_at parts) places) q
    leads_on p q [] h l = l
    leads_on p q (i ∷ places) h l =
        let k = All-head (λ i. i < length parts) i places h in
        (sym (begin_at i k) ∙ l.0, leads_on (to arcs (part_at parts i)) q places (All-tail (λ i. i < length parts) i places h) (subst (λ n. cutter.Leads hops_begin hops_end n places q) (end_at i k) l.1))

    known_at : (i : ℕ) → i < length parts → IsPart arcs (part_at parts i)
    known_at i l = known i no_part l

    in_places : (places : List ℕ) (q : Part) → In (map (part_at parts) places) q → (j : ℕ) × (j < length places) × (part_at parts (get_or places j 0) ≡ q)
    in_places [] q i = absurd i
    in_places (x ∷ places) q i = ⊎_elim (λ e. (0, omega arith, e)) (λ k. let r = in_places places q k in (suc r.0, let l = r.1 in omega arith, r.2)) i

    all_parts_apart : (places : List ℕ) → All (λ i. i < length parts) places → cutter.IsSimple hops_begin places → Apart (starts nodes arcs) (map (part_at parts) places)
    all_parts_apart [] h d = tt
    all_parts_apart (x ∷ places) h d =
        let tail = All-tail (λ i. i < length parts) x places h in
        let k = All-head (λ i. i < length parts) x places h in (
          λ q i.
              let r = in_places places q i in
              let y = get_or places r.0 0 in
              let l : y < length parts = tail r.0 0 r.1 in
              let no : hops_begin x ≡ hops_begin y → ⊥ = λ e. let z : 0 ≡ suc r.0 = d 0 (suc r.0) (omega arith) (let m = r.1 in omega arith) e in omega (arith, z) in
              subst (λ q. (z : Point) → In (starts nodes arcs (part_at parts x)) z → In (starts nodes arcs q) z → ⊥) r.2
              (parts_apart (part_at parts x) (part_at parts y) (known_at x k) (known_at y l)
              (λ e. no (begin_at x k ∙ e ∙ sym (begin_at y l)))
              (λ e. edges_apart 0 parts x y no_part rise k l (λ i. no (ap hops_begin i)) e)),
          all_parts_apart places tail (λ i j l m e. let z : suc i ≡ suc j = d (suc i) (suc j) (omega arith) (omega arith) e in omega (arith, z)),
        )

    -- a closed walk that passes no node twice is a ring of segments that passes no point twice
    pub ring_at : (places : List ℕ) → All (λ i. i < length parts) places → cutter.IsCycle hops_begin hops_end places → IsRing (flat_map (part_segments arcs) (map (part_at parts) places))
    ring_at places h r =
        let ps = map (part_at parts) places in
        let all = picked_known arcs parts places known h in
        let g = starts nodes arcs in
        let same : begins (flat_map (part_segments arcs) ps) ≡ flat_map g ps = map-flat_map (λ (s : Seg). s.a) (part_segments arcs) ps ∙ flat_map_agree (λ q. begins (part_segments arcs q)) g ps (λ q i. begins_part q (of_each (IsPart arcs) ps q all i)) in
        record {
          some = some_segments nodes arcs faces s ps all (let l = r.long in omega (arith, l, length-map places (part_at parts)));
          closed = chain_closes (node nodes r.start) (flat_map (part_segments arcs) ps) (chain_parts nodes arcs faces s r.start r.start ps all (leads_on r.start r.start places h r.closed));
          simple = subst (AllPairs ◌≢◌) (sym same) (all_apart (flat_map g ps) (distinct-flat_map g ps (λ q i. part_distinct q (of_each (IsPart arcs) ps q all i)) (all_parts_apart places h r.simple)));
        }
