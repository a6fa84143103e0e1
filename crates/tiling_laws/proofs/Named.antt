-- How often pointers run along a step's segment: as often as they name its edge in that direction.
use Rattle.std.proofs.Common.{◌≡◌, ◌≢◌, ℕ, suc, ◌+◌, Bool, true, false, cond, not, ◌&&◌, eqb, Option, Some, List, [], ◌∷◌, map, reverse, flat_map, find, option_to_list, zip, AllPairs, refl, sym, ap, ap₂, ◌∙◌, subst, arith, inl, inr, ⊎_elim, eq-eqb}
use Rattle.std.proofs.lemmas.Bool.{eqb-true, false≢true}
use Rattle.std.proofs.lemmas.List.Sorted.{IsPermutation-reverse}
use Rattle.std.specs.List.{AllZip, IsDistinct}
use Rattle.mesh_definitions.specs.Pieces.{Mesh, walked}
use Rattle.mesh_definitions.specs.declared.Step.{Step}
use Rattle.chart_definitions.specs.Edges.{FollowsTrace, HasEdges}
use Rattle.chart_definitions.specs.SoundEdges.{names}
use Rattle.chart_model.specs.Lines.{edge_at, edge_segments, pointed}
use Rattle.chart_model.specs.Numbers.{edge_numbers}
use Rattle.chart_model.specs.declared.records.Edge.{Edge}
use Rattle.chart_model.specs.declared.records.Parts.{Parts}
use Rattle.chart_model.specs.declared.records.Pointer.{Pointer}
use Rattle.tiling_laws.proofs.Coinciding.{coincide, is_false, same_point, same_seg, turned_first}
use Rattle.tiling_laws.proofs.Lines.{segments_are}
use Rattle.tiling_laws.proofs.Numbers.{flag, number, number_joined, number_map, number_none, number_one, number_permuted, number_same}
use Rattle.tiling_laws.proofs.Outlines.{not_same, same_self, turned_same}
use Rattle.tiling_laws.proofs.Shared.{distinct_part, parts_apart}
use Rattle.plane_geom.specs.Segments.{turned}
use Rattle.plane_geom.specs.declared.Seg.{Seg}
use Rattle.plane_laws.proofs.Members.{In, contains, in_map}
use Rattle.s57_codes.specs.Catalogue.{rcnm_edge}

-- a segment in its own direction, or turned
abbrev pub way : Bool → Seg → Seg
way true w = w
way false w = turned w

-- partners in two lists that are zipped
pub zipped : {X Y : Type 0} (R : X → Y → Type 0) (xs : List X) (ys : List Y) (z : X × Y) → AllZip R xs ys → In (zip xs ys) z → In xs z.0 × In ys z.1 × R z.0 z.1
zipped R [] ys z h i = absurd i
zipped R (x ∷ xs) [] z h i = absurd i
zipped R (x ∷ xs) (y ∷ ys) z h i = ⊎_elim
    (λ e. (inl (ap (λ t. t.0) e), inl (ap (λ t. t.1) e), subst (λ t. R t.0 t.1) e h.0))
    (λ j. let r = zipped R xs ys z h.1 j in (inr r.0, inr r.1, r.2))
    i

-- ---- edges by their numbers

first_apart : (n k : ℕ) (ns : List ℕ) → AllPairs ◌≢◌ (n ∷ ns) → In ns k → n ≢ k
first_apart n k ns h i e = let at = contains ns k i in h 0 (suc at.0) k (omega arith) (let l = at.1 in omega arith) (e ∙ sym at.2)

later : (n : ℕ) (ns : List ℕ) → AllPairs ◌≢◌ (n ∷ ns) → AllPairs ◌≢◌ ns
later n ns h i j d l m = h (suc i) (suc j) d (omega arith) (omega arith)

-- the first edge with an edge's number is that edge
edge_found : (es : List Edge) (e : Edge) → AllPairs ◌≢◌ (map (λ (k : Edge). k.rcid) es) → In es e → find (λ (k : Edge). eqb k.rcid e.rcid) es ≡ Some e
edge_found [] e h i = absurd i
edge_found (x ∷ xs) e h i = ⊎_elim
    (λ (s : x ≡ e). ap₂ (λ b o. cond b o (find (λ (k : Edge). eqb k.rcid e.rcid) xs)) (eq-eqb x.rcid e.rcid (ap (λ (k : Edge). k.rcid) s)) (ap (λ (k : Edge). let o : Option Edge = Some k in o) s))
    (λ (j : In xs e).
    let n : x.rcid ≢ e.rcid = first_apart x.rcid e.rcid (map (λ (k : Edge). k.rcid) xs) h (in_map (λ (k : Edge). k.rcid) xs e j) in
    let no : eqb x.rcid e.rcid ≡ false = is_false (eqb x.rcid e.rcid) (λ t. n (eqb-true x.rcid e.rcid t)) in
    ap (λ b. cond b (Some x) (find (λ (k : Edge). eqb k.rcid e.rcid) xs)) no ∙ edge_found xs e (later x.rcid (map (λ (k : Edge). k.rcid) xs) h) j)
    i

same_edge : (es : List Edge) (e k : Edge) → AllPairs ◌≢◌ (map (λ (k : Edge). k.rcid) es) → In es e → In es k → e.rcid ≡ k.rcid → e ≡ k
same_edge es e k h i j n =
    let a = edge_found es e h i in
    let b : find (λ (z : Edge). eqb z.rcid e.rcid) es ≡ Some k = subst (λ r. find (λ (z : Edge). eqb z.rcid r) es ≡ Some k) (sym n) (edge_found es k h j) in
    let both : Some e ≡ Some k = sym a ∙ b in
    cc

swapped : (a b : Bool) → (a && b) ≡ (b && a)
swapped true true = refl
swapped true false = refl
swapped false true = refl
swapped false false = refl

turned_test : (w t : Seg) → same_seg w (turned t) ≡ same_seg (turned w) t
turned_test w t = swapped (same_point w.a t.b) (same_point w.b t.a)

module _ (m : Mesh) (traces : List (List Step)) (c : Parts) (edges : HasEdges m traces c) (distinct : IsDistinct coincide (flat_map (edge_segments c) c.edges)) (numbers : AllPairs ◌≢◌ (edge_numbers c)) where
  module _ (e : Edge) (trace : List Step) (s : Step) (here : In c.edges e) (follows : FollowsTrace m c e trace) (there : In trace s) (long : (walked m s).a ≢ (walked m s).b) where
    abbrev w : Seg
    w = walked m s

    coincide_way : (b : Bool) (t : Seg) → coincide (way b w) t ≡ coincide w t
    coincide_way true t = refl
    coincide_way false t = turned_first w t

    its_own : (b : Bool) → flag (same_seg (way b w) w) ≡ flag b
    its_own true = ap flag (same_self w)
    its_own false = ap flag (turned_same w long)

    stands : In (edge_segments c e) w
    stands = subst (λ z. In z w) (sym (segments_are m c e trace follows)) (in_map (walked m) trace s there)

    -- the step's own edge has its segment once, and not turned
    in_own : (b : Bool) → number (same_seg (way b w)) (edge_segments c e) ≡ flag b
    in_own b =
        let apart : IsDistinct coincide (map (walked m) trace) = subst (IsDistinct coincide) (segments_are m c e trace follows) (distinct_part (edge_segments c) c.edges e distinct here) in
        ap (number (same_seg (way b w))) (segments_are m c e trace follows)
        ∙ number_map (same_seg (way b w)) (walked m) trace
        ∙ number_one (walked m) (λ t. same_seg (way b w) (walked m t)) s trace apart there (λ t n. not_same (way b w) (walked m t) (coincide_way b (walked m t) ∙ n))
        ∙ its_own b

    -- another edge hasn't
    in_other : (b : Bool) (k : Edge) → In c.edges k → e ≢ k → number (same_seg (way b w)) (edge_segments c k) ≡ 0
    in_other b k i n = number_none (same_seg (way b w)) (edge_segments c k) (λ t j. not_same (way b w) t (coincide_way b t ∙ parts_apart (edge_segments c) c.edges e k w t distinct here i n stands j))

    in_edge : (b : Bool) (k : Edge) → In c.edges k → number (same_seg (way b w)) (edge_segments c k) ≡ flag (eqb k.rcid e.rcid && b)
    in_edge b k i = by_test (eqb k.rcid e.rcid) refl
      where
        by_test : (t : Bool) → eqb k.rcid e.rcid ≡ t → number (same_seg (way b w)) (edge_segments c k) ≡ flag (t && b)
        by_test true h = subst (λ z. number (same_seg (way b w)) (edge_segments c z) ≡ flag b) (same_edge c.edges e k numbers here i (sym (eqb-true k.rcid e.rcid h))) (in_own b)
        by_test false h = in_other b k i (λ same. false≢true (sym h ∙ eq-eqb k.rcid e.rcid (sym (ap (λ (z : Edge). z.rcid) same))))

    -- the segments of the edge that a pointer names
    found : (q : Seg → Bool) (p : Pointer) (k : Edge) → In c.edges k → p.rcid ≡ k.rcid → number q (flat_map (edge_segments c) (option_to_list (edge_at c p.rcid))) ≡ number q (edge_segments c k)
    found q p k i n =
        let at : edge_at c p.rcid ≡ Some k = subst (λ r. find (λ (z : Edge). eqb z.rcid r) c.edges ≡ Some k) (sym n) (edge_found c.edges k numbers i) in
        ap (λ o. number q (flat_map (edge_segments c) (option_to_list o))) at ∙ number_joined q (edge_segments c k) [] ∙ plus_none (number q (edge_segments c k))
      where
        plus_none : (n : ℕ) → n + 0 ≡ n
        plus_none n = omega arith

    turned_way : (b : Bool) (t : Seg) → same_seg (way b w) (turned t) ≡ same_seg (way (not b) w) t
    turned_way true t = turned_test w t
    turned_way false t = turned_test (turned w) t

    plain_way : (a b : Bool) → flag (a && b) ≡ flag (a && cond b (not false) false)
    plain_way a true = refl
    plain_way a false = refl

    other_way : (a b : Bool) → flag (a && not b) ≡ flag (a && cond b (not true) true)
    other_way a true = refl
    other_way a false = refl

    -- a pointer runs along the step's segment once where it names the edge in that direction, else not at all
    pub along : (b : Bool) (p : Pointer) (k : Edge) → In c.edges k → p.rcnm ≡ rcnm_edge → p.rcid ≡ k.rcid → number (same_seg (way b w)) (pointed c p) ≡ flag (names b e p)
    along b p k i r n =
        let segments : List Seg = flat_map (edge_segments c) (option_to_list (edge_at c p.rcid)) in
        let name : (eqb k.rcid e.rcid) ≡ (eqb p.rcnm rcnm_edge && eqb p.rcid e.rcid) = sym (ap₂ (λ x y. x && eqb y e.rcid) (eq-eqb p.rcnm rcnm_edge r) n) in
        let plain : number (same_seg (way b w)) segments ≡ flag ((eqb p.rcnm rcnm_edge && eqb p.rcid e.rcid) && b) = found (same_seg (way b w)) p k i n ∙ in_edge b k i ∙ ap (λ x. flag (x && b)) name in
        let back : number (same_seg (way b w)) (map turned (reverse segments)) ≡ flag ((eqb p.rcnm rcnm_edge && eqb p.rcid e.rcid) && not b) =
        number_map (same_seg (way b w)) turned (reverse segments)
        ∙ sym (number_permuted (λ t. same_seg (way b w) (turned t)) segments (reverse segments) (IsPermutation-reverse segments))
        ∙ number_same (λ t. same_seg (way b w) (turned t)) (same_seg (way (not b) w)) segments (turned_way b)
        ∙ found (same_seg (way (not b) w)) p k i n
        ∙ in_edge (not b) k i
        ∙ ap (λ x. flag (x && not b)) name in
        by_way (eqb p.ornt 2) segments plain back
      where
        by_way : (o : Bool) (segments : List Seg) → number (same_seg (way b w)) segments ≡ flag ((eqb p.rcnm rcnm_edge && eqb p.rcid e.rcid) && b) → number (same_seg (way b w)) (map turned (reverse segments)) ≡ flag ((eqb p.rcnm rcnm_edge && eqb p.rcid e.rcid) && not b) →
            number (same_seg (way b w)) (cond o (map turned (reverse segments)) segments) ≡ flag ((eqb p.rcnm rcnm_edge && eqb p.rcid e.rcid) && cond b (not o) o)
        by_way true segments plain back = back ∙ other_way (eqb p.rcnm rcnm_edge && eqb p.rcid e.rcid) b
        by_way false segments plain back = plain ∙ plain_way (eqb p.rcnm rcnm_edge && eqb p.rcid e.rcid) b
