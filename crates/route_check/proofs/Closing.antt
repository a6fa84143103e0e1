-- The segments of an area of a whole chart are closed: each pointer's walk has, but for an even number, the ends of its two nodes,
-- and each node stands an even number of times among the ends of the area's edges.
use Rattle.std.proofs.Common.{◌≡◌, ℕ, ◌+◌, ◌%◌, ◌/◌, ℤ, pos, ◌+ℤ◌, Bool, true, false, not, cond, eqb, Option, Some, None, List, [], ◌∷◌, ◌++◌, map, reverse, refl, sym, ◌∙◌, ap, ap₂, subst, arith, ◌&&◌, ◌||◌}
use Rattle.std.proofs.lemmas.Int.{ints}
use Rattle.std.proofs.lemmas.Bool.{eqb-true, true≢false}
use Rattle.std.proofs.lemmas.Bool.Decides.{nat_tests}
use Rattle.std.proofs.lemmas.List.{append-nil}
use Rattle.std.proofs.lemmas.List.Elements.{All-head, All-tail}
use Rattle.std.proofs.lemmas.List.Sums.{sum_by-append}
use Rattle.std.proofs.lemmas.Option.{get_or_from_slice_get, slice_get_within}
use Rattle.std.specs.Bool.{IsTrue}
use Rattle.std.specs.List.{All, count_by, find, flat_map, list_any, slice_get}
use Rattle.std.specs.Option.{option_map, option_to_list}
use Rattle.chart_model.specs.Closed.{is_odd_in, is_open, is_open_area, pointer_ends}
use Rattle.chart_model.specs.Closed as closed
use Rattle.chart_model.specs.Lines.{area_segments, connected_at, edge_at, edge_points, edge_segments, node_at, pointed}
use Rattle.chart_model.specs.Numbers.{connected_numbers, has}
use Rattle.chart_model.specs.References.{edge_names, feature_names, stands}
use Rattle.chart_model.specs.Whole.{IsWhole}
use Rattle.chart_model.specs.declared.records.Connected.{Connected}
use Rattle.chart_model.specs.declared.records.Edge.{Edge}
use Rattle.chart_model.specs.declared.records.Feature.{Feature}
use Rattle.chart_model.specs.declared.records.Parts.{Parts}
use Rattle.chart_model.specs.declared.records.Pointer.{Pointer}
use Rattle.plane_geom.specs.Segments.{joins, turned}
use Rattle.plane_geom.specs.declared.Point.{Point}
use Rattle.plane_geom.specs.declared.Seg.{Seg}
use Rattle.plane_laws.specs.CountLaws.{IsEven}
use Rattle.plane_strips.specs.Legs.{ends, same_place, times, IsClosed}
use Rattle.plane_strips.specs.RowLaws.{EndsAdd, EndsBack, EndsOfWalk}
use Rattle.s57_codes.specs.Catalogue.{prim_area}
use Rattle.route_check.proofs.Evens.{even_passes}

-- ---- nodes that are there

-- what a search finds passes it, and fails what no element passes
found_fails : {X : Type 0} (q r : X → Bool) (xs : List X) (x : X) → find q xs ≡ Some x → list_any r xs ≡ false → (q x ≡ true) × (r x ≡ false)
found_fails q r [] x e n = absurd (cc)
found_fails q r (y ∷ xs) x e n = by_test (q y) (r y) refl refl e n (found_fails q r xs x)
  where
    by_test : (b d : Bool) → q y ≡ b → r y ≡ d → cond b (Some y) (find q xs) ≡ Some x → (d || list_any r xs) ≡ false → (find q xs ≡ Some x → list_any r xs ≡ false → (q x ≡ true) × (r x ≡ false)) → (q x ≡ true) × (r x ≡ false)
    by_test true false s t f m h = let same : y ≡ x = cc in (subst (λ z. q z ≡ true) same s, subst (λ z. r z ≡ false) same t)
    by_test false false s t f m h = h f m
    by_test b true s t f m h = absurd (true≢false m)

has_found : (ks : List Connected) (n : ℕ) → has (map (λ (k : Connected). k.rcid) ks) n ≡ true → (k : Connected) × (find (λ (k : Connected). eqb k.rcid n) ks ≡ Some k)
has_found [] n h = absurd (true≢false (sym h))
has_found (k ∷ ks) n h = by_test (eqb k.rcid n) h (has_found ks n)
  where
    by_test : (b : Bool) → (b || has (map (λ (k : Connected). k.rcid) ks) n) ≡ true → (has (map (λ (k : Connected). k.rcid) ks) n ≡ true → (j : Connected) × (find (λ (k : Connected). eqb k.rcid n) ks ≡ Some j)) → (j : Connected) × (cond b (Some k) (find (λ (k : Connected). eqb k.rcid n) ks) ≡ Some j)
    by_test true f r = (k, refl)
    by_test false f r = r f

-- both nodes of an edge are there
abbrev HasNodes : Parts → Edge → Type 0
HasNodes c e = IsTrue (has (connected_numbers c) e.first) × IsTrue (has (connected_numbers c) e.last)

-- of two elements and the rest
record OfTwo {X : Type 0} (P : X → Type 0) (x y : X) (rest : List X) : Type 0 where
  first : P x
  last : P y
  more : All P rest

of_two : {X : Type 0} (P : X → Type 0) (x y : X) (rest : List X) → All P (x ∷ y ∷ rest) → OfTwo P x y rest
of_two P x y rest a = record { first = All-head P x (y ∷ rest) a; last = All-head P y rest (All-tail P x (y ∷ rest) a); more = All-tail P y rest (All-tail P x (y ∷ rest) a) }

edge_has_nodes : (c : Parts) (q : Edge → Bool) (es : List Edge) (fs : List Feature) (e : Edge) → All (λ n. IsTrue (stands c n)) (flat_map edge_names es ++ flat_map feature_names fs) → find q es ≡ Some e → HasNodes c e
edge_has_nodes c q [] fs e a f = absurd (cc)
edge_has_nodes c q (d ∷ es) fs e a f = (let t = of_two (λ n. IsTrue (stands c n)) (record { rcnm = 120; rcid = d.first }) (record { rcnm = 120; rcid = d.last }) (flat_map edge_names es ++ flat_map feature_names fs) a in by_test (q d) f (t.first, t.last) (edge_has_nodes c q es fs e t.more))
  where
    by_test : (b : Bool) → cond b (Some d) (find q es) ≡ Some e → HasNodes c d → (find q es ≡ Some e → HasNodes c e) → HasNodes c e
    by_test true g both h = let same : d ≡ e = cc in subst (HasNodes c) same both
    by_test false g both h = h g

node_there : (c : Parts) (n : ℕ) → IsTrue (has (connected_numbers c) n) → (p : Point) × (node_at c n ≡ Some p)
node_there c n h = let k = has_found c.connected n h in (k.0.at, ap (option_map (λ (k : Connected). k.at)) k.1)

-- ---- the ends of walks

-- whether there is a point, and it is p
abbrev is_at : Point → Option Point → Bool
is_at p None = false
is_at p (Some q) = same_place q p

-- whether the node with a number stands at p
abbrev stands_at : Parts → Point → ℕ → Bool
stands_at c p n = is_at p (node_at c n)

-- as many ends as nodes, but for an even number
abbrev Agree : ℤ → ℕ → Type 0
Agree z n = (k : ℤ) × (z ≡ (k +ℤ k) +ℤ pos n)

two_ends : (u v : Bool) → cond u (pos 1) (pos 0) +ℤ (cond v (pos 1) (pos 0) +ℤ pos 0) ≡ pos (0 + cond u 1 0 + cond v 1 0)
two_ends true true = omega (arith, ints)
two_ends true false = omega (arith, ints)
two_ends false true = omega (arith, ints)
two_ends false false = omega (arith, ints)

module _ (walk : EndsOfWalk) (lists : EndsAdd) (back : EndsBack) (c : Parts) (p : Point) where
  edge_ends : (e : Edge) → HasNodes c e → Agree (times p (ends (edge_segments c e))) (count_by (stands_at c p) (e.first ∷ e.last ∷ []))
  edge_ends e h =
      let a = node_there c e.first h.0 in
      let b = node_there c e.last h.1 in
      let points : edge_points c e ≡ a.0 ∷ (e.inner ++ b.0 ∷ []) = ap₂ (λ s t. option_to_list s ++ (e.inner ++ option_to_list t)) a.1 b.1 in
      let w = walk a.0 b.0 e.inner p in
      let nodes : count_by (stands_at c p) (e.first ∷ e.last ∷ []) ≡ 0 + cond (same_place a.0 p) 1 0 + cond (same_place b.0 p) 1 0 = ap₂ (λ s t. 0 + cond (is_at p s) 1 0 + cond (is_at p t) 1 0) a.1 b.1 in
      (w.0, ap (λ t. times p (ends (joins t))) points ∙ omega (arith, ints, w.1, two_ends (same_place a.0 p) (same_place b.0 p), nodes))

  either_way : (b : Bool) (segs : List Seg) → times p (ends (cond b (map turned (reverse segs)) segs)) ≡ times p (ends segs)
  either_way true segs = back segs p
  either_way false segs = refl

  pointer_agrees : (b : Bool) (o : Option Edge) → ((e : Edge) → o ≡ Some e → HasNodes c e) → Agree (times p (ends (cond b (map turned (reverse (flat_map (edge_segments c) (option_to_list o)))) (flat_map (edge_segments c) (option_to_list o))))) (count_by (stands_at c p) (flat_map (λ (e : Edge). e.first ∷ e.last ∷ []) (option_to_list o)))
  pointer_agrees b None h = (pos 0, either_way b [] ∙ omega (arith, ints))
  pointer_agrees b (Some e) h =
      let a = edge_ends e (h e refl) in
      (a.0, either_way b (edge_segments c e ++ []) ∙ ap (λ t. times p (ends t)) (append-nil (edge_segments c e)) ∙ a.1)

  area_agrees : (ps : List Pointer) → ((e : Edge) (n : ℕ) → edge_at c n ≡ Some e → HasNodes c e) → Agree (times p (ends (flat_map (pointed c) ps))) (count_by (stands_at c p) (closed.ends c ps))
  area_agrees [] h = (pos 0, omega (arith, ints))
  area_agrees (q ∷ ps) h =
      let one = pointer_agrees (eqb q.ornt 2) (edge_at c q.rcid) (λ e. h e q.rcid) in
      let more = area_agrees ps h in
      (one.0 +ℤ more.0, omega (arith, ints, lists (pointed c q) (flat_map (pointed c) ps) p, one.1, more.1, sum_by-append (λ n. cond (stands_at c p n) 1 0) (pointer_ends c q) (closed.ends c ps)))

even_of : (k : ℤ) (n : ℕ) (z : ℤ) → n % 2 ≡ 0 → z ≡ (k +ℤ k) +ℤ pos n → IsEven z
even_of k n z e f = (k +ℤ pos (n / 2), omega (arith, ints, f, half))
  where
    half : n ≡ n / 2 + n / 2
    half = omega (arith, e)

-- ---- each node stands an even number of times

closed_pointers : (b : Bool) (a : ℕ) → not (eqb a 3 && b) ≡ true → a ≡ 3 → b ≡ false
closed_pointers false a n e = refl
closed_pointers true a n e = absurd (true≢false (sym (sym (ap (λ k. not (eqb k 3 && true)) e) ∙ n)))

even_count : (n : ℕ) → eqb (n % 2) 1 ≡ false → n % 2 ≡ 0
even_count n e = grind (arith, nat_tests)

node_even : (c : Parts) (p : Point) (ns : List ℕ) (n : ℕ) (o : Option Connected) → connected_at c n ≡ o → list_any (λ (k : Connected). is_odd_in ns k.rcid) c.connected ≡ false → is_at p (option_map (λ (k : Connected). k.at) o) ≡ true → count_by (λ k. eqb k n) ns % 2 ≡ 0
node_even c p ns n None e closed there = absurd (true≢false (sym there))
node_even c p ns n (Some k) e closed there =
    let f = found_fails (λ (k : Connected). eqb k.rcid n) (λ (k : Connected). is_odd_in ns k.rcid) c.connected k e closed in
    even_count (count_by (λ k. eqb k n) ns) (subst (λ m. is_odd_in ns m ≡ false) (eqb-true k.rcid n f.0) f.1)

pub areas_closed : EndsOfWalk → EndsAdd → EndsBack → (c : Parts) (k : ℕ) (f : Feature) → IsWhole c → slice_get c.features k ≡ Some f → f.prim ≡ prim_area → IsClosed (area_segments c f)
areas_closed walk lists back c k f w at area p =
    let agree = area_agrees walk lists back c p f.pointers (λ e n g. edge_has_nodes c (λ (e : Edge). eqb e.rcid n) c.edges c.features e w.found g) in
    let closes : IsTrue (not (is_open_area c f)) = subst (λ g. IsTrue (not (is_open_area c g))) (get_or_from_slice_get c.features k f f at) (w.closed k f (slice_get_within c.features k f at)) in
    let none : is_open c f.pointers ≡ false = closed_pointers (is_open c f.pointers) f.prim closes area in
    even_of agree.0 _ _ (even_passes (stands_at c p) (closed.ends c f.pointers) (λ n there. node_even c p (closed.ends c f.pointers) n (connected_at c n) refl none there)) agree.1
