-- What pointers of made parts name is there, and where the edges end that they name.
use Rattle.std.proofs.Common.{◌≡◌, ℕ, ◌+◌, ◌*◌, ◌<◌, ◌%◌, Bool, false, cond, eqb, Some, List, [], ◌∷◌, ◌++◌, map, length, All, count_by, sum_by, refl, sym, ap, ap₂, subst, ◌∙◌, arith}
use Rattle.std.specs.Bool.{IsTrue}
use Rattle.std.specs.List.{flat_map}
use Rattle.std.specs.Option.{option_to_list}
use Rattle.std.proofs.lemmas.Bool.Decides.{nat_tests}
use Rattle.std.proofs.lemmas.List.Concat.{flat_map-append}
use Rattle.std.proofs.lemmas.List.Elements.{All-head, All-tail}
use Rattle.std.proofs.lemmas.List.Folds.{list_any_none}
use Rattle.std.proofs.lemmas.List.FromFn.{length-map-range_with_len}
use Rattle.std.proofs.lemmas.List.Sums.{sum_by-append, sum_by-cons}
use Rattle.boundary_arcs.specs.Edges.{arc_of}
use Rattle.boundary_arcs.specs.declared.arc.Arc.{Arc}
use Rattle.chart_model.specs.Closed.{ends, is_odd_in, is_open, pointer_ends}
use Rattle.chart_model.specs.Lines.{edge_at}
use Rattle.chart_model.specs.References.{stands}
use Rattle.chart_model.specs.declared.records.Connected.{Connected}
use Rattle.chart_model.specs.declared.records.Edge.{Edge}
use Rattle.chart_model.specs.declared.records.Isolated.{Isolated}
use Rattle.chart_model.specs.declared.records.Parts.{Parts}
use Rattle.chart_model.specs.declared.records.Pointer.{Pointer}
use Rattle.built_parts.specs.Areas.{pointer_of}
use Rattle.built_parts.specs.Nodes.{connected_record, connected_records, edge_record, edge_records}
use Rattle.face_fill.specs.Numbered.{FacesView}
use Rattle.parts_laws.proofs.Counting.{CountsUp, found_place, made_count, number_stands}
use Rattle.parts_laws.proofs.Lists.{all_made}
use Rattle.parts_laws.proofs.Faultless.NodeMeetings.{IsEven, meets}
use Rattle.plane_geom.specs.declared.Point.{Point}
use Rattle.ring_builder.specs.Lists.{IsPart}
use Rattle.ring_builder.specs.declared.ring.Part.{Part}

-- isolated nodes are numbered from 1, and connected nodes and edges are those of points and arcs
pub record HasRecords (c : Parts) (nodes : List Point) (arcs : List Arc) : Type 0 where
  pub isolated : CountsUp (λ (n : Isolated). n.rcid) c.isolated
  pub connected : c.connected ≡ connected_records nodes
  pub edges : c.edges ≡ edge_records arcs

-- an even number of the ends of edges that pointers name is at the node with a number
abbrev pub MeetsEvenly : Parts → ℕ → List Pointer → Type 0
MeetsEvenly c n ps = IsEven (count_by (λ m. eqb m n) (ends c ps))

next_number : (a b : ℕ) → eqb (a + 1) (b + 1) ≡ eqb a b
next_number a b = grind (arith, nat_tests)

not_odd : (n : ℕ) → IsEven n → eqb (n % 2) 1 ≡ false
not_odd n e = let h = e.half in let f : n ≡ 2 * h = e.is in grind (arith, nat_tests)

count_two : (k a b : ℕ) → count_by (λ m. eqb m (k + 1)) ((a + 1) ∷ (b + 1) ∷ []) ≡ cond (eqb a k) 1 0 + cond (eqb b k) 1 0
count_two k a b =
    let f : ℕ → ℕ = λ m. cond (eqb m (k + 1)) 1 0 in
    sum_by-cons f (a + 1) ((b + 1) ∷ []) ∙ ap (λ n. f (a + 1) + n) (sum_by-cons f (b + 1) []) ∙ ap₂ (λ s t. cond s 1 0 + (cond t 1 0 + 0)) (next_number a k) (next_number b k) ∙ omega arith

module _ (c : Parts) (n : ℕ) where
  pub none_evenly : MeetsEvenly c n []
  none_evenly = record { half = 0; is = omega arith }

  pub both_evenly : (ps qs : List Pointer) → MeetsEvenly c n ps → MeetsEvenly c n qs → MeetsEvenly c n (ps ++ qs)
  both_evenly ps qs p q =
      let f : ℕ → ℕ = λ m. cond (eqb m n) 1 0 in
      let e = ap (sum_by f) (flat_map-append (pointer_ends c) ps qs) ∙ sum_by-append f (ends c ps) (ends c qs) in
      record { half = p.half + q.half; is = e ∙ ap₂ ◌+◌ p.is q.is ∙ omega arith }

  pub each_evenly : {X : Type 0} (f : X → List Pointer) (xs : List X) → All (λ x. MeetsEvenly c n (f x)) xs → MeetsEvenly c n (flat_map f xs)
  each_evenly f [] h = none_evenly
  each_evenly f (x ∷ xs) h = both_evenly (f x) (flat_map f xs) (All-head (λ z. MeetsEvenly c n (f z)) x xs h) (each_evenly f xs (All-tail (λ z. MeetsEvenly c n (f z)) x xs h))

module _ (c : Parts) (nodes : List Point) (arcs : List Arc) (r : HasRecords c nodes arcs) where
  pub connected_count : CountsUp (λ (k : Connected). k.rcid) c.connected
  connected_count = subst (CountsUp (λ (k : Connected). k.rcid)) (sym r.connected) (made_count (λ (k : Connected). k.rcid) (connected_record nodes) (length nodes) (λ k. refl))

  pub edges_count : CountsUp (λ (e : Edge). e.rcid) c.edges
  edges_count = subst (CountsUp (λ (e : Edge). e.rcid)) (sym r.edges) (made_count (λ (e : Edge). e.rcid) (edge_record arcs) (length arcs) (λ k. refl))

  edges_length : length c.edges ≡ length arcs
  edges_length = ap length r.edges ∙ length-map-range_with_len (edge_record arcs) 0 (length arcs)

  nodes_length : length c.connected ≡ length nodes
  nodes_length = ap length r.connected ∙ length-map-range_with_len (connected_record nodes) 0 (length nodes)

  pub edge_stands : (k : ℕ) → k < length arcs → IsTrue (stands c (record { rcnm = 130; rcid = k + 1 }))
  edge_stands k l = number_stands (λ (e : Edge). e.rcid) c.edges edges_count k (omega (arith, edges_length))

  pub node_stands : (k : ℕ) → k < length nodes → IsTrue (stands c (record { rcnm = 120; rcid = k + 1 }))
  node_stands k l = number_stands (λ (k : Connected). k.rcid) c.connected connected_count k (omega (arith, nodes_length))

  pub isolated_stands : (k : ℕ) → k < length c.isolated → IsTrue (stands c (record { rcnm = 110; rcid = k + 1 }))
  isolated_stands k l = number_stands (λ (n : Isolated). n.rcid) c.isolated r.isolated k l

  edge_found : (k : ℕ) → k < length arcs → edge_at c (k + 1) ≡ Some (edge_record arcs k)
  edge_found k l = found_place (λ (e : Edge). e.rcid) (edge_record arcs) c.edges (length arcs) k (λ i. refl) r.edges l

  -- the ends of the edges that parts name, as pointers, are those of their arcs
  pub ends_counted : (v : FacesView) (exterior : Bool) (k : ℕ) (parts : List Part) → All (IsPart arcs) parts → count_by (λ m. eqb m (k + 1)) (ends c (map (pointer_of v arcs exterior) parts)) ≡ sum_by (λ (q : Part). meets k (arc_of arcs q.arc)) parts
  ends_counted v exterior k [] h = refl
  ends_counted v exterior k (q ∷ qs) h =
      let f : ℕ → ℕ = λ m. cond (eqb m (k + 1)) 1 0 in
      let a = arc_of arcs q.arc in
      let found : pointer_ends c (pointer_of v arcs exterior q) ≡ (a.begin + 1) ∷ (a.end + 1) ∷ [] = ap (λ o. flat_map (λ (e : Edge). e.first ∷ e.last ∷ []) (option_to_list o)) (edge_found q.arc (All-head (IsPart arcs) q qs h)) in
      sum_by-append f (pointer_ends c (pointer_of v arcs exterior q)) (ends c (map (pointer_of v arcs exterior) qs))
      ∙ ap₂ ◌+◌ (ap (sum_by f) found ∙ count_two k a.begin a.end) (ends_counted v exterior k qs (All-tail (IsPart arcs) q qs h))
      ∙ sym (sum_by-cons (λ (p : Part). meets k (arc_of arcs p.arc)) q qs)

  -- an area at each of whose nodes an even number of ends meets is not open
  pub not_open : (ps : List Pointer) → ((k : ℕ) → k < length nodes → MeetsEvenly c (k + 1) ps) → is_open c ps ≡ false
  not_open ps h =
      let closes : Connected → Type 0 = λ n. is_odd_in (ends c ps) n.rcid ≡ false in
      list_any_none (λ (n : Connected). is_odd_in (ends c ps) n.rcid) c.connected
      (subst (All closes) (sym r.connected) (all_made closes (connected_record nodes) (length nodes) (λ k l. not_odd _ (h k l))))
