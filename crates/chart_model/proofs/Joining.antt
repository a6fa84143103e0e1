-- Segments along points: one more point, and points in reversed order.
use Rattle.std.proofs.Common.{◌≡◌, ℕ, ◌+◌, ◌-◌, ◌<◌, List, [], ◌∷◌, ◌++◌, map, reverse, length, take, get_or, refl, sym, ◌∙◌, ap, append_assoc, arith, Option, Some, None, cond}
use Rattle.std.proofs.lemmas.List.{append-nil, map-append, take_more}
use Rattle.std.proofs.lemmas.Bool.{eq-eqb}
use Rattle.std.proofs.lemmas.Grind.{reverse_onto}
use Rattle.std.specs.List.{flat_map}
use Rattle.std.specs.Option.{option_to_list}
use Rattle.chart_model.proofs.Indexing.{not_equal}
use Rattle.chart_model.specs.Lines.{edge_at, edge_points, edge_segments, pointed}
use Rattle.chart_model.specs.declared.records.Edge.{Edge}
use Rattle.chart_model.specs.declared.records.Parts.{Parts}
use Rattle.chart_model.specs.declared.records.Pointer.{Pointer}
use Rattle.plane_geom.specs.Segments.{joins, turned}
use Rattle.plane_geom.specs.declared.Point.{Point}
use Rattle.plane_geom.specs.declared.Seg.{Seg}

joins_push : (ps : List Point) (p q : Point) → joins (ps ++ p ∷ q ∷ []) ≡ joins (ps ++ p ∷ []) ++ record { a = p; b = q } ∷ []
joins_push [] p q = refl
joins_push (r ∷ []) p q = refl
joins_push (r ∷ s ∷ ps) p q = ap (λ t. record { a = r; b = s } ∷ t) (joins_push (s ∷ ps) p q)

reverse-cons : (p : Point) (ps : List Point) → reverse (p ∷ ps) ≡ reverse ps ++ p ∷ []
reverse-cons p ps = reverse_onto ps p []

reverse-segments : (s : Seg) (segs : List Seg) → reverse (s ∷ segs) ≡ reverse segs ++ s ∷ []
reverse-segments s segs = reverse_onto segs s []

pub joins-reverse : (ps : List Point) → joins (reverse ps) ≡ map turned (reverse (joins ps))
joins-reverse [] = refl
joins-reverse (p ∷ []) = refl
joins-reverse (p ∷ q ∷ ps) =
    ap joins (reverse-cons p (q ∷ ps) ∙ ap (λ t. t ++ p ∷ []) (reverse-cons q ps) ∙ append_assoc (reverse ps) (q ∷ []) (p ∷ [])) ∙ joins_push (reverse ps) q p
    ∙ ap (λ t. joins t ++ record { a = q; b = p } ∷ []) (sym (reverse-cons q ps))
    ∙ ap (λ t. t ++ record { a = q; b = p } ∷ []) (joins-reverse (q ∷ ps))
    ∙ sym (map-append turned (reverse (joins (q ∷ ps))) (record { a = p; b = q } ∷ []))
    ∙ ap (map turned) (sym (reverse-segments (record { a = p; b = q }) (joins (q ∷ ps))))

pub joins_more : (ps : List Point) (i : ℕ) (d e : Point) → 0 < i → i < length ps → joins (take (i + 1) ps) ≡ joins (take i ps) ++ record { a = get_or ps (i - 1) d; b = get_or ps i e } ∷ []
joins_more ps i d e low h =
    let back : i - 1 + 1 ≡ i = omega arith in
    let before : take i ps ≡ take (i - 1) ps ++ get_or ps (i - 1) d ∷ [] = ap (λ k. take k ps) (sym back) ∙ take_more ps (i - 1) d (omega arith) in
    ap joins (take_more ps i e h ∙ ap (λ t. t ++ get_or ps i e ∷ []) before ∙ append_assoc (take (i - 1) ps) (get_or ps (i - 1) d ∷ []) (get_or ps i e ∷ []))
    ∙ joins_push (take (i - 1) ps) (get_or ps (i - 1) d) (get_or ps i e) ∙ ap (λ t. joins t ++ record { a = get_or ps (i - 1) d; b = get_or ps i e } ∷ []) (sym before)

-- ---- the segments that a pointer names

one_edge : (c : Parts) (o : Option Edge) → joins (flat_map (edge_points c) (option_to_list o)) ≡ flat_map (edge_segments c) (option_to_list o)
one_edge c None = refl
one_edge c (Some e) = ap joins (append-nil (edge_points c e)) ∙ sym (append-nil (edge_segments c e))

pub forwards : (c : Parts) (p : Pointer) (points : List Point) → points ≡ flat_map (edge_points c) (option_to_list (edge_at c p.rcid)) → (p.ornt ≡ 2 → ⊥) → joins points ≡ pointed c p
forwards c p points e n = ap joins e ∙ one_edge c (edge_at c p.rcid) ∙ sym (ap (λ b. cond b (map turned (reverse (flat_map (edge_segments c) (option_to_list (edge_at c p.rcid))))) (flat_map (edge_segments c) (option_to_list (edge_at c p.rcid)))) (not_equal p.ornt 2 n))

pub backwards : (c : Parts) (p : Pointer) (points turned_points : List Point) → points ≡ flat_map (edge_points c) (option_to_list (edge_at c p.rcid)) → turned_points ≡ reverse points → p.ornt ≡ 2 → joins turned_points ≡ pointed c p
backwards c p points turned_points e r n =
    ap joins (r ∙ ap reverse e) ∙ joins-reverse (flat_map (edge_points c) (option_to_list (edge_at c p.rcid))) ∙ ap (λ t. map turned (reverse t)) (one_edge c (edge_at c p.rcid))
    ∙ sym (ap (λ b. cond b (map turned (reverse (flat_map (edge_segments c) (option_to_list (edge_at c p.rcid))))) (flat_map (edge_segments c) (option_to_list (edge_at c p.rcid)))) (eq-eqb p.ornt 2 n))

pub joined_push : (old now pushed : List Seg) (ps : List Point) (i : ℕ) (d e : Point) → pushed ≡ now ++ record { a = get_or ps (i - 1) d; b = get_or ps i e } ∷ [] → now ≡ old ++ joins (take i ps) → 0 < i → i < length ps → pushed ≡ old ++ joins (take (i + 1) ps)
joined_push old now pushed ps i d e p n low h =
    p ∙ ap (λ t. t ++ record { a = get_or ps (i - 1) d; b = get_or ps i e } ∷ []) n ∙ append_assoc old (joins (take i ps)) (record { a = get_or ps (i - 1) d; b = get_or ps i e } ∷ []) ∙ ap (λ t. old ++ t) (sym (joins_more ps i d e low h))
