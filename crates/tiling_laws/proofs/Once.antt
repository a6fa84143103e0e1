-- No segment stands in two edges, and none twice in one.
use Rattle.std.proofs.Common.{◌≡◌, ◌++◌, Bool, true, false, List, [], ◌∷◌, map, flat_map, AllPairs, refl, ap, ap₂, sym, ◌∙◌, subst}
use Rattle.std.proofs.lemmas.List.Kept.{AllPairs-filter}
use Rattle.std.proofs.lemmas.List.Sorted.{IsPermutation-map}
use Rattle.std.proofs.lemmas.Map.Keys.{IsDistinct-IsPermutation}
use Rattle.std.specs.List.{AllZip, IsDistinct}
use Rattle.mesh_definitions.specs.Faces.{drawn, is_drawn}
use Rattle.mesh_definitions.specs.Pieces.{Mesh, walked}
use Rattle.mesh_definitions.specs.declared.Step.{Step}
use Rattle.mesh_definitions.specs.declared.Sub.{Sub}
use Rattle.chart_definitions.specs.Edges.{FollowsTrace, HasEdges}
use Rattle.chart_definitions.specs.SoundEdges.{DontCoincide}
use Rattle.chart_model.specs.Lines.{edge_segments}
use Rattle.chart_model.specs.declared.records.Edge.{Edge}
use Rattle.chart_model.specs.declared.records.Parts.{Parts}
use Rattle.tiling_laws.proofs.Coinciding.{coincide, distinct_from, distinct_like, flips, pairs_from, turned_first, turned_second}
use Rattle.tiling_laws.proofs.Lines.{segments_are, subs_of}
use Rattle.tiling_laws.specs.SoundEdges.{LineLaws}

map_joined : {X Y : Type 0} (f : X → Y) (xs ys : List X) → map f (xs ++ ys) ≡ map f xs ++ map f ys
map_joined f [] ys = refl
map_joined f (x ∷ xs) ys = ap (λ zs. f x ∷ zs) (map_joined f xs ys)

map_twice : {X Y Z : Type 0} (f : Y → Z) (g : X → Y) (xs : List X) → map f (map g xs) ≡ map (λ x. f (g x)) xs
map_twice f g [] = refl
map_twice f g (x ∷ xs) = ap (λ zs. f (g x) ∷ zs) (map_twice f g xs)

-- the segments of all edges are the steps of all traces
all_segments : (m : Mesh) (c : Parts) (es : List Edge) (ts : List (List Step)) → AllZip (FollowsTrace m c) es ts → flat_map (edge_segments c) es ≡ map (walked m) (flat_map (λ t. t) ts)
all_segments m c [] [] h = refl
all_segments m c [] (t ∷ ts) h = absurd h
all_segments m c (e ∷ es) [] h = absurd h
all_segments m c (e ∷ es) (t ∷ ts) h = ap₂ (λ xs ys. xs ++ ys) (segments_are m c e t h.0) (all_segments m c es ts h.1) ∙ sym (map_joined (walked m) t (flat_map (λ t. t) ts))

-- steps coincide where their sub-segments do
pub steps_alike : (m : Mesh) (s t : Step) → coincide (m.ends s.sub) (m.ends t.sub) ≡ coincide (walked m s) (walked m t)
steps_alike m s t = go s.sub s.forward t.sub t.forward
  where
    go : (u : Sub) (a : Bool) (w : Sub) (b : Bool) → coincide (m.ends u) (m.ends w) ≡ coincide (walked m (record { sub = u; forward = a })) (walked m (record { sub = w; forward = b }))
    go u true w true = refl
    go u true w false = sym (turned_second (m.ends u) (m.ends w))
    go u false w true = sym (turned_first (m.ends u) (m.ends w))
    go u false w false = sym (turned_first (m.ends u) (walked m (record { sub = w; forward = false })) ∙ turned_second (m.ends u) (m.ends w))

pub distinct_segments : (m : Mesh) (traces : List (List Step)) (c : Parts) → LineLaws m → HasEdges m traces c → IsDistinct coincide (flat_map (edge_segments c) c.edges)
distinct_segments m traces c laws h =
    let steps : List Step = flat_map (λ t. t) traces in
    let lines : IsDistinct coincide (map m.ends (drawn m)) = distinct_from m.ends (drawn m) (AllPairs-filter (λ (u w : Sub). DontCoincide (m.ends u) (m.ends w)) (is_drawn m) m.subs laws.apart) in
    let subs : IsDistinct coincide (map m.ends (subs_of traces)) = IsDistinct-IsPermutation coincide flips (map m.ends (drawn m)) (map m.ends (subs_of traces)) (IsPermutation-map m.ends (drawn m) (subs_of traces) h.each_once) lines in
    let ends : IsDistinct coincide (map (λ (s : Step). m.ends s.sub) steps) = subst (IsDistinct coincide) (map_twice m.ends (λ (s : Step). s.sub) steps) subs in
    subst (IsDistinct coincide) (sym (all_segments m c c.edges traces h.edges)) (distinct_like (λ (s : Step). m.ends s.sub) (walked m) (steps_alike m) steps ends)

pub segments_once : (m : Mesh) (traces : List (List Step)) (c : Parts) → LineLaws m → HasEdges m traces c → AllPairs DontCoincide (flat_map (edge_segments c) c.edges)
segments_once m traces c laws h = pairs_from (flat_map (edge_segments c) c.edges) (distinct_segments m traces c laws h)
