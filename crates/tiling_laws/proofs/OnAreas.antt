-- Each point on an edge is on a segment of an area.
use Rattle.std.proofs.Common.{◌≡◌, ℕ, zero, suc, ◌<◌, ℤ, Bool, true, false, cond, eqb, Option, Some, None, List, [], ◌∷◌, map, filter, get_or, length, Contains, IsPermutation, refl, sym, ap, ◌∙◌, subst, arith, inl, inr, ⊎_elim, eq-eqb}
use Rattle.std.proofs.lemmas.List.Sorted.{Contains-permutation}
use Rattle.mesh_definitions.specs.Faces.{borders, boundary, is_drawn, steps_of}
use Rattle.mesh_definitions.specs.Pieces.{Mesh, left_of, walked}
use Rattle.mesh_definitions.specs.declared.Piece.{Piece}
use Rattle.mesh_definitions.specs.declared.Step.{Step}
use Rattle.chart_definitions.specs.Areas.{HasAreas}
use Rattle.chart_definitions.specs.Contours.{side_kind}
use Rattle.chart_definitions.specs.Edges.{FollowsTrace, HasEdges}
use Rattle.chart_definitions.specs.Meaning.{OnEdge}
use Rattle.chart_model.specs.Areas.{areas}
use Rattle.chart_model.specs.Lines.{area_segments, edge_segments}
use Rattle.chart_model.specs.declared.records.Feature.{Feature}
use Rattle.chart_model.specs.declared.records.Parts.{Parts}
use Rattle.tiling_laws.proofs.BothSides.{differ_way, listed, right_alone, step_way, sub_way, walked_way}
use Rattle.tiling_laws.proofs.Lines.{segments_are, step_drawn}
use Rattle.tiling_laws.proofs.Members.{partner}
use Rattle.tiling_laws.proofs.Named.{way}
use Rattle.tiling_laws.proofs.Numbers.{flag}
use Rattle.tiling_laws.proofs.Outlines.{bounds}
use Rattle.tiling_laws.proofs.Sides.{traces_part}
use Rattle.tiling_laws.specs.EdgeLines.{SidesDiffer}
use Rattle.tiling_laws.specs.SoundEdges.{once_at}
use Rattle.plane_geom.specs.Geom.{IsOn, OnSome}
use Rattle.plane_geom.specs.declared.Point.{Point}
use Rattle.plane_geom.specs.declared.Seg.{Seg}
use Rattle.plane_laws.proofs.Lists.{from_map, from_filter}
use Rattle.plane_laws.proofs.Members.{In, contains, in_map, is_in}
use Rattle.plane_laws.specs.Borders.{HasPieces}
use Rattle.plane_laws.specs.LineLaws.{OnTurned}
use Rattle.shoal_buffer.specs.Charted.{ChartedView}

kept : {X : Type 0} (test : X → Bool) (xs : List X) (y : X) → In xs y → test y ≡ true → In (filter test xs) y
kept test [] y i e = absurd i
kept test (x ∷ xs) y i e = ⊎_elim
    (λ (s : x ≡ y). subst (λ b. In (cond b (x ∷ filter test xs) (filter test xs)) y) (sym (ap test s ∙ e)) (inl s))
    (λ (j : In xs y). by_test (test x) (kept test xs y j e))
    i
  where
    by_test : (b : Bool) → In (filter test xs) y → In (cond b (x ∷ filter test xs) (filter test xs)) y
    by_test true h = inr h
    by_test false h = h

pub element : {X : Type 0} (xs : List X) (k : ℕ) → k < length xs → (x : X) × Contains xs x × ((d : X) → get_or xs k d ≡ x)
element [] k l = absurd (omega arith)
element (x ∷ xs) zero l = (x, (0, omega arith, refl), λ d. refl)
element (x ∷ xs) (suc k) l = let r = element xs k (omega arith) in (r.0, contains (x ∷ xs) r.0 (inr (is_in xs r.0 r.1)), r.2)

is_set : (b : Bool) → flag b ≡ 1 → b ≡ true
is_set true e = refl
is_set false e = absurd (omega (arith, e))

-- a side of a step where there is a piece
some_side : (m : Mesh) (s : Step) → SidesDiffer m s → (b : Bool) × (q : Piece) × (m.right_of (step_way b s) ≡ Some q)
some_side m s differ = go (m.right_of s) (left_of m s) refl refl
  where
    go : (x y : Option Piece) → m.right_of s ≡ x → left_of m s ≡ y → (b : Bool) × (q : Piece) × (m.right_of (step_way b s) ≡ Some q)
    go (Some q) y e f = (true, q, e)
    go None (Some q) e f = (false, q, f)
    go None None e f = absurd (differ (ap (side_kind m) (e ∙ sym f)))

module _ (on_turned : OnTurned) (v : ChartedView) (levels : List ℤ) (m : Mesh) (traces : List (List Step)) (face : Piece → ℕ) (c : Parts) (pieces : HasPieces (borders m) m.pieces) (edges : HasEdges m traces c) (have : HasAreas v levels m face c) where
  on_way : (b : Bool) (w : Seg) (p : Point) → IsOn w p → IsOn (way b w) p
  on_way true w p h = h
  on_way false w p h = on_turned w p h

  from_step : (p : Point) (trace : List Step) (s : Step) → In traces trace → In trace s → IsOn (walked m s) p → (a : Feature) × Contains (areas c) a × OnSome (area_segments c a) p
  from_step p trace s i j on =
      let differ = traces_part m traces edges.each_once trace s i j in
      let sub : In m.subs s.sub = (from_filter (is_drawn m) m.subs s.sub (step_drawn m traces edges.each_once trace s i j)).0 in
      let side = some_side m s differ in
      let t : Step = step_way side.0 s in
      let there : In m.subs t.sub = subst (In m.subs) (sym (sub_way side.0 s)) sub in
      let right : m.right_of t ≡ Some side.1 = side.2 in
      let k = face side.1 in
      let its : Piece → Bool = λ q. eqb (face q) k in
      let once : once_at face k (m.right_of t) ≡ 1 = ap (once_at face k) right ∙ ap flag (eq-eqb k k refl) in
      let bounding : bounds m its t ≡ true = is_set (bounds m its t) (right_alone m face k t pieces have.faces there (differ_way m side.0 s differ) ∙ once) in
      let outline = map (walked m) (boundary m its) in
      let stands : In outline (walked m t) = in_map (walked m) (boundary m its) t (kept (bounds m its) (steps_of m) t (listed m t there) bounding) in
      let known = pieces.sides t side.1 (contains (steps_of m) t (listed m t there)) right in
      let a = element (areas c) k (have.one_each.below side.1 known) in
      let found : Contains (area_segments c a.0) (walked m t) = Contains-permutation outline (area_segments c a.0) (walked m t) (subst (λ z. IsPermutation outline (area_segments c z)) (a.2 a.0) (have.outlines k a.0 (have.one_each.below side.1 known))) (contains outline (walked m t) stands) in
      (a.0, a.1, record { segment = walked m t; there = found; on = subst (λ z. IsOn z p) (sym (walked_way m side.0 s)) (on_way side.0 (walked m s) p on) })

  pub edge_on_area : (p : Point) → OnEdge c p → (a : Feature) × Contains (areas c) a × OnSome (area_segments c a) p
  edge_on_area p o =
      let tr = partner (FollowsTrace m c) c.edges traces edges.edges o.edge (is_in c.edges o.edge o.there) in
      let i : In (map (walked m) tr.0) o.on.segment = subst (λ z. In z o.on.segment) (segments_are m c o.edge tr.0 tr.2) (is_in (edge_segments c o.edge) o.on.segment o.on.there) in
      let s = from_map (walked m) tr.0 o.on.segment i in
      from_step p tr.0 s.0 tr.1 s.1 (subst (λ z. IsOn z p) (sym s.2) o.on.on)
