-- Each edge off the outline of the coverage parts two areas that differ, and each edge on it is the border of one area.
use Rattle.std.proofs.Common.{◌≡◌, ◌≢◌, ◌⊎◌, ℕ, ℤ, ◌<◌, Bool, true, false, Option, Some, None, List, [], ◌∷◌, length, zip, All, AllPairs, Contains, refl, sym, ap, ◌∙◌, subst, arith, inl, inr, ⊎_elim, eq-eqb}
use Rattle.std.proofs.lemmas.List.Elements.{All-map}
use Rattle.std.specs.List.{AllZip}
use Rattle.mesh_definitions.specs.Faces.{borders, is_drawn, kind, steps_of}
use Rattle.mesh_definitions.specs.Field.{Field}
use Rattle.mesh_definitions.specs.Pieces.{Mesh, left_of, walked}
use Rattle.mesh_definitions.specs.declared.Piece.{Piece}
use Rattle.mesh_definitions.specs.declared.Step.{Step}
use Rattle.mesh_definitions.specs.declared.Sub.{Sub}
use Rattle.chart_definitions.specs.Areas.{HasAreas}
use Rattle.chart_definitions.specs.Contours.{side_kind}
use Rattle.chart_definitions.specs.Edges.{FollowsTrace, HasEdges, traced}
use Rattle.chart_definitions.specs.Pointers.{HasPointers}
use Rattle.chart_definitions.specs.SoundEdges.{AreasDiffer, IsParted, OnOutline}
use Rattle.chart_definitions.specs.SoundEdges.IsParted.{Border, Inner}
use Rattle.chart_definitions.specs.SoundEdges.OnOutline.{East, North, South, West}
use Rattle.chart_model.specs.Areas.{areas}
use Rattle.chart_model.specs.Lines.{edge_segments}
use Rattle.chart_model.specs.Numbers.{edge_numbers}
use Rattle.chart_model.specs.declared.records.Edge.{Edge}
use Rattle.chart_model.specs.declared.records.Feature.{Feature}
use Rattle.chart_model.specs.declared.records.Parts.{Parts}
use Rattle.tiling_laws.proofs.BothSides.{listed, named_by_sides, one_kind, step_way, sub_way}
use Rattle.tiling_laws.proofs.Lines.{segments_are, step_drawn}
use Rattle.tiling_laws.proofs.Named.{zipped}
use Rattle.tiling_laws.proofs.Numbers.{flag}
use Rattle.tiling_laws.proofs.OnAreas.{element}
use Rattle.tiling_laws.proofs.Sides.{traces_part}
use Rattle.tiling_laws.specs.EdgeLines.{SidesDiffer}
use Rattle.tiling_laws.specs.SoundEdges.{IsNamed, LineLaws, OutlineLaw, once_at}
use Rattle.plane_geom.specs.Segments.{turned}
use Rattle.plane_geom.specs.declared.Seg.{Seg}
use Rattle.plane_laws.proofs.Lists.{all_of, from_filter}
use Rattle.plane_laws.proofs.Members.{In, contains, is_in}
use Rattle.plane_laws.specs.Borders.{HasPieces}
use Rattle.shoal_buffer.specs.Charted.{ChartedView}

-- ---- segments along the outline

turned_along : (f : Field) (t : Seg) → OnOutline f t → OnOutline f (turned t)
turned_along f t (West a b) = West b a
turned_along f t (East a b) = East b a
turned_along f t (North a b) = North b a
turned_along f t (South a b) = South b a

walked_along : (f : Field) (m : Mesh) (s : Step) → OnOutline f (m.ends s.sub) → OnOutline f (walked m s)
walked_along f m s h = go s.sub s.forward h
  where
    go : (u : Sub) (b : Bool) → OnOutline f (m.ends u) → OnOutline f (walked m (record { sub = u; forward = b }))
    go u true h = h
    go u false h = turned_along f (m.ends u) h

ends_along : (f : Field) (m : Mesh) (s : Step) → OnOutline f (walked m s) → OnOutline f (m.ends s.sub)
ends_along f m s h = go s.sub s.forward h
  where
    go : (u : Sub) (b : Bool) → OnOutline f (walked m (record { sub = u; forward = b })) → OnOutline f (m.ends u)
    go u true h = h
    go u false h = turned_along f (turned (m.ends u)) h

-- ---- elements with their partners, and lists with elements

paired : {X Y : Type 0} (R : X → Y → Type 0) (xs : List X) (ys : List Y) → AllZip R xs ys → (x : X) → In xs x → (y : Y) × In (zip xs ys) (x, y)
paired R [] ys z x h = absurd h
paired R (a ∷ xs) [] z x h = absurd z
paired {X = X} {Y = Y} R (a ∷ xs) (b ∷ ys) z x h = ⊎_elim
    (λ e. (b, inl (ap (λ (w : X). let r : X × Y = (w, b) in r) e)))
    (λ i. let r = paired R xs ys z.1 x i in (r.0, inr r.1))
    h

one_of : {X : Type 0} (xs : List X) → 0 < length xs → (x : X) × In xs x
one_of [] l = absurd (omega arith)
one_of (x ∷ xs) l = (x, inl refl)

module _ (f : Field) (v : ChartedView) (levels : List ℤ) (m : Mesh) (traces : List (List Step)) (face : Piece → ℕ) (c : Parts) (pieces : HasPieces (borders m) m.pieces) (laws : LineLaws m) (outline : OutlineLaw f m) (edges : HasEdges m traces c) (have : HasAreas v levels m face c) (pointers : HasPointers m traces c) (numbers : AllPairs ◌≢◌ (edge_numbers c)) where
  module _ (e : Edge) (trace : List Step) (there : Contains (traced c traces) (e, trace)) where
    its : In c.edges e × In traces trace × FollowsTrace m c e trace
    its = zipped (FollowsTrace m c) c.edges traces (e, trace) edges.edges (is_in (traced c traces) (e, trace) there)

    sub_there : (s : Step) → In trace s → In m.subs s.sub
    sub_there s i = (from_filter (is_drawn m) m.subs s.sub (step_drawn m traces edges.each_once trace s its.1 i)).0

    differ : (s : Step) → In trace s → SidesDiffer m s
    differ s i = traces_part m traces edges.each_once trace s its.1 i

    named : (s : Step) → In trace s → IsNamed m face c e s
    named s i = named_by_sides v levels m traces face c pieces laws edges have pointers numbers e trace s there (contains trace s i)

    -- the piece on a side of a step is one of the mesh
    known : (b : Bool) (s : Step) (q : Piece) → In trace s → m.right_of (step_way b s) ≡ Some q → Contains m.pieces q
    known b s q i r = pieces.sides (step_way b s) q (contains (steps_of m) (step_way b s) (listed m (step_way b s) (subst (In m.subs) (sym (sub_way b s)) (sub_there s i)))) r

    -- all steps of an edge have the same areas on their sides
    same_once : (b : Bool) (s t : Step) → In trace s → In trace t → (k : ℕ) → k < length (areas c) → once_at face k (m.right_of (step_way b s)) ≡ once_at face k (m.right_of (step_way b t))
    same_once true s t i j k l = let d : Feature = (element (areas c) k l).0 in sym ((named s i).forwards k d l) ∙ (named t j).forwards k d l
    same_once false s t i j k l = let d : Feature = (element (areas c) k l).0 in sym ((named s i).back k d l) ∙ (named t j).back k d l

    none_too : (b : Bool) (s t : Step) → In trace s → In trace t → m.right_of (step_way b s) ≡ None → m.right_of (step_way b t) ≡ None
    none_too b s t i j bare = go (m.right_of (step_way b t)) refl
      where
        go : (y : Option Piece) → m.right_of (step_way b t) ≡ y → m.right_of (step_way b t) ≡ None
        go None r = r
        go (Some q) r =
            let l = have.one_each.below q (known b t q j r) in
            let one : once_at face (face q) (m.right_of (step_way b t)) ≡ 1 = ap (once_at face (face q)) r ∙ ap flag (eq-eqb (face q) (face q) refl) in
            let none : once_at face (face q) (m.right_of (step_way b s)) ≡ 0 = ap (once_at face (face q)) bare in
            let same = same_once b s t i j (face q) l in
            absurd (omega (arith, one, none, same))

    -- what holds of each of the steps holds of each of the segments
    each_segment : (P : Seg → Type 0) → ((t : Step) → In trace t → P (walked m t)) → All P (edge_segments c e)
    each_segment P g = subst (All P) (sym (segments_are m c e trace its.2)) (All-map P (walked m) trace (all_of (λ t. P (walked m t)) trace g))

    -- where one step has nothing on a side, the edge runs along the outline
    all_along : (b : Bool) (s : Step) → In trace s → m.right_of (step_way b s) ≡ None → All (OnOutline f) (edge_segments c e)
    all_along b s i bare = each_segment (OnOutline f) (λ t j. walked_along f m t ((outline t (contains m.subs t.sub (sub_there t j))).0 (side b t (none_too b s t i j bare))))
      where
        side : (b : Bool) (t : Step) → m.right_of (step_way b t) ≡ None → (m.right_of t ≡ None) ⊎ (left_of m t ≡ None)
        side true t r = inl r
        side false t r = inr r

    none_some : (x : Option Piece) (p : Piece) → x ≡ Some p → x ≡ None → ⊥
    none_some x p g h = let both : Some p ≡ None = sym g ∙ h in absurd (cc)

    -- where one has pieces on both, no segment of the edge does
    none_along : (s : Step) (p q : Piece) → In trace s → m.right_of s ≡ Some p → left_of m s ≡ Some q → All (λ t. ¬ (OnOutline f t)) (edge_segments c e)
    none_along s p q i r l = each_segment (λ t. ¬ (OnOutline f t)) (λ t j on. ⊎_elim
        (λ bare. none_some (m.right_of s) p r (none_too true t s j i bare))
        (λ bare. none_some (left_of m s) q l (none_too false t s j i bare))
        ((outline t (contains m.subs t.sub (sub_there t j))).1 (ends_along f m t on)))

    -- pieces of areas whose pieces differ on the two sides of a step differ
    areas_differ : (s : Step) (p q : Piece) → In trace s → m.right_of s ≡ Some p → left_of m s ≡ Some q → AreasDiffer m face (face p) (face q)
    areas_differ s p q i r l x y in_x in_y fx fy alike =
        let a : kind m x ≡ kind m p = one_kind m x p ((have.faces x p in_x (known true s p i r)).0 fx) in
        let b : kind m y ≡ kind m q = one_kind m y q ((have.faces y q in_y (known false s q i l)).0 fy) in
        differ s i (ap (side_kind m) r ∙ (ap (λ z. Some z) (sym a ∙ (alike ∙ b)) ∙ sym (ap (side_kind m) l)))

    parted : (s : Step) → In trace s → IsParted f m face c e
    parted s i = go (m.right_of s) (left_of m s) refl refl
      where
        go : (x y : Option Piece) → m.right_of s ≡ x → left_of m s ≡ y → IsParted f m face c e
        go None None r l = absurd (differ s i (ap (side_kind m) (r ∙ sym l)))
        go (Some p) None r l = Border (all_along false s i l) true (face p) (
            record {
              first = have.one_each.below p (known true s p i r);
              once = λ k d b. (named s i).forwards k d b ∙ ap (once_at face k) r;
              never = λ k d b. (named s i).back k d b ∙ ap (once_at face k) l;
            }
            )
        go None (Some q) r l = Border (all_along true s i r) false (face q) (
            record {
              first = have.one_each.below q (known false s q i l);
              once = λ k d b. (named s i).back k d b ∙ ap (once_at face k) l;
              never = λ k d b. (named s i).forwards k d b ∙ ap (once_at face k) r;
            }
            )
        go (Some p) (Some q) r l = Inner (none_along s p q i r l) (face p) (face q) (
            record {
              first = have.one_each.below p (known true s p i r);
              second = have.one_each.below q (known false s q i l);
              apart = λ same. areas_differ s p q i r l p q (known true s p i r) (known false s q i l) refl refl (one_kind m p q ((have.faces p q (known true s p i r) (known false s q i l)).0 same));
              forwards = λ k d b. (named s i).forwards k d b ∙ ap (once_at face k) r;
              back = λ k d b. (named s i).back k d b ∙ ap (once_at face k) l;
            }
            ) (areas_differ s p q i r l)

  pub edges_part_areas : All (IsParted f m face c) c.edges
  edges_part_areas = all_of (IsParted f m face c) c.edges (λ e i.
      let tr = paired (FollowsTrace m c) c.edges traces edges.edges e i in
      let there = contains (traced c traces) (e, tr.0) tr.1 in
      let s = one_of tr.0 (its e tr.0 there).2.along.some in
      parted e tr.0 there s.0 s.1)
