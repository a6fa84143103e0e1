-- The lines of a chart are steps of its mesh.
use Rattle.std.proofs.Common.{◌≡◌, ◌⊎◌, ⊎_elim, inl, inr, ℕ, ◌<◌, Bool, true, false, cond, ◌||◌, eqb, Option, Some, None, List, filter, map, get_or, length, refl, sym, ap, subst, ◌∙◌}
use Rattle.std.specs.Prelude.{int_le}
use Rattle.std.proofs.lemmas.List.Sorted.{Contains-permutation, IsPermutation-sym}
use Rattle.cell_check.specs.Outlines.{all_segments, is_counted, is_cover, is_line, lines}
use Rattle.chart_definitions.specs.Areas.{HasOutline}
use Rattle.chart_model.specs.Areas.{areas, is_area}
use Rattle.chart_model.specs.Lines.{area_segments}
use Rattle.chart_model.specs.declared.records.Feature.{Feature}
use Rattle.chart_model.specs.declared.records.Parts.{Parts}
use Rattle.mesh_definitions.specs.Faces.{boundary}
use Rattle.mesh_definitions.specs.Pieces.{Mesh, back, walked}
use Rattle.mesh_definitions.specs.declared.Piece.{Piece}
use Rattle.mesh_definitions.specs.declared.Step.{Step}
use Rattle.mesh_definitions.specs.declared.Sub.{Sub}
use Rattle.plane_geom.specs.Segments.{turned}
use Rattle.plane_geom.specs.declared.Seg.{Seg}
use Rattle.plane_laws.proofs.Lists.{from_filter, from_flat_map, from_map, in_filter}
use Rattle.plane_laws.proofs.Members.{In, contains, is_in}
use Rattle.plane_strips.specs.Strips.{upward}
use Rattle.check_laws.proofs.Outlined.{IsBorder, border_of}

-- a segment is a step with a piece on its right that isn't on its left too
pub record IsDrawn (m : Mesh) (s : Seg) : Type 0 where
  pub step : Step
  pub piece : Piece
  pub border : IsBorder m step piece
  pub lies : walked m step ≡ s

-- a segment of a feature whose segments are the boundary of the pieces with one number
drawn_in : (m : Mesh) (c : Parts) (number : Piece → ℕ) (k : ℕ) (f : Feature) (s : Seg) → HasOutline m c number k f → In (area_segments c f) s → IsDrawn m s
drawn_in m c number k f s h i =
    let F : Piece → Bool = λ p. eqb (number p) k in
    let all = map (walked m) (boundary m F) in
    let j = is_in all s (Contains-permutation (area_segments c f) all s (IsPermutation-sym all (area_segments c f) h) (contains (area_segments c f) s i)) in
    let x = from_map (walked m) (boundary m F) s j in
    let b = border_of m F x.0 x.1 in
    record { step = x.0; piece = b.0; border = b.1; lies = x.2 }

-- one of several features that have such boundaries, number by number
drawn_of : (m : Mesh) (c : Parts) (number : Piece → ℕ) (fs : List Feature) → ((k : ℕ) (d : Feature) → k < length fs → HasOutline m c number k (get_or fs k d)) → (f : Feature) (s : Seg) → In fs f → In (area_segments c f) s → IsDrawn m s
drawn_of m c number fs outlines f s i j =
    let k = contains fs f i in
    drawn_in m c number k.0 f s (subst (HasOutline m c number k.0) k.2 (outlines k.0 f k.1)) j

or_parts : (a b : Bool) → (a || b) ≡ true → (a ≡ true) ⊎ (b ≡ true)
or_parts true b h = inl refl
or_parts false b h = inr h

-- a line of a chart, with its feature
pub record IsOfFeature (m : Mesh) (c : Parts) (s : Seg) : Type 0 where
  pub feature : Feature
  pub there : In (area_segments c feature) s
  pub drawn : IsDrawn m s

pub line_drawn : (m : Mesh) (c : Parts) (face : Piece → ℕ) (covers : List Feature) → filter is_cover c.features ≡ covers → ((k : ℕ) (d : Feature) → k < length (areas c) → HasOutline m c face k (get_or (areas c) k d)) → ((k : ℕ) (d : Feature) → k < length covers → HasOutline m c m.block k (get_or covers k d)) →
    (s : Seg) → In (lines c) s → IsOfFeature m c s
line_drawn m c face covers are outlines blocks s i =
    let a = from_filter is_line (all_segments c) s i in
    let b = from_flat_map (area_segments c) (filter is_counted c.features) s a.0 in
    let k = from_filter is_counted c.features b.0 b.1 in
    record {
      feature = b.0;
      there = b.2;
      drawn = ⊎_elim
          (λ e. drawn_of m c face (areas c) outlines b.0 s (in_filter is_area c.features b.0 k.0 e) b.2)
          (λ e. drawn_of m c m.block covers blocks b.0 s (subst (λ fs. In fs b.0) are (in_filter is_cover c.features b.0 k.0 e)) b.2)
          (or_parts (is_area b.0) (is_cover b.0) k.1);
    }

-- ---- walked upwards

-- a step that lies there, with a piece on its right that isn't on its left too, or with nothing on its right
pub record IsStep (m : Mesh) (s : Seg) : Type 0 where
  pub step : Step
  pub there : In m.subs step.sub
  pub lies : walked m step ≡ s
  pub side : ((p : Piece) × IsBorder m step p) ⊎ (m.right_of step ≡ None)

walked_back : (m : Mesh) (x : Step) → walked m (back x) ≡ turned (walked m x)
walked_back m x = go x.sub x.forward
  where
    go : (u : Sub) (b : Bool) → walked m (back (record { sub = u; forward = b })) ≡ turned (walked m (record { sub = u; forward = b }))
    go u true = refl
    go u false = refl

back_twice : (x : Step) → back (back x) ≡ x
back_twice x = go x.sub x.forward
  where
    go : (u : Sub) (b : Bool) → (let y : Step = record { sub = u; forward = b } in back (back y) ≡ y)
    go u true = refl
    go u false = refl

same_some : (p r : Piece) → Some p ≡ Some r → p ≡ r
same_some p r e = cc (e)

pub upward_step : (m : Mesh) (s : Seg) → IsDrawn m s → IsStep m (upward s)
upward_step m s d = by (int_le s.a.y s.b.y)
  where
    over : (o : Option Piece) → m.right_of (back d.step) ≡ o → ((p : Piece) × IsBorder m (back d.step) p) ⊎ (m.right_of (back d.step) ≡ None)
    over None e = inr e
    over (Some p) e = inl (
      p,
      record {
        there = d.border.there;
        right = e;
        left = λ k.
            let same : d.piece ≡ p = same_some d.piece p (sym d.border.right ∙ (sym (ap m.right_of (back_twice d.step)) ∙ k)) in
            d.border.left (e ∙ ap Some (sym same));
      },
    )

    by : (b : Bool) → IsStep m (cond b s (turned s))
    by true = record { step = d.step; there = d.border.there; lies = d.lies; side = inl (d.piece, d.border) }
    by false = record { step = back d.step; there = d.border.there; lies = walked_back m d.step ∙ ap turned d.lies; side = over (m.right_of (back d.step)) refl }
