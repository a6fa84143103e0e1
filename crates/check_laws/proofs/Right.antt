-- At a rational point one area of a chart counts where some cover does, and none where none does.
use Rattle.std.proofs.Common.{◌≡◌, ◌++◌, ℕ, ◌<◌, ⊎_elim, Bool, true, false, cond, ◌&&◌, eqb, IsTrue, IsFalse, List, filter, map, get_or, length, Contains, refl, ap, sym, subst, ◌∙◌, arith, eq-eqb}
use Rattle.std.specs.Prelude.{codes}
use Rattle.std.proofs.lemmas.List.Elements.{All-contains, Contains-get_or}
use Rattle.std.specs.List.{list_any}
use Rattle.cell_check.specs.Outlines.{area_outlines, cover_outlines, is_cover, says_one}
use Rattle.chart_definitions.specs.Areas.{HasOutline}
use Rattle.chart_definitions.specs.ChartOf.{IsChartOf}
use Rattle.chart_definitions.specs.Coverage.{HasText}
use Rattle.chart_definitions.specs.Meaning.{of_code}
use Rattle.chart_definitions.specs.Rest.{IsBeside}
use Rattle.chart_model.specs.Areas.{areas}
use Rattle.chart_model.specs.Lines.{area_segments}
use Rattle.chart_model.specs.declared.records.Feature.{Feature}
use Rattle.chart_model.specs.declared.records.Parts.{Parts}
use Rattle.depth_grid.specs.Grid.{GridView, IsGrid}
use Rattle.mesh_counts_laws.specs.Counts.{IsSingle}
use Rattle.mesh_definitions.specs.Faces.{borders}
use Rattle.mesh_definitions.specs.Field.{Field, IsField, field_of}
use Rattle.mesh_definitions.specs.Mesh.{all_cells}
use Rattle.mesh_definitions.specs.Pieces.{Mesh, whole_mesh}
use Rattle.mesh_definitions.specs.declared.Piece.{Piece}
use Rattle.mesh_laws.specs.PieceLaws.{PiecesOnce}
use Rattle.mesh_laws.proofs.Listed.{piece_there}
use Rattle.mesh_laws.proofs.Triangles.{cell_has}
use Rattle.plane_geom.specs.declared.Seg.{Seg}
use Rattle.plane_laws.specs.Borders.{AreFromZero, HasPieces, total}
use Rattle.plane_laws.proofs.Lists.{in_filter}
use Rattle.plane_laws.proofs.Members.{In, contains, in_left, is_in}
use Rattle.plane_strips.specs.Rational.{RationalPoint, odd_at}
use Rattle.plane_strips.specs.Tilings.{is_right}
use Rattle.rule_sheet.specs.Values.{IsSheet, SheetView}
use Rattle.s57_codes.specs.Catalogue.{attl_catcov, objl_m_covr, objl_m_qual, prim_area}
use Rattle.tiling_laws.specs.Truth.{GridsHaveFields}
use Rattle.check_laws.specs.Checks.{ChartsAreRight, ChartsHaveNoWrong}
use Rattle.check_laws.specs.Counts.{NoneBelowAt, OutlineSingleAt}
use Rattle.check_laws.proofs.Kept.{any_map, filter_agree, kept_map, none_any, none_kept, one_any, one_kept}
use Rattle.check_laws.proofs.Numbered.{SumLaws, none_marked, one_marked, piece_at, whole_outline}

-- ---- the covers of a chart

first_decides : (x y z : Bool) → (x ≡ true → (y ≡ true) × (z ≡ true)) → (x && y && z) ≡ x
first_decides true y z h = let k = h refl in let e = k.0 in let g = k.1 in rw (e, g) refl
first_decides false y z h = refl

available : (f : Feature) → HasText attl_catcov (codes "1") f → says_one attl_catcov f.attributes ≡ true
available f h = ap (says_one attl_catcov) h

module _ (g : GridView) (s : SheetView) (c : Parts) (is : IsChartOf g s c) where
  abbrev coded : Feature → Bool
  coded f = eqb f.objl objl_m_covr

  cover_is : (f : Feature) → In c.features f → is_cover f ≡ coded f
  cover_is f i = first_decides (coded f) (eqb f.prim prim_area) (says_one attl_catcov f.attributes) (λ e.
      let there = in_filter coded c.features f i e in
      let beside = All-contains (IsBeside prim_area) (of_code objl_m_covr c ++ of_code objl_m_qual c) f is.rest.covers (contains _ f (in_left (of_code objl_m_covr c) (of_code objl_m_qual c) f there)) in
      let text = All-contains (HasText attl_catcov (codes "1")) (of_code objl_m_covr c) f is.coverage.available (contains (of_code objl_m_covr c) f there) in
      (eq-eqb f.prim prim_area beside.prim_is, available f text))

  -- the covers are the features with the code of covers
  pub covers_are : filter is_cover c.features ≡ of_code objl_m_covr c
  covers_are = filter_agree is_cover coded c.features cover_is

-- ---- what is right

right_none : (n m : ℕ) (b : Bool) → b ≡ false → n ≡ 0 → IsTrue (cond b (eqb n 1) (eqb n 0))
right_none n m true e g = absurd (cc (e))
right_none n m false e g = eq-eqb n 0 g

right_one : (n m : ℕ) (b : Bool) → b ≡ true → n ≡ 1 → IsTrue (cond b (eqb n 1) (eqb n 0))
right_one n m true e g = eq-eqb n 1 g
right_one n m false e g = absurd (cc (e))

module _ (laws : SumLaws) (once : PiecesOnce) (fields : GridsHaveFields) (below : NoneBelowAt) (single : OutlineSingleAt) where
  module _ (g : GridView) (s : SheetView) (c : Parts) (grid : IsGrid g) (sheet : IsSheet s) (is : IsChartOf g s c) where
    abbrev f : Field
    f = field_of is.view s.levels

    abbrev m : Mesh
    m = whole_mesh f is.block

    field : IsField f
    field = fields g s is.view grid sheet is.generalised

    have : HasPieces (borders m) m.pieces
    have = once f (all_cells f) is.block

    -- each piece is in a block
    in_block : (p : Piece) → Contains m.pieces p → m.block p < length (of_code objl_m_covr c)
    in_block p i =
        let cell = (piece_there f (all_cells f) p (is_in m.pieces p i)).0 in
        let l = is.by_need.blocks.below p.tri.row p.tri.col (cell_has (all_cells f) p.tri.row p.tri.col cell) in
        let e = is.coverage.one_each in
        omega (arith, l, e)

    outlined : (k : ℕ) (d : Feature) → k < length (of_code objl_m_covr c) → HasOutline m c m.block k (get_or (of_code objl_m_covr c) k d)
    outlined k d l = is.coverage.outlines k d (let e = is.coverage.one_each in omega (arith, l, e))

    module _ (q : RationalPoint) where
      zero_up : AreFromZero (piece_at laws m have q) m.pieces
      zero_up k d l = below f is.block field q (get_or m.pieces k d) (Contains-get_or m.pieces k d l)

      abbrev inside : List Seg → Bool
      inside segs = odd_at segs q

      abbrev covers : List Feature
      covers = of_code objl_m_covr c

      as_shown : IsTrue (cond (list_any (λ f. inside (area_segments c f)) covers) (eqb (length (filter (λ f. inside (area_segments c f)) (areas c))) 1) (eqb (length (filter (λ f. inside (area_segments c f)) (areas c))) 0)) → IsTrue (is_right inside (area_outlines c) (cover_outlines c))
      as_shown h =
          let a = kept_map inside (area_segments c) (areas c) in
          let b = ap (λ fs. list_any inside (map (area_segments c) fs)) (covers_are g s c is) ∙ any_map inside (area_segments c) covers in
          rw (a, b) h

      right_where_single : IsSingle (total (piece_at laws m have q) m.pieces) → IsTrue (cond (list_any (λ f. inside (area_segments c f)) covers) (eqb (length (filter (λ f. inside (area_segments c f)) (areas c))) 1) (eqb (length (filter (λ f. inside (area_segments c f)) (areas c))) 0))
      right_where_single k = ⊎_elim
          (λ sum. right_none _ 0 _
          (none_any _ covers (none_marked laws m have q zero_up m.block c covers in_block outlined sum))
          (none_kept _ (areas c) (none_marked laws m have q zero_up is.face c (areas c) is.areas.one_each.below is.areas.outlines sum)))
          (λ sum. right_one _ 0 _
          (one_any _ covers (one_marked laws m have q zero_up m.block c covers in_block outlined sum))
          (one_kept _ (areas c) (one_marked laws m have q zero_up is.face c (areas c) is.areas.one_each.below is.areas.outlines sum)))
          k

      right_at : IsTrue (is_right inside (area_outlines c) (cover_outlines c))
      right_at = as_shown (right_where_single (subst IsSingle (sym (whole_outline laws m have q)) (single f is.block field q)))

  pub charts_are_right : ChartsAreRight
  charts_are_right g s c grid sheet is q = right_at g s c grid sheet is q

no_wrong : (b : Bool) → IsTrue b → IsFalse b → ⊥
no_wrong true e g = absurd (cc (g))
no_wrong false e g = absurd (cc (e))

pub charts_have_no_wrong : ChartsAreRight → ChartsHaveNoWrong
charts_have_no_wrong right g s c grid sheet is lo hi strip wrong = no_wrong _ (right g s c grid sheet is wrong.at) wrong.wrong
