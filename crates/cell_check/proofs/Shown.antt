-- What a strip of a chart shows, by its row.
use Rattle.std.proofs.Common.{◌≡◌, ℤ, List, ◌++◌, map, length, Contains, subst, sym}
use Rattle.chart_model.specs.declared.records.Parts.{Parts}
use Rattle.plane_geom.specs.declared.Seg.{Seg}
use Rattle.plane_laws.proofs.Members.{In}
use Rattle.plane_strips.specs.Gaps.{GapHasPoint, WestHasPoint}
use Rattle.plane_strips.specs.RowLaws.{PlaceInRow}
use Rattle.plane_strips.specs.Rows.{IsRow}
use Rattle.plane_strips.specs.StripLaws.{CrossWhereReversed, EastGoesOn, EntersSpans, EqualOnOneLine, OnWhereLevel, OrderGoesOn}
use Rattle.plane_strips.specs.SweepLaws.{GapBack, OddOfAfter}
use Rattle.plane_strips.specs.Strips.{IsStrip}
use Rattle.cell_check.specs.Gaps.{HasTurned, HasWrongGap, IsInOrderAt, NoWrongGap}
use Rattle.cell_check.specs.Outlines.{area_outlines, cover_outlines, lines}
use Rattle.cell_check.specs.Tags.{IsSortedRow, seg_of, tagged}
use Rattle.cell_check.specs.Verdicts.{CrossedIn, WrongIn}
use Rattle.cell_check.specs.declared.line.Line.{Line}
use Rattle.cell_check.proofs.Looking.{crossed_from, row_is, uncrossed, wrong_from, none_wrong}
use Rattle.cell_check.proofs.Surveying.{line_in, line_from}

module _ (enters : EntersSpans) (on_level : OnWhereLevel) (cross : CrossWhereReversed) (goes_on : OrderGoesOn) (east_on : EastGoesOn) (equal : EqualOnOneLine) (place : PlaceInRow) (has : GapHasPoint) (west_has : WestHasPoint) (odd : OddOfAfter) (back : GapBack)
    (c : Parts) (all : List Line) (tags : all ≡ tagged 0 (area_outlines c ++ cover_outlines c)) (lo hi : ℤ) (strip : IsStrip (lines c) lo hi) (row : List Line) (sorted : IsSortedRow all lo hi row) where
  abbrev A : List (List Seg)
  A = area_outlines c

  abbrev C : List (List Seg)
  C = cover_outlines c

  line_of : (l : Line) → In all l → In (tagged 0 (A ++ C)) l
  line_of l i = subst (λ t. In t l) tags i

  from : (s : Seg) → Contains (lines c) s → (l : Line) × In all l × (l.seg ≡ s)
  from s k = let r = line_from c s k in (r.0, subst (λ t. In t r.0) (sym tags) r.1, r.2)

  pub crosses : HasTurned hi row → CrossedIn c lo hi
  crosses h = crossed_from enters on_level cross goes_on east_on equal place has west_has odd back A C (lines c) all tags (λ l i e. line_in c l (line_of l i) e) from lo hi strip row sorted h

  module _ (order : IsInOrderAt hi row) where
    is : IsRow lo hi (map seg_of row)
    is = row_is enters on_level cross goes_on east_on equal place has west_has odd back A C (lines c) all tags (λ l i e. line_in c l (line_of l i) e) from lo hi strip row sorted order

    pub uncrossed_here : CrossedIn c lo hi → ⊥
    uncrossed_here = uncrossed enters on_level cross goes_on east_on equal place has west_has odd back A C (lines c) all tags (λ l i e. line_in c l (line_of l i) e) from lo hi strip row sorted is

    pub wrong_here : HasWrongGap (length A) (length C) row → WrongIn c lo hi
    wrong_here h = wrong_from enters on_level cross goes_on east_on equal place has west_has odd back A C (lines c) all tags (λ l i e. line_in c l (line_of l i) e) from lo hi strip row sorted is h

    pub right_here : NoWrongGap (length A) (length C) row → WrongIn c lo hi → ⊥
    right_here h = none_wrong enters on_level cross goes_on east_on equal place has west_has odd back A C (lines c) all tags (λ l i e. line_in c l (line_of l i) e) from lo hi strip row sorted is h
