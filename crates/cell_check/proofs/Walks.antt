-- A walk that found each strip's row sound: no strip is crossed, and none has a wrong point.
use Rattle.std.proofs.Common.{◌≡◌, ℕ, ◌+◌, ◌<◌, ◌<ℤ◌, List, ◌++◌, length, subst, arith, Contains, IsTrue}
use Rattle.std.specs.List.{filter}
use Rattle.std.specs.List.Sorted.{IsPermutation}
use Rattle.chart_model.specs.declared.records.Parts.{Parts}
use Rattle.plane_strips.specs.Gaps.{GapHasPoint, WestHasPoint}
use Rattle.plane_strips.specs.RowLaws.{PlaceInRow}
use Rattle.plane_strips.specs.StripLaws.{CrossWhereReversed, EastGoesOn, EntersSpans, EqualOnOneLine, OnWhereLevel, OrderGoesOn}
use Rattle.plane_strips.specs.SweepLaws.{GapBack, OddOfAfter}
use Rattle.plane_strips.specs.Strips.{IsStrip}
use Rattle.cell_check.specs.Findings.{AreHeights}
use Rattle.cell_check.specs.Gaps.{NoWrongGap}
use Rattle.cell_check.specs.Outlines.{area_outlines, cover_outlines, is_line, lines}
use Rattle.cell_check.specs.Sweeps.{does_rise, AreSwept, HasSweep}
use Rattle.cell_check.specs.Tags.{tagged}
use Rattle.cell_check.specs.Verdicts.{CrossedIn, WrongIn, NoStrip}
use Rattle.cell_check.specs.declared.holders.Counts.{Counts}
use Rattle.cell_check.specs.declared.line.Line.{Line}
use Rattle.cell_check.specs.declared.order.Height.{Height}
use Rattle.plane_laws.proofs.Members.{In}
use Rattle.cell_check.proofs.Surveying.{line_in}
use Rattle.cell_check.proofs.Judging.{none, y_at, no_strip, strip_at}
use Rattle.cell_check.proofs.Shown.{uncrossed_here, right_here}
use Rattle.cell_check.proofs.Swept.{sorted_row, in_order, none_wrong, lines_of}

module _ (enters : EntersSpans) (on_level : OnWhereLevel) (cross : CrossWhereReversed) (goes_on : OrderGoesOn) (east_on : EastGoesOn) (equal : EqualOnOneLine) (place : PlaceInRow) (has : GapHasPoint) (west_has : WestHasPoint) (odd : OddOfAfter) (back : GapBack)
    (c : Parts) (all rising : List Line) (tags : all ≡ tagged 0 (area_outlines c ++ cover_outlines c)) (from_all : IsPermutation (filter does_rise all) rising)
    (hs : List Height) (are : AreHeights (lines c) hs) (count : Counts) (areas : count.areas ≡ length (area_outlines c)) (covers : count.covers ≡ length (cover_outlines c)) (swept : AreSwept count rising hs) where
  is_line_of : (x : Line) → In all x → IsTrue (is_line x.seg) → Contains (lines c) x.seg
  is_line_of x i e = line_in c x (subst (λ t. In t x) tags i) e

  module _ (k : ℕ) (h : k + 1 < length hs) (l : y_at hs k <ℤ y_at hs (k + 1)) where
    strip : IsStrip (lines c) (y_at hs k) (y_at hs (k + 1))
    strip = strip_at (lines c) hs are k h l

    found : HasSweep count rising (y_at hs k)
    found = swept k none h l

    row : List Line
    row = lines_of found.sweep

    right : NoWrongGap (length (area_outlines c)) (length (cover_outlines c)) row
    unfolding row found
    right = subst (λ n. NoWrongGap n (length (cover_outlines c)) row) areas (subst (λ m. NoWrongGap count.areas m row) covers (none_wrong (y_at hs k) (y_at hs (k + 1)) l (lines c) strip.empty all rising is_line_of from_all count found.sweep found.is))

    uncrossed : CrossedIn c (y_at hs k) (y_at hs (k + 1)) → ⊥
    unfolding row found
    uncrossed = uncrossed_here enters on_level cross goes_on east_on equal place has west_has odd back c all tags (y_at hs k) (y_at hs (k + 1)) strip row (sorted_row (y_at hs k) (y_at hs (k + 1)) l (lines c) strip.empty all rising is_line_of from_all count found.sweep found.is) (in_order (y_at hs k) (y_at hs (k + 1)) l (lines c) strip.empty all rising is_line_of from_all count found.sweep found.is)

    not_wrong : WrongIn c (y_at hs k) (y_at hs (k + 1)) → ⊥
    unfolding row found
    not_wrong = right_here enters on_level cross goes_on east_on equal place has west_has odd back c all tags (y_at hs k) (y_at hs (k + 1)) strip row (sorted_row (y_at hs k) (y_at hs (k + 1)) l (lines c) strip.empty all rising is_line_of from_all count found.sweep found.is) (in_order (y_at hs k) (y_at hs (k + 1)) l (lines c) strip.empty all rising is_line_of from_all count found.sweep found.is) right

  pub walked : NoStrip (lines c) (CrossedIn c) × NoStrip (lines c) (WrongIn c)
  walked = (
    no_strip (lines c) hs are (CrossedIn c) (length hs) (omega arith) (λ k h l. uncrossed k h l),
    no_strip (lines c) hs are (WrongIn c) (length hs) (omega arith) (λ k h l. not_wrong k h l),
  )
