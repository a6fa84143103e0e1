-- The chart of a grid and a sheet passes the check of cells.
use Rattle.std.proofs.Common.{◌≡◌, ◌⊎◌, inl, inr, refl, ap, sym, ◌∙◌, length}
use Rattle.cell_check.specs.Outlines.{all_segments, area_outlines}
use Rattle.cell_check.specs.Verdicts.{IsVerdict}
use Rattle.cell_check.specs.declared.verdict.Verdict.TheVariants.{Crossed, Tiles, TooMany, Wrong}
use Rattle.cell_check.specs.declared.verdict.Verdict.{Verdict}
use Rattle.chart_model.specs.Areas.{areas}
use Rattle.chart_model.specs.Lines.{area_segments}
use Rattle.check_laws.specs.Checks.{ChartsAreUncrossed, ChartsHaveNoWrong, ChartsPass}
use Rattle.std.proofs.lemmas.List.{length-map}

pub charts_pass : ChartsHaveNoWrong → ChartsAreUncrossed → ChartsPass
charts_pass right uncrossed g s c grid sheet is = record {
  tiles = λ few. record {
    few = few;
    uncrossed = uncrossed g s c grid sheet is;
    right = right g s c grid sheet is;
    count = number;
  };
  too_many = λ many. record { count = refl_count; many = many };
  only = only;
}
  where
    number : length (areas c) ≡ length (area_outlines c)
    number = sym (length-map (areas c) (area_segments c))

    refl_count : length (all_segments c) ≡ length (all_segments c)
    refl_count = refl

    only : (v : Verdict) → IsVerdict c v → (v ≡ Tiles (length (areas c))) ⊎ (v ≡ TooMany (length (all_segments c)))
    only (TooMany n) h = inr (ap TooMany h.count)
    only (Crossed y) h = absurd (uncrossed g s c grid sheet is y h.crossed.upper h.crossed.strip h.crossed.has)
    only (Wrong y) h = absurd (right g s c grid sheet is y h.wrong.upper h.wrong.strip h.wrong.has)
    only (Tiles a) h = inl (ap Tiles (h.count ∙ sym number))
