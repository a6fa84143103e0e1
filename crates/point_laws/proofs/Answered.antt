-- The chart of a grid and a sheet says of every point what these say.
use Rattle.mesh_definitions.specs.Faces.{OnLine}
use Rattle.mesh_definitions.specs.Field.{InCoverage, field_of}
use Rattle.chart_ground.specs.Answers.{IsGroundAt}
use Rattle.chart_ground.specs.declared.answer.GroundAt.{GroundAt}
use Rattle.chart_definitions.specs.ChartOf.{IsChartOf, mesh_in}
use Rattle.depth_grid.specs.Grid.{IsGrid, GridView}
use Rattle.chart_model.specs.declared.records.Parts.{Parts}
use Rattle.chart_query.specs.Answer.{place_of}
use Rattle.tiling_laws.specs.Truth.{GridsHaveFields, TruthFromFields}
use Rattle.mesh_ground_laws.specs.Grounds.{FieldsAreSound}
use Rattle.plane_geom.specs.declared.Point.{Point}
use Rattle.rule_sheet.specs.Values.{IsSheet, SheetView}
use Rattle.point_laws.proofs.Texts.{same_line}
use Rattle.point_laws.proofs.There.{answer_there}
use Rattle.point_laws.specs.Alike.{ChartAndGroundAgree, GroundIsOne}
use Rattle.point_laws.specs.Answered.{AnswersAsGround, ChartsAnswerAsGround}
use Rattle.point_laws.specs.Lines.{DrawnAreLines}
use Rattle.point_laws.specs.Places.{ChartsPlace}

module _ (lines : DrawnAreLines) (fields : GridsHaveFields) (sound : FieldsAreSound) (truth : TruthFromFields) (places : ChartsPlace) (one : GroundIsOne) (agree : ChartAndGroundAgree) where
  module _ (g : GridView) (s : SheetView) (c : Parts) (grid : IsGrid g) (sheet : IsSheet s) (is : IsChartOf g s c) (p : Point) where
    -- no line is drawn beyond the coverage
    kept : ¬ (InCoverage (field_of is.view s.levels) p) → ¬ (OnLine (mesh_in is.view s is.block) p)
    kept out on = let told = truth sound g s c grid sheet is in told.0.tiles.no_edge p out ((told.1.lines p).1 on)

    -- where the chart has the point, the grid and the sheet have an answer
    ground_there : (a : GroundAt) × IsGroundAt g s p a
    ground_there =
        let told = truth sound g s c grid sheet is in
        let field = fields g s is.view grid sheet is.generalised in
        let there = answer_there lines is.view s.levels field is.block p kept c (place_of c p) (places g s c is told.0 told.1 p) in (
          there.0,
          record { view = is.view; generalised = is.generalised; blocks = is.blocks; rect = is.rect; block = is.block; by_need = is.by_need; answer = there.1 },
        )

    -- they have no other, and its line is the text of the chart
    answered : (a : GroundAt) → IsGroundAt g s p a → AnswersAsGround g s c p
    answered a there = record {
      answer = a;
      is = there;
      one = λ b other. one g s p b a grid sheet other there;
      says = same_line c (place_of c p) a (agree g s c grid sheet is p a there);
    }

  pub all_answered : ChartsAnswerAsGround
  all_answered g s c grid sheet is p = let a = ground_there g s c grid sheet is p in answered g s c grid sheet is p a.0 a.1
