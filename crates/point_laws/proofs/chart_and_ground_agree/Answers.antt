use Rattle.point_laws.proofs.Alike.{chart_says}
use Rattle.point_laws.proofs.chart_and_ground_agree.Goals as goal

pub returns : goal.returns
returns c = record {
  agree = chart_says c.drawn_lines.ensures.lines c.drawn_alike.ensures.alike c.ground_laws.ensures.one_class
      c.same_blocks.ensures.generalised c.same_blocks.ensures.blocks c.truth_law.ensures.fields c.fields_are_sound.ensures.sound c.truth_law.ensures.from_fields c.points_are_placed.ensures;
}
