use Rattle.point_laws.proofs.Answered.{all_answered}
use Rattle.point_laws.proofs.answers_agree.Goals as goal

pub returns : goal.returns
returns c = all_answered c.drawn_lines.ensures.lines c.truth_law.ensures.fields c.fields_are_sound.ensures.sound c.truth_law.ensures.from_fields
    c.points_are_placed.ensures c.ground_is_one.ensures.one c.chart_and_ground_agree.ensures.agree
