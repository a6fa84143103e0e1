use Rattle.point_laws.proofs.One.{ground_once}
use Rattle.point_laws.proofs.ground_is_one.Goals as goal

pub returns : goal.returns
returns c = record {
  one = ground_once c.drawn_lines.ensures.lines c.drawn_alike.ensures.alike c.ground_laws.ensures.one_class
      c.same_blocks.ensures.generalised c.same_blocks.ensures.blocks c.truth_law.ensures.fields;
}
