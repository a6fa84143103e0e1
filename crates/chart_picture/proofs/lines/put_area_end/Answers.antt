use Rattle.chart_picture.proofs.Appending.{three}
use Rattle.chart_picture.proofs.lines.put_area_end.Goals as goal
use Rattle.chart_picture.specs.Lines.{title_text}

pub returns : goal.returns
unfolding title_text
returns c = three _ _ _ _ _ _ _ c.in_ok-extend_from_slice.ensures.items c.in_ok-put_area_title.ensures c.in_ok-extend_from_slice-2.ensures.items
