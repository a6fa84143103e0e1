use Rattle.chart_picture.proofs.Appending.{five}
use Rattle.chart_picture.proofs.titles.put_depth_title.Goals as goal
use Rattle.chart_picture.specs.Titles.{depth_title}

pub returns : goal.returns
unfolding depth_title
returns c = five _ _ _ _ _ _ _ _ _ _ _ c.in_ok-extend_from_slice.ensures.items c.in_ok-put_number.ensures c.in_ok-extend_from_slice-2.ensures.items c.in_ok-put_number-2.ensures c.in_ok-extend_from_slice-3.ensures.items
