use Rattle.chart_picture.proofs.Appending.{six}
use Rattle.chart_picture.specs.Picture.{picture_by}
use Rattle.chart_picture.proofs.drawing.put_picture.Goals as goal

pub returns : goal.returns
unfolding picture_by
returns c = six _ _ _ _ _ _ _ _ _ _ _ _ _ c.in_ok-put_head.ensures c.in_ok-put_areas.ensures c.in_ok-put_contours.ensures c.in_ok-put_border.ensures c.in_ok-put_soundings.ensures c.in_ok-extend_from_slice.ensures.items
