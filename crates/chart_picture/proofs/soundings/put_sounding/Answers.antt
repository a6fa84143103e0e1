use Rattle.chart_picture.proofs.Appending.{four}
use Rattle.chart_picture.specs.Soundings.{sounding_text}
use Rattle.chart_picture.proofs.soundings.put_sounding.Goals as goal

pub returns : goal.returns
unfolding sounding_text
returns c = four _ _ _ _ _ _ _ _ _ c.in_ok-put_style.ensures c.in_ok-put_metres.ensures c.in_ok-put_tenths.ensures c.in_ok-extend_from_slice.ensures.items
