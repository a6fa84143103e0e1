use Rattle.record_size_laws.proofs.ByNeed.Whole.{faces_are_short, outlines_are_short}
use Rattle.record_size_laws.proofs.blocks_by_need_have_short_borders.Goals as goal

pub returns : goal.returns
returns c = record { faces = faces_are_short; outlines = outlines_are_short }
