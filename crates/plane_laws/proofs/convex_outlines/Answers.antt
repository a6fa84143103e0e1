use Rattle.plane_laws.proofs.Convex.{convex_never_negative, convex_beyond_segment, apart_from_left, apart_on_line}
use Rattle.plane_laws.proofs.convex_outlines.Goals as goal

pub returns : goal.returns
returns c = record { never_negative = convex_never_negative; beyond = convex_beyond_segment; apart = apart_from_left; apart_on_line = apart_on_line }
