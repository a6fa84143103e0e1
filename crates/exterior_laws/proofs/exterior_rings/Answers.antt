use Rattle.exterior_laws.proofs.Pieces.{pieces_have_area, sets_have_area, some_ring_is_exterior}
use Rattle.exterior_laws.proofs.exterior_rings.Goals as goal

pub returns : goal.returns
returns c =
    let pieces = pieces_have_area c.boundary_sums.ensures.boundary_sum c.mesh_borders.ensures.both_ways c.mesh_borders.ensures.same_piece c.mesh_lines.ensures.lines c.closed_pieces.ensures.convex in
    let sets = sets_have_area c.mesh_counts.ensures.area c.piece_laws.ensures.once pieces in
    record { pieces = pieces; sets = sets; rings = some_ring_is_exterior sets }
