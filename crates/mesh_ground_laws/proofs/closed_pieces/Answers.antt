use Rattle.mesh_ground_laws.proofs.ClosedPieces.{none_beyond_steps, pieces_are_convex, pieces_count_inside}
use Rattle.mesh_ground_laws.proofs.closed_pieces.Goals as goal

pub returns : goal.returns
returns c =
    let same = c.mesh_borders.ensures.same_piece in
    let beyond = none_beyond_steps c.boundary_sums.ensures.boundary_sum c.mesh_borders.ensures.both_ways same c.piece_counts.ensures.in_triangles in
    record { convex = pieces_are_convex same; beyond = beyond; inside = pieces_count_inside same beyond }
