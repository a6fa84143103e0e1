use Rattle.mesh_counts_laws.proofs.Single.{pieces_count_apart, pieces_count_once, sets_count_once}
use Rattle.mesh_counts_laws.proofs.counts_are_single.Goals as goal

pub returns : goal.returns
returns c =
    let counts = c.mesh_counts.ensures.counts in
    let outline = c.mesh_counts.ensures.outline in
    let share = c.shares_of_sums.ensures.share in
    let once = c.piece_laws.ensures.once in
    let from_zero = c.piece_counts.ensures.from_zero in
    let exact = c.outline_counts.ensures.exact in
    let sets = sets_count_once counts outline share once from_zero exact in
    let pieces = pieces_count_once sets in
    record {
      pieces = pieces;
      sets = sets;
      apart = pieces_count_apart counts outline share once from_zero exact c.mesh_borders.ensures.same_piece c.shares_of_sums.ensures.apart c.shares_of_sums.ensures.member pieces;
    }
