use Rattle.check_laws.proofs.Numbered.{SumLaws}
use Rattle.check_laws.proofs.Right.{charts_are_right, charts_have_no_wrong}
use Rattle.check_laws.proofs.charts_are_right.Goals as goal

pub returns : goal.returns
returns c =
    let laws : SumLaws = record {
      order = c.winding_numbers.ensures.any_order;
      odd = c.count_parity.ensures.odd;
      even = c.count_parity.ensures.even;
      share = c.shares_of_sums.ensures.share;
      apart = c.shares_of_sums.ensures.apart;
      member = c.shares_of_sums.ensures.member;
      one = c.shares_of_sums.ensures.one;
      over = c.boundary_sums.ensures.count;
      outline = c.boundary_sums.ensures.outline_sum;
      ways = c.mesh_borders.ensures.both_ways;
      same = c.mesh_borders.ensures.same_piece;
    } in
    let right = charts_are_right laws c.piece_laws.ensures.once c.truth_law.ensures.fields c.rational_counts.ensures.none_below c.rational_counts.ensures.outline in
    record { right = right; no_wrong = charts_have_no_wrong right }
