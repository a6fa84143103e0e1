use Rattle.check_laws.proofs.Crossing.{FieldLaws}
use Rattle.check_laws.proofs.Numbered.{SumLaws}
use Rattle.check_laws.proofs.Uncrossed.{charts_are_uncrossed}
use Rattle.check_laws.proofs.charts_are_uncrossed.Goals as goal

pub returns : goal.returns
returns c =
    let sums : SumLaws = record {
      order = c.winding_numbers.ensures.any_order;
      odd = c.count_parity.ensures.odd;
      even = c.count_parity.ensures.even;
      share = c.shares_of_sums.ensures.share;
      apart = c.shares_of_sums.ensures.apart;
      member = c.shares_of_sums.ensures.member;
      one = c.shares_of_sums.ensures.one;
      over = c.boundary_sums.ensures.count;
      outline = c.boundary_sums.ensures.outline_sum;
      ways = c.mesh_borders.ensures.both_ways;
      same = c.mesh_borders.ensures.same_piece;
    } in
    let laws : FieldLaws = record {
      sums = sums;
      boundary = c.boundary_sums.ensures.boundary_sum;
      convex = c.closed_pieces.ensures.convex;
      nest = c.chords_are_apart.ensures.nested;
      once = c.piece_laws.ensures.once;
      below = c.rational_counts.ensures.none_below;
      single = c.rational_counts.ensures.outline;
      keep = c.mesh_lines.ensures.outline;
    } in
    charts_are_uncrossed c.lines_of_strips.ensures.spans c.edge_lines.ensures.areas c.edge_lines.ensures.lines c.line_places.ensures.inside c.truth_law.ensures.fields laws
