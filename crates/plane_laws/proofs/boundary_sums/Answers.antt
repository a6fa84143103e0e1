use Rattle.plane_laws.proofs.Cancel.{boundary_sum, sum_over_pieces, count_over_pieces, outline_sum}
use Rattle.plane_laws.proofs.boundary_sums.Goals as goal

pub returns : goal.returns
returns g c = record {
  boundary_sum = λ b. boundary_sum b;
  over_pieces = λ b. sum_over_pieces b;
  count = λ b. count_over_pieces b;
  outline_sum = λ b. outline_sum b;
}
