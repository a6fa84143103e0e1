use Rattle.plane_laws.proofs.Counts.{count_is, counts_add, counts_in_any_order, points_count_nothing, turns_back, walks_add, walks_back}
use Rattle.plane_laws.proofs.winding_numbers.Goals as goal

pub returns : goal.returns
returns c = record { sum = count_is; lists = counts_add; any_order = counts_in_any_order; points = points_count_nothing; turned = turns_back; walks = walks_add; walks_back = walks_back }
