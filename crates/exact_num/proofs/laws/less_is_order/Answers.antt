use Rattle.exact_num.proofs.Orders.{one_of_three, never_two, goes_on}
use Rattle.exact_num.proofs.laws.less_is_order.Goals as goal

pub returns : goal.returns
returns c = record { one = one_of_three; apart = never_two; goes_on = goes_on }
