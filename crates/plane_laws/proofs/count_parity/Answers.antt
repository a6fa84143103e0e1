use Rattle.plane_laws.proofs.Meeting.{passes_where_met}
use Rattle.plane_laws.proofs.Parity.{odd_count, even_count, odd_in_any_order}
use Rattle.plane_laws.proofs.count_parity.Goals as goal

pub returns : goal.returns
returns c = record { passes = passes_where_met; odd = odd_count; even = even_count; any_order = odd_in_any_order }
