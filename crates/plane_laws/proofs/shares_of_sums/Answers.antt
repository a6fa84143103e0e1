use Rattle.plane_laws.proofs.Shares.{share_of_sum, shares_apart, share_of_member, one_of_sum}
use Rattle.plane_laws.proofs.shares_of_sums.Goals as goal

pub returns : goal.returns
returns g c = record { share = λ f. share_of_sum f; apart = λ f. shares_apart f; member = λ f. share_of_member f; one = λ f. one_of_sum f }
