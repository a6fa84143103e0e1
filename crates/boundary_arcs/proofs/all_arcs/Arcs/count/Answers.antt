use Rattle.std.proofs.Common.{length, arith}
use Rattle.boundary_arcs.proofs.Sizes.{two_each}
use Rattle.boundary_arcs.proofs.all_arcs.Arcs.count.Goals as goal

pub returns-clause-few : goal.returns-clause-few
returns-clause-few c =
    let s = c.args.self.now in
    let two = two_each (λ a. length a.points) s.arcs.items (λ i d h. (s.agree.simple i d h).long) in
    let few = s.agree.few in
    omega (arith, two, few, c.len.ensures)
