use Rattle.std.proofs.Common.{◌≡◌, ◌-◌, ◌<◌, ℕ, length, to_z, of_z, w32, subst, rules, arith}
use Rattle.shoal_buffer.specs.Keys.{at, least_beside}
use Rattle.shoal_buffer.proofs.RowLemmas.{set_more}
use Rattle.shoal_buffer.proofs.rows.widen.Goals as goal

pub returns-clause-each : goal.returns-clause-each
returns-clause-each c = λ k h.
    let from = c.args.from.now in
    let n = length from - 1 in
    let ends : c.loop-k.k ≡ n = omega (arith, c.requires.several, c.loop-k.auto.k-end, c.loop-k-test.false) in
    let last : to_z w32 (of_z w32 c.east_end.result) ≡ least_beside from n = search rules in
    set_more (least_beside from) c.loop-k.to n (to_z w32 (of_z w32 c.east_end.result)) (omega (arith, c.requires.several, c.loop-k.invariant.full))
    (subst (λ j. (i : ℕ) → i < j → at c.loop-k.to i ≡ least_beside from i) ends c.loop-k.invariant.done) last k (omega (arith, h, c.requires.several))
