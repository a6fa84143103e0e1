use Rattle.std.proofs.Common.{◌≡◌, ◌+◌, ◌<◌, length, sym, subst₂, arith}
use Rattle.disjoint_sets.specs.Views.{parents_of}
use Rattle.disjoint_sets.proofs.Counting.{Counted, root_counted_as_coded, other_counted_as_coded, all_counted}
use Rattle.disjoint_sets.proofs.forest.Forest.into_numbers.Goals as goal
use Rattle.disjoint_sets.proofs.forest.Forest.into_numbers.Goals.{then-parent-item, else-parent-item}

pub loop-item-preserved : goal.loop-item-preserved
loop-item-preserved c =
    let parents = parents_of c.args.self in
    let numbers = c.loop-item.numbers.items in
    let item = c.loop-item.item in
    let inv = c.loop-item.invariant in
    let inside : item < length parents = omega (arith, c.len-item-end.ensures, c.args.self.parents.ok.0, c.loop-item-test.true) in
    elim c.if-parent-item.branch [
      | then-parent-item w ↦
          subst₂ (λ x y. Counted parents x.items (item + 1) y) (sym w.numbers-is) (sym w.count-is)
          (root_counted_as_coded parents numbers item c.loop-item.count inside inv c.index.result.now c.index.ensures w.if-parent-item.true)
      | else-parent-item w ↦
          subst₂ (λ x y. Counted parents x.items (item + 1) y) (sym w.numbers-is) (sym w.count-is)
          (other_counted_as_coded parents numbers item c.loop-item.count c.args.self.sound inside inv c.index.result.now c.index.ensures w.if-parent-item.false w.index-else-parent-item.result.now w.index-else-parent-item.ensures)
    ]

pub returns : goal.returns
returns c =
    let parents = parents_of c.args.self in
    let n : c.len-item-end.result ≡ length parents = omega (arith, c.len-item-end.ensures, c.args.self.parents.ok.0) in
    all_counted parents c.loop-item.numbers.items c.loop-item.item c.loop-item.count c.args.self.sound (omega (arith, n, c.loop-item-test.false)) (omega (arith, n, c.loop-item.auto.item-end)) c.loop-item.invariant
