use Rattle.std.proofs.Common.{length, map, sym, subst, subst₂, ⊎_elim, arith}
use Rattle.std.proofs.lemmas.Bool.{cases_eq}
use Rattle.ring_cutter.specs.Rings.{begins, ends}
use Rattle.ring_cutter.specs.Cutting.{Rests, IsUsed}
use Rattle.ring_cutter.proofs.Step.{used_as_coded}
use Rattle.ring_cutter.proofs.Permuted.{cut_is_whole}
use Rattle.ring_cutter.proofs.cut.Goals as goal
use Rattle.ring_cutter.proofs.cut.Goals.{then-not-index+in_ok-walk_round, else-not-index}

pub loop-start-preserved : goal.loop-start-preserved
loop-start-preserved c =
    let hops = c.args.hops.now in
    let from = begins hops in
    let to = ends hops in
    let points = length c.args.table.now.items in
    let after = c.in_ok-after.after.items in
    let start = c.loop-start.start in
    let inv = c.loop-start.invariant in
    elim c.if-not-index.branch [
      | then-not-index+in_ok-walk_round v ↦
          let e = v.in_ok-walk_round.ensures in
          record {
            rests = subst₂ (λ x y. Rests from to points (length hops) after x.items y.items c.if-not-index.path.items (map (λ r. r.items) c.if-not-index.rings.items)) (sym v.used-is) (sym v.table-is)
                (subst₂ (λ x y. Rests from to points (length hops) after v.walk_round.new.used.items v.walk_round.new.place.items x.items (map (λ r. r.items) y.items)) (sym v.path-is) (sym v.rings-is) (subst₂ (λ n z. Rests from to n (length hops) z v.walk_round.new.used.items v.walk_round.new.place.items v.walk_round.new.path.items (map (λ r. r.items) v.walk_round.new.rings.items)) inv.rests.blank.wide v.deref.ensures.value e.rests));
            taken = λ a l. subst (λ x. IsUsed x.items a) (sym v.used-is)
                (⊎_elim (λ i. subst (IsUsed v.walk_round.new.used.items) (sym i) e.taken) (λ d. e.grows a (inv.taken a (omega arith))) (cases_eq a start));
          }
      | else-not-index v ↦
          record {
            rests = subst₂ (λ x y. Rests from to points (length hops) after x.items y.items c.if-not-index.path.items (map (λ r. r.items) c.if-not-index.rings.items)) (sym v.used-is) (sym v.table-is)
                (subst₂ (λ x y. Rests from to points (length hops) after c.loop-start.used.items c.loop-start.table.items x.items (map (λ r. r.items) y.items)) (sym v.path-is) (sym v.rings-is) inv.rests);
            taken = λ a l. subst (λ x. IsUsed x.items a) (sym v.used-is)
                (⊎_elim (λ i. subst (IsUsed c.loop-start.used.items) (sym i) (used_as_coded c.loop-start.used.items start c.index.result.now c.index.ensures (omega (arith, inv.rests.takes.wide, c.loop-start-test.true)) v.if-not-index.false)) (λ d. inv.taken a (omega arith)) (cases_eq a start));
          }
    ]

pub returns-clause-rings : goal.returns-clause-rings
returns-clause-rings c =
    let inv = c.loop-start.invariant in
    cut_is_whole c.args.hops.now (length c.args.table.now.items) c.in_ok-after.after.items c.loop-start.used.items c.loop-start.table.items c.loop-start.path.items (map (λ r. r.items) c.loop-start.rings.items) inv.rests (λ a l. inv.taken a (omega (arith, l, c.loop-start-test.false, c.loop-start.auto.start-end)))
