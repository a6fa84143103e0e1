use Rattle.std.proofs.Common.{◌≡◌, Some, length, refl, subst, sym, ◌∙◌, arith}
use Rattle.std.specs.Option.{IsSome}
use Rattle.ring_cutter.specs.Rings.{begins, ends}
use Rattle.ring_cutter.specs.Cutting.{Pairs}
use Rattle.ring_cutter.proofs.Pairs.{departures_are_left, departure_found_as_coded, arc_paired_as_coded, all_arcs_paired, table_is_blank, Some_is_injective}
use Rattle.ring_cutter.proofs.pair_up.Goals as goal

pub unwrap-b-requires : goal.unwrap-b-requires
unwrap-b-requires c =
    let hops = c.args.hops.now in
    let i = c.loop-a.a in
    let h = departure_found_as_coded (begins hops) (ends hops) (length c.args.first.now.items) (length hops) i c.loop-a.first.items c.in_ok-next.next.items c.loop-a.after.items c.loop-a.invariant (c.requires.balanced.end_inside i (omega arith)) (departures_are_left hops (length c.args.first.now.items) i c.requires.balanced (omega arith)) c.end_of-p.result c.end_of-p.ensures c.index.result.now c.index.ensures in
    subst IsSome (sym h.1) refl

pub index-requires-in-loop-a : goal.index-requires-in-loop-a
index-requires-in-loop-a c =
    let hops = c.args.hops.now in
    let i = c.loop-a.a in
    let h = departure_found_as_coded (begins hops) (ends hops) (length c.args.first.now.items) (length hops) i c.loop-a.first.items c.in_ok-next.next.items c.loop-a.after.items c.loop-a.invariant (c.requires.balanced.end_inside i (omega arith)) (departures_are_left hops (length c.args.first.now.items) i c.requires.balanced (omega arith)) c.end_of-p.result c.end_of-p.ensures c.index.result.now c.index.ensures in
    let e : c.index.result.now ≡ Some c.unwrap-b.result = c.unwrap-b.ensures in
    omega (arith, Some_is_injective h.0 c.unwrap-b.result (sym h.1 ∙ e), h.2, c.in_ok-next.next.ok.0)

pub loop-a-preserved : goal.loop-a-preserved
loop-a-preserved c =
    let hops = c.args.hops.now in
    let i = c.loop-a.a in
    arc_paired_as_coded (begins hops) (ends hops) (length c.args.first.now.items) (length hops) i c.loop-a.first.items c.in_ok-next.next.items c.loop-a.after.items c.loop-a.invariant (c.requires.balanced.end_inside i (omega arith)) (departures_are_left hops (length c.args.first.now.items) i c.requires.balanced (omega arith)) c.end_of-p.result c.end_of-p.ensures c.index.result.now c.index.ensures c.unwrap-b.result c.unwrap-b.ensures c.index-in-loop-a.result.now c.index-in-loop-a.ensures c.push.new.self.items c.in_ok-push.ensures.items

pub returns-clause-goes : goal.returns-clause-goes
returns-clause-goes c =
    let hops = c.args.hops.now in
    let m : c.loop-a.a ≡ length hops = omega (arith, c.loop-a-test.false, c.loop-a.auto.a-end) in
    all_arcs_paired (begins hops) (ends hops) (length c.args.first.now.items) (length hops) c.loop-a.first.items c.in_ok-next.next.items c.loop-a.after.items (subst (λ z. Pairs (begins hops) (ends hops) (length c.args.first.now.items) (length hops) z c.loop-a.first.items c.in_ok-next.next.items c.loop-a.after.items) m c.loop-a.invariant)

pub returns-clause-blank : goal.returns-clause-blank
returns-clause-blank c =
    let hops = c.args.hops.now in
    let m : c.loop-a.a ≡ length hops = omega (arith, c.loop-a-test.false, c.loop-a.auto.a-end) in
    table_is_blank hops (length c.args.first.now.items) c.loop-a.first.items c.in_ok-next.next.items c.loop-a.after.items c.requires.balanced (subst (λ z. Pairs (begins hops) (ends hops) (length c.args.first.now.items) (length hops) z c.loop-a.first.items c.in_ok-next.next.items c.loop-a.after.items) m c.loop-a.invariant)
