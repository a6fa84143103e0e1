use Rattle.std.proofs.Common.{◌≡◌, Some, true, length, map, get_or, set, sym, ap, subst, subst₂, arith}
use Rattle.ring_cutter.specs.Rings.{begins, ends}
use Rattle.ring_cutter.specs.Cutting.{Walks}
use Rattle.ring_cutter.proofs.Step.{place_is_on_path, walk_goes_on, walk_goes_on_after_cut, used_stays, walk_is_round, unused_as_coded, used_as_coded}
use Rattle.ring_cutter.proofs.walk_round.Goals as goal
use Rattle.ring_cutter.proofs.walk_round.Goals.{in-Some+in_ok-close, in_default}

pub close-requires-clause-long : goal.close-requires-clause-long
close-requires-clause-long c =
    let hops = c.args.hops.now in
    let w = c.loop-used.invariant.walks in
    let arc = c.loop-used.arc in
    let fresh = unused_as_coded c.loop-used.used.items arc c.index.result.now c.index.ensures (omega (arith, w.takes.wide, w.inside)) c.loop-used-test.true in
    let n : c.len-top.result ≡ length c.loop-used.path.items = omega (arith, c.len-top.ensures, c.loop-used.path.ok.0) in
    let k = place_is_on_path (begins hops) (ends hops) (length c.args.place.now.items) (length hops) c.args.after.now c.requires.goes c.loop-used.used.items c.loop-used.place.items c.loop-used.path.items (map (λ r. r.items) c.loop-used.rings.items) c.args.start arc w fresh (c.requires.balanced.begin_inside arc w.inside) (c.requires.balanced.end_inside arc w.inside) c.begin_of-p.result c.begin_of-p.ensures c.len-top.result n c.push.new.self.items c.in_ok-push.ensures.items c.end_of-q.result c.end_of-q.ensures c.index-in-loop-used.result.now c.index-in-loop-used.ensures c.in-Some.k c.in-Some.is in
    omega (arith, k)

pub loop-used-preserved : goal.loop-used-preserved
loop-used-preserved c =
    let hops = c.args.hops.now in
    let w = c.loop-used.invariant.walks in
    let arc = c.loop-used.arc in
    let fresh = unused_as_coded c.loop-used.used.items arc c.index.result.now c.index.ensures (omega (arith, w.takes.wide, w.inside)) c.loop-used-test.true in
    let n : c.len-top.result ≡ length c.loop-used.path.items = omega (arith, c.len-top.ensures, c.loop-used.path.ok.0) in
    record {
      walks = elim c.match-index.branch [
        | in-Some+in_ok-close v ↦
            let r = walk_goes_on_after_cut (begins hops) (ends hops) (length c.args.place.now.items) (length hops) c.args.after.now c.requires.goes c.loop-used.used.items c.loop-used.place.items c.loop-used.path.items (map (λ r. r.items) c.loop-used.rings.items) c.args.start arc w fresh (c.requires.balanced.begin_inside arc w.inside) (c.requires.balanced.end_inside arc w.inside) c.begin_of-p.result c.begin_of-p.ensures c.len-top.result n c.push.new.self.items c.in_ok-push.ensures.items c.end_of-q.result c.end_of-q.ensures c.index-in-loop-used.result.now c.index-in-loop-used.ensures v.in-Some.k v.in-Some.is v.close.new.place.items v.close.new.path.items (map (λ r. r.items) v.close.new.rings.items) v.in_ok-close.ensures in
            subst (λ z. Walks (begins hops) (ends hops) (length c.args.place.now.items) (length hops) c.args.after.now (set c.loop-used.used.items arc true) z.items c.match-index.path.items (map (λ r. r.items) c.match-index.rings.items) c.args.start (get_or c.args.after.now arc 0)) (sym v.place-is)
            (subst₂ (λ x y. Walks (begins hops) (ends hops) (length c.args.place.now.items) (length hops) c.args.after.now (set c.loop-used.used.items arc true) v.close.new.place.items x.items (map (λ r. r.items) y.items) c.args.start (get_or c.args.after.now arc 0)) (sym v.path-is) (sym v.rings-is) r)
        | in_default v ↦
            let r = walk_goes_on (begins hops) (ends hops) (length c.args.place.now.items) (length hops) c.args.after.now c.requires.goes c.loop-used.used.items c.loop-used.place.items c.loop-used.path.items (map (λ r. r.items) c.loop-used.rings.items) c.args.start arc w fresh (c.requires.balanced.begin_inside arc w.inside) (c.requires.balanced.end_inside arc w.inside) c.begin_of-p.result c.begin_of-p.ensures c.len-top.result n c.push.new.self.items c.in_ok-push.ensures.items c.end_of-q.result c.end_of-q.ensures c.index-in-loop-used.result.now c.index-in-loop-used.ensures v.in_default.is in
            subst (λ z. Walks (begins hops) (ends hops) (length c.args.place.now.items) (length hops) c.args.after.now (set c.loop-used.used.items arc true) z c.match-index.path.items (map (λ r. r.items) c.match-index.rings.items) c.args.start (get_or c.args.after.now arc 0)) (sym (ap (λ z. z.items) v.place-is))
            (subst₂ (λ x y. Walks (begins hops) (ends hops) (length c.args.place.now.items) (length hops) c.args.after.now (set c.loop-used.used.items arc true) (set c.loop-used.place.items c.begin_of-p.result (Some c.len-top.result)) x.items (map (λ r. r.items) y.items) c.args.start (get_or c.args.after.now arc 0)) (sym v.path-is) (sym v.rings-is) r)
      ];
      grows = λ a u. used_stays (begins hops) (ends hops) (length c.args.place.now.items) (length hops) c.args.after.now c.requires.goes c.loop-used.used.items c.loop-used.place.items c.loop-used.path.items (map (λ r. r.items) c.loop-used.rings.items) c.args.start arc w fresh a (c.loop-used.invariant.grows a u);
    }

pub returns-clause-rests : goal.returns-clause-rests
returns-clause-rests c =
    let w = c.loop-used.invariant.walks in
    walk_is_round (begins c.args.hops.now) (ends c.args.hops.now) (length c.args.place.now.items) (length c.args.hops.now) c.args.after.now c.loop-used.used.items c.loop-used.place.items (map (λ r. r.items) c.loop-used.rings.items) c.args.start c.loop-used.arc c.loop-used.path.items w (used_as_coded c.loop-used.used.items c.loop-used.arc c.index.result.now c.index.ensures (omega (arith, w.takes.wide, w.inside)) c.loop-used-test.false)
