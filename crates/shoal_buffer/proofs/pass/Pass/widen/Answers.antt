use Rattle.std.proofs.Common.{◌≡◌, ◌+◌, ◌-◌, ◌∙◌, length, sym, ap, subst, arith}
use Rattle.std.proofs.lemmas.List.{with_items_is}
use Rattle.shoal_buffer.specs.Cores.{AreLeastKeys}
use Rattle.shoal_buffer.specs.Passes.{node_key}
use Rattle.shoal_buffer.proofs.NearLemmas.{near_mono}
use Rattle.shoal_buffer.proofs.CoreLemmas.{cores_widen}
use Rattle.shoal_buffer.proofs.pass.Pass.widen.Goals as goal

pub loop-cores-preserved : goal.loop-cores-preserved
loop-cores-preserved c =
    let p = c.args.self.now in
    let d = p.discs in
    let cs = c.loop-cores.cores in
    let i = c.loop-cores.invariant in
    let n = cs.reserve - 1 in
    let more : n + 1 ≡ cs.reserve = omega (arith, c.loop-cores-test.true) in
    let is = near_mono d.reach.aspect d.reach.radius c.args.cores.now.south c.args.cores.now.south (n + 1) c.args.cores.now.reserve (omega arith) (omega (arith, more, i.most)) c.requires.chord.is_near in
    let old : AreLeastKeys (node_key p) d.rows d.cols d.reach.aspect d.reach.radius cs.north cs.south (n + 1) cs.row cs.least.items = subst (λ z. AreLeastKeys (node_key p) d.rows d.cols d.reach.aspect d.reach.radius cs.north cs.south z cs.row cs.least.items) (sym more) i.cores.keys in
    let ws = c.widen.new.to in
    let e = with_items_is cs.spare ws (c.widen.ensures.full ∙ ap length c.deref.ensures.value ∙ i.cores.keys.full ∙ sym i.cores.spare ∙ sym cs.spare.ok.0) in
    let x_items : c.swap.new.x.items ≡ ws = subst (λ v. v.items ≡ ws) (sym c.swap.ensures.x_after) e in
    record {
      cores = record {
        row_in = i.cores.row_in;
        spare = subst (λ v. length v.items ≡ d.cols) (sym c.swap.ensures.y_after) i.cores.keys.full;
        keys = subst (AreLeastKeys (node_key p) d.rows d.cols d.reach.aspect d.reach.radius cs.north cs.south n cs.row) (sym x_items)
            (cores_widen d.rows d.cols d.reach.aspect d.reach.radius (node_key p) cs.north cs.south n cs.row c.args.cores.now.south cs.least.items c.deref.result.now ws c.deref.ensures.value
            (omega (arith, i.north, c.requires.level)) (omega (arith, i.south)) (omega (arith, more, i.most, c.requires.chord.below)) is c.widen.ensures.full c.widen.ensures.each old);
      };
      less = omega (arith, c.loop-cores-test.true);
      most = omega (arith, i.most);
      row = i.row;
      north = i.north;
      south = i.south;
    }
