use Rattle.std.proofs.Common.{◌+◌, ◌-◌, ◌≤◌, ⊎_elim, length, ◌∙◌, ap, sym, subst, refl, arith, rules}
use Rattle.std.proofs.lemmas.List.{with_items_is}
use Rattle.shoal_buffer.specs.Cores.{AreLeastKeys}
use Rattle.shoal_buffer.specs.Passes.{node_key}
use Rattle.shoal_buffer.proofs.CoreLemmas.{cores_north}
use Rattle.shoal_buffer.proofs.pass.Pass.take_north.Goals as goal

pub returns-in-Some-clause-cores : goal.returns-in-Some-clause-cores
returns-in-Some-clause-cores c =
    let p = c.args.self.now in
    let d = p.discs in
    let cs = c.args.cores.now in
    let e = with_items_is cs.least c.take_in.new.least (c.take_in.ensures.full ∙ ap length c.deref_mut.ensures.value ∙ sym cs.least.ok.0) in
    record {
      row_in = c.requires.cores.row_in;
      spare = c.requires.cores.spare;
      keys = subst (AreLeastKeys (node_key p) d.rows d.cols d.reach.aspect d.reach.radius (cs.north + 1) cs.south cs.reserve cs.row) (sym e)
          (cores_north d.rows d.cols d.reach.aspect d.reach.radius (node_key p) cs.north cs.south cs.reserve cs.row (cs.row - (cs.north + 1)) cs.least.items c.deref_mut.result.now c.in-Some.row.now c.take_in.new.least c.deref_mut.ensures.value c.in-Some.ensures.row refl (omega (arith, c.if-cores.false)) c.requires.cores.row_in c.requires.chord c.take_in.ensures.full c.take_in.ensures.each c.requires.cores.keys);
    }

pub returns-in_default-clause-cores : goal.returns-in_default-clause-cores
returns-in_default-clause-cores c =
    let p = c.args.self.now in
    let d = p.discs in
    let cs = c.args.cores.now in
    let le : cs.north + 1 ≤ cs.row = omega (arith, c.if-cores.false) in
    let n = c.requires.window.north (cs.row - (cs.north + 1)) (omega arith) (omega (arith, c.requires.near, le)) in
    let s = c.requires.window.south (cs.row - (cs.north + 1)) (omega (arith, c.requires.cores.row_in)) (omega arith) in
    absurd (⊎_elim (λ h. omega (arith, h, n)) (λ h. omega (arith, h, s)) (c.in_default.ensures.none (search rules)))
