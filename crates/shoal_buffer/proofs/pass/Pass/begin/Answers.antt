use Rattle.std.proofs.Common.{⊎_elim, arith, rules}
use Rattle.shoal_buffer.specs.Passes.{node_key}
use Rattle.shoal_buffer.proofs.CoreLemmas.{cores_start}
use Rattle.shoal_buffer.proofs.pass.Pass.begin.Goals as goal

pub returns-in-Some-clause-cores : goal.returns-in-Some-clause-cores
returns-in-Some-clause-cores c =
    let p = c.args.self.now in
    let d = p.discs in
    record {
      row_in = c.requires.row;
      spare = c.requires.spare;
      keys = cores_start d.rows d.cols d.reach.aspect d.reach.radius (node_key p) c.args.row d.across c.copy_from_slice.new.self.items c.in-Some.own.now c.copy_from_slice.ensures.items c.in-Some.ensures.row d.widest;
    }

pub returns-in_default-clause-cores : goal.returns-in_default-clause-cores
returns-in_default-clause-cores c =
    let n = c.requires.window.north c.args.row (omega arith) (omega arith) in
    let s = c.requires.window.south c.args.row c.requires.row (omega arith) in
    absurd (⊎_elim (λ h. omega (arith, h, n)) (λ h. omega (arith, h, s)) (c.in_default.ensures.none (search rules)))
