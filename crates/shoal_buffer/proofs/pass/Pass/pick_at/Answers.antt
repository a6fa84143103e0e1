use Rattle.std.proofs.Common.{◌≡◌, ◌∙◌, ◌+◌, ◌*◌, ◌<◌, pos, None, get_or, length, to_z, of_z, w32, FitsSigned, ap, refl, rules, arith}
use Rattle.std.proofs.lemmas.Int.{to_z-of_z}
use Rattle.std.proofs.lemmas.List.{get_or_read}
use Rattle.shoal_buffer.specs.Keys.{at, value_where}
use Rattle.shoal_buffer.specs.Passes.{node_key}
use Rattle.shoal_buffer.proofs.WholeDiscLemmas.{whole_core, picked_where}
use Rattle.shoal_buffer.proofs.pass.Pass.pick_at.Goals as goal

pub returns : goal.returns
returns c =
    let p = c.args.self.now in
    let d = p.discs in
    let cs = c.args.cores.now in
    let v = get_or p.values.now (cs.row * d.cols + c.args.col) None in
    let fits : FitsSigned w32 c.index.result.now = search rules in
    let inside : c.args.col < length cs.least.items = omega (arith, c.requires.col, c.requires.cores.keys.full) in
    let number : to_z w32 (of_z w32 c.index.result.now) ≡ at cs.least.items c.args.col = to_z-of_z w32 c.index.result.now fits ∙ get_or_read cs.least.items c.args.col c.index.result.now inside c.index.ensures (pos 0) in
    let cores = whole_core (node_key p) d.rows d.cols d.reach.aspect d.reach.radius cs.north cs.south cs.reserve cs.row c.args.col d.away (at cs.least.items c.args.col) c.requires.north c.requires.south c.requires.reserve (c.requires.cores.keys.each c.args.col c.requires.col) in
    picked_where p.pick d.rows d.cols d.reach.aspect d.reach.radius d.away p.values.now cs.row c.args.col c.requires.cores.row_in c.requires.col d.whole (at cs.least.items c.args.col) v c.value_where.result
    cores refl c.value_where.ensures.within (c.value_where.ensures.result ∙ ap (λ z. value_where p.pick z v) number)
