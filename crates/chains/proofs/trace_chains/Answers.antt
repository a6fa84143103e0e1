use Rattle.std.proofs.Common.{List, Vec, Global, map}
use Rattle.chains.specs.declared.Half.{Half}
use Rattle.chains.proofs.Whole.{these_are_chains}
use Rattle.chains.proofs.trace_chains.Goals as goal

pub returns : goal.returns
returns c =
    let items : Vec Half Global → List Half = λ v. v.items in
    let e = c.in_ok-take_closed_chains.ensures in
    these_are_chains c.args.lines.now c.args.points c.requires c.take_closed_chains.new.used.items c.take_closed_chains.new.path.items (map items c.take_closed_chains.new.chains.items) e.rests e.taken
