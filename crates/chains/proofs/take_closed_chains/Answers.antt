use Rattle.std.proofs.Common.{true}
use Rattle.chains.proofs.Halves.{half_of}
use Rattle.chains.proofs.Resting.{closed_may_begin}
use Rattle.chains.proofs.take_closed_chains.Goals as goal

pub take_chain-requires-clause-begins : goal.take_chain-requires-clause-begins
take_chain-requires-clause-begins c =
    closed_may_begin c.args.lines.now c.loop-i.used.items c.loop-i.invariant.opened (half_of c.loop-i.i true)
