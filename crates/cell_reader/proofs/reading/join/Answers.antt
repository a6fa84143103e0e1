use Rattle.std.proofs.Common.{Ok, ap, sym}
use Rattle.cell_reader.proofs.reading.join.Goals as goal

pub returns : goal.returns
returns c = rw (c.whole_laws.ensures.none_due c.args.parts c.in_ok-new.ensures.whole) (ap Ok (sym c.in_ok-new.ensures.same))
