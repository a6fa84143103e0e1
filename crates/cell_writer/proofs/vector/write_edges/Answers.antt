use Rattle.cell_writer.specs.Layout.{edge_parts}
use Rattle.cell_writer.specs.Sized.{EdgeFits}
use Rattle.cell_writer.proofs.Loops.{all_through, one_more}
use Rattle.cell_writer.proofs.Numbered.{appended, short}
use Rattle.cell_writer.proofs.Rooms.{kept_through}
use Rattle.cell_writer.proofs.vector.write_edges.Goals as goal

pub loop-index-preserved : goal.loop-index-preserved
loop-index-preserved c =
    let k = c.loop-index.index in
    record {
      items = appended edge_parts c.args.first k c.args.edges.now c.index-edges-index.result _ _ _ c.loop-index-test.true c.index-edges-index.is c.in_ok-write_edge.ensures.items c.loop-index.invariant.items;
      room = kept_through c.args.out.now c.loop-index.out c.write_edge.new.out _ c.in_ok-write_edge.ensures.items c.loop-index.invariant.room c.in_ok-write_edge.ensures.room;
      short = (short edge_parts c.args.first k c.args.edges.now c.index-edges-index.result c.loop-index-test.true c.index-edges-index.is c.loop-index.invariant.short).1;
      fits = one_more EdgeFits c.args.edges.now k c.index-edges-index.result c.loop-index-test.true c.index-edges-index.is c.loop-index.invariant.fits c.in_ok-write_edge.ensures.fits;
    }

pub returns-clause-fits : goal.returns-clause-fits
returns-clause-fits c = all_through EdgeFits c.args.edges.now c.loop-index.index c.loop-index-test.false c.loop-index.invariant.fits
