use Rattle.cell_writer.specs.Layout.{isolated_parts}
use Rattle.cell_writer.specs.Sized.{IsolatedFits}
use Rattle.cell_writer.proofs.Loops.{one_more}
use Rattle.cell_writer.proofs.Numbered.{appended, short}
use Rattle.cell_writer.proofs.Rooms.{kept_through}
use Rattle.cell_writer.proofs.vector.write_isolated_nodes.Goals as goal

pub loop-index-preserved : goal.loop-index-preserved
loop-index-preserved c =
    let k = c.loop-index.index in
    record {
      items = appended isolated_parts c.args.first k c.args.nodes.now c.index-nodes-index.result _ _ _ c.loop-index-test.true c.index-nodes-index.is c.in_ok-write_isolated.ensures.items c.loop-index.invariant.items;
      room = kept_through c.args.out.now c.loop-index.out c.write_isolated.new.out _ c.in_ok-write_isolated.ensures.items c.loop-index.invariant.room c.in_ok-write_isolated.ensures.room;
      short = (short isolated_parts c.args.first k c.args.nodes.now c.index-nodes-index.result c.loop-index-test.true c.index-nodes-index.is c.loop-index.invariant.short).1;
      fits = one_more IsolatedFits c.args.nodes.now k c.index-nodes-index.result c.loop-index-test.true c.index-nodes-index.is c.loop-index.invariant.fits c.in_ok-write_isolated.ensures.fits;
    }
