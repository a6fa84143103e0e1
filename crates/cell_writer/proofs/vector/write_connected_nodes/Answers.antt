use Rattle.std.proofs.Common.{get_or, pos}
use Rattle.std.proofs.lemmas.List.{get_or_default}
use Rattle.cell_writer.specs.Layout.{connected_parts}
use Rattle.chart_model.specs.declared.records.Connected.{Connected}
use Rattle.cell_writer.specs.Sized.{ConnectedFits}
use Rattle.cell_writer.proofs.Loops.{one_more}
use Rattle.cell_writer.proofs.Numbered.{appended, short}
use Rattle.cell_writer.proofs.Rooms.{kept_through}
use Rattle.cell_writer.proofs.vector.write_connected_nodes.Goals as goal

pub loop-index-preserved : goal.loop-index-preserved
loop-index-preserved c =
    let none : Connected = record { rcid = 0; rver = 0; at = record { x = pos 0; y = pos 0 } } in
    let node : Connected = get_or c.args.nodes.now c.loop-index.index none in
    let is = get_or_default c.args.nodes.now c.loop-index.index none node c.loop-index-test.true in
    let k = c.loop-index.index in
    record {
      items = appended connected_parts c.args.first k c.args.nodes.now node _ _ _ c.loop-index-test.true is c.in_ok-write_connected.ensures.items c.loop-index.invariant.items;
      room = kept_through c.args.out.now c.loop-index.out c.write_connected.new.out _ c.in_ok-write_connected.ensures.items c.loop-index.invariant.room c.in_ok-write_connected.ensures.room;
      short = (short connected_parts c.args.first k c.args.nodes.now node c.loop-index-test.true is c.loop-index.invariant.short).1;
      fits = one_more ConnectedFits c.args.nodes.now k node c.loop-index-test.true is c.loop-index.invariant.fits c.in_ok-write_connected.ensures.fits;
    }
