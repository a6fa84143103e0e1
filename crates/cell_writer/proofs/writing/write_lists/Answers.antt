use Rattle.cell_writer.proofs.Rooms.{kept_through, last_kept}
use Rattle.cell_writer.proofs.Whole.{lists}
use Rattle.cell_writer.proofs.writing.write_lists.Goals as goal

pub returns-clause-items : goal.returns-clause-items
returns-clause-items c =
    let isolated = rw c.as_slice-isolated.ensures at c.in_ok-write_isolated_nodes.ensures.items in
    let connected = rw (c.as_slice-isolated.ensures, c.as_slice-connected.ensures) at c.in_ok-write_connected_nodes.ensures.items in
    let edges = rw (c.as_slice-isolated.ensures, c.as_slice-connected.ensures, c.as_slice-edges.ensures) at c.in_ok-write_edges.ensures.items in
    let features = rw (c.as_slice-isolated.ensures, c.as_slice-connected.ensures, c.as_slice-edges.ensures, c.as_slice-features.ensures) at c.write_features.ensures.items in
    lists c.write_features.result c.args.parts.now c.args.out.now.items c.write_isolated_nodes.new.out.items c.write_connected_nodes.new.out.items c.write_edges.new.out.items c.write_features.new.out.items
    isolated connected edges features

pub returns-clause-room : goal.returns-clause-room
returns-clause-room c =
    let old = c.args.out.now in
    let connected = kept_through old c.write_isolated_nodes.new.out c.write_connected_nodes.new.out _ c.in_ok-write_connected_nodes.ensures.items c.in_ok-write_isolated_nodes.ensures.room c.in_ok-write_connected_nodes.ensures.room in
    let edges = kept_through old c.write_connected_nodes.new.out c.write_edges.new.out _ c.in_ok-write_edges.ensures.items connected c.in_ok-write_edges.ensures.room in
    last_kept c.write_features.result old c.write_edges.new.out c.write_features.new.out _ c.write_features.ensures.items edges c.write_features.ensures.room
