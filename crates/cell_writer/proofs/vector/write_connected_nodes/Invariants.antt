use Rattle.std.proofs.Common.{◌≡◌, ◌+◌, ◌++◌, drop, take}
use Rattle.std.specs.Bool.{IsTrue}
use Rattle.std.specs.List.{All, flat_map, list_all}
use Rattle.cell_writer.specs.Layout.{connected_parts, is_short, numbered}
use Rattle.cell_writer.specs.Sized.{ConnectedFits}
use Rattle.iso8211_codec.specs.Layout.{record_of}
use Rattle.iso8211_codec.specs.Room.{KeepsRoom}
use Rattle.cell_writer.proofs.vector.write_connected_nodes.Given as goal

-- what is there and the records to come are all of them, those so far found room, and they fit
abbrev pub invariant-loop-index : goal.invariant-loop-index
invariant-loop-index l = record {
  items : l.out.items ++ flat_map record_of (numbered connected_parts (l.first + l.index) (drop l.index l.nodes)) ≡ l.fn.out.items ++ flat_map record_of (numbered connected_parts l.first l.nodes);
  room : KeepsRoom l.fn.out l.out;
  short : IsTrue (list_all is_short (numbered connected_parts (l.first + l.index) (drop l.index l.nodes)));
  fits : All ConnectedFits (take l.index l.nodes);
}
