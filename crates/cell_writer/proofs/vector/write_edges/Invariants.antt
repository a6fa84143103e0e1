use Rattle.std.proofs.Common.{◌≡◌, ◌+◌, ◌++◌, drop, take}
use Rattle.std.specs.Bool.{IsTrue}
use Rattle.std.specs.List.{All, flat_map, list_all}
use Rattle.cell_writer.specs.Layout.{edge_parts, is_short, numbered}
use Rattle.cell_writer.specs.Sized.{EdgeFits}
use Rattle.iso8211_codec.specs.Layout.{record_of}
use Rattle.iso8211_codec.specs.Room.{KeepsRoom}
use Rattle.cell_writer.proofs.vector.write_edges.Given as goal

-- what is there and the records to come are all of them, those so far found room, and they fit
abbrev pub invariant-loop-index : goal.invariant-loop-index
invariant-loop-index l = record {
  items : l.out.items ++ flat_map record_of (numbered edge_parts (l.first + l.index) (drop l.index l.edges)) ≡ l.fn.out.items ++ flat_map record_of (numbered edge_parts l.first l.edges);
  room : KeepsRoom l.fn.out l.out;
  short : IsTrue (list_all is_short (numbered edge_parts (l.first + l.index) (drop l.index l.edges)));
  fits : All EdgeFits (take l.index l.edges);
}
