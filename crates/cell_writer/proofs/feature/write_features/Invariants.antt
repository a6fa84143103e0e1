use Rattle.std.proofs.Common.{◌≡◌, ◌+◌, ◌++◌, drop, take}
use Rattle.std.specs.Bool.{IsTrue}
use Rattle.std.specs.List.{All, flat_map, list_all}
use Rattle.cell_writer.specs.Layout.{feature_parts, is_short, numbered}
use Rattle.cell_writer.specs.Sized.{FeatureFits}
use Rattle.iso8211_codec.specs.Layout.{record_of}
use Rattle.iso8211_codec.specs.Room.{KeepsRoom}
use Rattle.cell_writer.proofs.feature.write_features.Given as goal

-- what is there and the records to come are all of them, those so far found room, and they fit
abbrev pub invariant-loop-index : goal.invariant-loop-index
invariant-loop-index l = record {
  items : l.out.items ++ flat_map record_of (numbered feature_parts (l.first + l.index) (drop l.index l.features)) ≡ l.fn.out.items ++ flat_map record_of (numbered feature_parts l.first l.features);
  room : KeepsRoom l.fn.out l.out;
  short : IsTrue (list_all is_short (numbered feature_parts (l.first + l.index) (drop l.index l.features)));
  fits : All FeatureFits (take l.index l.features);
}
