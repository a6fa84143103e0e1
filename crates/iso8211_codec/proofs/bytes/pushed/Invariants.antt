use Rattle.std.proofs.Common.{◌≡◌, ◌+◌, ◌++◌, take}
use Rattle.std.specs.Prelude.{vec_len, vec_capacity}
use Rattle.iso8211_codec.proofs.bytes.pushed.Given as goal

abbrev pub invariant-loop-byte : goal.invariant-loop-byte
invariant-loop-byte l = record {
  items : l.list.items ≡ l.fn.list.items ++ take l.byte-index l.bytes;
  len : vec_len l.list ≡ vec_len l.fn.list + l.byte-index;
  capacity : vec_capacity l.list ≡ vec_capacity l.fn.list;
}
