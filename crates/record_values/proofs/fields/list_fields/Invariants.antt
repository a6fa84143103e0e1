use Rattle.std.proofs.Common.{◌≡◌, map, take}
use Rattle.iso8211_codec.specs.Reading.{seen}
use Rattle.iso8211_codec.specs.Views.{parts}
use Rattle.record_values.specs.Views.{views}
use Rattle.record_values.proofs.fields.list_fields.Given as goal

abbrev pub invariant-loop-k : goal.invariant-loop-k
invariant-loop-k l = views l.fields.items ≡ map seen (take l.k (parts l.raw))
