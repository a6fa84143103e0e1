use Rattle.std.proofs.Common.{◌≡◌, ◌<◌, ◌^◌, drop}
use Rattle.iso8211_codec.specs.Digits.{number, digits}
use Rattle.update_apply.proofs.sequence.number.Given as goal

abbrev pub invariant-loop-byte : goal.invariant-loop-byte
invariant-loop-byte l = record { rest : digits l.n (drop l.byte-index l.text) ≡ number l.text; bound : l.n < 10 ^ l.byte-index }
