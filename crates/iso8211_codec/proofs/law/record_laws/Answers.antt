use Rattle.std.proofs.Common.{◌≡◌, ℕ, ◌≤◌, List, ◌++◌, length, drop, Some, Ok, refl, arith}
use Rattle.std.specs.Prelude.{slice_index}
use Rattle.std.proofs.lemmas.List.{length-append, drop_at}
use Rattle.std.proofs.lemmas.Bool.{le-leb}
use Rattle.iso8211_codec.specs.Digits.{number}
use Rattle.iso8211_codec.specs.Reading.{part, first_record}
use Rattle.iso8211_codec.specs.First.{first}
use Rattle.iso8211_codec.proofs.Cut.{cuts, reads_back}
use Rattle.iso8211_codec.proofs.Turns.{walks_back}
use Rattle.iso8211_codec.proofs.Tiles.{tiles}
use Rattle.iso8211_codec.proofs.law.record_laws.Goals as goal

-- a first record whose parts pass each test
begun_by : (bytes rest : List ℕ) → 24 ≤ length bytes → number (part 0 5 bytes) ≡ Some 1352 → slice_index bytes 6 ≡ 76 → 1352 ≤ length bytes → drop 1352 bytes ≡ rest → first_record bytes ≡ Ok (1352, rest)
unfolding first_record
begun_by bytes rest some n letter long after = rw (le-leb 24 (length bytes) some, n, letter, le-leb 1352 (length bytes) long, after) refl

begins : (rest : List ℕ) → first_record (first ++ rest) ≡ Ok (1352, rest)
begins rest =
    let long : length first ≡ 1352 = refl in
    begun_by (first ++ rest) rest (omega (arith, long, length-append first rest)) refl refl (omega (arith, long, length-append first rest)) (drop_at first rest 1352 refl)

pub returns : goal.returns
returns c = record {
  cuts = cuts;
  reads_back = reads_back;
  begins = begins;
  walks_back = walks_back;
  tiles = tiles;
}
