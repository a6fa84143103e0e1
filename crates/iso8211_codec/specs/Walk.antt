-- The records of a file, one after the other.
use Rattle.std.specs.Prelude.{ℕ, zero, suc, ◌+◌, ◌-◌, List, [], ◌∷◌, length, Result, Ok, Err}
use Rattle.iso8211_codec.specs.declared.fault.CodecFault.{CodecFault}
use Rattle.iso8211_codec.specs.Reading.{Part, Rec, data_record}
use Rattle.iso8211_codec.specs.Layout.{record_of}

-- an answer, and after a record the answers for the bytes that follow it; nothing comes after a fault
abbrev pub and_then : Result (Rec × List ℕ) CodecFault → (List ℕ → List (Result Rec CodecFault)) → List (Result Rec CodecFault)
and_then (Ok x) others = Ok x.0 ∷ others x.1
and_then (Err fault) others = Err fault ∷ []

-- at most so many answers for the bytes that begin at this offset of a file
unfoldable pub walk : ℕ → ℕ → List ℕ → List (Result Rec CodecFault)
walk zero at bytes = []
walk (suc turns) at [] = []
walk (suc turns) at (byte ∷ bytes) =
    and_then (data_record at (byte ∷ bytes)) (λ rest. walk turns (at + (length (byte ∷ bytes) - length rest)) rest)

-- All answers for the bytes that begin at this offset: each record in its turn, up to the end of the bytes or the first
-- fault. Each record takes a byte at least, so there are no more answers than bytes.
abbrev pub answers : ℕ → List ℕ → List (Result Rec CodecFault)
answers at bytes = walk (length bytes) at bytes

-- records of these fields that lie one after the other from an offset on
abbrev pub lying : ℕ → List (List Part) → List (Result Rec CodecFault)
lying at [] = []
lying at (parts ∷ others) = Ok (record { at = at; parts = parts }) ∷ lying (at + length (record_of parts)) others
