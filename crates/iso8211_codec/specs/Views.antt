-- What contracts see of a record in memory.
use Rattle.std.specs.Prelude.{◌≡◌, Result, Ok, Err, [], List, ℕ, ◌*◌, drop}
use Rattle.iso8211_codec.specs.declared.record.RawRec.{RawRec}
use Rattle.iso8211_codec.specs.declared.record.Records.{Records}
use Rattle.iso8211_codec.specs.declared.fault.CodecFault.{CodecFault}
use Rattle.iso8211_codec.specs.declared.record.Field.{Field}
use Rattle.iso8211_codec.specs.Reading.{Part, Rec, Seen, width, part_of, parts_of}
use Rattle.iso8211_codec.specs.Walk.{answers}

-- the fields of a record
abbrev pub parts : RawRec → List Part
parts r = parts_of r.count r.widths r.entries.now r.area.now

-- field k alone
abbrev pub part_at : ℕ → RawRec → Part
part_at k r = part_of r.widths (drop (k * width r.widths) r.entries.now) r.area.now

abbrev pub rec_of : RawRec → Rec
rec_of r = record { at = r.at; parts = parts r }

abbrev pub field_view : Field → Seen
field_view f = record { tag = f.tag; body = f.body.now }

-- the offset of the record to come
abbrev pub at : Records → ℕ
at r = r.at

-- the bytes that the records to come take
abbrev pub left : Records → List ℕ
left r = r.rest.now

abbrev pub place : Records → ℕ × List ℕ
place r = (at r, left r)

-- a record that was read and the bytes after it, or a fault, after which no bytes are left
abbrev pub Steps : Result RawRec CodecFault → Result (Rec × List ℕ) CodecFault → List ℕ → Type 0
Steps (Ok r) read rest = read ≡ Ok (rec_of r, rest)
Steps (Err e) read rest = (read ≡ Err e) × (rest ≡ [])

-- what the calls to come answer before they answer None
abbrev pub to_come : Records → List (Result Rec CodecFault)
to_come r = answers (at r) (left r)

-- an answer as it stands among these
abbrev pub answer : Result RawRec CodecFault → Result Rec CodecFault
answer (Ok r) = Ok (rec_of r)
answer (Err e) = Err e
