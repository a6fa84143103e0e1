-- The laws of records.
use Rattle.std.specs.Prelude.{◌≡◌, ℕ, List, ◌++◌, Ok}
use Rattle.std.specs.List.{flat_map, AllByRecursion}
use Rattle.iso8211_codec.specs.Reading.{Part, Rec, first_record, data_record}
use Rattle.iso8211_codec.specs.Layout.{AreFields, MakeRecord, bytes_of, cut, tags_of, lens_of, record_of}
use Rattle.iso8211_codec.specs.First.{first}
use Rattle.iso8211_codec.specs.Walk.{answers, lying}

-- the fields that tags, lengths and bytes were made of are cut from them
pub record IsCutFrom (parts : List Part) : Type 0 where
  pub fields : AreFields (tags_of parts) (lens_of parts) (bytes_of parts)
  pub again : cut (tags_of parts) (lens_of parts) (bytes_of parts) ≡ parts

-- What is written can be read, and what is read lies there as it is said.
pub record RecordLaws : Type 0 where
  -- fields that make a record may be written as one, and are its fields
  pub cuts : (parts : List Part) → MakeRecord parts → IsCutFrom parts
  -- a record that was written is read with its fields, whatever follows it, wherever it lies
  pub reads_back : (at : ℕ) (parts : List Part) (rest : List ℕ) → MakeRecord parts
      → data_record at (record_of parts ++ rest) ≡ Ok (record { at = at; parts = parts }, rest)
  -- the first record that is written is passed over by its length
  pub begins : (rest : List ℕ) → first_record (first ++ rest) ≡ Ok (1352, rest)
  -- records that were written one after the other are the answers of a walk
  pub walks_back : (at : ℕ) (records : List (List Part)) → AllByRecursion MakeRecord records
      → answers at (flat_map record_of records) ≡ lying at records
  -- the fields of a record that is read are the bytes between some front and what follows the record, in their order:
  -- none overlaps another, and none is left out
  pub tiles : (at : ℕ) (bytes : List ℕ) (r : Rec) (rest : List ℕ) → data_record at bytes ≡ Ok (r, rest)
      → (front : List ℕ) × (bytes ≡ front ++ (bytes_of r.parts ++ rest))
