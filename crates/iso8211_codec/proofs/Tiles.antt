-- The fields of a record that is read fill its field area.
use Rattle.std.proofs.Common.{◌≡◌, ℕ, zero, suc, ◌+◌, ◌-◌, ◌/◌, ◌%◌, true, ltb, eqb, ◌&&◌, List, ◌++◌, length, take, drop, Ok, sym, ap, ◌∙◌, arith, take-append-drop, drop-drop, drop_of_length-le}
use Rattle.std.specs.List.{list_all}
use Rattle.std.proofs.lemmas.Bool.{eqb-true, and_parts}
use Rattle.iso8211_codec.specs.declared.entry_map.EntryMap.{EntryMap}
use Rattle.iso8211_codec.specs.declared.fault.CodecFault.TheVariants as fault
use Rattle.iso8211_codec.specs.Digits.{value}
use Rattle.readings.specs.Readings.{need}
use Rattle.readings.proofs.Steps.{bind_ok, need_ok}
use Rattle.iso8211_codec.specs.Reading.{width, size_in, from_in, is_entry, are_entries, parts_of, is_closed, is_directory, Rec, fields_of, data_record, entry_map_of}
use Rattle.iso8211_codec.specs.Layout.{bytes_of}
use Rattle.iso8211_codec.proofs.Turns.{is_read}

-- the place that a good entry names
place_of : (w : EntryMap) (from : ℕ) (entry : List ℕ) → is_entry w from entry ≡ true → value (from_in w entry) ≡ from
place_of w from entry h = grind (arith, h)

-- the fields that good entries name, from one place to the end
tiled : (n : ℕ) (w : EntryMap) (from : ℕ) (es area : List ℕ) → are_entries n w from (length area) es ≡ true → bytes_of (parts_of n w es area) ≡ drop from area
tiled zero w from es area h = sym (drop_of_length-le area (omega (arith, eqb-true from (length area) h)))
tiled (suc n) w from es area h =
    let p = and_parts (is_entry w from es) (are_entries n w (from + value (size_in w es)) (length area) (drop (width w) es)) h in
    let next : drop (value (size_in w es)) (drop from area) ≡ drop (from + value (size_in w es)) area = drop-drop (value (size_in w es)) from area ∙ ap (λ (k : ℕ). drop k area) (omega arith) in
    rw (place_of w from es p.0, tiled n w (from + value (size_in w es)) (drop (width w) es) area p.1, ← next)
    (take-append-drop (value (size_in w es)) (drop from area))

-- what a record's fields were read from
fields_tile : (at : ℕ) (w : EntryMap) (closing : ℕ) (entries area : List ℕ) (r : Rec) → fields_of at w closing entries area ≡ Ok r → bytes_of r.parts ≡ area
unfolding fields_of
fields_tile at w closing entries area r e =
    let count = length entries / width w in
    let good = bind_ok (need (eqb closing 30 && is_directory w entries area) (fault.Directory at)) _ r e in
    let closed = bind_ok (need (list_all is_closed (parts_of count w entries area)) (fault.Field at)) _ r good.2 in
    let same : record { at = at; parts = parts_of count w entries area } ≡ r = cc in
    let directory = (and_parts (eqb closing 30) (is_directory w entries area) (need_ok _ _ good.0 good.1)).1 in
    let some = and_parts (ltb 0 (length entries)) (eqb (length entries % width w) 0 && are_entries count w 0 (length area) entries) directory in
    let named = and_parts (eqb (length entries % width w) 0) (are_entries count w 0 (length area) entries) some.1 in
    sym (ap (λ (x : Rec). bytes_of x.parts) same) ∙ tiled count w 0 entries area named.1

joined : (base more : ℕ) (bytes area rest : List ℕ) → area ≡ take more (drop base bytes) → rest ≡ drop more (drop base bytes) → bytes ≡ take base bytes ++ (area ++ rest)
joined base more bytes area rest e1 e2 = rw (e1, e2, take-append-drop more (drop base bytes)) (sym (take-append-drop base bytes))

pub tiles : (at : ℕ) (bytes : List ℕ) (r : Rec) (rest : List ℕ) → data_record at bytes ≡ Ok (r, rest) → (front : List ℕ) × (bytes ≡ front ++ (bytes_of r.parts ++ rest))
tiles at bytes r rest e =
    let x = is_read at bytes (r, rest) e in
    let area : bytes_of r.parts ≡ take (x.size - x.base) (drop x.base bytes) = fields_tile at (entry_map_of bytes) _ _ _ r x.fields in
    let after : rest ≡ drop (x.size - x.base) (drop x.base bytes) = x.rest ∙ ap (λ (k : ℕ). drop k bytes) (omega (arith, x.within)) ∙ sym (drop-drop (x.size - x.base) x.base bytes) in
    (take x.base bytes, joined x.base (x.size - x.base) bytes (bytes_of r.parts) rest area after)
