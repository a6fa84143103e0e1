-- One more turn of a file that is read piece by piece.
use Rattle.std.proofs.Common.{◌≡◌, ℕ, ◌+◌, ◌<◌, ◌≤◌, List, [], ◌++◌, length, take, drop, Option, Some, None, IfSome, IsSome, unwrap_or, refl, sym, ap, ◌∙◌, arith, length-drop}
use Rattle.std.proofs.Math.Seq.{take-add}
use Rattle.std.proofs.lemmas.List.{take_all, length-take, length-take-le, take-append-le, take-take}
use Rattle.std.proofs.lemmas.Bool.{false≢true}
use Rattle.std.specs.FinMap.{get}
use Rattle.chart_dev.specs.Contents.{Contents, bytes_at, ReadsFrom, ReadsTold, IsMissing}

-- a buffer that was written through a loan of all of it
pub loaned : (len : ℕ) (buffer old : List ℕ) → len ≡ length buffer → take len (buffer ++ drop (length buffer) old) ≡ buffer
loaned len buffer old e = ap (λ k. take k (buffer ++ drop (length buffer) old)) e ∙ take-append-le (length buffer) buffer (drop (length buffer) old) (omega arith) ∙ take_all (length buffer) buffer (omega arith)

-- a turn leaves the beginning of a vector that it first made longer
pub front_kept : (done n : ℕ) (buffer lent longer old more : List ℕ) → take done buffer ≡ take done lent → lent ≡ longer → longer ≡ take n old ++ more → done ≤ n → done ≤ length old
    → take done buffer ≡ take done old
front_kept done n buffer lent longer old more kept loan grown h k =
    let fits : done ≤ length (take n old) = rw length-take (omega arith) in
    kept ∙ ap (take done) loan ∙ ap (take done) grown ∙ take-append-le done (take n old) more fits ∙ take-take done n old h

-- what was known of the beginning before a turn, of the buffer after it
pub as_before : (told : Option Contents) (name before buffer : List ℕ) (done : ℕ) → take done buffer ≡ take done before
    → IfSome told (λ files. take done before ≡ take done (bytes_at files name)) → IfSome told (λ files. take done buffer ≡ take done (bytes_at files name))
as_before None name before buffer done same h = tt
as_before (Some files) name before buffer done same h = same ∙ h

-- the bytes of a name are known as far as a place, and a read from there adds those that it read
reads_on : (file buffer : List ℕ) (done n : ℕ) → ReadsFrom file done (drop done buffer) n → take done buffer ≡ take done file → take (done + n) buffer ≡ take (done + n) file
reads_on file buffer done n reads h =
    take-add done n buffer ∙ ap (λ front. front ++ take n (drop done buffer)) h ∙ ap (λ rest. take done file ++ rest) reads.taken ∙ sym (take-add done n file)

pub turn : (told : Option Contents) (name buffer : List ℕ) (done n : ℕ) → ReadsTold told name done (drop done buffer) n
    → IfSome told (λ files. take done buffer ≡ take done (bytes_at files name)) → IfSome told (λ files. take (done + n) buffer ≡ take (done + n) (bytes_at files name))
turn None name buffer done n reads h = tt
turn (Some files) name buffer done n reads h = reads_on (bytes_at files name) buffer done n reads.1 h

-- an option that is there is Some of its value
some_of : (o : Option (List ℕ)) (d : List ℕ) → IsSome o → o ≡ Some (unwrap_or o d)
some_of None d h = absurd (false≢true h)
some_of (Some x) d h = refl

-- a read of no bytes shows that the beginning that was read is all of the file
pub read_to_end : (told : Option Contents) (name buffer : List ℕ) (done n : ℕ) → ReadsTold told name done (drop done buffer) n → n ≡ 0 → done < length buffer
    → IfSome told (λ files. take done buffer ≡ take done (bytes_at files name)) → IfSome told (λ files. get files name ≡ Some (take done buffer))
read_to_end None name buffer done n reads none room h = tt
read_to_end (Some files) name buffer done n reads none room h =
    let left : 0 < length (drop done buffer) = rw length-drop (omega arith) in
    some_of (get files name) [] reads.0 ∙ ap Some (sym (take_all done (bytes_at files name) (reads.1.ends none left)) ∙ sym h)

-- a file of which more is known than a limit
pub too_large : (told : Option Contents) (name buffer : List ℕ) (done limit : ℕ) → limit < done → done ≤ length buffer
    → IfSome told (λ files. take done buffer ≡ take done (bytes_at files name)) → IfSome told (λ files. limit < length (bytes_at files name))
too_large None name buffer done limit h k e = tt
too_large (Some files) name buffer done limit h k e =
    let same : done ≡ length (take done (bytes_at files name)) = sym (length-take-le done buffer k) ∙ ap length e in
    omega (arith, length-take done (bytes_at files name))

-- what is known under one telling, under another that is the same
pub retold : {told other : Option Contents} (name buffer : List ℕ) (done n : ℕ) → told ≡ other → ReadsTold told name done buffer n → ReadsTold other name done buffer n
retold name buffer done n e h = rw (← e) h

pub missing_as : {told other : Option Contents} (name : List ℕ) → told ≡ other → IsMissing other name → IsMissing told name
missing_as name e h = rw e h
