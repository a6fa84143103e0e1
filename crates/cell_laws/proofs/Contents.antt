-- What records that lie one after the other add to the contents read so far, wherever they lie.
use Rattle.std.proofs.Common.{◌≡◌, ℕ, ◌+◌, List, [], ◌∷◌, ◌++◌, length, map, Ok, sym, ap, ◌∙◌, append_assoc, append-nil}
use Rattle.std.specs.List.{AllByRecursion}
use Rattle.iso8211_codec.specs.Reading.{Part, seen}
use Rattle.iso8211_codec.specs.Layout.{record_of}
use Rattle.iso8211_codec.specs.Walk.{lying}
use Rattle.readings.specs.Readings.{◌>>=◌}
use Rattle.cell_reader.specs.Records.{ReadRecords, after_record, contents_after}
use Rattle.cell_writer.specs.Layout.{numbered}

-- contents become others by the records
abbrev pub Becomes : ReadRecords → List (List Part) → ReadRecords → Type 0
Becomes d rs e = (at : ℕ) → contents_after d (lying at rs) ≡ Ok e

-- by one record, and then by the others
pub by_one : (d next e : ReadRecords) (parts : List Part) (rs : List (List Part)) → ((at : ℕ) → after_record at (map seen parts) d ≡ Ok next) → Becomes next rs e → Becomes d (parts ∷ rs) e
by_one d next e parts rs one others at = ap (λ r. r >>= λ (n : ReadRecords). contents_after n (lying (at + length (record_of parts)) rs)) (one at) ∙ others (at + length (record_of parts))

-- a list of the contents, which can be read and replaced
pub record IsListOf {X : Type 0} (get : ReadRecords → List X) (put : ReadRecords → List X → ReadRecords) : Type 0 where
  pub kept : (d : ReadRecords) → put d (get d) ≡ d
  pub put_is : (d : ReadRecords) (xs : List X) → get (put d xs) ≡ xs
  pub put_again : (d : ReadRecords) (xs ys : List X) → put (put d xs) ys ≡ put d ys

-- by records each of which adds an element to one list of the contents
module _ {X : Type 0} (parts : ℕ → X → List Part) (P : X → Type 0) {get : ReadRecords → List X} {put : ReadRecords → List X → ReadRecords} (list : IsListOf get put)
    (one : (n : ℕ) (x : X) (d : ReadRecords) → P x → (at : ℕ) → after_record at (map seen (parts n x)) d ≡ Ok (put d (get d ++ x ∷ []))) where
  grown : (x : X) (xs : List X) (d : ReadRecords) → put (put d (get d ++ x ∷ [])) (get (put d (get d ++ x ∷ [])) ++ xs) ≡ put d (get d ++ x ∷ xs)
  grown x xs d = list.put_again d _ _ ∙ ap (put d) (ap (λ l. l ++ xs) (list.put_is d (get d ++ x ∷ [])) ∙ append_assoc (get d) (x ∷ []) xs)

  pub by_all : (n : ℕ) (xs : List X) (d e : ReadRecords) (rs : List (List Part)) → AllByRecursion P xs → Becomes (put d (get d ++ xs)) rs e → Becomes d (numbered parts n xs ++ rs) e
  by_all n [] d e rs fit others at = ap (λ f. contents_after f (lying at rs)) (sym (ap (put d) (append-nil (get d)) ∙ list.kept d)) ∙ others at
  by_all n (x ∷ xs) d e rs fit others at =
      by_one d (put d (get d ++ x ∷ [])) e (parts n x) (numbered parts (n + 1) xs ++ rs) (one n x d fit.0)
      (by_all (n + 1) xs (put d (get d ++ x ∷ [])) e rs fit.1 (λ k. ap (λ f. contents_after f (lying k rs)) (grown x xs d) ∙ others k)) at
