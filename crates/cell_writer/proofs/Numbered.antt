-- A step of a loop over records, the first of which has a place.
use Rattle.std.proofs.Common.{◌≡◌, ℕ, ◌+◌, ◌<◌, List, ◌∷◌, ◌++◌, length, get_or, drop, sym, ap, subst, ◌∙◌, append_assoc, arith}
use Rattle.std.specs.Bool.{IsTrue}
use Rattle.std.specs.List.{flat_map, list_all}
use Rattle.std.proofs.lemmas.List.{at_drop_more}
use Rattle.std.proofs.lemmas.Bool.{and_parts}
use Rattle.cell_writer.specs.Layout.{is_short, numbered}
use Rattle.iso8211_codec.specs.Layout.{record_of}
use Rattle.iso8211_codec.specs.Reading.{Part}

-- the record at place k of a list, and those after it
front : {X : Type 0} (parts : ℕ → X → List Part) (first k : ℕ) (xs : List X) (x : X) → k < length xs → x ≡ get_or xs k x
    → numbered parts (first + k) (drop k xs) ≡ parts (first + k) x ∷ numbered parts (first + (k + 1)) (drop (k + 1) xs)
front parts first k xs x lt is =
    at_drop_more (numbered parts (first + k)) xs k x lt
    ∙ ap (λ y. parts (first + k) y ∷ numbered parts (first + k + 1) (drop (k + 1) xs)) (sym is)
    ∙ ap (λ n. parts (first + k) x ∷ numbered parts n (drop (k + 1) xs)) (omega arith)

pub appended : {X : Type 0} (parts : ℕ → X → List Part) (first k : ℕ) (xs : List X) (x : X) (out next whole : List ℕ) → k < length xs → x ≡ get_or xs k x
    → next ≡ out ++ record_of (parts (first + k) x) → out ++ flat_map record_of (numbered parts (first + k) (drop k xs)) ≡ whole
    → next ++ flat_map record_of (numbered parts (first + (k + 1)) (drop (k + 1) xs)) ≡ whole
appended parts first k xs x out next whole lt is put so =
    let rest : List ℕ = flat_map record_of (numbered parts (first + (k + 1)) (drop (k + 1) xs)) in
    ap (λ t. t ++ rest) put ∙ append_assoc out (record_of (parts (first + k) x)) rest
    ∙ ap (λ rs. out ++ flat_map record_of rs) (sym (front parts first k xs x lt is)) ∙ so

-- where all from place k on are short, this one and all after it are
pub short : {X : Type 0} (parts : ℕ → X → List Part) (first k : ℕ) (xs : List X) (x : X) → k < length xs → x ≡ get_or xs k x
    → IsTrue (list_all is_short (numbered parts (first + k) (drop k xs))) → IsTrue (is_short (parts (first + k) x)) × IsTrue (list_all is_short (numbered parts (first + (k + 1)) (drop (k + 1) xs)))
short parts first k xs x lt is h = and_parts (is_short (parts (first + k) x)) _ (subst (λ rs. IsTrue (list_all is_short rs)) (front parts first k xs x lt is) h)
