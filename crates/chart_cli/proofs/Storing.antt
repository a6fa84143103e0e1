-- Runs that store a cell.
use Rattle.std.proofs.Common.{◌≡◌, ◌⊎◌, inl, inr, ℕ, List, cond, take, Option, Some, None, option_map, Ok, refl, sym, ap, subst, ◌∙◌, Less, Equal, Greater, is_eq}
use Rattle.std.specs.Ordering.{nat_cmp}
use Rattle.std.specs.Cmp.Lexicographic.{slice_cmp, nat_list_cmp_total}
use Rattle.std.specs.FinMap.{get, get-insert, slice_cmp-IsAntisymmetric, nat_cmp-IsAntisymmetric}
use Rattle.chart_dev.specs.Contents.{Contents, holding}
use Rattle.chart_cli.specs.declared.cell_answers.CellAnswer.{CellAnswer}
use Rattle.chart_cli.specs.declared.status.Status.{Status}
use Rattle.chart_cli.specs.declared.status.Status.TheVariants.{Done, Device}
use Rattle.chart_cli.specs.Answers.{Due, says, makes, revises, grounds, judges, absent}
use Rattle.chart_cli.specs.Ends.{CellWhere, Ends, EndsStoring, Holds, IsMade, IsRevised, Keeps, Puts, under}
use Rattle.chart_cli.specs.Outcomes.{FindsCell}

other_name : (files : Contents) (cell name bytes : List ℕ) → (name ≡ cell → ⊥) → get (holding cell bytes files) name ≡ get files name
other_name files cell name bytes other =
    get-insert nat_list_cmp_total files cell bytes name
    ∙ elim (slice_cmp nat_cmp name cell) as (λ r. slice_cmp nat_cmp name cell ≡ r → cond (is_eq r) (Some bytes) (get files name) ≡ get files name) [
      | Less ↦ λ _. refl
      | Equal ↦ λ t. absurd (other (slice_cmp-IsAntisymmetric nat_cmp-IsAntisymmetric name cell t))
      | Greater ↦ λ _. refl
    ] refl

-- under another name stands what stood there
others_stay : (told : Option Contents) (cell name bytes : List ℕ) → (name ≡ cell → ⊥) → under name (option_map (holding cell bytes) told) ≡ under name told
others_stay None cell name bytes other = refl
others_stay (Some files) cell name bytes other = ap Some (other_name files cell name bytes other)

-- where bytes are stored under a name, the others stay
pub keeps_others : (status : Status) (cell bytes : List ℕ) (before after : Option Contents) → Holds cell bytes before after → status ≡ Done ⊎ status ≡ Device → Keeps status (Some cell) before after
keeps_others status cell bytes before after e (inl done) = rw done (λ name other. ap (under name) e ∙ others_stay before cell name bytes other)
keeps_others status cell bytes before after e (inr failed) = rw failed (λ name other. ap (under name) e ∙ others_stay before cell name bytes other)

-- a device failed before bytes were stored whole
pub keeps_at_failure : (cell bytes : List ℕ) (before after : Option Contents) → (after ≡ before) ⊎ ((n : ℕ) × Holds cell (take n bytes) before after) → Keeps Device (Some cell) before after
keeps_at_failure cell bytes before after (inl same) = λ name other. ap (under name) same
keeps_at_failure cell bytes before after (inr part) = keeps_others Device cell (take part.0 bytes) before after part.1 (inr refl)

-- lines were put out with their status, or a device failed on the way
abbrev pub PutsOrFails : Type 0 → Status → Status → List ℕ → Option (List ℕ) → Option (List ℕ) → Type 0
PutsOrFails Failed result status lines old new = ((result ≡ status) × Puts lines old new) ⊎ ((result ≡ Device) × Failed × ((n : ℕ) × Puts (take n lines) old new))

pub done_or_failed : (Failed : Type 0) (result : Status) (lines : List ℕ) (old new : Option (List ℕ)) → PutsOrFails Failed result Done lines old new → result ≡ Done ⊎ result ≡ Device
done_or_failed Failed result lines old new (inl w) = inl w.0
done_or_failed Failed result lines old new (inr f) = inr f.0

-- an answer's bytes and line, of which this holds
abbrev cell_of_answer : (P : List ℕ → List ℕ → Type 0) (answer : CellAnswer) → P answer.bytes.items answer.line.items → CellWhere P
cell_of_answer P answer h = record { bytes = answer.bytes.items; line = answer.line.items; is = h }

made_ends : (Failed : Type 0) (P : List ℕ → List ℕ → Type 0) (name : List ℕ) (cell : CellWhere P) (result : Status) (before after : Option Contents) (old new : Option (List ℕ)) → Holds name cell.bytes before after
    → PutsOrFails Failed result Done cell.line old new → EndsStoring result name P before after old new
made_ends Failed P name cell result before after old new holds (inl w) = rw w.0 (cell, holds, w.1)
made_ends Failed P name cell result before after old new holds (inr f) = rw f.0 (inr (inr (cell, holds, f.2)))

-- a cell was stored, and its line was put out or a prefix of it
pub stored_ends : (Failed : Type 0) (d : Due) (name : List ℕ) (answer : CellAnswer) (result : Status) (before after : Option Contents) (old new : Option (List ℕ)) → FindsCell name (Ok answer) d
    → Holds name answer.bytes.items before after → PutsOrFails Failed result Done answer.line.items old new → Ends result d before after old new
stored_ends Failed (says status lines) name answer result before after old new h holds said = absurd h
stored_ends Failed (grounds g s p) name answer result before after old new h holds said = absurd h
stored_ends Failed (judges c) name answer result before after old new h holds said = absurd h
stored_ends Failed absent name answer result before after old new h holds said = absurd h
stored_ends Failed (makes due_name g s) name answer result before after old new h holds said =
    made_ends Failed (IsMade g s) due_name (cell_of_answer (IsMade g s) answer h.1) result before after old new (subst (λ n. Holds n answer.bytes.items before after) (sym h.0) holds) said
stored_ends Failed (revises due_name r) name answer result before after old new h holds said =
    made_ends Failed (IsRevised r) due_name (cell_of_answer (IsRevised r) answer h.1) result before after old new (subst (λ n. Holds n answer.bytes.items before after) (sym h.0) holds) said

part_ends : (P : List ℕ → List ℕ → Type 0) (name : List ℕ) (cell : CellWhere P) (before after : Option Contents) (taken : Option (List ℕ)) → (after ≡ before) ⊎ ((n : ℕ) × Holds name (take n cell.bytes) before after)
    → EndsStoring Device name P before after taken taken
part_ends P name cell before after taken (inl same) = inl (same, refl)
part_ends P name cell before after taken (inr part) = inr (inl (cell, part, refl))

-- a device failed before the cell was stored whole
pub failed_store_ends : (d : Due) (name : List ℕ) (answer : CellAnswer) (before after : Option Contents) (taken : Option (List ℕ)) → FindsCell name (Ok answer) d
    → (after ≡ before) ⊎ ((n : ℕ) × Holds name (take n answer.bytes.items) before after) → Ends Device d before after taken taken
failed_store_ends (says status lines) name answer before after taken h part = absurd h
failed_store_ends (grounds g s p) name answer before after taken h part = absurd h
failed_store_ends (judges c) name answer before after taken h part = absurd h
failed_store_ends absent name answer before after taken h part = absurd h
failed_store_ends (makes due_name g s) name answer before after taken h part =
    part_ends (IsMade g s) due_name (cell_of_answer (IsMade g s) answer h.1) before after taken (subst (λ n. (after ≡ before) ⊎ ((k : ℕ) × Holds n (take k answer.bytes.items) before after)) (sym h.0) part)
failed_store_ends (revises due_name r) name answer before after taken h part =
    part_ends (IsRevised r) due_name (cell_of_answer (IsRevised r) answer h.1) before after taken (subst (λ n. (after ≡ before) ⊎ ((k : ℕ) × Holds n (take k answer.bytes.items) before after)) (sym h.0) part)
