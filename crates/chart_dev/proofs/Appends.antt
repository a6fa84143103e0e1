-- One append after another.
use Rattle.std.proofs.Common.{◌≡◌, ℕ, ◌+◌, List, take, drop, Option, Some, None, IsSome, IfSome, option_map, refl, sym, ap, ◌∙◌}
use Rattle.std.proofs.Math.Seq.{take-add}
use Rattle.std.specs.FinMap.{get}
use Rattle.chart_dev.specs.Contents.{Contents, started, appended, holding}
use Rattle.chart_dev.proofs.FileLemmas.{appended_nothing, appended-appended, is-there-appended, appended-started, is-there-started}

pub nothing_added : (o : Option Contents) (name bytes : List ℕ) → IfSome o (λ files. IsSome (get files name)) → o ≡ option_map (appended name (take 0 bytes)) o
nothing_added None name bytes h = refl
nothing_added (Some files) name bytes h = ap Some (sym (appended_nothing files name h))

-- the name is there after each append
pub still_there : (old now : Option Contents) (name piece : List ℕ) → now ≡ option_map (appended name piece) old → IfSome now (λ files. IsSome (get files name))
still_there None now name piece e = rw e tt
still_there (Some files) now name piece e = rw e (is-there-appended files name piece)

adds_on : (o : Option Contents) (name bytes : List ℕ) (i n : ℕ) → option_map (appended name (take n (drop i bytes))) (option_map (appended name (take i bytes)) o) ≡ option_map (appended name (take (i + n) bytes)) o
adds_on None name bytes i n = refl
adds_on (Some files) name bytes i n = ap Some (appended-appended name (take i bytes) (take n (drop i bytes)) files ∙ ap (λ b. appended name b files) (sym (take-add i n bytes)))

-- an append of what is left, seen from the start
pub append_step : (old before now : Option Contents) (name bytes piece : List ℕ) (i n : ℕ) → now ≡ option_map (appended name (take n piece)) before → before ≡ option_map (appended name (take i bytes)) old
    → piece ≡ drop i bytes → now ≡ option_map (appended name (take (i + n) bytes)) old
append_step old before now name bytes piece i n e f same =
    e ∙ ap (λ p. option_map (appended name (take n p)) before) same ∙ ap (option_map (appended name (take n (drop i bytes)))) f ∙ adds_on old name bytes i n

-- what is added to a name that was made empty is what it holds
start_add : (o : Option Contents) (name bytes : List ℕ) → option_map (appended name bytes) (option_map (started name) o) ≡ option_map (holding name bytes) o
start_add None name bytes = refl
start_add (Some files) name bytes = ap Some (appended-started name bytes files)

pub start_step : (old before now : Option Contents) (name bytes : List ℕ) → now ≡ option_map (appended name bytes) before → before ≡ option_map (started name) old → now ≡ option_map (holding name bytes) old
start_step old before now name bytes e f = e ∙ ap (option_map (appended name bytes)) f ∙ start_add old name bytes

pub started_there : (old now : Option Contents) (name : List ℕ) → now ≡ option_map (started name) old → IfSome now (λ files. IsSome (get files name))
started_there None now name e = rw e tt
started_there (Some files) now name e = rw e (is-there-started files name)
