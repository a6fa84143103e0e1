-- Runs that store a cell.
use Rattle.std.proofs.Common.{◌≡◌, ◌⊎◌, ◌≤◌, inl, inr, ⊎_elim, ℕ, List, Option, Some, None, Result, IfSome, sym, subst, arith}
use Rattle.std.proofs.lemmas.Bool.{false≢true}
use Rattle.std.specs.Prelude.{IsErrOf, IsTrue}
use Rattle.chart_dev.specs.Contents.{Contents}
use Rattle.chart_dev.specs.Faults.{Rose}
use Rattle.chart_cli.specs.declared.cell_answers.CellAnswer.{CellAnswer}
use Rattle.chart_cli.specs.declared.halt.Halt.{Halt}
use Rattle.chart_cli.specs.declared.halt.Halt.TheVariants as halt
use Rattle.chart_cli.specs.declared.status.Status.{Status}
use Rattle.chart_cli.specs.declared.status.Status.TheVariants.{Usage, Device}
use Rattle.chart_cli.specs.Answers.{Due, absent, due, due_of}
use Rattle.chart_cli.specs.Ends.{Completes, Ends, IsAbsent, Keeps, is_done}
use Rattle.chart_cli.specs.Outcomes.{FindsCell}
use Rattle.chart_cli.specs.Runs.{IsRunOf, devices}
use Rattle.chart_cli.specs.Overviews.{OverviewStaysShoal}
use Rattle.chart_cli.specs.Words.{Command, cell_of}

if_told : {A : Type 0} (told : Option A) (P Q : A → Type 0) → ((x : A) → P x → Q x) → IfSome told P → IfSome told Q
if_told None P Q f h = tt
if_told (Some x) P Q f h = f x h

-- where an input isn't there, nothing is to be done
absent_is_not_done : (d : Due) → d ≡ absent → IsTrue (is_done d) → ⊥
absent_is_not_done d e done = false≢true (subst (λ x. IsTrue (is_done x)) e done)

-- a run that no device cut short has done what was to be done
completes : (A B : Type 0) (told : Option Contents) (asked : Option Command) (status : Status) (after : Option Contents) (old new : Option (List ℕ)) → IfSome told (λ files. Ends status (due asked files) told after old new)
    → (status ≡ Device → A ⊎ B ⊎ IsAbsent asked told) → (A → ⊥) → (B → ⊥) → IfSome told (λ files. Completes status (due asked files) told after old new)
completes A B None asked status after old new h cause no_a no_b = tt
completes A B (Some files) asked status after old new h cause no_a no_b = λ done. (λ failed. ⊎_elim no_a (λ rest. ⊎_elim no_b (λ missing. absent_is_not_done (due asked files) missing done) rest) (cause failed), h)

-- a count that rose in one of two steps rose in both together
rose_in_first : (a b c : ℕ) → Rose a b → b ≤ c → Rose a c
rose_in_first a b c rose later = omega arith

rose_in_second : (a b c : ℕ) → a ≤ b → Rose b c → Rose a c
rose_in_second a b c later rose = grind arith

-- where a command stores a cell: a cell was found, or why there is none, with the contents told, and then it was stored and its line put out, or it was said why there is none
pub run_that_stores : (command : List ℕ → Command) (cell : List ℕ) (answer : Result CellAnswer Halt) (status : Status) (told between after : Option Contents) (s0 s1 s2 : ℕ) (old new : Option (List ℕ)) (k0 k1 : ℕ)
    → cell_of (Some (command cell)) ≡ Some cell
    → (IfSome told (λ files. Ends status (due_of (command cell) files) told after old new) → OverviewStaysShoal (Some (command cell)) status told after)
    → IfSome told (λ files. (name : List ℕ) → FindsCell name answer (due_of (command name) files))
    → ((name : List ℕ) → IsErrOf answer halt.Device → Rose s0 s1 ⊎ IsAbsent (Some (command name)) told)
    → between ≡ told
    → s0 ≤ s1
    → ((d : Due) → FindsCell cell answer d → Ends status d between after old new)
    → (status ≡ Usage → ⊥)
    → (status ≡ Device → IsErrOf answer halt.Device ⊎ Rose s1 s2 ⊎ Rose k0 k1)
    → Keeps status (Some cell) between after
    → (s1 ≤ s2) × (k0 ≤ k1)
    → IsRunOf (Some (command cell)) status (devices told s0 old k0) (devices after s2 new k1)
run_that_stores command cell answer status told between after s0 s1 s2 old new k0 k1 stored overview finds missing stays read_later ends no_usage failed contents later =
    let due_ends : IfSome told (λ files. Ends status (due_of (command cell) files) told after old new) =
    if_told told _ _ (λ files h. subst (λ t. Ends status (due_of (command cell) files) t after old new) stays (ends (due_of (command cell) files) (h cell))) finds in
    let cause : status ≡ Device → Rose s0 s2 ⊎ Rose k0 k1 ⊎ IsAbsent (Some (command cell)) told = λ d. ⊎_elim
    (λ e. ⊎_elim (λ r. inl (rose_in_first s0 s1 s2 r later.0)) (λ a. inr (inr a)) (missing cell e))
    (λ r. ⊎_elim (λ s. inl (rose_in_second s0 s1 s2 read_later s)) (λ k. inr (inl k)) r)
    (failed d) in
    record {
      ends = due_ends;
      usage = λ none. cc none;
      usage_only = λ u. absurd (no_usage u);
      memory = λ _ none. cc none;
      device = cause;
      complete = completes (Rose s0 s2) (Rose k0 k1) told (Some (command cell)) status after old new due_ends cause;
      overview = overview due_ends;
      contents = subst (λ t. Keeps status t told after) (sym stored) (subst (λ t. Keeps status (Some cell) t after) stays contents);
      later = (omega arith, later.1);
    }
