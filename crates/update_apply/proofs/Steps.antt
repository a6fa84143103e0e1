-- Steps that pass, the record that is due, and the laws of modifications.
use Rattle.std.proofs.Common.{◌≡◌, ℕ, ◌+◌, Bool, true, false, cond, Option, Some, None, Result, Ok, Err, List, [], ◌∷◌, find, refl, sym, ap, subst, ◌∙◌, eqb}
use Rattle.std.specs.Option.{ok_or, is_some, unwrap_or}
use Rattle.std.specs.Result.{is_ok, result_unwrap_or}
use Rattle.std.proofs.lemmas.Bool.{false≢true, eqb-true}
use Rattle.record_edits.specs.Law.{KeepsIsolated, KeepsConnected, KeepsEdge, KeepsFeature}
use Rattle.update_reader.specs.declared.change.Edit.{Edit}
use Rattle.record_table.specs.Records.{is_numbered}
use Rattle.readings.specs.Readings.{◌>>=◌, need}
use Rattle.update_apply.specs.Making.{Keyed, isolated, connected, edges, features, record_due}
use Rattle.update_reader.specs.declared.fault.UpdateFault.TheVariants as fault

-- ---- steps that pass

pub same_ok : {A E : Type 0} (r : Result A E) (x y : A) → r ≡ Ok x → r ≡ Ok y → x ≡ y
same_ok r x y g h = ap (λ r. result_unwrap_or r x) (sym g ∙ h)

pub record Passes {A B E : Type 0} (r : Result A E) (f : A → Result B E) (y : B) : Type 0 where
  pub value : A
  pub is : r ≡ Ok value
  pub next : f value ≡ Ok y

pub passes : {A B E : Type 0} (r : Result A E) (f : A → Result B E) (y : B) → (r >>= f) ≡ Ok y → Passes r f y
passes (Ok x) f y h = record { value = x; is = refl; next = h }
passes (Err e) f y h = absurd (false≢true (ap is_ok h))

-- the same where what follows a test doesn't look at it
pub passes_test : {B E : Type 0} (holds : Bool) (e : E) (r : Result B E) (y : B) → (need holds e >>= λ _. r) ≡ Ok y → r ≡ Ok y
passes_test true e r y h = h
passes_test false e r y h = absurd (false≢true (ap is_ok h))

pub some_of : {A E : Type 0} (o : Option A) (e : E) (x : A) → ok_or o e ≡ Ok x → o ≡ Some x
some_of None e x h = absurd (false≢true (ap is_ok h))
some_of (Some z) e x h = ap Some (same_ok (ok_or (Some z) e) z x refl h)

-- and that the test holds
pub test_holds : {B E : Type 0} (holds : Bool) (e : E) (r : Result B E) (y : B) → (need holds e >>= λ _. r) ≡ Ok y → holds ≡ true
test_holds true e r y h = refl
test_holds false e r y h = absurd (false≢true (ap is_ok h))

-- ---- the record that is due

pub find_is : {X : Type 0} (p : X → Bool) (xs : List X) (x : X) → find p xs ≡ Some x → p x ≡ true
find_is p [] x h = absurd (false≢true (ap is_some h))
find_is p (z ∷ zs) x h = by_test (p z) refl (find_is p zs x) h
  where
    by_test : (b : Bool) → p z ≡ b → (find p zs ≡ Some x → p x ≡ true) → cond b (Some z) (find p zs) ≡ Some x → p x ≡ true
    by_test true e rest h = let is : z ≡ x = ap (λ o. unwrap_or o z) h in subst (λ y. p y ≡ true) is e
    by_test false e rest h = rest h

pub due_is : {X : Type 0} (k : Keyed X) (n rver : ℕ) (xs : List X) (old : X) → record_due k n rver xs ≡ Ok old → k.number old ≡ n
due_is k n rver xs old h =
    let found = passes (ok_or (find (is_numbered k.number n) xs) (fault.Missing k.rcnm n)) (λ old. need (eqb rver (k.version old + 1)) (fault.Version k.rcnm n) >>= λ _. Ok old) old h in
    let same : Ok found.value ≡ Ok old = passes_test (eqb rver (k.version found.value + 1)) (fault.Version k.rcnm n) (Ok found.value) old found.next in
    let is : found.value ≡ old = same_ok (Ok found.value) found.value old refl same in
    let there : is_numbered k.number n found.value ≡ true = find_is (is_numbered k.number n) xs found.value (some_of (find (is_numbered k.number n) xs) (fault.Missing k.rcnm n) found.value found.is) in
    subst (λ x. k.number x ≡ n) is (eqb-true (k.number found.value) n there)

-- a modification keeps a record's number
abbrev pub KeepsNumbers : {X : Type 0} → Keyed X → Type 0
KeepsNumbers {X} k = (rver : ℕ) (e : Edit) (x y : X) → k.edited rver e x ≡ Ok y → k.number y ≡ k.number x

-- ---- the laws of modifications

pub record EditLaws : Type 0 where
  pub isolated : KeepsIsolated
  pub connected : KeepsConnected
  pub edge : KeepsEdge
  pub feature : KeepsFeature

pub isolated_numbers : EditLaws → KeepsNumbers isolated
isolated_numbers laws rver e x y h = (laws.isolated rver e x y h).number

pub connected_numbers : EditLaws → KeepsNumbers connected
connected_numbers laws rver e x y h = (laws.connected rver e x y h).number

pub edge_numbers : EditLaws → KeepsNumbers edges
edge_numbers laws rver e x y h = (laws.edge rver e x y h).number

pub feature_numbers : EditLaws → KeepsNumbers features
feature_numbers laws rver e x y h = (laws.feature rver e x y h).number
