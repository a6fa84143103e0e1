-- Readings that give a value or the first fault, of whatever type their faults are.
use Rattle.std.specs.Prelude.{◌≡◌, Bool, true, false, cond, Result, Ok, Err}

-- one reading and then another, which may use its value; nothing is read after a fault
infixl 10 ◌>>=◌
abbrev pub ◌>>=◌ : {F A B : Type 0} → Result A F → (A → Result B F) → Result B F
(Ok x) >>= f = f x
(Err e) >>= f = Err e

-- a test, and the fault where it fails
abbrev pub need : {F : Type 0} → Bool → F → Result Bool F
need holds fault = cond holds (Ok holds) (Err fault)

-- what a function returned, seen by view, is what the definition gives
abbrev pub Gives : {F X Y : Type 0} → (X → Y) → Result X F → Result Y F → Type 0
Gives view (Ok x) read = read ≡ Ok (view x)
Gives view (Err e) read = read ≡ Err e

-- the statement, unless the test holds
abbrev pub Unless : Bool → Type 0 → Type 0
Unless true P = Unit {0}
Unless false P = P

-- What a function that takes memory returned is what the definition gives, unless memory ran out. No definition gives want
-- of memory, so it is the one free answer: is_memory holds of it alone.
abbrev pub GivesUnless : {F X Y : Type 0} → (F → Bool) → (X → Y) → Result X F → Result Y F → Type 0
GivesUnless is_memory view (Ok x) read = read ≡ Ok (view x)
GivesUnless is_memory view (Err e) read = Unless (is_memory e) (read ≡ Err e)
