-- The steps of the loop over records.
use Rattle.std.proofs.Common.{◌≡◌, List, [], ◌∷◌, ◌++◌, Result, Ok, Err, refl, ap, append_assoc, append-nil}
use Rattle.readings.specs.Readings.{◌>>=◌}
use Rattle.update_reader.specs.declared.change.Change.{Change}
use Rattle.update_reader.specs.declared.fault.UpdateFault.{UpdateFault}

-- these changes before those that were read
abbrev pub before : List Change → Result (List Change) UpdateFault → Result (List Change) UpdateFault
before old (Ok more) = Ok (old ++ more)
before old (Err e) = Err e

pub before_none : (read : Result (List Change) UpdateFault) → before [] read ≡ read
before_none (Ok more) = refl
before_none (Err e) = refl

pub none_after : (old : List Change) → before old (Ok []) ≡ Ok old
none_after old = ap Ok (append-nil old)

-- one more change
pub before_one : (old : List Change) (change : Change) (read : Result (List Change) UpdateFault)
    → before (old ++ change ∷ []) read ≡ before old (read >>= λ others. Ok (change ∷ others))
before_one old change (Ok more) = ap Ok (append_assoc old (change ∷ []) more)
before_one old change (Err e) = refl
