-- How the items of a list change where some go and others come at a place (S-57 Edition 3.1, Part 3, 7.6.7 and 7.7.1.5).
use Rattle.std.specs.Prelude.{ℕ, ◌+◌, ◌-◌, Bool, ◌&&◌, eqb, nat_le, List, ◌++◌, take, drop, Option, Some, None}
use Rattle.update_reader.specs.declared.change.Splice.{Splice}

-- Whether so many items can change so, with so many given: something goes or comes, as many are given as are to come, the
-- place, counted from 1, is an item's or the one after the last, and all that are to go are there.
abbrev pub can_splice : Splice → ℕ → ℕ → Bool
can_splice s count given = nat_le 1 (s.going + s.coming) && (eqb given s.coming && (nat_le 1 s.place && nat_le (s.place + s.going) (count + 1)))

-- the items that stand before the place, those that are given, and those after the ones that go
abbrev pub spliced : {X : Type 0} → Splice → List X → List X → List X
spliced s given items = take (s.place - 1) items ++ (given ++ drop (s.place - 1 + s.going) items)

-- ---- the same where a record may say of no change: then all items stay, and none may be given

abbrev pub can_change : Option Splice → ℕ → ℕ → Bool
can_change None count given = eqb given 0
can_change (Some s) count given = can_splice s count given

abbrev pub items_after : {X : Type 0} → Option Splice → List X → List X → List X
items_after None given items = items
items_after (Some s) given items = spliced s given items
