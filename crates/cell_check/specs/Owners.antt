-- What has a gap inside, as lists of at most two outlines.
use Rattle.std.specs.Prelude.{◌≡◌, ℕ, ◌+◌, Bool, true, false, not, ◌&&◌, ◌||◌, cond, eqb, nat_lt, nat_le}
use Rattle.cell_check.specs.declared.holders.Counts.{Counts}
use Rattle.cell_check.specs.declared.holders.Holders.{Holders}
use Rattle.cell_check.specs.declared.owners.Owners.TheVariants.{Nobody, One, Two}
use Rattle.cell_check.specs.declared.owners.Owners.{Owners}

-- whether the outline at a place is among them
abbrev pub has : Owners → ℕ → Bool
has Nobody o = false
has (One a) o = eqb o a
has (Two a b) o = eqb o a || eqb o b

-- a test with its answer at one place turned over
abbrev pub IsTurnedAt : ℕ → (ℕ → Bool) → (ℕ → Bool) → Type 0
IsTurnedAt owner old new = (o : ℕ) → new o ≡ cond (eqb o owner) (not (old o)) (old o)

-- whether the outline at a place has a gap inside, where areas have the places below n
abbrev pub holds : ℕ → Holders → ℕ → Bool
holds n h o = cond (nat_lt o n) (has h.areas o) (has h.covers o)

-- nothing has the gap inside
abbrev pub nothing : Holders
nothing = record { areas = Nobody; covers = Nobody }

-- exactly one, an area
abbrev pub is_one_area : Counts → Owners → Bool
is_one_area c (One a) = nat_lt a c.areas
is_one_area c Nobody = false
is_one_area c (Two a b) = false

abbrev pub is_cover_place : Counts → ℕ → Bool
is_cover_place c k = nat_le c.areas k && nat_lt k (c.areas + c.covers)

abbrev pub is_nobody : Owners → Bool
is_nobody Nobody = true
is_nobody (One a) = false
is_nobody (Two a b) = false

-- one area and at least one cover, or nothing
abbrev pub are_right : Counts → Owners → Owners → Bool
are_right c Nobody areas = is_nobody areas
are_right c (One k) areas = is_cover_place c k && is_one_area c areas
are_right c (Two k l) areas = is_cover_place c k && is_one_area c areas
