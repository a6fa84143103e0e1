-- The definitions on the smallest cases, by computation.
use Rattle.std.proofs.Common.{◌≡◌, ℕ, pos, Some, None, Option, List, [], ◌∷◌, true, false, refl}
use Rattle.chains.specs.declared.Line.{Line}
use Rattle.chains.specs.declared.Half.{Half}
use Rattle.chains.specs.Nets.{ends_at, pull, total, chain_pull, lines_of, left_of, first_point, last_point}
use Rattle.chains.proofs.Halves.{half_of}

abbrev line : ℕ → ℕ → Option ℕ → Option ℕ → Line
line begin end left right = record { begin = begin; end = end; left = left; right = right }

-- ---- a line from a point to itself

loop : List Line
loop = line 4 4 None (Some 7) ∷ []

its_ends : ends_at loop 4 ≡ 2
unfolding loop
its_ends = refl

its_pull : total (pull 7 4) loop ≡ pos 0
unfolding loop
its_pull = refl

-- ---- two faces side by side: one way leads from point 0 over point 1 to point 2, two lead back to point 0, along their border and round the second face

pair : List Line
pair = line 0 1 None (Some 0) ∷ line 1 2 None (Some 0) ∷ line 2 0 (Some 1) (Some 0) ∷ line 2 0 None (Some 1) ∷ []

at_a_junction : ends_at pair 0 ≡ 3
unfolding pair
at_a_junction = refl

between : ends_at pair 1 ≡ 2
unfolding pair
between = refl

begins_with_the_face : pull 0 0 (line 0 1 None (Some 0)) ≡ pos 1
begins_with_the_face = refl

ends_with_the_face_on_the_left : pull 1 0 (line 2 0 (Some 1) (Some 0)) ≡ pos 1
ends_with_the_face_on_the_left = refl

is_balanced : total (pull 0 0) pair ≡ pos 0
unfolding pair
is_balanced = refl

its_chains : List (List Half)
its_chains = (half_of 0 true ∷ half_of 1 true ∷ []) ∷ (half_of 2 false ∷ []) ∷ (half_of 3 true ∷ []) ∷ []

their_lines : lines_of its_chains ≡ 0 ∷ 1 ∷ 2 ∷ 3 ∷ []
unfolding its_chains
their_lines = refl

the_first_begins : first_point pair (half_of 0 true ∷ half_of 1 true ∷ []) ≡ 0
unfolding pair
the_first_begins = refl

the_first_ends : last_point pair (half_of 0 true ∷ half_of 1 true ∷ []) ≡ 2
unfolding pair
the_first_ends = refl

a_side_walked_back : left_of pair (half_of 2 false) ≡ Some 0
unfolding pair
a_side_walked_back = refl

they_are_balanced : total (chain_pull pair 0 0) its_chains ≡ pos 0
unfolding pair its_chains
they_are_balanced = refl
