-- How many sub-segments lie at the outline of each face, and of all faces together.
use Rattle.std.specs.Prelude.{◌≡◌, ℕ, ◌+◌, ◌<◌, ◌++◌, min, not, eqb, Bool, cond, Option, List, length, slice_index, sum_by, is_some}
use Rattle.mesh_definitions.specs.Pieces.{Mesh, ahead, left_of}
use Rattle.mesh_definitions.specs.declared.Piece.{Piece}
use Rattle.mesh_definitions.specs.declared.Sub.{Sub}
use Rattle.plane_laws.specs.Borders.{within}
use Rattle.face_fill.specs.declared.tables.Tally.{Tally}

-- one of two holds and the other doesn't
abbrev pub differs : Bool → Bool → Bool
differs x y = cond x (not y) y

-- how many sub-segments have one side that passes and one that doesn't
abbrev pub one_sided : Mesh → (Option Piece → Bool) → List Sub → ℕ
one_sided m passes subs = sum_by (λ s. cond (differs (passes (m.right_of (ahead s))) (passes (left_of m (ahead s)))) 1 0) subs

-- a side is of the face with a number
abbrev pub is_of : (Piece → ℕ) → ℕ → Option Piece → Bool
is_of number k side = within (λ q. eqb (number q) k) side

abbrev pub is_numbered : ℕ → Option ℕ → Bool
is_numbered k side = within (λ x. eqb x k) side

-- what a counter of the code stands for: it stops at its greatest value
abbrev pub most : ℕ
most = 4294967295

-- for each number and for the outline, how many of the sub-segments so far are theirs
pub record IsTally (m : Mesh) (number : Piece → ℕ) (done : List Sub) (t : Tally) : Type 0 where
  pub faces : (k : ℕ) → k < length t.counts.items → slice_index t.counts.items k ≡ min (one_sided m (is_of number k) done) most
  pub outline : t.outline ≡ min (one_sided m is_some done) most

-- a counter after one sub-segment
abbrev pub raised : Bool → ℕ → ℕ
raised b n = cond b (min (n + 1) most) n

-- counters after one sub-segment with these numbers on its sides
pub record Raises (right left : Option ℕ) (old new : Tally) : Type 0 where
  pub full : length new.counts.items ≡ length old.counts.items
  pub faces : (k : ℕ) → k < length old.counts.items → slice_index new.counts.items k ≡ raised (differs (is_numbered k right) (is_numbered k left)) (slice_index old.counts.items k)
  pub outline : new.outline ≡ raised (differs (is_some right) (is_some left)) old.outline

-- counters after more sub-segments
pub record Adds (m : Mesh) (number : Piece → ℕ) (more : List Sub) (old new : Tally) : Type 0 where
  pub full : length new.counts.items ≡ length old.counts.items
  pub grows : (done : List Sub) → IsTally m number done old → IsTally m number (done ++ more) new
