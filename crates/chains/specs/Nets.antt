-- Drawn lines between numbered points, and the chains that they are put together to: what is given, and what is made of it.
-- A chain is a list of halves in the order of the walk; lines, points and faces are numbers.
use Rattle.std.specs.Prelude.{◌≡◌, ◌≢◌, ℕ, ◌+◌, ◌-◌, ◌<◌, ◌≤◌, ℤ, pos, ◌+ℤ◌, ◌-ℤ◌, ◌*ℤ◌, List, [], ◌∷◌, Option, Some, None, true, cond, nat_eq, length, slice_index_or, map, count_by, All, IsPermutation, ◌⊎◌}
use Rattle.std.specs.List.{concat, range_with_len}
use Rattle.chains.specs.declared.Line.{Line}
use Rattle.chains.specs.declared.Half.{Half}

-- the line with a number
abbrev pub line_at : List Line → ℕ → Line
line_at lines i = slice_index_or lines i (record { begin = 0; end = 0; left = None; right = None })

-- where a half begins
abbrev pub begin_of : List Line → Half → ℕ
begin_of lines h = cond h.forward (line_at lines h.line).begin (line_at lines h.line).end

-- where a half ends
abbrev pub end_of : List Line → Half → ℕ
end_of lines h = cond h.forward (line_at lines h.line).end (line_at lines h.line).begin

-- the face on the left of a half
abbrev pub left_of : List Line → Half → Option ℕ
left_of lines h = cond h.forward (line_at lines h.line).left (line_at lines h.line).right

-- the face on the right of a half
abbrev pub right_of : List Line → Half → Option ℕ
right_of lines h = cond h.forward (line_at lines h.line).right (line_at lines h.line).left

-- how many line ends lie at a point: a line from it to itself counts twice
abbrev pub ends_at : List Line → ℕ → ℕ
ends_at lines p = count_by (λ l. nat_eq l.begin p) lines + count_by (λ l. nat_eq l.end p) lines

-- the sum of f over a list
abbrev pub total : {X : Type 0} → (X → ℤ) → List X → ℤ
total f [] = pos 0
total f (x ∷ xs) = f x +ℤ total f xs

-- 1 where a side is the face k, else 0
abbrev pub at : ℕ → Option ℕ → ℤ
at k None = pos 0
at k (Some x) = cond (nat_eq x k) (pos 1) (pos 0)

-- 1 where a point is p, else 0
abbrev pub here : ℕ → ℕ → ℤ
here p q = cond (nat_eq q p) (pos 1) (pos 0)

-- taken with the face k on the right, how often a line begins at p less how often it ends there
abbrev pub pull : ℕ → ℕ → Line → ℤ
pull k p l = (at k l.right -ℤ at k l.left) *ℤ (here p l.begin -ℤ here p l.end)

-- lines between the points 0 to points - 1, each between two different sides; taken with any face on the right, as many begin as end at each point
pub record IsNet (lines : List Line) (points : ℕ) : Type 0 where
  pub few : length lines ≤ 268435456
  pub small : points ≤ 536870912
  pub begin_inside : (i : ℕ) → i < length lines → (line_at lines i).begin < points
  pub end_inside : (i : ℕ) → i < length lines → (line_at lines i).end < points
  pub parted : (i : ℕ) → i < length lines → (line_at lines i).left ≢ (line_at lines i).right
  pub even : (k p : ℕ) → total (pull k p) lines ≡ pos 0

-- the half at a place of a chain
abbrev pub half_at : List Half → ℕ → Half
half_at chain i = slice_index_or chain i (record { line = 0; forward = true })

-- where a chain begins
abbrev pub first_point : List Line → List Half → ℕ
first_point lines chain = begin_of lines (half_at chain 0)

-- where a chain ends
abbrev pub last_point : List Line → List Half → ℕ
last_point lines chain = end_of lines (half_at chain (length chain - 1))

-- at least three line ends lie at a point
abbrev pub IsJunction : List Line → ℕ → Type 0
IsJunction lines p = 3 ≤ ends_at lines p

-- a walk along at least one line, each beginning where the one before ends: only points with two line ends lie between, it leads from junction to junction or is closed, all its lines have the same sides, and it passes no point twice
pub record IsChain (lines : List Line) (chain : List Half) : Type 0 where
  pub long : 0 < length chain
  pub meets : (i : ℕ) → i + 1 < length chain → begin_of lines (half_at chain (i + 1)) ≡ end_of lines (half_at chain i)
  pub between : (i : ℕ) → i + 1 < length chain → ends_at lines (end_of lines (half_at chain i)) ≡ 2
  pub ends : (first_point lines chain ≡ last_point lines chain) ⊎ (IsJunction lines (first_point lines chain) × IsJunction lines (last_point lines chain))
  pub left : (i : ℕ) → i < length chain → left_of lines (half_at chain i) ≡ left_of lines (half_at chain 0)
  pub right : (i : ℕ) → i < length chain → right_of lines (half_at chain i) ≡ right_of lines (half_at chain 0)
  pub simple : (i j : ℕ) → i < length chain → j < length chain → begin_of lines (half_at chain i) ≡ begin_of lines (half_at chain j) → i ≡ j
  pub last_apart : (i : ℕ) → 0 < i → i < length chain → begin_of lines (half_at chain i) ≢ last_point lines chain

-- the numbers of the lines of chains, one chain after another
abbrev pub lines_of : List (List Half) → List ℕ
lines_of chains = concat (map (λ chain. map (λ h. h.line) chain) chains)

-- the chain at a place of a list
abbrev pub chain_at : List (List Half) → ℕ → List Half
chain_at chains c = slice_index_or chains c []

-- taken with the face k on the right, how often a chain begins at p less how often it ends there
abbrev pub chain_pull : List Line → ℕ → ℕ → List Half → ℤ
chain_pull lines k p chain =
    (at k (right_of lines (half_at chain 0)) -ℤ at k (left_of lines (half_at chain 0))) *ℤ (here p (first_point lines chain) -ℤ here p (last_point lines chain))

-- each line stands in one chain, once; a point between two lines of a chain is no end of a line of another; and taken with any face on the right, as many chains begin as end at each point
pub record AreChains (lines : List Line) (chains : List (List Half)) : Type 0 where
  pub once : IsPermutation (range_with_len 0 (length lines)) (lines_of chains)
  pub each : All (IsChain lines) chains
  pub alone : (c d i j : ℕ) → c < length chains → d < length chains → c ≢ d → i + 1 < length (chain_at chains c) → j < length (chain_at chains d) →
      (end_of lines (half_at (chain_at chains c) i) ≢ begin_of lines (half_at (chain_at chains d) j)) × (end_of lines (half_at (chain_at chains c) i) ≢ end_of lines (half_at (chain_at chains d) j))
  pub balanced : (k p : ℕ) → total (chain_pull lines k p) chains ≡ pos 0
