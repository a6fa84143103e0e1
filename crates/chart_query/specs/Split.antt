-- A balanced split of strips: in which nodes a run of strips stands, and which nodes are on the way from a strip to the top.
use Rattle.std.specs.Prelude.{◌≡◌, ℕ, ◌+◌, ◌-◌, ◌/◌, ◌%◌, ◌^◌, ◌<◌, nat_lt, eqb, cond, List, [], ◌∷◌, ◌++◌, All}
use Rattle.chart_query.specs.declared.sides.Side.{Side}
use Rattle.chart_query.specs.declared.split.Entry.{Entry}

abbrev pub entry_of : Side → ℕ → Entry
entry_of s k = record { bucket = k; side = s }

-- the nodes of one level for the strips from low to high, the latter left out: the first where it is the second half of a
-- node of the next level, and the last where it is the first half of one
abbrev pub level_nodes : ℕ → ℕ → ℕ → List ℕ
level_nodes base low high =
    cond (nat_lt low high) (cond (eqb (low % 2) 1) ((base + low) ∷ []) [] ++ cond (eqb (high % 2) 1) ((base + (high - 1)) ∷ []) []) []

-- the nodes for the strips from low to high, level by level
abbrev pub split_nodes : List ℕ → ℕ → ℕ → List ℕ
split_nodes [] low high = []
split_nodes (base ∷ bases) low high = level_nodes base low high ++ split_nodes bases ((low + 1) / 2) (high / 2)

-- the nodes on the way from a strip to the top
abbrev pub way_nodes : List ℕ → ℕ → List ℕ
way_nodes [] k = []
way_nodes (base ∷ bases) k = (base + k) ∷ way_nodes bases (k / 2)

-- where the levels of a split begin: the first at a number, each behind the one before it, until one strip is left
abbrev pub IsSplit : List ℕ → ℕ → ℕ → ℕ → Type 0
IsSplit [] first last after = (last ≡ 0) × (first ≡ after)
IsSplit (base ∷ bases) first last after = (base ≡ first) × IsSplit bases (first + (last + 1)) (last / 2) after

-- the buckets of a side that crosses the strips from low to high: its nodes, and that of its higher end's height
abbrev pub buckets_of : List ℕ → ℕ → ℕ → ℕ → List ℕ
buckets_of bases heights low high = split_nodes bases low high ++ (heights + high) ∷ []

-- the numbers of a side's buckets are numbers of the machine
pub record FitsSplit (bases : List ℕ) (heights low high : ℕ) : Type 0 where
  pub levels : All (λ base. base + high < 2 ^ 64) bases
  pub top : heights + high < 2 ^ 64
  pub small : low < 2 ^ 63
