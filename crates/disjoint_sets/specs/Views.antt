-- What a forest of the code shows.
use Rattle.std.specs.Prelude.{ℕ, List}
use Rattle.disjoint_sets.specs.declared.forest.Forest.{Forest}

-- the parents of its items
abbrev pub parents_of : Forest → List ℕ
parents_of f = f.parents.items
