-- Rising numbers, and those that were met an odd number of times.
use Rattle.std.specs.Prelude.{⊤, ℕ, ◌+◌, ◌≤◌, nat_lt, eqb, cond, List, [], ◌∷◌, fold}
use Rattle.chart_query.specs.declared.sides.Side.{Side}
use Rattle.plane_geom.specs.Geom.{passes}
use Rattle.plane_geom.specs.declared.Point.{Point}

-- each number is above those before it, and none is below the first bound
abbrev pub Rises : ℕ → List ℕ → Type 0
Rises low [] = ⊤
Rises low (x ∷ xs) = (low ≤ x) × Rises (x + 1) xs

-- rising numbers without k where they have it, and else with it
abbrev pub toggled : ℕ → List ℕ → List ℕ
toggled k [] = k ∷ []
toggled k (x ∷ xs) = cond (nat_lt k x) (k ∷ x ∷ xs) (cond (eqb x k) xs (x ∷ toggled k xs))

-- the numbers after the owner of each side that passes p's height east of p was toggled
abbrev pub toggled_by : Point → List ℕ → List Side → List ℕ
toggled_by p owners sides = fold (λ ks (s : Side). cond (passes s.segment p) (toggled s.feature ks) ks) owners sides
