-- Where a point lies among the areas of group 1.
use Rattle.std.specs.Prelude.{◌≡◌, ◌≢◌, ℕ, ◌+◌, Bool, false, cond, Option, Some, None, List, [], ◌∷◌, filter, Contains, slice_get}
use Rattle.chart_model.specs.Areas.{areas, is_area}
use Rattle.chart_model.specs.Lines.{area_segments}
use Rattle.chart_model.specs.declared.records.Feature.{Feature}
use Rattle.chart_model.specs.declared.records.Parts.{Parts}
use Rattle.chart_query.specs.declared.answer.Place.TheVariants.{Outside, Edge, Areas}
use Rattle.chart_query.specs.declared.answer.Place.{Place}
use Rattle.plane_geom.specs.Geom.{OnSome, odd_of}
use Rattle.plane_geom.specs.declared.Point.{Point}

-- the positions of the elements that pass a test, rising, where the first element's position is k
abbrev pub positions : {X : Type 0} → (X → Bool) → ℕ → List X → List ℕ
positions test k [] = []
positions test k (x ∷ xs) = cond (test x) (k ∷ positions test (k + 1) xs) (positions test (k + 1) xs)

-- whether an odd number of the segments of the feature at a position passes p's height east of p
abbrev pub odd_at : Parts → Point → ℕ → Bool
odd_at c p k = go (slice_get c.features k)
  where
    go : Option Feature → Bool
    go None = false
    go (Some f) = odd_of (area_segments c f) p

-- the positions of the areas whose segments pass p's height east of p an odd number of times
abbrev pub insides : Parts → Point → List ℕ
insides c p = filter (odd_at c p) (positions is_area 0 c.features)

-- p is on a segment of some area
pub record IsOnArea (c : Parts) (p : Point) : Type 0 where
  pub area : Feature
  pub there : Contains (areas c) area
  pub on : OnSome (area_segments c area) p

-- the answer for p: Edge on a segment of an area; else the areas that have p inside, or Outside where there is none
abbrev pub IsPlace : Parts → Point → Place → Type 0
IsPlace c p Edge = IsOnArea c p
IsPlace c p Outside = (¬ IsOnArea c p) × (insides c p ≡ [])
IsPlace c p (Areas found) = (¬ IsOnArea c p) × (insides c p ≢ []) × (found ≡ insides c p)
