-- The order in which areas are painted: the deepest first, so that what is shoaler stands over what is deeper, and what has
-- no known depth over all water.
use Rattle.std.specs.Prelude.{◌≡◌, ℕ, ◌<◌, nat_le, cond, eqb, ℤ, pos, ◌-ℤ◌, unsigned_abs, List, [], ◌∷◌, length, slice_index_or, Option, Some, None}
use Rattle.chart_model.specs.Areas.{is_area}
use Rattle.chart_model.specs.declared.records.Feature.{Feature}
use Rattle.chart_picture.specs.Colours.{shoalest}
use Rattle.chart_picture.specs.declared.layer.Layer.{Layer}
use Rattle.s57_codes.specs.Catalogue.{objl_depare}

-- ---- lists in the order of a number

-- an element goes before the first one whose number isn't less
abbrev pub put_by : {X : Type 0} → (X → ℕ) → X → List X → List X
put_by n x [] = x ∷ []
put_by n x (y ∷ ys) = cond (nat_le (n x) (n y)) (x ∷ (y ∷ ys)) (y ∷ put_by n x ys)

-- the least number first; elements that have the same number stay in their order
abbrev pub ordered_by : {X : Type 0} → (X → ℕ) → List X → List X
ordered_by n [] = []
ordered_by n (x ∷ xs) = put_by n x (ordered_by n xs)

-- ---- areas

-- the depth by which an area is painted, in decimetres: what a depth area is at least deep, where that is known
unfoldable pub painted_depth : Feature → Option ℤ
painted_depth it = cond (eqb it.objl objl_depare) (shoalest it) None

-- a layer for each decimetre, from 100 km of water up to 100 km above the datum, and one above all of these
abbrev pub layer_at : Option ℤ → ℕ
layer_at None = 2000001
layer_at (Some dm) = unsigned_abs (pos 1000000 -ℤ dm)

unfoldable pub layer_of : Feature → ℕ
layer_of it = layer_at (painted_depth it)

abbrev pub deepest_first : List Feature → List Feature
deepest_first its = ordered_by layer_of its

-- ---- what stands for areas while they are put in order

-- the layer of an area, and its place among features
pub record IsLayer (features : List Feature) (l : Layer) (it : Feature) : Type 0 where
  pub within : l.place < length features
  pub at : (d : Feature) → slice_index_or features l.place d ≡ it
  pub number : l.number ≡ layer_of it

-- the layer of the feature at a place, where it is an area of group 1
abbrev pub layers_at : ℕ → Feature → List Layer
layers_at place it = cond (is_area it) (record { number = layer_of it; place = place } ∷ []) []

-- of each area one, in their order
abbrev pub AreLayers : List Feature → List Layer → List Feature → Type 0
AreLayers features [] [] = Unit {0}
AreLayers features [] (it ∷ its) = ⊥
AreLayers features (l ∷ ls) [] = ⊥
AreLayers features (l ∷ ls) (it ∷ its) = IsLayer features l it × AreLayers features ls its
