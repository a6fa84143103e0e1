-- Meta objects, collections, geo objects and cartographic objects are all features.
use Rattle.std.proofs.Common.{◌≡◌, ℕ, ◌+◌, Bool, cond, leb, ltb, List, [], ◌∷◌, length, refl, arith}
use Rattle.std.specs.Prelude.{not, ◌&&◌, count_by}
use Rattle.chart_model.specs.declared.records.Feature.{Feature}
use Rattle.cell_writer.specs.Layout.{objects, geo_objects}
use Rattle.std.proofs.lemmas.List.Sums.{sum_by-cons}

-- an object code is of one of the four kinds
one_kind : (n : ℕ) → cond (leb 300 n && ltb n 400) 1 0 + cond (leb 500 n && ltb n 600) 1 0 + cond (not (leb 300 n && ltb n 600)) 1 0 + cond (leb 400 n && ltb n 500) 1 0 ≡ 1
one_kind n = grind arith

-- one more element that a test looks at
counted : {X : Type 0} (test : X → Bool) (x : X) (xs : List X) → count_by test (x ∷ xs) ≡ cond (test x) 1 0 + count_by test xs
counted test x xs = sum_by-cons (λ y. cond (test y) 1 0) x xs

-- so the four numbers of objects add up to that of features
pub all_objects : (features : List Feature) → objects 300 400 features + objects 500 600 features + geo_objects features + objects 400 500 features ≡ length features
all_objects [] = refl
all_objects (f ∷ features) =
    let within = λ (low high : ℕ). counted (λ (g : Feature). leb low g.objl && ltb g.objl high) f features in
    omega (arith, one_kind f.objl, all_objects features, within 300 400, within 500 600, within 400 500, counted (λ (g : Feature). not (leb 300 g.objl && ltb g.objl 600)) f features)
