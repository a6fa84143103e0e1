-- Lists of records by their places, and features put at the end of others.
use Rattle.std.proofs.Common.{◌≡◌, ℕ, ℤ, Option, Some, None, ◌+◌, ◌≤◌, List, [], ◌∷◌, ◌++◌, length, map, refl, sym, ap, ap₂, subst, ◌∙◌, append_assoc, arith, length-append}
use Rattle.std.proofs.lemmas.Grind.{flat_map-append}
use Rattle.std.proofs.lemmas.List.FromFn.{map-range_with_len_more}
use Rattle.std.proofs.lemmas.List.Folds.{flat_map-map}
use Rattle.std.proofs.lemmas.List.{map-append, append-nil, length-map}
use Rattle.std.specs.List.{flat_map, range_with_len}
use Rattle.built_parts.specs.Contours.{contour_of}
use Rattle.built_parts.specs.Contents.{Adds, FeatureContent, content_of}
use Rattle.chart_model.specs.declared.records.Feature.{Feature}

-- one more record at the end, by the next place
pub placed : {X : Type 0} (f : ℕ → X) (n : ℕ) (xs : List X) (x : X) → xs ≡ map f (range_with_len 0 n) → x ≡ f n → xs ++ x ∷ [] ≡ map f (range_with_len 0 (n + 1))
placed f n xs x so is = ap₂ (λ ys y. ys ++ y ∷ []) so is ∙ sym (map-range_with_len_more f 0 n n (omega arith))

pub pushed : {X : Type 0} (f : ℕ → X) (n : ℕ) (xs ys : List X) (x : X) → ys ≡ xs ++ x ∷ [] → xs ≡ map f (range_with_len 0 n) → x ≡ f n → ys ≡ map f (range_with_len 0 (n + 1))
pushed f n xs ys x put so is = put ∙ placed f n xs x so is

-- the parts for one more place
flat_more : {X : Type 0} (h : ℕ → List X) (k : ℕ) → flat_map h (range_with_len 0 (k + 1)) ≡ flat_map h (range_with_len 0 k) ++ h k
flat_more h k =
    sym (flat_map-map (λ l. l) h (range_with_len 0 (k + 1)))
    ∙ ap (flat_map (λ l. l)) (map-range_with_len_more h 0 k k (omega arith))
    ∙ flat_map-append (λ l. l) (map h (range_with_len 0 k)) (h k ∷ [])
    ∙ ap₂ ◌++◌ (flat_map-map (λ l. l) h (range_with_len 0 k)) (append-nil (h k))

-- nothing is added
pub adds_none : (x : List Feature) → Adds [] x x
adds_none x = record { added = []; say = refl; behind = sym (append-nil x) }

-- what is added once more
pub adds_more : (a b : List FeatureContent) (x y z : List Feature) → Adds a x y → Adds b y z → Adds (a ++ b) x z
adds_more a b x y z p q = record {
  added = p.added ++ q.added;
  say = map-append content_of p.added q.added ∙ ap₂ ◌++◌ p.say q.say;
  behind = q.behind ∙ ap (λ w. w ++ q.added) p.behind ∙ append_assoc x p.added q.added;
}

-- what is added for the next place
pub adds_next : (h : ℕ → List FeatureContent) (k : ℕ) (x y z : List Feature) → Adds (flat_map h (range_with_len 0 k)) x y → Adds (h k) y z → Adds (flat_map h (range_with_len 0 (k + 1))) x z
adds_next h k x y z p q = subst (λ d. Adds d x z) (sym (flat_more h k)) (adds_more (flat_map h (range_with_len 0 k)) (h k) x y z p q)

pub adds_placed : (f : ℕ → FeatureContent) (k : ℕ) (x y z : List Feature) → Adds (map f (range_with_len 0 k)) x y → Adds (f k ∷ []) y z → Adds (map f (range_with_len 0 (k + 1))) x z
adds_placed f k x y z p q = subst (λ d. Adds d x z) (sym (map-range_with_len_more f 0 k k (omega arith))) (adds_more (map f (range_with_len 0 k)) (f k ∷ []) x y z p q)

-- how many there are then
pub adds_length : (a : List FeatureContent) (x y : List Feature) → Adds a x y → length y ≡ length x + length a
adds_length a x y p = ap length p.behind ∙ length-append x p.added ∙ ap (λ n. length x + n) (sym (length-map p.added content_of) ∙ ap length p.say)

-- an edge has one contour at most
pub contour_short : (levels : List ℤ) (k : ℕ) (o : Option ℕ) → length (contour_of levels k o) ≤ 1
contour_short levels k None = omega arith
contour_short levels k (Some level) = omega arith
