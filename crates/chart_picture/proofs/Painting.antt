-- The layers of areas, while they are put in order and painted.
use Rattle.std.proofs.Common.{◌≡◌, ℕ, zero, suc, ◌+◌, ◌<◌, ◌≤◌, Bool, true, false, cond, eqb, Option, Some, None, List, [], ◌∷◌, ◌++◌, length, take, get_or, refl, sym, ap, ap₂, ◌∙◌, subst, arith, add-one, append-nil}
use Rattle.std.proofs.lemmas.Bool.Decides.{nat_tests}
use Rattle.std.proofs.lemmas.List.{get_or_default}
use Rattle.std.proofs.lemmas.List.Concat.{flat_map-append}
use Rattle.std.specs.List.{filter, flat_map}
use Rattle.std.specs.Prelude.{nat_le, ℤ, unsigned_abs, IfSome}
use Rattle.chart_model.specs.Areas.{is_area}
use Rattle.chart_model.specs.declared.records.Attribute.{Attribute}
use Rattle.chart_model.specs.declared.records.Feature.{Feature}
use Rattle.chart_picture.specs.Colours.{decimetres_in, depth_in, earthly, shoalest}
use Rattle.chart_picture.specs.Layers.{AreLayers, IsLayer, layer_of, layers_at, ordered_by, painted_depth, put_by}
use Rattle.chart_picture.specs.declared.layer.Layer.{Layer}
use Rattle.chart_picture.proofs.Appending.{filtered, two}
use Rattle.exact_num.specs.Number.{Number}
use Rattle.exact_num.specs.Text.{number_of}
use Rattle.exact_num.specs.Value.{floor_at}
use Rattle.s57_codes.specs.Catalogue.{objl_depare}

-- ---- depths are less than 100 km either way

abbrev pub IsEarthly : Option ℤ → Type 0
IsEarthly o = IfSome o (λ dm. unsigned_abs dm ≤ 1000000)

small_of : (a b : ℕ) → nat_le a b ≡ true → a ≤ b
small_of a b h = grind (arith, nat_tests)

earthly_is : (z : ℤ) → IsEarthly (earthly z)
unfolding earthly
earthly_is z = go (nat_le (unsigned_abs z) 1000000) refl
  where
    go : (b : Bool) → nat_le (unsigned_abs z) 1000000 ≡ b → IsEarthly (cond b (Some z) None)
    go true e = small_of (unsigned_abs z) 1000000 e
    go false e = tt

decimetres_are : (o : Option Number) → IsEarthly (decimetres_in o)
decimetres_are None = tt
decimetres_are (Some metres) = earthly_is (floor_at metres 1)

depth_is : (o : Option Attribute) → IsEarthly (depth_in o)
depth_is None = tt
depth_is (Some a) = decimetres_are (number_of a.text)

pub shoalest_is : (it : Feature) → IsEarthly (shoalest it)
unfolding shoalest
shoalest_is it = depth_is _

pub painted_is : (it : Feature) → IsEarthly (painted_depth it)
unfolding painted_depth
painted_is it = elim (eqb it.objl objl_depare) as (λ b. IsEarthly (cond b (shoalest it) None)) [ true ↦ shoalest_is it | false ↦ tt ]

-- ---- layers in order are those of areas in order

abbrev pub number_of_layer : Layer → ℕ
number_of_layer l = l.number

put_layers : (fs : List Feature) (l : Layer) (it : Feature) (ls : List Layer) (its : List Feature) → IsLayer fs l it → AreLayers fs ls its → AreLayers fs (put_by number_of_layer l ls) (put_by layer_of it its)
put_layers fs l it [] [] h more = (h, tt)
put_layers fs l it [] (jt ∷ its) h more = absurd more
put_layers fs l it (m ∷ ls) [] h more = absurd more
put_layers fs l it (m ∷ ls) (jt ∷ its) h more =
    subst (λ b. AreLayers fs (put_by number_of_layer l (m ∷ ls)) (cond b (it ∷ (jt ∷ its)) (jt ∷ put_by layer_of it its))) (ap₂ nat_le h.number more.0.number) (go (nat_le l.number m.number) (put_layers fs l it ls its h more.1))
  where
    go : (b : Bool) → AreLayers fs (put_by number_of_layer l ls) (put_by layer_of it its) → AreLayers fs (cond b (l ∷ (m ∷ ls)) (m ∷ put_by number_of_layer l ls)) (cond b (it ∷ (jt ∷ its)) (jt ∷ put_by layer_of it its))
    go true later = (h, more)
    go false later = (more.0, later)

pub order_layers : (fs : List Feature) (ls : List Layer) (its : List Feature) → AreLayers fs ls its → AreLayers fs (ordered_by number_of_layer ls) (ordered_by layer_of its)
order_layers fs [] [] more = tt
order_layers fs [] (it ∷ its) more = absurd more
order_layers fs (l ∷ ls) [] more = absurd more
order_layers fs (l ∷ ls) (it ∷ its) more = put_layers fs l it (ordered_by number_of_layer ls) (ordered_by layer_of its) more.0 (order_layers fs ls its more.1)

-- ---- one more layer

push_layer : (fs : List Feature) (ls : List Layer) (its : List Feature) (l : Layer) (it : Feature) → AreLayers fs ls its → IsLayer fs l it → AreLayers fs (ls ++ l ∷ []) (its ++ it ∷ [])
push_layer fs [] [] l it more h = (h, tt)
push_layer fs [] (jt ∷ its) l it more h = absurd more
push_layer fs (m ∷ ls) [] l it more h = absurd more
push_layer fs (m ∷ ls) (jt ∷ its) l it more h = (more.0, push_layer fs ls its l it more.1 h)

-- the next feature's layer is put at the end, where it is an area
pub next_layer : (fs : List Feature) (i : ℕ) (it : Feature) (before after : List Layer) → i < length fs → it ≡ get_or fs i it → after ≡ before ++ layers_at i it
    → AreLayers fs before (filter is_area (take i fs)) → AreLayers fs after (filter is_area (take (i + 1) fs))
next_layer fs i it before after at is step sofar = go (is_area it) refl step
  where
    here : (d : Feature) → get_or fs i d ≡ it
    here d = get_or_default fs i d it at ∙ sym is

    go : (b : Bool) → is_area it ≡ b → after ≡ before ++ cond b (record { number = layer_of it; place = i } ∷ []) [] → AreLayers fs after (filter is_area (take (i + 1) fs))
    go true e put =
        subst (AreLayers fs after) (sym (filtered is_area fs i it true at is e))
        (subst (λ ls. AreLayers fs ls (filter is_area (take i fs) ++ it ∷ [])) (sym put)
        (push_layer fs before (filter is_area (take i fs)) _ it sofar (record { within = at; at = here; number = refl })))
    go false e put =
        subst (AreLayers fs after) (sym (filtered is_area fs i it false at is e ∙ append-nil (filter is_area (take i fs))))
        (subst (λ ls. AreLayers fs ls (filter is_area (take i fs))) (sym (put ∙ append-nil before)) sofar)

-- ---- painting layer by layer

nth : (fs : List Feature) (ls : List Layer) (its : List Feature) (i : ℕ) (d : Layer) → AreLayers fs ls its → i < length ls → (it : Feature) × (IsLayer fs (get_or ls i d) it) × (take (suc i) its ≡ take i its ++ it ∷ [])
nth fs [] its i d more at = absurd (omega arith)
nth fs (l ∷ ls) [] i d more at = absurd more
nth fs (l ∷ ls) (it ∷ its) zero d more at = (it, more.0, refl)
nth fs (l ∷ ls) (it ∷ its) (suc i) d more at =
    let next = nth fs ls its i d more.1 (omega arith) in
    (next.0, next.1, ap (λ t. it ∷ t) next.2)

pub within : (fs : List Feature) (ls : List Layer) (its : List Feature) (i : ℕ) (d : Layer) → AreLayers fs ls its → i < length ls → (get_or ls i d).place < length fs
within fs ls its i d more at = (nth fs ls its i d more at).1.within

pub painted_more : (fs : List Feature) (ls : List Layer) (its : List Feature) (i : ℕ) (d : Layer) (text : Feature → List ℕ) (start before after : List ℕ) → AreLayers fs ls its → i < length ls
    → before ≡ start ++ flat_map text (take i its) → ((e : Feature) → after ≡ before ++ text (get_or fs (get_or ls i d).place e)) → after ≡ start ++ flat_map text (take (i + 1) its)
painted_more fs ls its i d text start before after more at sofar step =
    two start before after (flat_map text (take i its)) (text it) sofar (step it ∙ ap (λ t. before ++ text t) (found.1.at it)) ∙ ap (λ t. start ++ t) (sym whole)
  where
    found : (it : Feature) × (IsLayer fs (get_or ls i d) it) × (take (suc i) its ≡ take i its ++ it ∷ [])
    found = nth fs ls its i d more at

    it : Feature
    it = found.0

    whole : flat_map text (take (i + 1) its) ≡ flat_map text (take i its) ++ text it
    whole = rw add-one (ap (flat_map text) found.2 ∙ flat_map-append text (take i its) (it ∷ []) ∙ ap (λ t. flat_map text (take i its) ++ t) (append-nil (text it)))

pub length_layers : (fs : List Feature) (ls : List Layer) (its : List Feature) → AreLayers fs ls its → length ls ≡ length its
length_layers fs [] [] more = refl
length_layers fs [] (it ∷ its) more = absurd more
length_layers fs (l ∷ ls) [] more = absurd more
length_layers fs (l ∷ ls) (it ∷ its) more = let e = length_layers fs ls its more.1 in omega arith
