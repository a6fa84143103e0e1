-- What lists joined end to end have, and points on some of their segments.
use Rattle.std.proofs.Common.{◌≡◌, List, [], ◌∷◌, sym, subst, ⊎_elim, arith}
use Rattle.std.proofs.lemmas.List.Elements.{Contains-append_left, Contains-append_right, Contains-append_cases, Contains-push, Contains-push_cases}
use Rattle.std.specs.List.{Contains, flat_map}
use Rattle.chart_model.specs.Areas.{areas}
use Rattle.chart_model.specs.Lines.{area_segments}
use Rattle.chart_model.specs.declared.records.Parts.{Parts}
use Rattle.chart_query.specs.Place.{IsOnArea}
use Rattle.plane_geom.specs.Geom.{OnSome}
use Rattle.plane_geom.specs.declared.Point.{Point}
use Rattle.plane_geom.specs.declared.Seg.{Seg}

out_of_joined : {X Y : Type 0} (g : X → List Y) (xs : List X) (y : Y) → Contains (flat_map g xs) y → (x : X) × Contains xs x × Contains (g x) y
out_of_joined g [] y (k, h, e) = absurd (omega (arith, h))
out_of_joined g (x ∷ xs) y h = ⊎_elim
    (λ (a : Contains (g x) y). (x, Contains-append_left (x ∷ []) xs x (Contains-push [] x), a))
    (λ (b : Contains (flat_map g xs) y). let r = out_of_joined g xs y b in (r.0, Contains-append_right (x ∷ []) xs r.0 r.1, r.2))
    (Contains-append_cases (g x) (flat_map g xs) y h)

into_joined : {X Y : Type 0} (g : X → List Y) (xs : List X) (x : X) (y : Y) → Contains xs x → Contains (g x) y → Contains (flat_map g xs) y
into_joined g [] x y (k, h, e) a = absurd (omega (arith, h))
into_joined g (z ∷ xs) x y h a = ⊎_elim
    (λ (b : Contains (z ∷ []) x). ⊎_elim (λ (n : Contains [] x). absurd (omega (arith, n.1))) (λ (s : z ≡ x). Contains-append_left (g z) (flat_map g xs) y (subst (λ t. Contains (g t) y) (sym s) a)) (Contains-push_cases [] z x b))
    (λ (b : Contains xs x). Contains-append_right (g z) (flat_map g xs) y (into_joined g xs x y b a))
    (Contains-append_cases (z ∷ []) xs x h)

pub on_area : (c : Parts) (segments : List Seg) (p : Point) → segments ≡ flat_map (area_segments c) (areas c) → OnSome segments p → IsOnArea c p
on_area c segments p e h =
    let r = out_of_joined (area_segments c) (areas c) h.segment (subst (λ t. Contains t h.segment) e h.there) in
    record { area = r.0; there = r.1; on = record { segment = h.segment; there = r.2; on = h.on } }

pub from_area : (c : Parts) (segments : List Seg) (p : Point) → segments ≡ flat_map (area_segments c) (areas c) → IsOnArea c p → OnSome segments p
from_area c segments p e h = record { segment = h.on.segment; there = subst (λ t. Contains t h.on.segment) (sym e) (into_joined (area_segments c) (areas c) h.area h.on.segment h.there h.on.there); on = h.on.on }
