-- What is said of a leg is determined, and it is clear where it touches no unsafe area.
use Rattle.std.proofs.Common.{◌≡◌, ◌↔◌, ℕ, ◌≤◌, ℤ, pos, ◌-ℤ◌, ◌*ℤ◌, Some, List, refl, ◌∙◌, ap, ap₂, subst, inl, inr, ⊎_elim, arith}
use Rattle.std.proofs.lemmas.Int.{ints}
use Rattle.std.proofs.lemmas.Bool.{eqb-true}
use Rattle.std.proofs.lemmas.Option.{slice_get-get_or, slice_get_within, get_or_from_slice_get}
use Rattle.std.specs.Bool.{IsTrue}
use Rattle.std.specs.List.{Contains}
use Rattle.chart_model.specs.Lines.{area_segments}
use Rattle.chart_model.specs.Whole.{IsWhole}
use Rattle.chart_model.specs.declared.records.Feature.{Feature}
use Rattle.chart_model.specs.declared.records.Parts.{Parts}
use Rattle.exact_num.specs.Number.{Number}
use Rattle.plane_geom.specs.Geom.{is_between, IsOn, odd_of}
use Rattle.plane_geom.specs.declared.Seg.{Seg}
use Rattle.plane_strips.specs.Legs.{IsClosed}
use Rattle.plane_strips.specs.LegLaws.{TouchesWhereMet}
use Rattle.plane_strips.specs.Rational.{Meet, whole}
use Rattle.plane_strips.specs.RationalLaws.{OnAtWhole}
use Rattle.s57_codes.specs.Catalogue.{prim_area}
use Rattle.route_check.specs.Laws.{AreasAreClosed}
use Rattle.route_check.specs.Legs.{IsInsideAt, IsLeg, IsMet, IsMetAt, IsNoLater, IsUnsafeAt, IsUntouched}
use Rattle.route_check.specs.Unsafe.{is_unsafe}
use Rattle.route_check.specs.declared.answer.Leg.TheVariants.{Clear, Inside, Touched}
use Rattle.route_check.specs.declared.answer.Leg.{Leg}

-- ---- one answer

same_places : (f k g j : ℕ) → IsNoLater f k g j → IsNoLater g j f k → (f ≡ g) × (k ≡ j)
same_places f k g j (inl a) (inl b) = absurd (omega arith)
same_places f k g j (inl a) (inr b) = absurd (omega (arith, b.0))
same_places f k g j (inr a) (inl b) = absurd (omega (arith, a.0))
same_places f k g j (inr a) (inr b) = (a.0, omega (arith, a.1, b.1))

same_place : (f g : ℕ) → f ≤ g → g ≤ f → f ≡ g
same_place f g a b = omega arith

pub one_answer : (c : Parts) (depth : Number) (leg : Seg) (x y : Leg) → IsLeg c depth leg x → IsLeg c depth leg y → x ≡ y
one_answer c depth leg (Touched f k) (Touched g j) a b = let s = same_places f k g j (a.first g j b.met) (b.first f k a.met) in ap₂ (λ m n. Touched m n) s.0 s.1
one_answer c depth leg (Touched f k) (Inside g) a b = absurd (b.nowhere f k a.met)
one_answer c depth leg (Touched f k) Clear a b = absurd (b.nowhere f k a.met)
one_answer c depth leg (Inside f) (Touched g j) a b = absurd (a.nowhere g j b.met)
one_answer c depth leg (Inside f) (Inside g) a b = ap (λ m. Inside m) (same_place f g (a.first g b.inside) (b.first f a.inside))
one_answer c depth leg (Inside f) Clear a b = absurd (b.outside f a.inside)
one_answer c depth leg Clear (Touched g j) a b = absurd (a.nowhere g j b.met)
one_answer c depth leg Clear (Inside g) a b = absurd (a.outside g b.inside)
one_answer c depth leg Clear Clear a b = refl

-- x is said exactly where it is so
pub exactly : (c : Parts) (depth : Number) (leg : Seg) (x y : Leg) → IsLeg c depth leg x → (x ≡ y) ↔ IsLeg c depth leg y
exactly c depth leg x y a = (λ e. subst (IsLeg c depth leg) e a, λ b. one_answer c depth leg x y a b)

-- ---- clear legs

-- what is unsafe is an area
area_of : (depth : Number) (f : Feature) → IsTrue (is_unsafe depth f) → f.prim ≡ prim_area
area_of depth f u = eqb-true f.prim 3 (grind arith)

nothing : (u v x y : ℤ) → (u *ℤ (y -ℤ y)) -ℤ (v *ℤ (x -ℤ x)) ≡ pos 0
nothing u v x y = rw (own y, own x) (omega (arith, ints))
  where
    own : (z : ℤ) → z -ℤ z ≡ pos 0
    own z = omega (arith, ints)

first_between : (a b : ℤ) → IsTrue (is_between a b a)
first_between a b = grind (arith, ints)

own_end : (leg : Seg) → IsOn leg leg.a
own_end leg = record { line = nothing (leg.b.x -ℤ leg.a.x) (leg.b.y -ℤ leg.a.y) leg.a.x leg.a.y; wide = first_between leg.a.x leg.b.x; high = first_between leg.a.y leg.b.y }

-- a point of the leg's own beginning that is on a segment is one that both have
pub met_there : OnAtWhole → (leg s : Seg) → IsOn s leg.a → Meet leg s
met_there on leg s h = record { at = whole leg.a; first = (on leg leg.a).1 (own_end leg); second = (on s leg.a).1 h }

pub placed : (segs : List Seg) (s : Seg) (leg : Seg) → Contains segs s → Meet leg s → (k : ℕ) × IsMet segs leg k
placed segs s leg h m = (h.0, record { segment = s; at = slice_get-get_or segs h.0 s h.1 ∙ ap Some h.2; meets = m })

-- a segment at a place is in the list
there : (segs : List Seg) (leg : Seg) (k : ℕ) → (m : IsMet segs leg k) → Contains segs m.segment
there segs leg k m = (k, slice_get_within segs k m.segment m.at, get_or_from_slice_get segs k m.segment m.segment m.at)

module _ (closed : AreasAreClosed) (touched : TouchesWhereMet) (on : OnAtWhole) (c : Parts) (depth : Number) (leg : Seg) (w : IsWhole c) where
  closes : (f : ℕ) (area : Feature) → IsUnsafeAt c depth f area → IsClosed (area_segments c area)
  closes f area u = closed c f area w u.at (area_of depth area u.unsafe)

  -- where it meets no segment and its first end is inside nothing, it touches nothing
  free : IsLeg c depth leg Clear → IsUntouched c depth leg
  free a f area u t = ⊎_elim
      (λ (m : (s : Seg) × Contains (area_segments c area) s × Meet leg s). let p = placed (area_segments c area) m.0 leg m.1 m.2 in a.nowhere f p.0 (record { area = area; at = u; met = p.1 }))
      (λ (o : IsTrue (odd_of (area_segments c area) leg.a)). a.outside f (record { area = area; at = u; inside = record { off = λ s. (let p = placed (area_segments c area) s.segment leg s.there (met_there on leg s.segment s.on) in a.nowhere f p.0 (record { area = area; at = u; met = p.1 })); odd = o } }))
      ((touched leg (area_segments c area) (closes f area u)).0 t)

  -- what it meets, it touches
  met_touches : (f k : ℕ) → IsUntouched c depth leg → ¬ (IsMetAt c depth leg f k)
  met_touches f k n m = n f m.area m.at ((touched leg (area_segments c m.area) (closes f m.area m.at)).1 (inl (m.met.segment, there (area_segments c m.area) leg k m.met, m.met.meets)))

  inside_touches : (f : ℕ) → IsUntouched c depth leg → ¬ (IsInsideAt c depth leg.a f)
  inside_touches f n i = n f i.area i.at ((touched leg (area_segments c i.area) (closes f i.area i.at)).1 (inr i.inside.odd))

  clear_if : (x : Leg) → IsLeg c depth leg x → IsUntouched c depth leg → x ≡ Clear
  clear_if (Touched f k) a n = absurd (met_touches f k n a.met)
  clear_if (Inside f) a n = absurd (inside_touches f n a.inside)
  clear_if Clear a n = refl

  pub clear_untouched : (x : Leg) → IsLeg c depth leg x → (x ≡ Clear) ↔ IsUntouched c depth leg
  clear_untouched x a = (λ e. free (subst (IsLeg c depth leg) e a), clear_if x a)
