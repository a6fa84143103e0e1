-- A point is on an area or not, and in the coverage or not.
use Rattle.std.proofs.Common.{◌≡◌, ◌⊎◌, ⊎_elim, inl, inr, ◌-◌, Bool, true, false, List, pos, refl, sym, ap, ◌∙◌, arith}
use Rattle.std.proofs.lemmas.Bool.{true≢false}
use Rattle.std.proofs.lemmas.Bool.Decides.{Decides-and, Decides-int_eq}
use Rattle.std.proofs.lemmas.Int.{ints, by_lt_z}
use Rattle.std.proofs.lemmas.List.Folds.{Any-from_list_any, list_any_at}
use Rattle.std.specs.Bool.{Decides}
use Rattle.std.specs.List.{flat_map, list_any}
use Rattle.mesh_definitions.specs.Field.{Field, InCoverage}
use Rattle.chart_model.specs.Areas.{areas}
use Rattle.chart_model.specs.Lines.{area_segments}
use Rattle.chart_model.specs.declared.records.Parts.{Parts}
use Rattle.chart_query.proofs.Members.{on_area, from_area}
use Rattle.chart_query.specs.Answer.{is_on}
use Rattle.chart_query.specs.Place.{IsOnArea}
use Rattle.plane_geom.specs.Geom.{cross_of, is_between, IsOn, OnSome}
use Rattle.plane_geom.specs.declared.Point.{Point}
use Rattle.plane_geom.specs.declared.Seg.{Seg}

-- the test of a segment tells whether the point is on it
on_tells : (p : Point) (s : Seg) → Decides (is_on p s) (IsOn s p)
on_tells p s = (λ e. let h = parts.0 e in record { line = h.0; wide = h.1.0; high = h.1.1 }, λ on. parts.1 (on.line, (on.wide, on.high)))
  where
    parts : Decides (is_on p s) ((cross_of s.a s.b p ≡ pos 0) × ((is_between s.a.x s.b.x p.x ≡ true) × (is_between s.a.y s.b.y p.y ≡ true)))
    parts = Decides-and _ _ (Decides-int_eq _ _) (Decides-and _ _ (λ x. x, λ x. x) (λ x. x, λ x. x))

-- so a point is on one of some segments or on none
some_or_none : (segments : List Seg) (p : Point) → OnSome segments p ⊎ ¬ (OnSome segments p)
some_or_none segments p = by_test (list_any (is_on p) segments) refl
  where
    by_test : (b : Bool) → list_any (is_on p) segments ≡ b → OnSome segments p ⊎ ¬ (OnSome segments p)
    by_test true e = let a = Any-from_list_any (is_on p) segments e in inl (record { segment = a.1; there = (a.0, a.2, a.3); on = (on_tells p a.1).0 a.4 })
    by_test false e = inr (λ h. true≢false (sym (list_any_at (is_on p) segments h.there.0 h.segment h.there.1 (ap (is_on p) h.there.2 ∙ (on_tells p h.segment).1 h.on)) ∙ e))

-- a point is on a segment of an area, or of none
pub on_or_off : (c : Parts) (p : Point) → IsOnArea c p ⊎ ¬ (IsOnArea c p)
on_or_off c p = ⊎_elim
    (λ on. inl (on_area c (flat_map (area_segments c) (areas c)) p refl on))
    (λ off. inr (λ h. off (from_area c (flat_map (area_segments c) (areas c)) p refl h)))
    (some_or_none (flat_map (area_segments c) (areas c)) p)

-- a point is in the coverage of a field, or beyond it
pub within_or_beyond : (f : Field) (p : Point) → InCoverage f p ⊎ ¬ (InCoverage f p)
within_or_beyond f p =
    by_lt_z p.x (f.x 0) (λ l. inr (λ h. let w = h.west in omega (arith, ints, w, l))) (λ west.
    by_lt_z (f.x (f.cols - 1)) p.x (λ l. inr (λ h. let w = h.east in omega (arith, ints, w, l))) (λ east.
    by_lt_z p.y (f.y (f.rows - 1)) (λ l. inr (λ h. let w = h.south in omega (arith, ints, w, l))) (λ south.
    by_lt_z (f.y 0) p.y (λ l. inr (λ h. let w = h.north in omega (arith, ints, w, l))) (λ north.
    inl (record { west = west; east = east; south = south; north = north })))))
