-- A point on a link lies on one of the link's parts.
use Rattle.std.proofs.Common.{◌≡◌, ⊎_elim, inl, ℕ, zero, suc, ◌+◌, ◌-◌, ◌≤◌, min, max, Bool, true, false, cond, Option, Some, None, [], ◌∷◌, refl, sym, subst, arith}
use Rattle.mesh_definitions.specs.Cuts.{Slope, falls, slope, crossing}
use Rattle.mesh_definitions.specs.Field.{Field, IsField, point, node_band}
use Rattle.mesh_definitions.specs.Mesh.{Walk, first, second}
use Rattle.mesh_definitions.specs.Pieces.{part_ends, part_bands, span}
use Rattle.mesh_definitions.specs.declared.Link.{Link}
use Rattle.mesh_laws.proofs.Places.{in_range}
use Rattle.plane_geom.specs.Geom.{IsOn}
use Rattle.plane_geom.specs.declared.Point.{Point}
use Rattle.plane_laws.specs.Outlines.{seg}
use Rattle.plane_laws.proofs.Lines.{on_turned}
use Rattle.plane_laws.proofs.Members.{In}
use Rattle.mesh_counts_laws.proofs.Parts.{at_first, at_last, between}
use Rattle.mesh_counts_laws.proofs.Rounds.{IsLeg, graded_slope}
use Rattle.mesh_counts_laws.proofs.Triangles.{sum_of_parts, turn_at}
use Rattle.mesh_lines_laws.proofs.Segments.{split_at}

-- a point on a segment that is cut lies between two neighbours among the cuts
some_step : (place : ℕ → Point) (p : Point) → ((a n : ℕ) → IsOn (seg (place a) (place (a + 1 + n))) (place (a + 1))) → (a n : ℕ) → IsOn (seg (place a) (place (a + 1 + n))) p → (k : ℕ) × (a ≤ k) × (k ≤ a + n) × IsOn (seg (place k) (place (k + 1))) p
some_step place p ordered a zero h = let e : a + 1 + 0 ≡ a + 1 = omega arith in (a, omega arith, omega arith, subst (λ k. IsOn (seg (place a) (place k)) p) e h)
some_step place p ordered a (suc n) h =
    let e : a + 1 + suc n ≡ a + 1 + 1 + n = omega arith in
    ⊎_elim
    (λ l. (a, omega arith, omega arith, l))
    (λ r. let s = some_step place p ordered (a + 1) n (subst (λ k. IsOn (seg (place (a + 1)) (place k)) p) e r) in (s.0, omega (arith, s.1), omega (arith, s.2), s.3))
    (split_at (place a) (place (a + 1)) (place (a + 1 + suc n)) p (ordered a (suc n)) h)

module _ (f : Field) (h : IsField f) (p : Point) (l : Link) (leg : IsLeg f h (record { link = l; forward = true })) (on : IsOn (seg (point f (first l)) (point f (second l))) p) where
  abbrev s : Slope
  s = slope f (first l) (second l)

  abbrev w : Walk
  w = record { link = l; forward = true }

  -- p lies on a part of the link
  pub record OnPart : Type 0 where
    pub band : ℕ
    pub there : In (part_bands f l) band
    pub lies : IsOn (part_ends f l band) p

  whole_part : part_bands f l ≡ 0 ∷ [] → part_ends f l 0 ≡ seg (point f (first l)) (point f (second l)) → OnPart
  whole_part e k = record { band = 0; there = subst (λ bands. In bands 0) (sym e) (inl refl); lies = subst (λ s. IsOn s p) (sym k) on }

  on_slope : IsOn (seg (point f s.u) (point f s.v)) p
  on_slope = by (falls f (first l) (second l))
    where
      by : (x : Bool) → (let r : Slope = cond x (record { u = second l; v = first l }) (record { u = first l; v = second l }) in IsOn (seg (point f r.u) (point f r.v)) p)
      by true = on_turned (seg (point f (first l)) (point f (second l))) p on
      by false = on

  abbrev at : ℕ → Point
  at k = crossing f s k

  -- between nodes with data it lies between two neighbours among the crossings
  module _ (x y : ℕ) (e : node_band f (first l) ≡ Some x) (k : node_band f (second l) ≡ Some y) where
    between_crossings : (b : ℕ) × (min x y ≤ b) × (b ≤ min x y + (max x y - min x y)) × IsOn (seg (at b) (at (b + 1))) p
    between_crossings =
        let n = max x y - min x y in
        let g = turn_at p in
        let ordered = λ (a n : ℕ). between g (sum_of_parts p) (point f s.u) (point f s.v) at (graded_slope f h w leg) a n in
        let low : at (min x y) ≡ point f s.u = at_first f g w x y e k (min x y) (omega arith) in
        let high : at (min x y + 1 + n) ≡ point f s.v = at_last f g w x y e k (min x y + 1 + n) (omega arith) in
        let whole : IsOn (seg (at (min x y)) (at (min x y + 1 + n))) p = subst (λ q. IsOn (seg q (at (min x y + 1 + n))) p) (sym low) (subst (λ q. IsOn (seg (point f s.u) q) p) (sym high) on_slope) in
        some_step at p ordered (min x y) n whole

    on_band : (b : ℕ) → IsOn (seg (at b) (at (b + 1))) p → IsOn (part_ends f l b) p
    on_band b t =
        let part : part_ends f l b ≡ cond (falls f (first l) (second l)) (seg (at (b + 1)) (at b)) (seg (at b) (at (b + 1))) = rw (e, k) refl in
        subst (λ s. IsOn s p) (sym part) (by (falls f (first l) (second l)))
      where
        by : (x : Bool) → IsOn (cond x (seg (at (b + 1)) (at b)) (seg (at b) (at (b + 1)))) p
        by true = on_turned (seg (at b) (at (b + 1))) p t
        by false = t

    band_there : (b : ℕ) → min x y ≤ b → b ≤ min x y + (max x y - min x y) → In (part_bands f l) b
    band_there b low high =
        let bands : part_bands f l ≡ span (min x y) (max x y) = rw (e, k) refl in
        subst (λ bands. In bands b) (sym bands) (in_range (min x y) (max x y + 1 - min x y) b low (omega (arith, high)))

    known_part : OnPart
    known_part = let c = between_crossings in record { band = c.0; there = band_there c.0 c.1 c.2; lies = on_band c.0 c.3 }

  pub on_part : OnPart
  on_part = by (node_band f (first l)) (node_band f (second l)) refl refl
    where
      by : (x y : Option ℕ) → node_band f (first l) ≡ x → node_band f (second l) ≡ y → OnPart
      by None y e k = whole_part (rw e refl) (rw e refl)
      by (Some x) None e k = whole_part (rw (e, k) refl) (rw (e, k) refl)
      by (Some x) (Some y) e k = known_part x y e k
