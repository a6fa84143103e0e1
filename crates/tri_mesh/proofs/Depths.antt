-- Chords of a triangle, level by level.
use Rattle.std.proofs.Common.{◌≡◌, ℕ, ◌+◌, ◌-◌, ◌<◌, ◌≤◌, pos, Bool, true, false, cond, List, [], ◌∷◌, map, sym, ap, subst, ◌∙◌, arith}
use Rattle.std.specs.Prelude.{int_lt, count_by}
use Rattle.std.specs.List.{All, Contains, range_with_len}
use Rattle.std.proofs.lemmas.List.Elements.{All-append, All-cons, All-nil}
use Rattle.std.proofs.lemmas.List.FromFn.{map-range_with_len_more, sum_by-map-range_with_len_more, get_or-map-range_with_len, length-map-range_with_len}
use Rattle.mesh_definitions.specs.Field.{Field}
use Rattle.mesh_definitions.specs.Ground.{Gives, chords}
use Rattle.mesh_definitions.specs.Ground.Gives.{Deep}
use Rattle.mesh_definitions.specs.Mesh.{surveyed}
use Rattle.mesh_definitions.specs.Pieces.{chord_ends, least_band, greatest_band}
use Rattle.mesh_definitions.specs.declared.Class.TheVariants.{Band}
use Rattle.mesh_definitions.specs.declared.Tri.{Tri}
use Rattle.plane_geom.specs.Geom.{cross_of, IsOn, OnSome}
use Rattle.plane_geom.specs.declared.Point.{Point}
use Rattle.plane_geom.specs.declared.Seg.{Seg}

-- whether p is strictly right of a segment
abbrev pub deep : Point → Seg → Bool
deep p s = int_lt (cross_of s.a s.b p) (pos 0)

-- the first n chords of a triangle
abbrev pub first_chords : Field → Tri → ℕ → List Seg
first_chords f t n = map (chord_ends f t) (range_with_len (least_band f t + 1) n)

-- p is on none of the first n chords, and on the deep side of so many of them that its band is this
pub record Passed (f : Field) (t : Tri) (p : Point) (n band : ℕ) : Type 0 where
  pub counted : band ≡ least_band f t + count_by (deep p) (first_chords f t n)
  pub off : All (λ s. ¬ (IsOn s p)) (first_chords f t n)

module _ (f : Field) (t : Tri) (p : Point) where
  abbrev Off : Seg → Type 0
  Off s = ¬ (IsOn s p)

  pub passed_none : (band n : ℕ) → n ≡ 0 → band ≡ least_band f t → Passed f t p n band
  passed_none band n none e = subst (λ n. Passed f t p n band) (sym none) (record { counted = omega (arith, e); off = All-nil Off })

  pub passed_more : (band n k here : ℕ) (s : Seg) → Passed f t p n band → least_band f t + 1 + n ≡ k → s ≡ chord_ends f t k → here ≡ cond (deep p s) 1 0 → ¬ (IsOn s p) → Passed f t p (n + 1) (band + here)
  passed_more band n k here s h at is count off = record {
    counted =
        let more = sum_by-map-range_with_len_more (λ s. cond (deep p s) 1 0) (chord_ends f t) (least_band f t + 1) n k at in
        let same = count ∙ ap (λ s. cond (deep p s) 1 0) is in
        omega (arith, more, same, h.counted);
    off =
        let list = map-range_with_len_more (chord_ends f t) (least_band f t + 1) n k at in
        subst (All Off) (sym list) (All-append Off (first_chords f t n) (chord_ends f t k ∷ []) h.off (All-cons Off (chord_ends f t k) [] (subst Off is off) (All-nil Off)));
  }

  pub all_chords : surveyed f t ≡ true → chords f t ≡ first_chords f t (greatest_band f t + 1 - (least_band f t + 1))
  all_chords known = ap (λ b. map (chord_ends f t) (cond b (range_with_len (least_band f t + 1) (greatest_band f t + 1 - (least_band f t + 1))) [])) known

  pub no_chords : surveyed f t ≡ false → chords f t ≡ []
  no_chords bare = ap (λ b. map (chord_ends f t) (cond b (range_with_len (least_band f t + 1) (greatest_band f t + 1 - (least_band f t + 1))) [])) bare

  pub passed_all : (band n : ℕ) → surveyed f t ≡ true → n ≡ greatest_band f t + 1 - (least_band f t + 1) → Passed f t p n band → Gives f t p (Band band)
  passed_all band n known e h =
      let list : first_chords f t n ≡ chords f t = ap (first_chords f t) e ∙ sym (all_chords known) in
      let count = h.counted ∙ ap (λ segs. least_band f t + count_by (deep p) segs) list in
      subst (λ b. Gives f t p (Band b)) (sym count) (Deep known (subst (All Off) list h.off))

  pub on_chord : (s : Seg) (k : ℕ) → surveyed f t ≡ true → least_band f t < k → k ≤ greatest_band f t → s ≡ chord_ends f t k → IsOn s p → OnSome (chords f t) p
  on_chord s k known above most is on = record {
    segment = chord_ends f t k;
    there = subst (λ segs. Contains segs (chord_ends f t k)) (sym (all_chords known))
        (k - (least_band f t + 1), (let l = length-map-range_with_len (chord_ends f t) (least_band f t + 1) (greatest_band f t + 1 - (least_band f t + 1)) in omega (arith, l, above, most)), get_or-map-range_with_len (chord_ends f t) (least_band f t + 1) (greatest_band f t + 1 - (least_band f t + 1)) (k - (least_band f t + 1)) k (chord_ends f t k) (omega (arith, above, most)) (omega (arith, above)));
    on = subst (λ s. IsOn s p) is on;
  }

  off_all : (segs : List Seg) → All Off segs → ¬ (OnSome segs p)
  off_all segs off on = off on.there.0 on.segment on.there.1 (subst (λ s. IsOn s p) (sym on.there.2) on.on)

  pub off_passed : (band n : ℕ) → surveyed f t ≡ true → n ≡ greatest_band f t + 1 - (least_band f t + 1) → Passed f t p n band → ¬ (OnSome (chords f t) p)
  off_passed band n known e h = off_all (chords f t) (subst (All Off) (ap (first_chords f t) e ∙ sym (all_chords known)) h.off)
