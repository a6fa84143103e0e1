-- The band of the ground at a point is one of the levels'.
use Rattle.std.proofs.Common.{◌≡◌, ℕ, ◌+◌, ◌-◌, ◌≤◌, pos, min, max, Bool, true, false, cond, List, [], ◌∷◌, length, refl, arith}
use Rattle.std.specs.Prelude.{fold, int_le, int_lt}
use Rattle.std.proofs.lemmas.List.{length-map}
use Rattle.std.proofs.lemmas.List.FromFn.{length-range_with_len}
use Rattle.std.proofs.lemmas.List.Sums.{count_by-le-length}
use Rattle.mesh_definitions.specs.Field.{Field, band_at, depth_at}
use Rattle.mesh_definitions.specs.Ground.{IsGround, Gives, chords, deep_chords}
use Rattle.mesh_definitions.specs.Mesh.{corners, surveyed}
use Rattle.mesh_definitions.specs.Pieces.{chord_ends, chord_levels, span, least_band, greatest_band}
use Rattle.mesh_definitions.specs.declared.Class.TheVariants.{Unsurveyed, Band}
use Rattle.mesh_definitions.specs.declared.Class.{Class}
use Rattle.mesh_definitions.specs.declared.Tri.{Tri}
use Rattle.depth_grid.specs.declared.node.NodeId.{NodeId}
use Rattle.plane_geom.specs.Geom.{cross_of}
use Rattle.plane_geom.specs.declared.Point.{Point}

module _ (f : Field) where
  band_known : (n : NodeId) → band_at f n ≤ length f.levels
  band_known n = count_by-le-length (λ level. int_le level (depth_at f n)) f.levels

  least_of : (b : ℕ) (ns : List NodeId) → b ≤ length f.levels → fold (λ b n. min b (band_at f n)) b ns ≤ length f.levels
  least_of b [] h = h
  least_of b (n ∷ ns) h = least_of (min b (band_at f n)) ns (omega (arith, h))

  greatest_of : (b : ℕ) (ns : List NodeId) → b ≤ length f.levels → fold (λ b n. max b (band_at f n)) b ns ≤ length f.levels
  greatest_of b [] h = h
  greatest_of b (n ∷ ns) h = let k = band_known n in greatest_of (max b (band_at f n)) ns (omega (arith, h, k))

  least_known : (t : Tri) → least_band f t ≤ length f.levels
  least_known t = least_of (length f.levels) (corners t) (omega arith)

  greatest_known : (t : Tri) → greatest_band f t ≤ length f.levels
  greatest_known t = greatest_of 0 (corners t) (omega arith)

  -- as many chords as there are levels from the least band to the greatest
  few_levels : (t : Tri) (known : Bool) → length (cond known (span (least_band f t + 1) (greatest_band f t)) []) ≤ greatest_band f t - least_band f t
  few_levels t true = let n = length-range_with_len (least_band f t + 1) (greatest_band f t + 1 - (least_band f t + 1)) in omega (arith, n)
  few_levels t false = omega arith

  few_deep : (t : Tri) (p : Point) → deep_chords f t p ≤ greatest_band f t - least_band f t
  few_deep t p =
      let all = count_by-le-length (λ s. int_lt (cross_of s.a s.b p) (pos 0)) (chords f t) in
      let each = length-map (chord_levels f t) (chord_ends f t) in
      omega (arith, all, each, few_levels t (surveyed f t))

  given : (t : Tri) (p : Point) (K : Class) (b : ℕ) → Gives f t p K → K ≡ Band b → (surveyed f t ≡ true) × (b ≤ length f.levels)
  given t p _ b (Gives.Open none) e = absurd (let w : Unsurveyed ≡ Band b = e in cc)
  given t p _ b (Gives.Deep all off) e =
      let same : least_band f t + deep_chords f t p ≡ b = (let w : Band (least_band f t + deep_chords f t p) ≡ Band b = e in cc) in
      (all, omega (arith, few_deep t p, least_known t, greatest_known t, same))

  -- the triangle that gives a band is surveyed, and the band is at most the number of levels
  pub band_of_ground : (p : Point) (b : ℕ) (h : IsGround f p (Band b)) → (surveyed f h.tri ≡ true) × (b ≤ length f.levels)
  band_of_ground p b h = given h.tri p (Band b) b h.gives refl
