-- Bands of nodes, and slopes between them.
use Rattle.std.proofs.Common.{◌≡◌, ℕ, ◌≤◌, ℤ, pos, Bool, true, false, cond, not, Option, Some, None, length, refl, arith}
use Rattle.std.specs.Prelude.{int_le, option_map, unwrap_or}
use Rattle.std.proofs.lemmas.Int.{ints}
use Rattle.std.proofs.lemmas.List.Sums.{count_by-le-length}
use Rattle.mesh_definitions.proofs.Bands.{bands_rise}
use Rattle.mesh_definitions.specs.Cuts.{Slope, falls, slope}
use Rattle.mesh_definitions.specs.Field.{Field, depth_at, band_at, node_band}
use Rattle.mesh_definitions.specs.Mesh.{Walk, from, to, first, second}
use Rattle.depth_grid.specs.declared.node.NodeId.{NodeId}
use Rattle.depth_rounding.specs.Bands.{band_of}

-- no band is beyond the levels
pub band_few : (f : Field) (n : NodeId) → band_at f n ≤ length f.levels
band_few f n = count_by-le-length (λ level. int_le level (depth_at f n)) f.levels

is_known : (g : ℤ → ℕ) (d : Option ℤ) (b : ℕ) → option_map g d ≡ Some b → g (unwrap_or d (pos 0)) ≡ b
is_known g None b e = cc (e)
is_known g (Some c) b e = cc (e)

pub band_is : (f : Field) (n : NodeId) (b : ℕ) → node_band f n ≡ Some b → band_at f n ≡ b
band_is f n b e = is_known (band_of f.levels) (f.depth n) b e

-- a slope leads from u to v, and v's band is no less
pub record Leads (f : Field) (s : Slope) (u v : NodeId) : Type 0 where
  pub is : s ≡ record { u = u; v = v }
  pub rises : band_at f u ≤ band_at f v

-- whether a walk along a link is one along its slope, from the shoaler node to the other
abbrev pub deepens : Field → Walk → Bool
deepens f w = cond w.forward (not (falls f (first w.link) (second w.link))) (falls f (first w.link) (second w.link))

module _ (f : Field) (a c : NodeId) where
  falling : falls f a c ≡ true → Leads f (slope f a c) c a
  falling e = record { is = rw e refl; rises = bands_rise f.levels (depth_at f c) (depth_at f a) (grind (arith, ints, e)) }

  rising : falls f a c ≡ false → Leads f (slope f a c) a c
  rising e = record { is = rw e refl; rises = bands_rise f.levels (depth_at f a) (depth_at f c) (grind (arith, ints, e)) }

  going_down : (forward x : Bool) → falls f a c ≡ x → cond forward (not x) x ≡ true → Leads f (slope f a c) (cond forward a c) (cond forward c a)
  going_down true false e h = rising e
  going_down false true e h = falling e
  going_down true true e h = absurd (cc (h))
  going_down false false e h = absurd (cc (h))

  going_up : (forward x : Bool) → falls f a c ≡ x → cond forward (not x) x ≡ false → Leads f (slope f a c) (cond forward c a) (cond forward a c)
  going_up true true e h = falling e
  going_up false false e h = rising e
  going_up true false e h = absurd (cc (h))
  going_up false true e h = absurd (cc (h))

pub leads_on : (f : Field) (w : Walk) → deepens f w ≡ true → Leads f (slope f (first w.link) (second w.link)) (from w) (to w)
leads_on f w h = going_down f (first w.link) (second w.link) w.forward (falls f (first w.link) (second w.link)) refl h

pub leads_back : (f : Field) (w : Walk) → deepens f w ≡ false → Leads f (slope f (first w.link) (second w.link)) (to w) (from w)
leads_back f w h = going_up f (first w.link) (second w.link) w.forward (falls f (first w.link) (second w.link)) refl h
