-- Bands of nodes: they rise with depth, and those of nodes with data are known.
use Rattle.std.proofs.Common.{◌≡◌, ℕ, ◌≤◌, ℤ, pos, ◌≤ℤ◌, Bool, true, false, cond, Option, Some, None, List, [], ◌∷◌, refl, arith}
use Rattle.std.specs.Prelude.{int_le, is_some, option_map, unwrap_or}
use Rattle.std.proofs.lemmas.Int.{ints}
use Rattle.std.proofs.lemmas.List.Sums.{sum_by-cons}
use Rattle.mesh_definitions.specs.Field.{Field, band_at, node_band}
use Rattle.depth_grid.specs.declared.node.NodeId.{NodeId}
use Rattle.depth_rounding.specs.Bands.{band_of}

one_more : (level a b : ℤ) → a ≤ℤ b → (p q : Bool) → int_le level a ≡ p → int_le level b ≡ q → cond p 1 0 ≤ cond q 1 0
one_more level a b h false q e k = omega arith
one_more level a b h true true e k = omega arith
one_more level a b h true false e k = absurd (grind (arith, ints, h, e, k))

-- the band of a deeper depth is no less
pub bands_rise : (levels : List ℤ) (a b : ℤ) → a ≤ℤ b → band_of levels a ≤ band_of levels b
bands_rise [] a b h = omega arith
bands_rise (level ∷ levels) a b h =
    let rest = bands_rise levels a b h in
    let one = one_more level a b h (int_le level a) (int_le level b) refl refl in
    let e = sum_by-cons (λ l. cond (int_le l a) 1 0) level levels in
    let k = sum_by-cons (λ l. cond (int_le l b) 1 0) level levels in
    omega (arith, rest, one, e, k)

known : (g : ℤ → ℕ) (d : Option ℤ) → is_some d ≡ true → option_map g d ≡ Some (g (unwrap_or d (pos 0)))
known g None h = absurd (cc (h))
known g (Some c) h = refl

-- the band of a node with data is known
pub band_known : (f : Field) (n : NodeId) → is_some (f.depth n) ≡ true → node_band f n ≡ Some (band_at f n)
band_known f n h = known (band_of f.levels) (f.depth n) h
