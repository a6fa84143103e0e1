-- Bands at the corners of triangles.
use Rattle.std.proofs.Common.{◌≡◌, ℕ, ◌≤◌, min, max, ℤ, pos, Some, None, length, map, refl, sym, subst, arith}
use Rattle.std.specs.Prelude.{Option, option_map, unwrap_or, fold}
use Rattle.mesh_definitions.specs.Field.{Field, band_at, node_band}
use Rattle.mesh_definitions.specs.Mesh.{corners}
use Rattle.mesh_definitions.specs.declared.Tri.{Tri}
use Rattle.depth_grid.specs.declared.node.NodeId.{NodeId}
use Rattle.depth_rounding.specs.Bands.{band_of}
use Rattle.tri_mesh.specs.Triangles.{each_corner, AreBands}
use Rattle.tri_mesh.specs.declared.corners.Corners.{Corners}

by_data : (g : ℤ → ℕ) (d : Option ℤ) (b : ℕ) → option_map g d ≡ Some b → g (unwrap_or d (pos 0)) ≡ b
by_data g None b e = cc (e)
by_data g (Some c) b e = cc (e)

-- the band of a node that has data
pub band_known : (f : Field) (n : NodeId) (b : ℕ) → node_band f n ≡ Some b → band_at f n ≡ b
band_known f n b e = by_data (band_of f.levels) (f.depth n) b e

pub are_bands : (f : Field) (t : Tri) (nodes : Corners NodeId) (bands : Corners ℕ) → each_corner nodes ≡ corners t →
    band_at f nodes.first ≡ bands.first → band_at f nodes.second ≡ bands.second → band_at f nodes.third ≡ bands.third →
    bands.first ≤ length f.levels → bands.second ≤ length f.levels → bands.third ≤ length f.levels → AreBands f t bands
are_bands f t nodes bands e p q r small_first small_second small_third = record {
  each = sym (subst (λ ns. map (band_at f) ns ≡ each_corner bands) e (rw (p, q, r) refl));
  small_first = small_first;
  small_second = small_second;
  small_third = small_third;
  least = subst (λ ns. min (min bands.first bands.second) bands.third ≡ fold (λ b n. min b (band_at f n)) (length f.levels) ns) e (omega (arith, p, q, r, small_first, small_second, small_third));
  greatest = subst (λ ns. max (max bands.first bands.second) bands.third ≡ fold (λ b n. max b (band_at f n)) 0 ns) e (omega (arith, p, q, r));
}
