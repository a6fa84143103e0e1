-- How many parts a link has.
use Rattle.std.proofs.Common.{◌≡◌, ℕ, ◌+◌, ◌-◌, ◌≤◌, ℤ, Bool, cond, ◌&&◌, Option, Some, None, List, length, min, max, refl, arith}
use Rattle.std.specs.Prelude.{int_le, is_some}
use Rattle.std.specs.List.{range_with_len}
use Rattle.std.proofs.lemmas.List.Sums.{count_by-le-length}
use Rattle.mesh_definitions.specs.Field.{Field}
use Rattle.mesh_definitions.specs.Mesh.{first, second}
use Rattle.mesh_definitions.specs.Pieces.{part_bands}
use Rattle.mesh_definitions.specs.declared.Link.{Link}
use Rattle.depth_grid.specs.declared.node.NodeId.{NodeId}
use Rattle.depth_rounding.specs.Bands.{band_of}

-- a list is a range of at most so many numbers
pub record IsRange (xs : List ℕ) (most : ℕ) : Type 0 where
  pub start : ℕ
  pub count : ℕ
  pub is : xs ≡ range_with_len start count
  pub few : count ≤ most

-- whether a node has data
abbrev pub has_data : Field → NodeId → Bool
has_data f n = is_some (f.depth n)

-- 21 where both nodes of a link have data, else 1
abbrev pub most_parts : Bool → Bool → ℕ
most_parts x y = cond (x && y) 21 1

module _ (f : Field) (few : length f.levels ≤ 20) (l : Link) where
  band_few : (c : ℤ) → band_of f.levels c ≤ 20
  band_few c = let k = count_by-le-length (λ level. int_le level c) f.levels in omega (arith, few, k)

  by_data : (a b : Option ℤ) → f.depth (first l) ≡ a → f.depth (second l) ≡ b → IsRange (part_bands f l) (most_parts (is_some a) (is_some b))
  by_data None b e g = record { start = 0; count = 1; is = rw e refl; few = omega arith }
  by_data (Some a) None e g = record { start = 0; count = 1; is = rw (e, g) refl; few = omega arith }
  by_data (Some a) (Some b) e g =
      let x = band_of f.levels a in
      let y = band_of f.levels b in
      record { start = min x y; count = max x y + 1 - min x y; is = rw (e, g) refl; few = let p = band_few a in let q = band_few b in omega (arith, p, q) }

  -- a link has one part for each of a range of bands, and one alone where a node has no data
  pub parts_few : IsRange (part_bands f l) (most_parts (has_data f (first l)) (has_data f (second l)))
  parts_few = by_data (f.depth (first l)) (f.depth (second l)) refl refl
