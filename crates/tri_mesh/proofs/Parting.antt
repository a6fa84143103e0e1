-- Where parts of links lie.
use Rattle.std.proofs.Common.{◌≡◌, ℕ, true, false, Some, refl, sym, ap, subst, ◌∙◌}
use Rattle.mesh_definitions.specs.Cuts.{falls}
use Rattle.mesh_definitions.specs.Field.{Field, node_band}
use Rattle.mesh_definitions.specs.Mesh.{first, second}
use Rattle.mesh_definitions.specs.Pieces.{part_ends}
use Rattle.mesh_definitions.specs.declared.Link.{Link}
use Rattle.depth_grid.specs.declared.node.NodeId.{NodeId}
use Rattle.plane_geom.specs.Segments.{turned}
use Rattle.plane_geom.specs.declared.Seg.{Seg}
use Rattle.tri_mesh.specs.Fields.{upwards}
use Rattle.tri_mesh.specs.Legs.{part_of}

falling_part : (f : Field) (l : Link) (k x y : ℕ) → node_band f (first l) ≡ Some x → node_band f (second l) ≡ Some y → falls f (first l) (second l) ≡ true → part_ends f l k ≡ turned (part_of f (upwards (second l) (first l)) k)
falling_part f l k x y e h g = rw (e, h, g) refl

rising_part : (f : Field) (l : Link) (k x y : ℕ) → node_band f (first l) ≡ Some x → node_band f (second l) ≡ Some y → falls f (first l) (second l) ≡ false → part_ends f l k ≡ part_of f (upwards (first l) (second l)) k
rising_part f l k x y e h g = rw (e, h, g) refl

module _ (f : Field) (l : Link) (k : ℕ) (a b : NodeId) (x y : ℕ) (on_a : a ≡ first l) (on_b : b ≡ second l) (e : node_band f a ≡ Some x) (h : node_band f b ≡ Some y) where
  known_a : node_band f (first l) ≡ Some x
  known_a = subst (λ n. node_band f n ≡ Some x) on_a e

  known_b : node_band f (second l) ≡ Some y
  known_b = subst (λ n. node_band f n ≡ Some y) on_b h

  -- a link whose first node is the deeper one: its part lies back along the slope
  pub part_back : (s : Seg) → falls f a b ≡ true → s ≡ part_of f (upwards b a) k → turned s ≡ part_ends f l k
  part_back s g is =
      let g' : falls f (first l) (second l) ≡ true = subst (λ n. falls f n (second l) ≡ true) on_a (subst (λ n. falls f a n ≡ true) on_b g) in
      ap turned (is ∙ (ap (λ n. part_of f (upwards n a) k) on_b ∙ ap (λ n. part_of f (upwards (second l) n) k) on_a))
      ∙ sym (falling_part f l k x y known_a known_b g')

  -- any other lies up along it
  pub part_ahead : (s : Seg) → falls f a b ≡ false → s ≡ part_of f (upwards a b) k → s ≡ part_ends f l k
  part_ahead s g is =
      let g' : falls f (first l) (second l) ≡ false = subst (λ n. falls f n (second l) ≡ false) on_a (subst (λ n. falls f a n ≡ false) on_b g) in
      (is ∙ (ap (λ n. part_of f (upwards n b) k) on_a ∙ ap (λ n. part_of f (upwards (first l) n) k) on_b))
      ∙ sym (rising_part f l k x y known_a known_b g')
