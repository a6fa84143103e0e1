-- The names of the ends of chords.
use Rattle.std.proofs.Common.{◌≡◌, inl, inr, ℕ, ◌+◌, ◌<◌, ◌≤◌, min, max, Bool, true, false, cond, not, ◌&&◌, Some, [], ◌∷◌, length, refl, sym, ap, ap₂, ◌∙◌, arith}
use Rattle.std.specs.Prelude.{nat_le, nat_lt, find, fold, map}
use Rattle.std.proofs.lemmas.Bool.Decides.{nat_tests}
use Rattle.std.proofs.lemmas.Bool.{and_parts}
use Rattle.mesh_definitions.specs.Field.{Field, IsField, band_at}
use Rattle.mesh_definitions.specs.Mesh.{Walk, first, second, from, to, legs}
use Rattle.mesh_definitions.specs.Pieces.{chord_ends, enters, leaves, least_band, greatest_band}
use Rattle.mesh_definitions.specs.declared.Link.{Link}
use Rattle.mesh_definitions.specs.declared.Sub.TheVariants.{Chord}
use Rattle.mesh_definitions.specs.declared.Tri.{Tri}
use Rattle.mesh_definitions.specs.declared.Way.TheVariants.{Across, Down, Slant}
use Rattle.mesh_definitions.specs.declared.Way.{Way}
use Rattle.depth_grid.specs.declared.node.NodeId.{NodeId}
use Rattle.mesh_laws.proofs.Depths.{band_few}
use Rattle.mesh_laws.proofs.Triangles.{tri, walk}
use Rattle.tri_mesh.proofs.Walking.{find_three, found_at, found_back, third_enters, third_leaves}
use Rattle.mesh_lines_laws.proofs.Names.{LegOf}
use Rattle.mesh_lines_laws.proofs.PartEnds.{EndSpots}
use Rattle.mesh_lines_laws.proofs.Spots.{Separates, InBoth}
use Rattle.mesh_lines_laws.proofs.Spots.Spot.{On}

-- the direction in which the walk round a triangle takes its leg of each way
abbrev leg_forward : Tri → Way → Bool
leg_forward t Across = t.upper
leg_forward t Down = not t.upper
leg_forward t Slant = not t.upper

on_link : (l m : Link) (k j : ℕ) → On l k ≡ On m j → l ≡ m
on_link l m k j e = cc (e)

yes_le : (k b : ℕ) → nat_le k b ≡ true → k ≤ b
yes_le k b e = grind (arith, nat_tests)

yes_lt : (k b : ℕ) → nat_lt k b ≡ true → k < b
yes_lt k b e = grind (arith, nat_tests)

-- the first of three that passes
chosen : (test : Walk → Bool) (Q : Walk → Type 0) (a b c : Walk) → (test a ≡ false → test b ≡ false → test c ≡ true) → Q a → Q b → Q c → (test (cond (test a) a (cond (test b) b c)) ≡ true) × Q (cond (test a) a (cond (test b) b c))
chosen test Q a b c third p q r = by (test a) (test b) refl refl
  where
    by : (x y : Bool) → test a ≡ x → test b ≡ y → (test (cond x a (cond y b c)) ≡ true) × Q (cond x a (cond y b c))
    by true y e g = (e, p)
    by false true e g = (g, q)
    by false false e g = (third e g, r)

-- the ends of a walk cross a level as those of its link do
crosses : (f : Field) (k : ℕ) (forward : Bool) (x y : NodeId) → band_at f (cond forward x y) < k → k ≤ band_at f (cond forward y x) → Separates k (band_at f x) (band_at f y)
crosses f k true x y a b = inl (a, b)
crosses f k false x y a b = inr (a, b)

crosses_back : (f : Field) (k : ℕ) (forward : Bool) (x y : NodeId) → k ≤ band_at f (cond forward x y) → band_at f (cond forward y x) < k → Separates k (band_at f x) (band_at f y)
crosses_back f k true x y a b = inr (b, a)
crosses_back f k false x y a b = inl (b, a)

walk_same : (v w : Walk) → v.link ≡ w.link → v.forward ≡ w.forward → v ≡ w
walk_same v w e g = ap₂ (λ l x. let z : Walk = record { link = l; forward = x } in z) e g

module _ (f : Field) (h : IsField f) where
  -- a triangle of the field
  pub record IsTri (t : Tri) : Type 0 where
    pub row : t.row + 1 < f.rows
    pub col : t.col + 1 < f.cols

  -- a leg of a triangle, walked with the triangle on the right
  pub record TriLeg (t : Tri) (w : Walk) : Type 0 where
    pub leg : LegOf t w.link
    pub forward : w.forward ≡ leg_forward t w.link.way
    pub both : InBoth f h w.link

  upper_across : (i j : ℕ) → IsTri (tri i j true) → TriLeg (tri i j true) (walk Across i j true)
  upper_across i j c = let a = c.row in let b = c.col in record { leg = record { row = refl; col = refl }; forward = refl; both = (record { row = omega (arith, a); col = omega (arith, b) }, record { row = omega (arith, a); col = b }) }

  upper_slant : (i j : ℕ) → IsTri (tri i j true) → TriLeg (tri i j true) (walk Slant i j false)
  upper_slant i j c = let a = c.row in let b = c.col in record { leg = record { row = refl; col = refl }; forward = refl; both = (record { row = a; col = omega (arith, b) }, record { row = omega (arith, a); col = b }) }

  upper_down : (i j : ℕ) → IsTri (tri i j true) → TriLeg (tri i j true) (walk Down i j false)
  upper_down i j c = let a = c.row in let b = c.col in record { leg = record { row = refl; col = refl }; forward = refl; both = (record { row = omega (arith, a); col = omega (arith, b) }, record { row = a; col = omega (arith, b) }) }

  lower_slant : (i j : ℕ) → IsTri (tri i j false) → TriLeg (tri i j false) (walk Slant i j true)
  lower_slant i j c = let a = c.row in let b = c.col in record { leg = record { row = refl; col = refl }; forward = refl; both = (record { row = a; col = omega (arith, b) }, record { row = omega (arith, a); col = b }) }

  lower_down : (i j : ℕ) → IsTri (tri i j false) → TriLeg (tri i j false) (walk Down i (j + 1) true)
  lower_down i j c = let a = c.row in let b = c.col in record { leg = record { row = refl; col = refl }; forward = refl; both = (record { row = omega (arith, a); col = b }, record { row = a; col = b }) }

  lower_across : (i j : ℕ) → IsTri (tri i j false) → TriLeg (tri i j false) (walk Across (i + 1) j false)
  lower_across i j c = let a = c.row in let b = c.col in record { leg = record { row = refl; col = refl }; forward = refl; both = (record { row = a; col = omega (arith, b) }, record { row = a; col = b }) }

  module _ (k : ℕ) where
    abbrev deepens : Walk → Bool
    deepens w = nat_lt (band_at f (from w)) k && nat_le k (band_at f (to w))

    abbrev shoals : Walk → Bool
    shoals w = nat_le k (band_at f (from w)) && nat_lt (band_at f (to w)) k

    from_found : (t : Tri) (a b : Walk) → leaves f t k ≡ Some a → enters f t k ≡ Some b → shoals a ≡ true → TriLeg t a → deepens b ≡ true → TriLeg t b → EndSpots f h (Chord t k) (chord_ends f t k)
    from_found t a b ea eb back leg_a deep leg_b =
        let x = and_parts (nat_le k (band_at f (from a))) (nat_lt (band_at f (to a)) k) back in
        let y = and_parts (nat_lt (band_at f (from b)) k) (nat_le k (band_at f (to b))) deep in
        let from_a = yes_le k (band_at f (from a)) x.0 in
        let from_b = yes_lt (band_at f (from b)) k y.0 in
        record {
          a = On a.link k;
          b = On b.link k;
          at_a = (leg_a.both, crosses_back f k a.forward (first a.link) (second a.link) from_a (yes_lt (band_at f (to a)) k x.1), found_back f t k a ea);
          at_b = (leg_b.both, crosses f k b.forward (first b.link) (second b.link) from_b (yes_le k (band_at f (to b)) y.1), found_at f t k b eb);
          ends_a = (refl, leg_a.leg);
          ends_b = (refl, leg_b.leg);
          apart = λ e.
              let same = on_link a.link b.link k k e in
              let one = walk_same a b same (leg_a.forward ∙ (ap (λ l. leg_forward t l.way) same ∙ sym leg_b.forward)) in
              let g = ap (λ w. band_at f (from w)) one in
              omega (arith, g, from_a, from_b);
        }

    module _ (t : Tri) (v w z : Walk) (three : legs t ≡ v ∷ w ∷ z ∷ []) where
      above_least : least_band f t < k → min (min (band_at f (from v)) (band_at f (from w))) (band_at f (from z)) < k
      above_least l =
          let e : least_band f t ≡ min (min (min (length f.levels) (band_at f (from v))) (band_at f (from w))) (band_at f (from z)) = ap (λ ws. fold (λ b n. min b (band_at f n)) (length f.levels) (map from ws)) three in
          let few = band_few f (from v) in
          omega (arith, e, few, l)

      under_greatest : k ≤ greatest_band f t → k ≤ max (max (band_at f (from v)) (band_at f (from w))) (band_at f (from z))
      under_greatest l =
          let e : greatest_band f t ≡ max (max (max 0 (band_at f (from v))) (band_at f (from w))) (band_at f (from z)) = ap (λ ws. fold (λ b n. max b (band_at f n)) 0 (map from ws)) three in
          omega (arith, e, l)

      from_three : (shoals v ≡ false → shoals w ≡ false → shoals z ≡ true) → (deepens v ≡ false → deepens w ≡ false → deepens z ≡ true) → TriLeg t v → TriLeg t w → TriLeg t z → EndSpots f h (Chord t k) (chord_ends f t k)
      from_three back deep p q r =
          let x = chosen shoals (TriLeg t) v w z back p q r in
          let y = chosen deepens (TriLeg t) v w z deep p q r in
          from_found t (cond (shoals v) v (cond (shoals w) w z)) (cond (deepens v) v (cond (deepens w) w z))
          (ap (λ ws. find shoals ws) three ∙ find_three shoals v w z back) (ap (λ ws. find deepens ws) three ∙ find_three deepens v w z deep)
          x.0 x.1 y.0 y.1

    half : (i j : ℕ) (u : Bool) → IsTri (tri i j u) → least_band f (tri i j u) < k → k ≤ greatest_band f (tri i j u) → EndSpots f h (Chord (tri i j u) k) (chord_ends f (tri i j u) k)
    half i j true c low high =
        let t = tri i j true in
        let s = above_least t (walk Across i j true) (walk Slant i j false) (walk Down i j false) refl low in
        let m = under_greatest t (walk Across i j true) (walk Slant i j false) (walk Down i j false) refl high in
        from_three t (walk Across i j true) (walk Slant i j false) (walk Down i j false) refl (third_leaves _ _ _ k s m) (third_enters _ _ _ k s m) (upper_across i j c) (upper_slant i j c) (upper_down i j c)
    half i j false c low high =
        let t = tri i j false in
        let s = above_least t (walk Slant i j true) (walk Down i (j + 1) true) (walk Across (i + 1) j false) refl low in
        let m = under_greatest t (walk Slant i j true) (walk Down i (j + 1) true) (walk Across (i + 1) j false) refl high in
        from_three t (walk Slant i j true) (walk Down i (j + 1) true) (walk Across (i + 1) j false) refl (third_leaves _ _ _ k s m) (third_enters _ _ _ k s m) (lower_slant i j c) (lower_down i j c) (lower_across i j c)

  pub chord_spots : (t : Tri) (k : ℕ) → IsTri t → least_band f t < k → k ≤ greatest_band f t → EndSpots f h (Chord t k) (chord_ends f t k)
  chord_spots t k c low high = half k t.row t.col t.upper c low high
