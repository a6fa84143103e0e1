-- The names of the ends of the parts of links.
use Rattle.std.proofs.Common.{◌≡◌, ◌≢◌, ◌⊎◌, ⊎_elim, inl, inr, ℕ, ◌+◌, ◌-◌, ◌<◌, ◌≤◌, min, max, Bool, true, false, cond, ◌&&◌, Option, Some, None, [], ◌∷◌, refl, sym, ap, subst, ◌∙◌, arith}
use Rattle.std.specs.Prelude.{nat_le, nat_lt, is_some}
use Rattle.std.proofs.lemmas.Bool.Decides.{nat_tests}
use Rattle.mesh_definitions.specs.Cuts.{slope, falls, crossing}
use Rattle.mesh_definitions.specs.Field.{Field, IsField, point, band_at, node_band}
use Rattle.mesh_definitions.specs.Mesh.{Walk, first, second}
use Rattle.mesh_definitions.specs.Pieces.{part_bands, part_ends, span}
use Rattle.mesh_definitions.specs.declared.Link.{Link}
use Rattle.mesh_definitions.specs.declared.Sub.TheVariants.{Part, Chord}
use Rattle.mesh_definitions.specs.declared.Sub.{Sub}
use Rattle.depth_grid.specs.declared.node.NodeId.{NodeId}
use Rattle.mesh_laws.proofs.Depths.{leads_on, leads_back, band_is}
use Rattle.mesh_laws.proofs.Places.{in_range_low, in_range_high}
use Rattle.plane_geom.specs.Segments.{turned}
use Rattle.plane_geom.specs.declared.Seg.{Seg}
use Rattle.plane_laws.proofs.Members.{In}
use Rattle.tri_mesh.specs.Fields.{upwards}
use Rattle.tri_mesh.proofs.Steps.{InField}
use Rattle.mesh_lines_laws.proofs.Names.{ends_apart, IsEnd, LegOf}
use Rattle.mesh_lines_laws.proofs.Spots.{Spot, Separates, InBoth, Holds, where_on}
use Rattle.mesh_lines_laws.proofs.Spots.Spot.{At, On}

-- whether both nodes of a link have data
abbrev pub known : Field → Link → Bool
known f l = is_some (node_band f (first l)) && is_some (node_band f (second l))

-- the band of the part of a link that ends at a node of it
abbrev pub band_by : Field → Link → NodeId → ℕ
band_by f l n = cond (known f l) (band_at f n) 0

-- a sub-segment may end at a point of this name
abbrev pub Touches : Field → Sub → Spot → Type 0
Touches f (Part l b) (At n) = IsEnd l n × (b ≡ band_by f l n)
Touches f (Part l b) (On m k) = (m ≡ l) × ((k ≡ b) ⊎ (k ≡ b + 1))
Touches f (Chord t k) (At n) = ⊥
Touches f (Chord t k) (On m j) = (j ≡ k) × LegOf t m

at_same : (n m : NodeId) → At n ≡ At m → n ≡ m
at_same n m e = cc (e)

at_on : (n : NodeId) (l : Link) (k : ℕ) → At n ≢ On l k
at_on n l k e = cc (e)

on_same : (l : Link) (k j : ℕ) → On l k ≡ On l j → k ≡ j
on_same l k j e = cc (e)

module _ (f : Field) (h : IsField f) where
  -- the names of the two ends of a sub-segment
  pub record EndSpots (u : Sub) (s : Seg) : Type 0 where
    pub a : Spot
    pub b : Spot
    pub at_a : Holds f h a s.a
    pub at_b : Holds f h b s.b
    pub ends_a : Touches f u a
    pub ends_b : Touches f u b
    pub apart : a ≢ b

  pub turned_spots : (u : Sub) (s : Seg) → EndSpots u s → EndSpots u (turned s)
  turned_spots u s e = record { a = e.b; b = e.a; at_a = e.at_b; at_b = e.at_a; ends_a = e.ends_b; ends_b = e.ends_a; apart = λ q. e.apart (sym q) }

  module _ (l : Link) (both : InBoth f h l) where
    -- a link with a node without data is one part
    open_spots : (b : ℕ) → b ≡ 0 → known f l ≡ false → EndSpots (Part l b) (record { a = point f (first l); b = point f (second l) })
    open_spots b none bare = record {
      a = At (first l);
      b = At (second l);
      at_a = (both.0, refl);
      at_b = (both.1, refl);
      ends_a = (inl refl, none ∙ sym (ap (λ x. cond x (band_at f (first l)) 0) bare));
      ends_b = (inr refl, none ∙ sym (ap (λ x. cond x (band_at f (second l)) 0) bare));
      apart = λ e. ends_apart l (at_same (first l) (second l) e);
    }

    -- the slope of a link leads from u up to v
    record Uphill (u v : NodeId) : Type 0 where
      is : slope f (first l) (second l) ≡ upwards u v
      rises : band_at f u ≤ band_at f v
      end_u : IsEnd l u
      end_v : IsEnd l v
      differ : u ≢ v
      in_u : InField f h u
      in_v : InField f h v
      separates : (k : ℕ) → band_at f u < k → k ≤ band_at f v → Separates k (band_at f (first l)) (band_at f (second l))

    uphill : falls f (first l) (second l) ≡ false → Uphill (first l) (second l)
    uphill e =
        let w : Walk = record { link = l; forward = true } in
        let k = leads_on f w (rw e refl) in
        record { is = k.is; rises = k.rises; end_u = inl refl; end_v = inr refl; differ = ends_apart l; in_u = both.0; in_v = both.1; separates = λ j a b. inl (a, b) }

    downhill : falls f (first l) (second l) ≡ true → Uphill (second l) (first l)
    downhill e =
        let w : Walk = record { link = l; forward = true } in
        let k = leads_back f w (rw e refl) in
        record { is = k.is; rises = k.rises; end_u = inr refl; end_v = inl refl; differ = λ q. ends_apart l (sym q); in_u = both.1; in_v = both.0; separates = λ j a b. inr (a, b) }

    module _ (u v : NodeId) (up : Uphill u v) (data_both : known f l ≡ true) (b : ℕ) (low : band_at f u ≤ b) (high : b ≤ band_at f v) where
      at_node : (n : NodeId) → b ≡ band_at f n → b ≡ band_by f l n
      at_node n e = e ∙ sym (ap (λ x. cond x (band_at f n) 0) data_both)

      record OneEnd (k : ℕ) (s : Spot) : Type 0 where
        at : Holds f h s (crossing f (upwards u v) k)
        ends : Touches f (Part l b) s

      on_link : (k : ℕ) → (k ≡ b) ⊎ (k ≡ b + 1) → band_at f u < k → k ≤ band_at f v → OneEnd k (On l k)
      on_link k e p q = record { at = (both, up.separates k p q, sym (ap (λ s. crossing f s k) up.is)); ends = (refl, e) }

      low_end : (x : Bool) → nat_le b (band_at f u) ≡ x → OneEnd b (cond x (At u) (On l b))
      low_end true e = record {
        at = (up.in_u, (let g : crossing f (upwards u v) b ≡ point f u = rw e refl in g));
        ends = (up.end_u, at_node u (grind (arith, nat_tests, e, low)));
      }
      low_end false e = on_link b (inl refl) (grind (arith, nat_tests, e)) high

      high_end : (x : Bool) → nat_lt (band_at f v) (b + 1) ≡ x → OneEnd (b + 1) (cond x (At v) (On l (b + 1)))
      high_end true e = record {
        at = (up.in_v, (let z : nat_le (b + 1) (band_at f u) ≡ false = grind (arith, nat_tests, low) in let g : crossing f (upwards u v) (b + 1) ≡ point f v = rw (z, e) refl in g));
        ends = (up.end_v, at_node v (grind (arith, nat_tests, e, high)));
      }
      high_end false e = on_link (b + 1) (inr refl) (omega (arith, low)) (grind (arith, nat_tests, e))

      ends_differ : (x y : Bool) → cond x (At u) (On l b) ≢ cond y (At v) (On l (b + 1))
      ends_differ true true e = up.differ (at_same u v e)
      ends_differ true false e = at_on u l (b + 1) e
      ends_differ false true e = at_on v l b (sym e)
      ends_differ false false e = let k = on_same l b (b + 1) e in omega (arith, k)

      up_spots : EndSpots (Part l b) (record { a = where_on f h l b; b = where_on f h l (b + 1) })
      up_spots =
          let p = low_end (nat_le b (band_at f u)) refl in
          let q = high_end (nat_lt (band_at f v) (b + 1)) refl in
          record {
            a = cond (nat_le b (band_at f u)) (At u) (On l b);
            b = cond (nat_lt (band_at f v) (b + 1)) (At v) (On l (b + 1));
            at_a = subst (λ s. Holds f h (cond (nat_le b (band_at f u)) (At u) (On l b)) (crossing f s b)) (sym up.is) p.at;
            at_b = subst (λ s. Holds f h (cond (nat_lt (band_at f v) (b + 1)) (At v) (On l (b + 1))) (crossing f s (b + 1))) (sym up.is) q.at;
            ends_a = p.ends;
            ends_b = q.ends;
            apart = ends_differ (nat_le b (band_at f u)) (nat_lt (band_at f v) (b + 1));
          }

    known_spots : (x y b : ℕ) → node_band f (first l) ≡ Some x → node_band f (second l) ≡ Some y → min x y ≤ b → b ≤ max x y → EndSpots (Part l b) (part_ends f l b)
    known_spots x y b e g low high = subst (EndSpots (Part l b)) (sym is) (by (falls f (first l) (second l)) refl)
      where
        up : Seg
        up = record { a = where_on f h l b; b = where_on f h l (b + 1) }

        is : part_ends f l b ≡ cond (falls f (first l) (second l)) (turned up) up
        is = rw (e, g) refl

        both_known : known f l ≡ true
        both_known = rw (e, g) refl

        p : band_at f (first l) ≡ x
        p = band_is f (first l) x e

        q : band_at f (second l) ≡ y
        q = band_is f (second l) y g

        by : (z : Bool) → falls f (first l) (second l) ≡ z → EndSpots (Part l b) (cond z (turned up) up)
        by true k = let d = downhill k in let r = d.rises in turned_spots (Part l b) up (up_spots (second l) (first l) d both_known b (omega (arith, p, q, r, low)) (omega (arith, p, q, r, high)))
        by false k = let d = uphill k in let r = d.rises in up_spots (first l) (second l) d both_known b (omega (arith, p, q, r, low)) (omega (arith, p, q, r, high))

    in_one : (b : ℕ) → In (0 ∷ []) b → b ≡ 0
    in_one b i = ⊎_elim (λ e. sym e) (λ n. absurd n) i

    pub part_spots : (b : ℕ) → In (part_bands f l) b → EndSpots (Part l b) (part_ends f l b)
    part_spots b i = by (node_band f (first l)) (node_band f (second l)) refl refl
      where
        by : (x y : Option ℕ) → node_band f (first l) ≡ x → node_band f (second l) ≡ y → EndSpots (Part l b) (part_ends f l b)
        by None y e g = subst (EndSpots (Part l b)) (let k : record { a = point f (first l); b = point f (second l) } ≡ part_ends f l b = rw e refl in k)
            (open_spots b (in_one b (subst (λ bands. In bands b) (let k : part_bands f l ≡ 0 ∷ [] = rw e refl in k) i)) (rw e refl))
        by (Some x) None e g = subst (EndSpots (Part l b)) (let k : record { a = point f (first l); b = point f (second l) } ≡ part_ends f l b = rw (e, g) refl in k)
            (open_spots b (in_one b (subst (λ bands. In bands b) (let k : part_bands f l ≡ 0 ∷ [] = rw (e, g) refl in k) i)) (rw (e, g) refl))
        by (Some x) (Some y) e g =
            let j : In (span (min x y) (max x y)) b = subst (λ bands. In bands b) (let k : part_bands f l ≡ span (min x y) (max x y) = rw (e, g) refl in k) i in
            let low = in_range_low (min x y) (max x y + 1 - min x y) b j in
            let high = in_range_high (min x y) (max x y + 1 - min x y) b j in
            known_spots x y b e g low (omega (arith, low, high))
