-- A point on a part of a link is on the link.
use Rattle.std.proofs.Common.{◌≡◌, ℕ, ◌+◌, pos, Bool, true, false, cond, Option, Some, None, [], ◌∷◌, refl, sym, subst, ◌∙◌}
use Rattle.mesh_definitions.specs.Cuts.{Slope, falls, slope, crossing}
use Rattle.mesh_definitions.specs.Field.{Field, IsField, point, node_band}
use Rattle.mesh_definitions.specs.Mesh.{Walk, first, second}
use Rattle.mesh_definitions.specs.Pieces.{part_ends}
use Rattle.mesh_definitions.specs.declared.Link.{Link}
use Rattle.plane_geom.specs.Geom.{cross_of, IsOn}
use Rattle.plane_geom.specs.declared.Point.{Point}
use Rattle.plane_laws.specs.Outlines.{at, seg}
use Rattle.plane_laws.proofs.Cuts.{steps_along}
use Rattle.plane_laws.proofs.Lines.{on_turned}
use Rattle.tri_mesh.proofs.Steps.{at_none}
use Rattle.mesh_counts_laws.proofs.Rounds.{IsLeg, graded_slope}
use Rattle.point_laws.proofs.Along.{within, times_none, off_between, side_whole}

module _ (f : Field) (h : IsField f) (l : Link) (leg : IsLeg f h (record { link = l; forward = true })) where
  abbrev s : Slope
  s = slope f (first l) (second l)

  abbrev w : Walk
  w = record { link = l; forward = true }

  abbrev u : Point
  u = point f s.u

  abbrev v : Point
  v = point f s.v

  abbrev cut : ℕ → Point
  cut k = crossing f s k

  -- where a level crosses a link is on the link
  crossing_on : (k : ℕ) → IsOn (seg u v) (cut k)
  crossing_on k =
      let g = graded_slope f h w leg in
      let on : IsOn (seg (at u g.step (pos 0)) (at u g.step g.n)) (at u g.step (g.slot k)) = (steps_along u g.step (pos 0) g.n (g.slot k ∷ []) (g.low k, g.high k)).0 in
      subst (λ q. IsOn (seg u v) q) (sym (g.is k))
      (subst (λ q. IsOn (seg u q) (at u g.step (g.slot k))) g.end
      (subst (λ q. IsOn (seg q (at u g.step g.n)) (at u g.step (g.slot k))) (at_none u g.step) on))

  module _ (p : Point) where
    abbrev OnLink : Type 0
    OnLink = IsOn (seg (point f (first l)) (point f (second l))) p

    abbrev OnCut : ℕ → Type 0
    OnCut b = IsOn (seg (cut b) (cut (b + 1))) p

    of_slope : IsOn (seg u v) p → OnLink
    of_slope on = by (falls f (first l) (second l)) on
      where
        by : (x : Bool) → (let r : Slope = cond x (record { u = second l; v = first l }) (record { u = first l; v = second l }) in IsOn (seg (point f r.u) (point f r.v)) p) → OnLink
        by true o = on_turned (seg (point f (second l)) (point f (first l))) p o
        by false o = o

    -- a point between two crossings is on the slope
    of_cut : (b : ℕ) → OnCut b → IsOn (seg u v) p
    of_cut b on =
        let g = graded_slope f h w leg in
        let r : IsOn (seg (cut b) (at u g.step (g.slot (b + 1)))) p = subst (λ q. IsOn (seg (cut b) q) p) (g.is (b + 1)) on in
        let t : IsOn (seg (at u g.step (g.slot b)) (at u g.step (g.slot (b + 1)))) p = subst (λ q. IsOn (seg q (at u g.step (g.slot (b + 1)))) p) (g.is b) r in
        let none = off_between u g.step p (g.slot b) (g.slot (b + 1)) (g.rises b) t in
        record {
          line = subst (λ q. cross_of u q p ≡ pos 0) g.end (side_whole u g.step p g.n ∙ times_none g.n _ none);
          wide = within u.x v.x (cut b).x (cut (b + 1)).x p.x (crossing_on b).wide (crossing_on (b + 1)).wide on.wide;
          high = within u.y v.y (cut b).y (cut (b + 1)).y p.y (crossing_on b).high (crossing_on (b + 1)).high on.high;
        }

    -- a point on a part of a link is on the link
    pub part_on : (b : ℕ) → IsOn (part_ends f l b) p → OnLink
    part_on b on = by (node_band f (first l)) (node_band f (second l)) refl refl
      where
        whole : part_ends f l b ≡ seg (point f (first l)) (point f (second l)) → OnLink
        whole e = subst (λ s. IsOn s p) e on

        ahead : (x : Bool) → IsOn (cond x (seg (cut (b + 1)) (cut b)) (seg (cut b) (cut (b + 1)))) p → OnCut b
        ahead true o = on_turned (seg (cut (b + 1)) (cut b)) p o
        ahead false o = o

        by : (x y : Option ℕ) → node_band f (first l) ≡ x → node_band f (second l) ≡ y → OnLink
        by None y e k = whole (rw e refl)
        by (Some x) None e k = whole (rw (e, k) refl)
        by (Some x) (Some y) e k =
            let part : part_ends f l b ≡ cond (falls f (first l) (second l)) (seg (cut (b + 1)) (cut b)) (seg (cut b) (cut (b + 1))) = rw (e, k) refl in
            of_slope (of_cut b (ahead (falls f (first l) (second l)) (subst (λ s. IsOn s p) part on)))
