-- One chain is turned round after another.
use Rattle.std.proofs.Common.{◌≡◌, ℕ, ◌+◌, ◌-◌, ◌<◌, ◌≤◌, min, List, ◌++◌, length, get_or, set, map, take, drop, inl, inr, ⊎_elim, refl, sym, ap, subst, ◌∙◌, arith, get_or-set_other, get_or-set_same, below_more}
use Rattle.std.specs.Prelude.{All}
use Rattle.std.proofs.lemmas.Bool.{cases_lt}
use Rattle.std.proofs.lemmas.List.{append-nil, length-append, length-drop, length-map, length-take-le, get_or_append_left, get_or-append_right, get_or-drop, get_or-take, map-set}
use Rattle.boundary_arcs.specs.ChainEdges.{point_at, IsHalfOf, CountsEnds, IsLeastPlace, IsTurn}
use Rattle.boundary_arcs.proofs.Along.{first_inside}
use Rattle.boundary_arcs.proofs.Turned.{no_half}
use Rattle.chains.specs.declared.Half.{Half}
use Rattle.chains.specs.declared.Line.{Line}
use Rattle.chains.specs.Nets.{begin_of, ends_at, half_at, first_point, IsNet, IsChain}
use Rattle.mesh_definitions.specs.Edges.{IsFirstOf}
use Rattle.plane_geom.specs.declared.Point.{Point}

module _ (points : List Point) (lines : List Line) (net : IsNet lines (length points)) (ends : List ℕ) (counts : CountsEnds lines (length points) ends) (chain : List Half) (c : IsChain lines chain) (inside : All (IsHalfOf lines) chain) where
  counted : get_or ends (first_point lines chain) 0 ≡ min (ends_at lines (first_point lines chain)) 255
  counted = counts.counts (first_point lines chain) (first_inside lines chain c (length points) net inside)

  -- each half was there before
  origin : (k : ℕ) → k < length chain → (i : ℕ) → i < length chain → (j : ℕ) × (j < length chain) × (half_at (drop k chain ++ take k chain) i ≡ half_at chain j)
  origin k lk i l = ⊎_elim
      (λ h. (k + i, h, get_or_append_left (drop k chain) (take k chain) no_half i (omega (arith, h, length-drop k chain)) ∙ get_or-drop k chain i no_half))
      (λ h. let n = length chain - k in let j = i - n in
      (j, omega arith, get_or-append_right (drop k chain) (take k chain) n i no_half (length-drop k chain) (omega arith) ∙ get_or-take k chain j no_half (omega arith)))
      (cases_lt (k + i) (length chain))

  -- a chain from a point with two line ends is turned round to its least point
  pub turned_round : (turned : List Half) (k : ℕ) → get_or ends (first_point lines chain) 0 ≡ 2 → IsLeastPlace points lines chain k → turned ≡ drop k chain ++ take k chain → IsTurn points lines chain turned
  turned_round turned k two least is =
      let w : length (drop k chain ++ take k chain) ≡ length chain = let lk = least.inside in omega (arith, length-append (drop k chain) (take k chain), length-drop k chain, length-take-le k chain (omega arith)) in
      let z : k + 0 ≡ k = omega arith in
      let start : half_at (drop k chain ++ take k chain) 0 ≡ half_at chain k = get_or_append_left (drop k chain) (take k chain) no_half 0 (omega (arith, least.inside, length-drop k chain)) ∙ get_or-drop k chain 0 no_half ∙ ap (half_at chain) z in
      record {
        place = k;
        inside = least.inside;
        is = is;
        may = inr (omega (arith, two, counted));
        least = λ _. subst (λ t. IsLeastPlace points lines t 0) (sym is) (record {
          inside = omega (arith, w, c.long);
          least = λ i l.
              let o = origin k least.inside i (omega (arith, w, l)) in
              subst (λ h. IsFirstOf (point_at points (begin_of lines h)) (point_at points (begin_of lines (half_at (drop k chain ++ take k chain) i)))) (sym start)
              (subst (λ h. IsFirstOf (point_at points (begin_of lines (half_at chain k))) (point_at points (begin_of lines h))) (sym o.2) (least.least o.0 o.1));
        });
      }

  -- another one stays as it is
  pub stays_so : (get_or ends (first_point lines chain) 0 ≡ 2 → ⊥) → IsTurn points lines chain chain
  stays_so n = record {
    place = 0;
    inside = c.long;
    is = sym (append-nil chain);
    may = inl refl;
    least = λ e. absurd (n (omega (arith, counted, e)));
  }

-- of a list in which an element is replaced
module _ {X Y : Type 0} (f : X → Y) (e : Y) (R : Y → Y → Type 0) (olds news : List X) (i : ℕ) (v : X) (wide : length news ≡ length olds) (l : i < length olds) where
  kept_at : (j : ℕ) → (j ≡ i → ⊥) → get_or (map f (set news i v)) j e ≡ get_or (map f news) j e
  kept_at j n = ap (λ z. get_or z j e) (map-set f news i v) ∙ get_or-set_other (map f news) i j (f v) e n

  put_at : get_or (map f (set news i v)) i e ≡ f v
  put_at = ap (λ z. get_or z i e) (map-set f news i v) ∙ get_or-set_same (map f news) i (f v) e (omega (arith, length-map news f, wide, l))

  -- one more is related to what was there
  pub related_more : ((j : ℕ) → j < i → R (get_or (map f olds) j e) (get_or (map f news) j e)) → R (get_or (map f olds) i e) (f v) → (j : ℕ) → j < i + 1 → R (get_or (map f olds) j e) (get_or (map f (set news i v)) j e)
  related_more h r = below_more (λ j. R (get_or (map f olds) j e) (get_or (map f (set news i v)) j e)) i
      (λ j lj. subst (R (get_or (map f olds) j e)) (sym (kept_at j (λ q. omega (arith, q, lj)))) (h j lj))
      (subst (R (get_or (map f olds) i e)) (sym put_at) r)

  -- those after it stay
  pub rest_stays : ((j : ℕ) → i ≤ j → get_or (map f news) j e ≡ get_or (map f olds) j e) → (j : ℕ) → i + 1 ≤ j → get_or (map f (set news i v)) j e ≡ get_or (map f olds) j e
  rest_stays h j lj = kept_at j (λ q. omega (arith, q, lj)) ∙ h j (omega (arith, lj))
