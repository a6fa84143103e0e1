-- One candidate after the other.
use Rattle.std.proofs.Common.{◌≡◌, ℕ, ℤ, ◌+◌, ◌<◌, List, [], ◌∷◌, ◌++◌, length, get_or, true, false, sym, ◌∙◌, ap, subst, arith}
use Rattle.std.specs.Prelude.{map, All, Contains, IsSorted}
use Rattle.std.proofs.lemmas.List.{get_or-map}
use Rattle.std.proofs.Math.ListN.{length-map}
use Rattle.depth_grid.specs.declared.node.NodeId.{NodeId}
use Rattle.depth_grid.specs.declared.disc.Radii.{Radii}
use Rattle.shoal_buffer.specs.Charted.{ChartedView}
use Rattle.sounding_select.specs.declared.candidates.Candidate.{Candidate}
use Rattle.sounding_select.specs.Selection.{charted_depth, IsCandidate}
use Rattle.sounding_select.specs.Candidates.{order_of, node_of, told_charted, told_depth, IsOf, AreCandidates, IsSelected}
use Rattle.sounding_select.proofs.Order.{ordered, no_candidate, value_of}
use Rattle.sounding_select.proofs.Finding.{place_below}
use Rattle.sounding_select.proofs.Covering.{is_covered, covered_by, free_of}
use Rattle.sounding_select.proofs.Selecting.{AreOrdered, IsChosen, chosen_none, chosen_same, chosen_more, selected}

module _ (v : ChartedView) (levels : List ℤ) (radii : Radii) (ks : List Candidate) (each : All (IsOf v) ks) (up : IsSorted order_of ks) where
  abbrev ns : List NodeId
  ns = map node_of ks

  are_ordered : AreOrdered v ns
  are_ordered = record { ordered = λ i j p q h k. ordered v ks each up i j p q h (omega (arith, k, length-map ks node_of)) }

  pub steps_none : IsChosen v levels radii ns 0 []
  steps_none = chosen_none v levels radii ns are_ordered

  module _ (i : ℕ) (h : i < length ks) (p : NodeId) (node_is : p ≡ node_of (get_or ks i no_candidate)) (chosen : List NodeId) (c : IsChosen v levels radii ns i chosen) where
    inside : i < length ns
    inside = omega (arith, h, length-map ks node_of)

    here : get_or ns i p ≡ p
    here = get_or-map node_of ks i no_candidate p h ∙ sym node_is

    pub depth_is : charted_depth v p ≡ told_charted (get_or ks i no_candidate)
    depth_is = ap (charted_depth v) node_is ∙ value_of _ (told_charted (get_or ks i no_candidate)) (each i no_candidate h).describes.charted_is

    pub step_covered : is_covered v levels radii p chosen ≡ true → IsChosen v levels radii ns (i + 1) chosen
    step_covered e =
        let z = covered_by v levels radii p chosen e in
        chosen_same v levels radii ns are_ordered i p inside here chosen c z.0 z.1 z.2

    pub step_free : is_covered v levels radii p chosen ≡ false → IsChosen v levels radii ns (i + 1) (chosen ++ p ∷ [])
    step_free e = chosen_more v levels radii ns are_ordered i p inside here chosen c (free_of v levels radii p chosen e)

  is_candidate : (k : Candidate) → IsOf v k → IsCandidate v (node_of k)
  is_candidate k o = record { row_in = o.row_in; col_in = o.col_in; kept = (told_depth k, o.describes.depth_is, o.describes.opened_is) }

  each_candidate : (p : NodeId) → Contains ns p → IsCandidate v p
  each_candidate p h =
      let inside : h.0 < length ks = omega (arith, h.1, length-map ks node_of) in
      let e : node_of (get_or ks h.0 no_candidate) ≡ p = sym (get_or-map node_of ks h.0 no_candidate p inside) ∙ h.2 in
      subst (IsCandidate v) e (is_candidate (get_or ks h.0 no_candidate) (each h.0 no_candidate inside))

  contains_node : (k : Candidate) → Contains ks k → Contains ns (node_of k)
  contains_node k h = (h.0, omega (arith, h.1, length-map ks node_of), get_or-map node_of ks h.0 k (node_of k) h.1 ∙ ap node_of h.2)

  pub steps_all : AreCandidates v ks → (chosen : List NodeId) → (n : ℕ) → n ≡ length ks → IsChosen v levels radii ns n chosen → IsSelected v levels radii chosen
  steps_all a chosen n e c =
      selected v levels radii ns are_ordered chosen (omega (arith, a.found.few, length-map ks node_of)) each_candidate
      (λ p h. (let z = a.found.complete p h.col_in (place_below p.row p.col (length v.grid.ys) (length v.grid.xs) h.row_in h.col_in) h.kept in subst (Contains ns) z.2 (contains_node z.0 z.1)))
      (subst (λ m. IsChosen v levels radii ns m chosen) (e ∙ sym (length-map ks node_of)) c)
