-- What edges keep that are the chains of a net.
use Rattle.std.proofs.Common.{◌≡◌, ◌≢◌, ℕ, suc, ◌+◌, ◌-◌, ◌^◌, ◌<◌, ◌≤◌, pos, ◌+ℤ◌, ◌-ℤ◌, ◌*ℤ◌, List, [], ◌∷◌, Bool, true, false, cond, nat_eq, Option, Some, length, get_or, map, drop, sum_by, ◌⊎◌, inl, inr, ⊎_elim, refl, sym, ap, ap₂, subst, ◌∙◌, arith, eq-eqb, ne_eqb}
use Rattle.std.specs.List.{AllZip}
use Rattle.std.specs.Option.{option_map}
use Rattle.std.specs.Prelude.{All, AllPairs, Contains, slice_get}
use Rattle.std.proofs.lemmas.Bool.{cases_lt, cases_eq}
use Rattle.std.proofs.lemmas.List.{length-append, length-map, length-take, length-drop, get_or-take, get_or-drop, get_or-map, get_or_past, get_or_default}
use Rattle.std.proofs.lemmas.List.Elements.{All-get_or}
use Rattle.std.proofs.lemmas.List.FromFn.{length-range_with_len}
use Rattle.std.proofs.lemmas.List.Sorted.{length_permutation}
use Rattle.std.proofs.lemmas.List.Sums.{sum_by-cons}
use Rattle.std.proofs.lemmas.Option.{slice_get-map, slice_get-get_or, slice_get_within, get_or_from_slice_get}
use Rattle.boundary_arcs.specs.ChainEdges.{point_at, IsHalfOf, HasFacesBelow, IsArcOf, HasNumbers}
use Rattle.boundary_arcs.specs.Edges as edges
use Rattle.boundary_arcs.specs.Edges.{arc_of, inner, face_on, HasNodes, IsSimple, HasSidesBelow, AreUsed, AreArcs}
use Rattle.boundary_arcs.specs.declared.arc.Arc.{Arc}
use Rattle.boundary_arcs.specs.declared.arc.Side.TheVariants.{Outside, Face}
use Rattle.boundary_arcs.specs.declared.arc.Side.{Side}
use Rattle.boundary_arcs.proofs.Along.{one_place, stop, stop_before, stop_last, stop_after, stops_apart, stop_inside, first_inside, last_inside, length-chain_points, chain_points_at}
use Rattle.boundary_arcs.proofs.Chained.{half_parted, all_inside}
use Rattle.boundary_arcs.proofs.Turned.{no_half}
use Rattle.boundary_arcs.proofs.Zips.{AllZip-at, AllZip-length}
use Rattle.chains.specs.declared.Half.{Half}
use Rattle.chains.specs.declared.Line.{Line}
use Rattle.chains.specs.Nets as nets
use Rattle.chains.specs.Nets.{line_at, end_of, left_of, right_of, half_at, chain_at, lines_of, first_point, last_point, IsNet, IsChain, chain_pull, AreChains}
use Rattle.plane_geom.specs.declared.Point.{Point}
use Rattle.plane_laws.specs.Borders as plane

abbrev pub no_arc : Arc
no_arc = record { points = []; begin = 0; end = 0; left = Outside; right = Outside }

-- each chain of a list has a line at least
long_chains : (lines : List Line) (chains : List (List Half)) → All (IsChain lines) chains → length chains ≤ length (lines_of chains)
long_chains lines [] each = omega arith
long_chains lines (x ∷ xs) each =
    omega (arith, long_chains lines xs (λ k d l. each (suc k) d (omega arith)), (each 0 x (omega arith)).long, length-append (map (λ (h : Half). h.line) x) (lines_of xs), length-map x (λ (h : Half). h.line))

all_lines : (lines : List Line) (chains : List (List Half)) → AreChains lines chains → length (lines_of chains) ≡ length lines
all_lines lines chains are = length_permutation _ _ are.once ∙ length-range_with_len 0 (length lines)

-- there are no more chains than lines
pub few_chains : (lines : List Line) (chains : List (List Half)) → AreChains lines chains → length chains ≤ length lines
few_chains lines chains are = omega (arith, long_chains lines chains are.each, all_lines lines chains are)

-- edges have as many points as their chains lines, and one more each
points_counted : (points : List Point) (lines : List Line) (arcs : List Arc) (chains : List (List Half)) → AllZip (IsArcOf points lines) arcs chains → sum_by (λ a. length a.points) arcs ≡ length (lines_of chains) + length chains
points_counted points lines [] [] run = refl
points_counted points lines [] (y ∷ ys) run = absurd run
points_counted points lines (x ∷ xs) [] run = absurd run
points_counted points lines (x ∷ xs) (y ∷ ys) run =
    omega (arith, sum_by-cons (λ (a : Arc). length a.points) x xs, points_counted points lines xs ys run.1, ap length run.0.runs, length-chain_points lines y points, length-append (map (λ (h : Half). h.line) y) (lines_of ys), length-map y (λ (h : Half). h.line))

-- what an edge along a chain keeps
module _ (points : List Point) (lines : List Line) (once : AllPairs ◌≢◌ points) (net : IsNet lines (length points)) (a : Arc) (chain : List Half) (c : IsChain lines chain) (inside : All (IsHalfOf lines) chain) (run : IsArcOf points lines a chain) where
  long : length a.points ≡ length chain + 1
  long = ap length run.runs ∙ length-chain_points lines chain points

  pub point_is : (i : ℕ) (d : Point) → i ≤ length chain → get_or a.points i d ≡ point_at points (stop lines chain i)
  point_is i d l = ap (λ z. get_or z i d) run.runs ∙ chain_points_at lines chain points i d l

  points_apart : (i j : ℕ) (d : Point) → i < j → j ≤ length chain → (j < length chain) ⊎ (0 < i) → get_or a.points i d ≡ get_or a.points j d → ⊥
  points_apart i j d l lj may e =
      stops_apart lines chain c i j l lj may
      (one_place points _ once (stop lines chain i) (stop lines chain j) (stop_inside lines chain c (length points) net inside i (omega arith)) (stop_inside lines chain c (length points) net inside j lj)
      (sym (point_is i d (omega arith)) ∙ e ∙ point_is j d lj))

  pub is_simple : IsSimple a
  is_simple = record {
    long = omega (arith, long, c.long);
    but_last = λ i j d l lj e.
        let n = length a.points - 1 in
        let m : j < n = omega (arith, lj, length-take n a.points) in
        points_apart i j d l (omega (arith, m, long)) (inl (omega (arith, m, long))) (sym (get_or-take n a.points i d (omega (arith, m, l))) ∙ e ∙ get_or-take n a.points j d m);
    but_first = λ i j d l lj e.
        let m : j + 1 < length a.points = omega (arith, lj, length-drop 1 a.points) in
        points_apart (1 + i) (1 + j) d (omega (arith, l)) (omega (arith, m, long)) (inr (omega arith)) (sym (get_or-drop 1 a.points i d) ∙ e ∙ get_or-drop 1 a.points j d);
  }

  module _ (nodes : List ℕ) (numbers : HasNumbers nodes lines a chain) where
    node_is : (n p : ℕ) → slice_get nodes n ≡ Some p → slice_get (map (point_at points) nodes) n ≡ Some (point_at points p)
    node_is n p e = slice_get-map (point_at points) nodes n ∙ ap (option_map (point_at points)) e

    end_is : (i : ℕ) → i ≤ length chain → slice_get a.points i ≡ Some (point_at points (stop lines chain i))
    end_is i l = slice_get-get_or a.points i (point_at points 0) (omega (arith, long, l)) ∙ ap Some (point_is i (point_at points 0) l)

    pub has_nodes : HasNodes (map (point_at points) nodes) a
    has_nodes =
        let e : length a.points - 1 ≡ length chain = omega (arith, long) in
        record {
          begins = slice_get_within _ _ _ (node_is a.begin _ numbers.begins);
          ends = slice_get_within _ _ _ (node_is a.end _ numbers.ends);
          first = node_is a.begin _ numbers.begins ∙ ap (λ z. Some (point_at points z)) (sym (stop_before lines chain 0 c.long)) ∙ sym (end_is 0 (omega arith));
          last = node_is a.end _ numbers.ends ∙ ap (λ z. Some (point_at points z)) (sym (stop_last lines chain)) ∙ sym (end_is (length chain) (omega arith)) ∙ ap (slice_get a.points) (sym e);
        }

    -- what an edge counts at a node its chain counts at the node's point
    module _ (nodes_once : AllPairs ◌≢◌ nodes) (nodes_inside : All (λ p. p < length points) nodes) (q : ℕ) where
      abbrev node : ℕ
      node = get_or nodes q (length points)

      same_test : (n p : ℕ) → slice_get nodes n ≡ Some p → p < length points → nat_eq n q ≡ nat_eq p node
      same_test n p e l = ⊎_elim
          (λ s. eq-eqb n q s ∙ sym (eq-eqb p node (sym (get_or_from_slice_get nodes n p (length points) e) ∙ ap (λ z. get_or nodes z (length points)) s)))
          (λ d. ne_eqb n q d ∙ sym (ne_eqb p node (λ s. d (other s (cases_lt q (length nodes))))))
          (cases_eq n q)
        where
          other : p ≡ node → (q < length nodes) ⊎ (length nodes ≤ q) → n ≡ q
          other s (inl h) = one_place nodes (length points) nodes_once n q (slice_get_within nodes n p e) h (get_or_from_slice_get nodes n p (length points) e ∙ s)
          other s (inr h) = absurd (omega (arith, s, l, get_or_past nodes q (length points) h))

      same_at : (k : ℕ) (s : Side) (o : Option ℕ) → face_on s ≡ o → edges.at k s ≡ nets.at k o
      same_at k Outside o e = ap (nets.at k) e
      same_at k (Face x) o e = ap (nets.at k) e

      pub same_pull : (k : ℕ) → edges.pull k q a ≡ chain_pull lines k node chain
      same_pull k =
          let b = same_test a.begin (first_point lines chain) numbers.begins (first_inside lines chain c (length points) net inside) in
          let f = same_test a.end (last_point lines chain) numbers.ends (last_inside lines chain c (length points) net inside) in
          ap₂ ◌*ℤ◌
          (ap₂ ◌-ℤ◌ (same_at k a.right _ run.right) (same_at k a.left _ run.left))
          (ap₂ ◌-ℤ◌ (ap (λ z. cond z (pos 1) (pos 0)) b) (ap (λ z. cond z (pos 1) (pos 0)) f))

  module _ (faces : ℕ) (sides : All (HasFacesBelow faces) lines) where
    first_half : (half_at chain 0).line < length lines
    first_half = All-get_or (IsHalfOf lines) chain 0 no_half c.long inside

    line_sides : HasFacesBelow faces (line_at lines (half_at chain 0).line)
    line_sides = All-get_or (HasFacesBelow faces) lines (half_at chain 0).line _ first_half sides

    left_below : (k : ℕ) → left_of lines (half_at chain 0) ≡ Some k → k < faces
    left_below k = go (half_at chain 0).forward
      where
        go : (b : Bool) → cond b (line_at lines (half_at chain 0).line).left (line_at lines (half_at chain 0).line).right ≡ Some k → k < faces
        go true e = line_sides.left k e
        go false e = line_sides.right k e

    right_below : (k : ℕ) → right_of lines (half_at chain 0) ≡ Some k → k < faces
    right_below k = go (half_at chain 0).forward
      where
        go : (b : Bool) → cond b (line_at lines (half_at chain 0).line).right (line_at lines (half_at chain 0).line).left ≡ Some k → k < faces
        go true e = line_sides.right k e
        go false e = line_sides.left k e

    pub has_sides : HasSidesBelow faces a
    has_sides = record {
      apart = λ e. half_parted lines (length points) net (half_at chain 0) first_half (sym run.left ∙ ap face_on e ∙ run.right);
      left = λ k e. left_below k (sym run.left ∙ ap face_on e);
      right = λ k e. right_below k (sym run.right ∙ ap face_on e);
    }

-- no point between the ends of an edge is a point of another
module _ (points : List Point) (lines : List Line) (once : AllPairs ◌≢◌ points) (net : IsNet lines (length points)) (arcs : List Arc) (chains : List (List Half)) (are : AreChains lines chains) (run : AllZip (IsArcOf points lines) arcs chains) where
  as_many : length arcs ≡ length chains
  as_many = AllZip-length (IsArcOf points lines) arcs chains run

  arc_is : (c : ℕ) → c < length arcs → IsArcOf points lines (arc_of arcs c) (chain_at chains c)
  arc_is c l = AllZip-at (IsArcOf points lines) arcs chains c no_arc [] run l

  chain_is : (c : ℕ) → c < length arcs → IsChain lines (chain_at chains c)
  chain_is c l = All-get_or (IsChain lines) chains c [] (omega (arith, as_many, l)) are.each

  halves_are : (c : ℕ) → c < length arcs → All (IsHalfOf lines) (chain_at chains c)
  halves_are c l = All-get_or (All (IsHalfOf lines)) chains c [] (omega (arith, as_many, l)) (all_inside lines (length points) net chains are.once are.each)

  -- a point of an edge by its number
  number : (c : ℕ) → c < length arcs → (p : Point) → Contains (arc_of arcs c).points p → (i : ℕ) × (i ≤ length (chain_at chains c)) × (point_at points (stop lines (chain_at chains c) i) ≡ p)
  number c l p h =
      let r = arc_is c l in
      let n : h.0 ≤ length (chain_at chains c) = omega (arith, h.1, ap length r.runs, length-chain_points lines (chain_at chains c) points) in
      (h.0, n, sym (point_is points lines once net (arc_of arcs c) (chain_at chains c) (chain_is c l) (halves_are c l) r h.0 p n) ∙ h.2)

  inner_number : (c : ℕ) → c < length arcs → (p : Point) → Contains (inner (arc_of arcs c)) p → (i : ℕ) × (i + 1 < length (chain_at chains c)) × (point_at points (end_of lines (half_at (chain_at chains c) i)) ≡ p)
  inner_number c l p h =
      let r = arc_is c l in
      let ps = (arc_of arcs c).points in
      let m = length ps - 2 in
      let chain = chain_at chains c in
      let w : length ps ≡ length chain + 1 = ap length r.runs ∙ length-chain_points lines chain points in
      let k : h.0 < m = omega (arith, h.1, length-take m (drop 1 ps)) in
      let n : h.0 + 1 < length chain = omega (arith, k, w) in
      let z : 1 + h.0 ≡ h.0 + 1 = omega arith in (
        h.0,
        n,
        ap (point_at points) (sym (stop_after lines chain (chain_is c l) h.0 (omega (arith, n))))
            ∙ sym (point_is points lines once net (arc_of arcs c) chain (chain_is c l) (halves_are c l) r (h.0 + 1) p (omega (arith, n)))
            ∙ ap (λ j. get_or ps j p) (sym z) ∙ sym (get_or-drop 1 ps h.0 p) ∙ sym (get_or-take m (drop 1 ps) h.0 p k) ∙ h.2,
      )

  alone : (c d : ℕ) (p : Point) → c < length arcs → d < length arcs → (c ≡ d → ⊥) → Contains (inner (arc_of arcs c)) p → Contains (arc_of arcs d).points p → ⊥
  alone c d p lc ld n h g =
      let x = inner_number c lc p h in
      let y = number d ld p g in
      let cc' = chain_is c lc in
      let cd = chain_is d ld in
      let xi : end_of lines (half_at (chain_at chains c) x.0) < length points = subst (λ z. z < length points) (stop_after lines (chain_at chains c) cc' x.0 (omega (arith, x.1))) (stop_inside lines (chain_at chains c) cc' (length points) net (halves_are c lc) (x.0 + 1) (omega (arith, x.1))) in
      let same : end_of lines (half_at (chain_at chains c) x.0) ≡ stop lines (chain_at chains d) y.0 = one_place points _ once _ _ xi (stop_inside lines (chain_at chains d) cd (length points) net (halves_are d ld) y.0 y.1) (x.2 ∙ sym y.2) in
      ⊎_elim
      (λ l. (are.alone c d x.0 y.0 (omega (arith, as_many, lc)) (omega (arith, as_many, ld)) n x.1 l).0 (same ∙ stop_before lines (chain_at chains d) y.0 l))
      (λ l.
      let last = length (chain_at chains d) - 1 in
      let e : y.0 ≡ length (chain_at chains d) = omega (arith, l, y.1) in
      (are.alone c d x.0 last (omega (arith, as_many, lc)) (omega (arith, as_many, ld)) n x.1 (omega (arith, cd.long))).1 (same ∙ ap (stop lines (chain_at chains d)) e ∙ stop_last lines (chain_at chains d)))
      (cases_lt y.0 (length (chain_at chains d)))

  module _ (nodes : List ℕ) (numbers : AllZip (HasNumbers nodes lines) arcs chains) (nodes_once : AllPairs ◌≢◌ nodes) (nodes_inside : All (λ p. p < length points) nodes) (nodes_few : length nodes ≤ 2 ^ 28) (faces : ℕ) (sides : All (HasFacesBelow faces) lines) (few : length lines ≤ 2 ^ 27) where
    numbers_are : (c : ℕ) → c < length arcs → HasNumbers nodes lines (arc_of arcs c) (chain_at chains c)
    numbers_are c l = AllZip-at (HasNumbers nodes lines) arcs chains c no_arc [] numbers l

    -- what holds of each edge by its number
    each_arc : (P : Arc → Type 0) → ((c : ℕ) → c < length arcs → P (arc_of arcs c)) → All P arcs
    each_arc P h = λ k d l. subst P (get_or_default arcs k no_arc d l) (h k l)

    pulls : (k q : ℕ) (es : List Arc) (cs : List (List Half)) → length es ≡ length cs → ((c : ℕ) → c < length es → edges.pull k q (arc_of es c) ≡ chain_pull lines k (get_or nodes q (length points)) (chain_at cs c)) → plane.total (edges.pull k q) es ≡ nets.total (chain_pull lines k (get_or nodes q (length points))) cs
    pulls k q [] [] w h = refl
    pulls k q [] (y ∷ ys) w h = absurd (omega (arith, w))
    pulls k q (x ∷ xs) [] w h = absurd (omega (arith, w))
    pulls k q (x ∷ xs) (y ∷ ys) w h = ap₂ ◌+ℤ◌ (h 0 (omega arith)) (pulls k q xs ys (omega (arith, w)) (λ c l. h (suc c) (omega (arith, l))))

    pub arcs_kept : AreUsed (map (point_at points) nodes) arcs → AreArcs (map (point_at points) nodes) arcs faces
    arcs_kept used = record {
      nodes_once = λ i j d l lj e.
          let m : j < length nodes = omega (arith, lj, length-map nodes (point_at points)) in
          let li : i < length nodes = omega (arith, l, m) in
          let p = get_or nodes i 0 in
          let q = get_or nodes j 0 in
          nodes_once i j 0 l m (one_place points _ once p q (nodes_inside i 0 li) (nodes_inside j 0 m) (sym (get_or-map (point_at points) nodes i 0 d li) ∙ e ∙ get_or-map (point_at points) nodes j 0 d m));
      nodes_few = omega (arith, nodes_few, length-map nodes (point_at points));
      ends = each_arc (HasNodes (map (point_at points) nodes)) (λ c l. has_nodes points lines once net (arc_of arcs c) (chain_at chains c) (chain_is c l) (halves_are c l) (arc_is c l) nodes (numbers_are c l));
      used = used;
      simple = each_arc IsSimple (λ c l. is_simple points lines once net (arc_of arcs c) (chain_at chains c) (chain_is c l) (halves_are c l) (arc_is c l));
      sides = each_arc (HasSidesBelow faces) (λ c l. has_sides points lines once net (arc_of arcs c) (chain_at chains c) (chain_is c l) (halves_are c l) (arc_is c l) faces sides);
      alone = alone;
      balanced = λ k q.
          pulls k q arcs chains as_many (λ c l. same_pull points lines once net (arc_of arcs c) (chain_at chains c) (chain_is c l) (halves_are c l) (arc_is c l) nodes (numbers_are c l) nodes_once nodes_inside q k)
          ∙ are.balanced k (get_or nodes q (length points));
      few = omega (arith, points_counted points lines arcs chains run, all_lines lines chains are, few_chains lines chains are, few);
    }
