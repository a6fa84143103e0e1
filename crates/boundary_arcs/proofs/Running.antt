-- The edges of a net that stands for the drawn sub-segments of a mesh are the edges of the mesh.
use Rattle.std.proofs.Common.{◌≡◌, ℕ, suc, ◌+◌, ◌-◌, ◌<◌, List, [], ◌∷◌, ◌++◌, Bool, true, false, cond, nat_eq, length, map, drop, flat_map, count_by, IsPermutation, ◌⊎◌, inl, inr, ⊎_elim, refl, sym, ap, ap₂, subst, subst₂, ◌∙◌, arith}
use Rattle.std.specs.List.{AllZip, range_with_len}
use Rattle.std.specs.Option.{option_map}
use Rattle.std.specs.Prelude.{All}
use Rattle.std.proofs.lemmas.Bool.{cases_lt}
use Rattle.std.proofs.lemmas.List.{length-map, length-drop, get_or-drop, map-append}
use Rattle.std.proofs.lemmas.List.Elements.{All-from_get_or, All-get_or, All-map, All-head, All-tail}
use Rattle.std.proofs.lemmas.List.FromFn.{fill_by_all}
use Rattle.std.proofs.lemmas.List.Sorted.{IsPermutation-map}
use Rattle.std.proofs.lemmas.List.Sums.{sum_by-cons, sum_by-append}
use Rattle.std.proofs.lemmas.Option.{get_or_from_slice_get}
use Rattle.boundary_arcs.specs.ChainEdges.{point_at, IsHalfOf, BeginsLeast, chain_points, IsArcOf, AreArcsOfNet}
use Rattle.boundary_arcs.specs.Edges.{face_on, RunsAlong, AreArcsOf}
use Rattle.boundary_arcs.specs.Nets.{drawn_of, all_drawn, Shows, AreLinesOf}
use Rattle.boundary_arcs.specs.declared.arc.Arc.{Arc}
use Rattle.boundary_arcs.proofs.Along.{begin_inside, first_inside, last_inside}
use Rattle.boundary_arcs.proofs.Chained.{all_inside, closed_ends}
use Rattle.boundary_arcs.proofs.Standing.{sub_of, no_sub, as_many, shows, test_is}
use Rattle.boundary_arcs.proofs.Turned.{no_half}
use Rattle.chains.specs.declared.Half.{Half}
use Rattle.chains.specs.declared.Line.{Line}
use Rattle.chains.specs.Nets as nets
use Rattle.chains.specs.Nets.{line_at, begin_of, end_of, left_of, right_of, ends_at, half_at, lines_of, first_point, last_point, IsNet, IsChain, AreChains}
use Rattle.mesh_definitions.specs.Edges.{same_point, lines_at, IsJunction, IsFirstOf, IsEdge, DrawsAll}
use Rattle.mesh_definitions.specs.Faces.{drawn}
use Rattle.mesh_definitions.specs.Pieces as mesh
use Rattle.mesh_definitions.specs.Pieces.{Mesh, ahead, back, walked}
use Rattle.mesh_definitions.specs.declared.Piece.{Piece}
use Rattle.mesh_definitions.specs.declared.Step.{Step}
use Rattle.mesh_definitions.specs.declared.Sub.{Sub}
use Rattle.plane_geom.specs.Segments.{joins}
use Rattle.plane_geom.specs.declared.Point.{Point}
use Rattle.plane_geom.specs.declared.Seg.{Seg}

-- the last half of a chain, by recursion
last_of : Half → List Half → Half
last_of x [] = x
last_of x (y ∷ ys) = last_of y ys

last_is : (x : Half) (xs : List Half) → half_at (x ∷ xs) (length (x ∷ xs) - 1) ≡ last_of x xs
unfolding last_of
last_is x [] = refl
last_is x (y ∷ ys) =
    let e : length (x ∷ (y ∷ ys)) - 1 ≡ suc (length (y ∷ ys) - 1) = omega arith in
    ap (half_at (x ∷ (y ∷ ys))) e ∙ last_is y ys

module _ (m : Mesh) (face : Piece → ℕ) (points : List Point) (lines : List Line) (s : AreLinesOf points lines (all_drawn m face)) (net : IsNet lines (length points)) where
  -- the step of the mesh that a half stands for
  abbrev pub step_of : Half → Step
  step_of h = record { sub = sub_of m face points lines s h.line; forward = h.forward }

  abbrev place : ℕ → Point
  place p = point_at points p

  -- where a half lies
  abbrev seg_of : Half → Seg
  seg_of h = record { a = place (begin_of lines h); b = place (end_of lines h) }

  step_lies : (h : Half) → h.line < length lines → walked m (step_of h) ≡ seg_of h
  step_lies h l = go h.forward
    where
      begins : (m.ends (sub_of m face points lines s h.line)).a ≡ place (line_at lines h.line).begin
      begins = sym (get_or_from_slice_get points _ _ _ (shows m face points lines s h.line l).begins)

      ends : (m.ends (sub_of m face points lines s h.line)).b ≡ place (line_at lines h.line).end
      ends = sym (get_or_from_slice_get points _ _ _ (shows m face points lines s h.line l).ends)

      go : (f : Bool) → walked m (record { sub = sub_of m face points lines s h.line; forward = f }) ≡ seg_of (record { line = h.line; forward = f })
      go true = ap₂ (λ a b. let z : Seg = record { a = a; b = b } in z) begins ends
      go false = ap₂ (λ a b. let z : Seg = record { a = a; b = b } in z) ends begins

  -- the segments that join the points of a chain are where its halves lie
  join_along : (x : Half) (xs : List Half) → ((i : ℕ) → suc i < length (x ∷ xs) → begin_of lines (half_at (x ∷ xs) (suc i)) ≡ end_of lines (half_at (x ∷ xs) i)) → joins (map (λ h. place (begin_of lines h)) (x ∷ xs) ++ place (end_of lines (last_of x xs)) ∷ []) ≡ map seg_of (x ∷ xs)
  unfolding last_of
  join_along x [] meets = refl
  join_along x (y ∷ ys) meets =
      ap₂ ◌∷◌ (ap (λ p. let z : Seg = record { a = place (begin_of lines x); b = place p } in z) (meets 0 (omega arith))) (join_along y ys (λ i l. meets (suc i) (omega (arith, l))))

  lies_all : (chain : List Half) → All (IsHalfOf lines) chain → map seg_of chain ≡ map (walked m) (map step_of chain)
  lies_all [] inside = refl
  lies_all (x ∷ xs) inside = ap₂ ◌∷◌ (sym (step_lies x (All-head (IsHalfOf lines) x xs inside))) (lies_all xs (All-tail (IsHalfOf lines) x xs inside))

  -- as many drawn sub-segments end at a point as lines at its number
  begins_counted : (p : ℕ) → p < length points → (ls : List Line) (subs : List Sub) → AllZip (Shows points) ls (map (drawn_of m face) subs) → count_by (λ t. same_point (walked m t).a (place p)) (map ahead subs) ≡ count_by (λ l. nat_eq l.begin p) ls
  begins_counted p l [] [] h = refl
  begins_counted p l [] (y ∷ ys) h = absurd h
  begins_counted p l (x ∷ xs) [] h = absurd h
  begins_counted p l (x ∷ xs) (y ∷ ys) h =
      let t = ap {B = ℕ} (λ b. cond b 1 0) (test_is points s.once x.begin p (m.ends y).a h.0.begins l) in
      omega (arith, t, begins_counted p l xs ys h.1, sum_by-cons (λ z. cond (nat_eq z.begin p) 1 0) x xs, sum_by-cons (λ t. cond (same_point (walked m t).a (place p)) 1 0) (ahead y) (map ahead ys))

  ends_counted : (p : ℕ) → p < length points → (ls : List Line) (subs : List Sub) → AllZip (Shows points) ls (map (drawn_of m face) subs) → count_by (λ t. same_point (walked m t).a (place p)) (map back (map ahead subs)) ≡ count_by (λ l. nat_eq l.end p) ls
  ends_counted p l [] [] h = refl
  ends_counted p l [] (y ∷ ys) h = absurd h
  ends_counted p l (x ∷ xs) [] h = absurd h
  ends_counted p l (x ∷ xs) (y ∷ ys) h =
      let t = ap {B = ℕ} (λ b. cond b 1 0) (test_is points s.once x.end p (m.ends y).b h.0.ends l) in
      omega (arith, t, ends_counted p l xs ys h.1, sum_by-cons (λ z. cond (nat_eq z.end p) 1 0) x xs, sum_by-cons (λ t. cond (same_point (walked m t).a (place p)) 1 0) (back (ahead y)) (map back (map ahead ys)))

  lines_counted : (p : ℕ) → p < length points → lines_at m (place p) ≡ ends_at lines p
  lines_counted p l =
      sum_by-append (λ t. cond (same_point (walked m t).a (place p)) 1 0) (map ahead (drawn m)) (map back (map ahead (drawn m)))
      ∙ ap₂ ◌+◌ (begins_counted p l lines (drawn m) s.each) (ends_counted p l lines (drawn m) s.each)

  -- the faces on the sides of a half's step are those of the half
  step_right : (h : Half) → h.line < length lines → option_map face (m.right_of (step_of h)) ≡ right_of lines h
  step_right h l = go h.forward
    where
      go : (f : Bool) → option_map face (m.right_of (record { sub = sub_of m face points lines s h.line; forward = f })) ≡ cond f (line_at lines h.line).right (line_at lines h.line).left
      go true = sym (shows m face points lines s h.line l).right
      go false = sym (shows m face points lines s h.line l).left

  step_left : (h : Half) → h.line < length lines → option_map face (mesh.left_of m (step_of h)) ≡ left_of lines h
  step_left h l = go h.forward
    where
      go : (f : Bool) → option_map face (mesh.left_of m (record { sub = sub_of m face points lines s h.line; forward = f })) ≡ cond f (line_at lines h.line).left (line_at lines h.line).right
      go true = sym (shows m face points lines s h.line l).left
      go false = sym (shows m face points lines s h.line l).right

  -- an edge along a chain runs along the steps of its halves
  module _ (a : Arc) (chain : List Half) (c : IsChain lines chain) (inside : All (IsHalfOf lines) chain) (least : BeginsLeast points lines chain) (run : IsArcOf points lines a chain) where
    abbrev between : List Point
    between = map (λ h. place (begin_of lines h)) (drop 1 chain)

    split : (x : List Half) → 0 < length x → chain_points points lines x ≡ place (first_point lines x) ∷ (map (λ h. place (begin_of lines h)) (drop 1 x) ++ place (last_point lines x) ∷ [])
    split [] l = absurd (omega arith)
    split (x ∷ xs) l = refl

    join : (x : List Half) → 0 < length x → ((i : ℕ) → i + 1 < length x → begin_of lines (half_at x (i + 1)) ≡ end_of lines (half_at x i)) → joins (chain_points points lines x) ≡ map seg_of x
    join [] l meets = absurd (omega arith)
    join (x ∷ xs) l meets =
        ap (λ h. joins (map (λ g. place (begin_of lines g)) (x ∷ xs) ++ place (end_of lines h) ∷ [])) (last_is x xs)
        ∙ join_along x xs (λ i li. let e : i + 1 ≡ suc i = omega arith in subst (λ z. begin_of lines (half_at (x ∷ xs) z) ≡ end_of lines (half_at (x ∷ xs) i)) e (meets i (omega (arith, li))))

    -- what holds at each point between the first and the last
    each_between : (P : Point → Type 0) → ((i : ℕ) → i + 1 < length chain → P (place (begin_of lines (half_at chain (i + 1))))) → All P between
    each_between P h = All-map P (λ (g : Half). place (begin_of lines g)) (drop 1 chain) (All-from_get_or (λ g. P (place (begin_of lines g))) (drop 1 chain) no_half (λ i l.
        let e : i + 1 ≡ 1 + i = omega arith in
        subst (λ g. P (place (begin_of lines g))) (sym (get_or-drop 1 chain i no_half)) (subst (λ z. P (place (begin_of lines (half_at chain z)))) e (h i (omega (arith, l, length-drop 1 chain))))))

    half_there : (i : ℕ) → i < length chain → (half_at chain i).line < length lines
    half_there i l = All-get_or (IsHalfOf lines) chain i no_half l inside

    junction : (p : ℕ) → p < length points → nets.IsJunction lines p → IsJunction m (place p)
    junction p l j = omega (arith, lines_counted p l, j)

    meets_ends : (IsJunction m (place (first_point lines chain)) × IsJunction m (place (last_point lines chain))) ⊎ ((place (first_point lines chain) ≡ place (last_point lines chain)) × All (IsFirstOf (place (first_point lines chain))) between)
    meets_ends = ⊎_elim closed (λ j. inl (junction _ first j.0, junction _ last j.1)) c.ends
      where
        first : first_point lines chain < length points
        first = first_inside lines chain c (length points) net inside

        last : last_point lines chain < length points
        last = last_inside lines chain c (length points) net inside

        closed : first_point lines chain ≡ last_point lines chain → (IsJunction m (place (first_point lines chain)) × IsJunction m (place (last_point lines chain))) ⊎ ((place (first_point lines chain) ≡ place (last_point lines chain)) × All (IsFirstOf (place (first_point lines chain))) between)
        closed e = ⊎_elim
            (λ h.
            let two : ends_at lines (first_point lines chain) ≡ 2 = omega (arith, h, closed_ends lines (length points) net chain c inside e) in
            inr (ap place e, each_between (IsFirstOf (place (first_point lines chain))) (λ i l. (least two).least (i + 1) l)))
            (λ h. inl (junction _ first h, junction _ last (subst (nets.IsJunction lines) e h)))
            (cases_lt (ends_at lines (first_point lines chain)) 3)

    edge : IsEdge m (place (first_point lines chain)) between (place (last_point lines chain)) (map step_of chain)
    edge = record {
      some = omega (arith, c.long, length-map chain step_of);
      follows = ap joins (sym (split chain c.long)) ∙ join chain c.long c.meets ∙ lies_all chain inside;
      no_junction = each_between (λ p. IsJunction m p → ⊥) (λ i l j.
          let p = begin_of lines (half_at chain (i + 1)) in
          let two : ends_at lines p ≡ 2 = ap (ends_at lines) (c.meets i l) ∙ c.between i l in
          omega (arith, two, j, lines_counted p (begin_inside lines (length points) net (half_at chain (i + 1)) (half_there (i + 1) l))));
      ends = meets_ends;
    }

    pub runs_along : RunsAlong m face a (map step_of chain)
    runs_along = record {
      first = place (first_point lines chain);
      between = between;
      last = place (last_point lines chain);
      points = run.runs ∙ split chain c.long;
      edge = edge;
      sides = record {
        rights = All-map (λ t. option_map face (m.right_of t) ≡ face_on a.right) step_of chain (All-from_get_or (λ h. option_map face (m.right_of (step_of h)) ≡ face_on a.right) chain no_half (λ i l. step_right (half_at chain i) (half_there i l) ∙ c.right i l ∙ sym run.right));
        lefts = All-map (λ t. option_map face (mesh.left_of m t) ≡ face_on a.left) step_of chain (All-from_get_or (λ h. option_map face (mesh.left_of m (step_of h)) ≡ face_on a.left) chain no_half (λ i l. step_left (half_at chain i) (half_there i l) ∙ c.left i l ∙ sym run.left));
      };
    }

  all_run : (arcs : List Arc) (chains : List (List Half)) → All (IsChain lines) chains → All (All (IsHalfOf lines)) chains → All (BeginsLeast points lines) chains → AllZip (IsArcOf points lines) arcs chains → AllZip (RunsAlong m face) arcs (map (map step_of) chains)
  all_run [] [] c i l h = tt
  all_run [] (y ∷ ys) c i l h = absurd h
  all_run (x ∷ xs) [] c i l h = absurd h
  all_run (x ∷ xs) (y ∷ ys) c i l h = (
    runs_along x y (All-head (IsChain lines) y ys c) (All-head (All (IsHalfOf lines)) y ys i) (All-head (BeginsLeast points lines) y ys l) h.0,
    all_run xs ys (All-tail (IsChain lines) y ys c) (All-tail (All (IsHalfOf lines)) y ys i) (All-tail (BeginsLeast points lines) y ys l) h.1,
  )

  -- the sub-segments of all traces are those of all lines
  one_trace : (chain : List Half) → map (λ t. t.sub) (map step_of chain) ≡ map (sub_of m face points lines s) (map (λ h. h.line) chain)
  one_trace [] = refl
  one_trace (x ∷ xs) = ap (λ z. sub_of m face points lines s x.line ∷ z) (one_trace xs)

  all_traces : (chains : List (List Half)) → map (λ t. t.sub) (flat_map (λ t. t) (map (map step_of) chains)) ≡ map (sub_of m face points lines s) (lines_of chains)
  all_traces [] = refl
  all_traces (x ∷ xs) =
      map-append (λ t. t.sub) (map step_of x) (flat_map (λ t. t) (map (map step_of) xs))
      ∙ ap₂ ◌++◌ (one_trace x) (all_traces xs)
      ∙ sym (map-append (sub_of m face points lines s) (map (λ h. h.line) x) (lines_of xs))

  draws_all : (chains : List (List Half)) → AreChains lines chains → DrawsAll m (map (map step_of) chains)
  draws_all chains are =
      let numbered : drawn m ≡ map (sub_of m face points lines s) (range_with_len 0 (length lines)) = fill_by_all (sub_of m face points lines s) (drawn m) (length lines) no_sub (sym (as_many m face points lines s)) (λ k l. refl) in
      subst₂ IsPermutation (sym numbered) (sym (all_traces chains)) (IsPermutation-map (sub_of m face points lines s) (range_with_len 0 (length lines)) (lines_of chains) are.once)

  -- the edges of a net that stands for the drawn sub-segments of a mesh are those of the mesh
  pub edges_of_mesh : (arcs : List Arc) → AreArcsOfNet points lines arcs → AreArcsOf m face arcs
  edges_of_mesh arcs h = record {
    traces = map (map step_of) h.chains;
    each_once = draws_all h.chains h.are;
    edges = all_run arcs h.chains h.are.each (all_inside lines (length points) net h.chains h.are.once h.are.each) h.least h.each;
  }
