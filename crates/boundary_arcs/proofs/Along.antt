-- The points along a chain.
use Rattle.std.proofs.Common.{◌≡◌, ◌≢◌, ℕ, ◌+◌, ◌-◌, ◌<◌, ◌≤◌, List, [], ◌∷◌, Bool, true, false, cond, length, get_or, map, ◌⊎◌, ⊎_elim, sym, ap, subst, ◌∙◌, arith}
use Rattle.std.specs.Prelude.{All, AllPairs, nat_lt}
use Rattle.std.proofs.lemmas.Bool.{cases_lt, cases_eq}
use Rattle.std.proofs.lemmas.List.{length-map, length_push, get_or-map, get_or_append_left, get_or_push}
use Rattle.std.proofs.lemmas.List.Elements.{All-get_or}
use Rattle.boundary_arcs.specs.ChainEdges.{point_at, IsHalfOf, chain_points}
use Rattle.boundary_arcs.proofs.Turned.{no_half}
use Rattle.chains.specs.declared.Half.{Half}
use Rattle.chains.specs.declared.Line.{Line}
use Rattle.chains.specs.Nets.{line_at, begin_of, end_of, half_at, first_point, last_point, IsNet, IsChain}
use Rattle.plane_geom.specs.declared.Point.{Point}

-- where no element stands twice, one element has one place
pub one_place : {X : Type 0} (xs : List X) (d : X) → AllPairs ◌≢◌ xs → (i j : ℕ) → i < length xs → j < length xs → get_or xs i d ≡ get_or xs j d → i ≡ j
one_place xs d once i j li lj e = ⊎_elim
    (λ q. q)
    (λ n. ⊎_elim (λ l. absurd (once i j d l lj e)) (λ l. absurd (once j i d (let m : j ≡ i → ⊥ = λ q. n (sym q) in omega (arith, l, n)) li (sym e))) (cases_lt i j))
    (cases_eq i j)

-- a half of a line of the net begins and ends at a point of it
module _ (lines : List Line) (points : ℕ) (net : IsNet lines points) where
  pub begin_inside : (h : Half) → h.line < length lines → begin_of lines h < points
  begin_inside h l = go h.forward
    where
      go : (b : Bool) → cond b (line_at lines h.line).begin (line_at lines h.line).end < points
      go true = net.begin_inside h.line l
      go false = net.end_inside h.line l

  pub end_inside : (h : Half) → h.line < length lines → end_of lines h < points
  end_inside h l = go h.forward
    where
      go : (b : Bool) → cond b (line_at lines h.line).end (line_at lines h.line).begin < points
      go true = net.end_inside h.line l
      go false = net.begin_inside h.line l

module _ (lines : List Line) (chain : List Half) where
  -- the number of a chain's point: where its halves begin, and where the last ends
  abbrev pub stop : ℕ → ℕ
  stop i = cond (nat_lt i (length chain)) (begin_of lines (half_at chain i)) (last_point lines chain)

  pub stop_before : (i : ℕ) → i < length chain → stop i ≡ begin_of lines (half_at chain i)
  stop_before i l = ap (λ b. cond b (begin_of lines (half_at chain i)) (last_point lines chain)) (ltb_true i (length chain) l)
    where
      ltb_true : (m n : ℕ) → m < n → nat_lt m n ≡ true
      ltb_true m n h = grind arith

  pub stop_last : stop (length chain) ≡ last_point lines chain
  stop_last = ap (λ b. cond b (begin_of lines (half_at chain (length chain))) (last_point lines chain)) (ltb_false (length chain))
    where
      ltb_false : (n : ℕ) → nat_lt n n ≡ false
      ltb_false n = grind arith

  pub length-chain_points : (points : List Point) → length (chain_points points lines chain) ≡ length chain + 1
  length-chain_points points = omega (arith, length_push (map (λ h. point_at points (begin_of lines h)) chain) (point_at points (last_point lines chain)), length-map chain (λ h. point_at points (begin_of lines h)))

  pub chain_points_at : (points : List Point) (i : ℕ) (d : Point) → i ≤ length chain → get_or (chain_points points lines chain) i d ≡ point_at points (stop i)
  chain_points_at points i d l = ⊎_elim before last (cases_lt i (length chain))
    where
      before : i < length chain → get_or (chain_points points lines chain) i d ≡ point_at points (stop i)
      before h =
          get_or_append_left (map (λ h. point_at points (begin_of lines h)) chain) (point_at points (last_point lines chain) ∷ []) d i (omega (arith, length-map chain (λ h. point_at points (begin_of lines h))))
          ∙ get_or-map (λ h. point_at points (begin_of lines h)) chain i no_half d h ∙ ap (point_at points) (sym (stop_before i h))

      last : length chain ≤ i → get_or (chain_points points lines chain) i d ≡ point_at points (stop i)
      last h =
          let e : length chain ≡ i = omega arith in
          get_or_push (map (λ h. point_at points (begin_of lines h)) chain) (point_at points (last_point lines chain)) d i (omega (arith, length-map chain (λ h. point_at points (begin_of lines h))))
          ∙ ap (point_at points) (sym stop_last ∙ ap stop e)

  module _ (c : IsChain lines chain) where
    -- a point of a chain that isn't the first is where a half ends
    pub stop_after : (i : ℕ) → i < length chain → stop (i + 1) ≡ end_of lines (half_at chain i)
    stop_after i l = ⊎_elim
        (λ h. stop_before (i + 1) h ∙ c.meets i h)
        (λ h. let e : i + 1 ≡ length chain = omega arith in let f : length chain - 1 ≡ i = omega (arith, e) in ap stop e ∙ stop_last ∙ ap (λ z. end_of lines (half_at chain z)) f)
        (cases_lt (i + 1) (length chain))

    -- two points of a chain are different, but for the first and the last
    pub stops_apart : (i j : ℕ) → i < j → j ≤ length chain → (j < length chain) ⊎ (0 < i) → stop i ≡ stop j → ⊥
    stops_apart i j l lj may e = ⊎_elim
        (λ h. let s = c.simple i j (omega arith) h (sym (stop_before i (omega arith)) ∙ e ∙ stop_before j h) in omega (arith, s))
        (λ h. let q : j ≡ length chain = omega arith in c.last_apart i (⊎_elim (λ a. absurd (omega (arith, a))) (λ a. a) may) (omega arith) (sym (stop_before i (omega arith)) ∙ e ∙ ap stop q ∙ stop_last))
        (cases_lt j (length chain))

    module _ (points : ℕ) (net : IsNet lines points) (inside : All (IsHalfOf lines) chain) where
      half_inside : (i : ℕ) → i < length chain → (half_at chain i).line < length lines
      half_inside i l = All-get_or (IsHalfOf lines) chain i no_half l inside

      pub first_inside : first_point lines chain < points
      first_inside = begin_inside lines points net (half_at chain 0) (half_inside 0 c.long)

      pub last_inside : last_point lines chain < points
      last_inside = let l : length chain - 1 < length chain = omega (arith, c.long) in end_inside lines points net (half_at chain (length chain - 1)) (half_inside (length chain - 1) l)

      pub stop_inside : (i : ℕ) → i ≤ length chain → stop i < points
      stop_inside i l = ⊎_elim
          (λ h. subst (λ z. z < points) (sym (stop_before i h)) (begin_inside lines points net (half_at chain i) (half_inside i h)))
          (λ h. let e : length chain ≡ i = omega arith in subst (λ z. z < points) (sym stop_last ∙ ap stop e) last_inside)
          (cases_lt i (length chain))
