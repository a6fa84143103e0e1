-- Lemmas on the cores of discs: how they begin, widen and grow, and the least keys in them.
use Rattle.std.proofs.Common.{◌≡◌, ℕ, ℤ, pos, ◌≤ℤ◌, ◌+◌, ◌-◌, ◌<◌, ◌≤◌, ◌⊎◌, inl, inr, ⊎_elim, List, length, get_or, true, true≢false, sym, ◌∙◌, ap, ap₂, subst, subst₂, refl, arith}
use Rattle.std.proofs.lemmas.Int.{ints}
use Rattle.std.proofs.lemmas.Grind.{common_steps}
use Rattle.std.specs.Int.{abs_diff}
use Rattle.depth_grid.specs.Disc.{near}
use Rattle.shoal_buffer.specs.declared.picks.Pick.TheVariants.{Least}
use Rattle.shoal_buffer.specs.Picks.{better}
use Rattle.shoal_buffer.specs.Keys.{at, least_beside}
use Rattle.shoal_buffer.specs.Chords.{IsChord}
use Rattle.shoal_buffer.specs.Cores.{IsInCore, IsLeastKey, AreLeastKeys, IsKeyRow}
use Rattle.shoal_buffer.proofs.NearLemmas.{near_mono}
use Rattle.shoal_buffer.proofs.PickLemmas.{better_either, ahead_left, ahead_right, ahead_trans}

le_same : (a b : ℤ) → a ≡ b → a ≤ℤ b
le_same a b e = omega (arith, ints)

zero_or : (n : ℕ) → (n ≡ 0) ⊎ (1 ≤ n)
zero_or n = grind arith

le_or : (a b : ℕ) → (a ≤ b) ⊎ (b + 1 ≤ a)
le_or a b = grind arith

-- west of a column, at it or east of it
three_ways : (a b : ℕ) → (a < b) ⊎ ((a ≡ b) ⊎ (b < a))
three_ways a b = grind arith

module _ (V : ℕ → ℕ → ℤ) where
  -- of two sets that make up a third
  pub least_both : (S T U : ℕ → ℕ → Type 0) (a b : ℤ) → ((i j : ℕ) → U i j → S i j ⊎ T i j) → ((i j : ℕ) → S i j → U i j) → ((i j : ℕ) → T i j → U i j) →
      IsLeastKey V S a → IsLeastKey V T b → IsLeastKey V U (better Least a b)
  least_both S T U a b split left right h k = ⊎_elim
      (λ e. record { at_row = h.at_row; at_col = h.at_col; inside = left h.at_row h.at_col h.inside; stands = e ∙ h.stands; least = least })
      (λ e. record { at_row = k.at_row; at_col = k.at_col; inside = right k.at_row k.at_col k.inside; stands = e ∙ k.stands; least = least })
      (better_either Least a b)
    where
      least : (i j : ℕ) → U i j → better Least a b ≤ℤ V i j
      least i j u = ⊎_elim
          (λ s. ahead_trans Least (better Least a b) a (V i j) (ahead_left Least a b) (h.least i j s))
          (λ t. ahead_trans Least (better Least a b) b (V i j) (ahead_right Least a b) (k.least i j t))
          (split i j u)

  pub least_same : (S U : ℕ → ℕ → Type 0) (a : ℤ) → ((i j : ℕ) → U i j → S i j) → ((i j : ℕ) → S i j → U i j) → IsLeastKey V S a → IsLeastKey V U a
  least_same S U a f g h = record { at_row = h.at_row; at_col = h.at_col; inside = g h.at_row h.at_col h.inside; stands = h.stands; least = λ i j u. h.least i j (f i j u) }

  -- one node
  pub least_one : (row col : ℕ) → IsLeastKey V (λ i j. (i ≡ row) × (j ≡ col)) (V row col)
  least_one row col = record { at_row = row; at_col = col; inside = (refl, refl); stands = refl; least = λ i j e. le_same (V row col) (V i j) (ap₂ V (sym e.0) (sym e.1)) }

module _ (rows cols aspect radius : ℕ) where
  abbrev InCore : ℕ → ℕ → ℕ → ℕ → ℕ → ℕ → ℕ → Type 0
  InCore north south reserve row col i j = IsInCore rows cols aspect radius north south reserve row col i j

  -- at the chord's own distance only the column itself has the chord in reserve
  only_col : (north south reserve row col i j away : ℕ) → abs_diff i row ≡ away → IsChord aspect radius cols away reserve → InCore north south reserve row col i j → j ≡ col
  only_col north south reserve row col i j away e c s = ⊎_elim
      (λ z. omega (arith, z))
      (λ z.
      let far = c.widest (abs_diff j col + reserve) (omega (arith, z)) s.across in
      let is : near aspect radius away (abs_diff j col + reserve) ≡ true = subst (λ p. near aspect radius p (abs_diff j col + reserve) ≡ true) e s.is_near in
      absurd (true≢false (sym is ∙ far)))
      (zero_or (abs_diff j col))

  -- a node of the column itself has the chord in reserve
  col_near : (reserve col away : ℕ) → IsChord aspect radius cols away reserve → near aspect radius away (abs_diff col col + reserve) ≡ true
  col_near reserve col away c =
      let e : abs_diff col col + reserve ≡ reserve = omega arith in
      subst (λ q. near aspect radius away q ≡ true) (sym e) c.is_near

  -- one column less in reserve, seen from a column beside it
  inside_less : (north south reserve row col beside i j : ℕ) → abs_diff beside col ≤ 1 → InCore north south (reserve + 1) row beside i j → InCore north south reserve row col i j
  inside_less north south reserve row col beside i j h s = record {
    row_in = s.row_in;
    col_in = s.col_in;
    to_north = s.to_north;
    to_south = s.to_south;
    across = omega (arith, h, s.across);
    is_near = near_mono aspect radius (abs_diff i row) (abs_diff i row) (abs_diff j col + reserve) (abs_diff j beside + (reserve + 1)) (omega arith) (omega (arith, h)) s.is_near;
  }

  -- the same distance from the column beside it, on the way there
  inside_beside : (north south reserve row col beside i j : ℕ) → abs_diff j col ≡ abs_diff j beside + 1 → InCore north south reserve row col i j → InCore north south (reserve + 1) row beside i j
  inside_beside north south reserve row col beside i j h s =
      let e : abs_diff j col + reserve ≡ abs_diff j beside + (reserve + 1) = omega (arith, h) in
      record {
        row_in = s.row_in;
        col_in = s.col_in;
        to_north = s.to_north;
        to_south = s.to_south;
        across = omega (arith, e, s.across);
        is_near = subst (λ q. near aspect radius (abs_diff i row) q ≡ true) e s.is_near;
      }

  -- a node of the column itself
  inside_here : (north south reserve row col i j away : ℕ) → j ≡ col → north ≤ away → south ≤ away → reserve + 1 < cols → near aspect radius away (reserve + 1) ≡ true → InCore north south reserve row col i j → InCore north south (reserve + 1) row col i j
  inside_here north south reserve row col i j away e h k b is s =
      let z : abs_diff j col ≡ 0 = omega (arith, e) in
      record {
        row_in = s.row_in;
        col_in = s.col_in;
        to_north = s.to_north;
        to_south = s.to_south;
        across = omega (arith, z, b);
        is_near = near_mono aspect radius (abs_diff i row) away (abs_diff j col + (reserve + 1)) (reserve + 1) (omega (arith, h, k, s.to_north, s.to_south)) (omega (arith, z)) is;
      }

  -- inside with a column more in reserve, seen from one column or the other
  abbrev Either : ℕ → ℕ → ℕ → ℕ → ℕ → ℕ → ℕ → ℕ → Type 0
  Either north south reserve row west col i j = InCore north south (reserve + 1) row west i j ⊎ InCore north south (reserve + 1) row col i j

  module _ (V : ℕ → ℕ → ℤ) where
    -- a core begins with its own node
    pub core_start : (row col reserve : ℕ) → row < rows → col < cols → IsChord aspect radius cols 0 reserve → IsLeastKey V (InCore 0 0 reserve row col) (V row col)
    core_start row col reserve h k c =
        let z : abs_diff row row ≡ 0 = omega arith in
        least_same V (λ i j. (i ≡ row) × (j ≡ col)) (InCore 0 0 reserve row col) (V row col)
        (λ i j s. (omega (arith, s.to_north, s.to_south), only_col 0 0 reserve row col i j 0 (omega (arith, s.to_north, s.to_south)) c s))
        (λ i j e. record {
          row_in = omega (arith, e.0, h);
          col_in = omega (arith, e.1, k);
          to_north = omega (arith, e.0);
          to_south = omega (arith, e.0);
          across = omega (arith, e.1, c.below);
          is_near = subst₂ (λ p q. near aspect radius (abs_diff p row) (abs_diff q col + reserve) ≡ true) (sym e.0) (sym e.1) (subst (λ p. near aspect radius p (abs_diff col col + reserve) ≡ true) (sym z) (col_near reserve col 0 c));
        })
        (least_one V row col)

    -- it widens by a column on either side
    pub core_widen : (north south reserve row col west east away : ℕ) (a b c : ℤ) → north ≤ away → south ≤ away → reserve + 1 < cols → near aspect radius away (reserve + 1) ≡ true → col < cols →
        west ≡ col - 1 → abs_diff east col ≤ 1 → (col + 1 < cols → east ≡ col + 1) →
        IsLeastKey V (InCore north south (reserve + 1) row west) a → IsLeastKey V (InCore north south (reserve + 1) row col) b → IsLeastKey V (InCore north south (reserve + 1) row east) c →
        IsLeastKey V (InCore north south reserve row col) (better Least (better Least a b) c)
    core_widen north south reserve row col west east away a b c h k m is inside ew ee last p q r =
        least_both V (Either north south reserve row west col) (InCore north south (reserve + 1) row east) (InCore north south reserve row col) (better Least a b) c
        split
        (λ i j w. ⊎_elim (inside_less north south reserve row col west i j (omega (arith, ew))) (inside_less north south reserve row col col i j (omega arith)) w)
        (λ i j w. inside_less north south reserve row col east i j ee w)
        (least_both V (InCore north south (reserve + 1) row west) (InCore north south (reserve + 1) row col) (Either north south reserve row west col) a b (λ i j w. w) (λ i j w. inl w) (λ i j w. inr w) p q)
        r
      where
        split : (i j : ℕ) → InCore north south reserve row col i j → Either north south reserve row west col i j ⊎ InCore north south (reserve + 1) row east i j
        split i j s = ⊎_elim
            (λ lt. inl (inl (inside_beside north south reserve row col west i j (omega (arith, lt, ew)) s)))
            (λ other. ⊎_elim
            (λ e. inl (inr (inside_here north south reserve row col i j away e h k m is s)))
            (λ gt. inr (let ea : east ≡ col + 1 = last (omega (arith, gt, s.col_in)) in inside_beside north south reserve row col east i j (omega (arith, gt, ea)) s))
            other)
            (three_ways j col)

    -- it takes in the next row to the north
    pub core_north : (north south reserve row col : ℕ) (a b : ℤ) → north + 1 ≤ row → row < rows → col < cols → IsChord aspect radius cols (north + 1) reserve → b ≡ V (row - (north + 1)) col →
        IsLeastKey V (InCore north south reserve row col) a → IsLeastKey V (InCore (north + 1) south reserve row col) (better Least a b)
    core_north north south reserve row col a b h inside k c e p =
        let n = row - (north + 1) in
        let z : abs_diff n row ≡ north + 1 = omega (arith, h) in
        least_both V (InCore north south reserve row col) (λ i j. (i ≡ n) × (j ≡ col)) (InCore (north + 1) south reserve row col) a b
        (λ i j s. ⊎_elim
        (λ l. inl (record { row_in = s.row_in; col_in = s.col_in; to_north = l; to_south = s.to_south; across = s.across; is_near = s.is_near }))
        (λ g. inr (omega (arith, g, s.to_north), only_col (north + 1) south reserve row col i j (north + 1) (omega (arith, g, s.to_north)) c s))
        (le_or row (i + north)))
        (λ i j s. record { row_in = s.row_in; col_in = s.col_in; to_north = omega (arith, s.to_north); to_south = s.to_south; across = s.across; is_near = s.is_near })
        (λ i j w. record {
          row_in = omega (arith, w.0, inside);
          col_in = omega (arith, w.1, k);
          to_north = omega (arith, w.0, h);
          to_south = omega (arith, w.0);
          across = omega (arith, w.1, c.below);
          is_near = subst₂ (λ r q. near aspect radius (abs_diff r row) (abs_diff q col + reserve) ≡ true) (sym w.0) (sym w.1) (subst (λ r. near aspect radius r (abs_diff col col + reserve) ≡ true) (sym z) (col_near reserve col (north + 1) c));
        })
        p
        (subst (IsLeastKey V (λ i j. (i ≡ n) × (j ≡ col))) (sym e) (least_one V n col))

    -- there is none
    pub core_no_north : (north south reserve row col : ℕ) (a : ℤ) → row ≤ north → IsLeastKey V (InCore north south reserve row col) a → IsLeastKey V (InCore (north + 1) south reserve row col) a
    core_no_north north south reserve row col a h p = least_same V (InCore north south reserve row col) (InCore (north + 1) south reserve row col) a
        (λ i j s. record { row_in = s.row_in; col_in = s.col_in; to_north = omega (arith, h); to_south = s.to_south; across = s.across; is_near = s.is_near })
        (λ i j s. record { row_in = s.row_in; col_in = s.col_in; to_north = omega (arith, s.to_north); to_south = s.to_south; across = s.across; is_near = s.is_near })
        p

    -- and south of it
    pub core_south : (north south reserve row col : ℕ) (a b : ℤ) → row + (south + 1) < rows → col < cols → IsChord aspect radius cols (south + 1) reserve → b ≡ V (row + (south + 1)) col →
        IsLeastKey V (InCore north south reserve row col) a → IsLeastKey V (InCore north (south + 1) reserve row col) (better Least a b)
    core_south north south reserve row col a b h k c e p =
        let n = row + (south + 1) in
        let z : abs_diff n row ≡ south + 1 = omega arith in
        least_both V (InCore north south reserve row col) (λ i j. (i ≡ n) × (j ≡ col)) (InCore north (south + 1) reserve row col) a b
        (λ i j s. ⊎_elim
        (λ l. inl (record { row_in = s.row_in; col_in = s.col_in; to_north = s.to_north; to_south = l; across = s.across; is_near = s.is_near }))
        (λ g. inr (omega (arith, g, s.to_south), only_col north (south + 1) reserve row col i j (south + 1) (omega (arith, g, s.to_south)) c s))
        (le_or i (row + south)))
        (λ i j s. record { row_in = s.row_in; col_in = s.col_in; to_north = s.to_north; to_south = omega (arith, s.to_south); across = s.across; is_near = s.is_near })
        (λ i j w. record {
          row_in = omega (arith, w.0, h);
          col_in = omega (arith, w.1, k);
          to_north = omega (arith, w.0);
          to_south = omega (arith, w.0);
          across = omega (arith, w.1, c.below);
          is_near = subst₂ (λ r q. near aspect radius (abs_diff r row) (abs_diff q col + reserve) ≡ true) (sym w.0) (sym w.1) (subst (λ r. near aspect radius r (abs_diff col col + reserve) ≡ true) (sym z) (col_near reserve col (south + 1) c));
        })
        p
        (subst (IsLeastKey V (λ i j. (i ≡ n) × (j ≡ col))) (sym e) (least_one V n col))

    pub core_no_south : (north south reserve row col : ℕ) (a : ℤ) → rows ≤ row + (south + 1) → IsLeastKey V (InCore north south reserve row col) a → IsLeastKey V (InCore north (south + 1) reserve row col) a
    core_no_south north south reserve row col a h p = least_same V (InCore north south reserve row col) (InCore north (south + 1) reserve row col) a
        (λ i j s. record { row_in = s.row_in; col_in = s.col_in; to_north = s.to_north; to_south = omega (arith, h, s.row_in); across = s.across; is_near = s.is_near })
        (λ i j s. record { row_in = s.row_in; col_in = s.col_in; to_north = s.to_north; to_south = omega (arith, s.to_south); across = s.across; is_near = s.is_near })
        p

    -- the same for all nodes of a row
    abbrev LeastKeys : ℕ → ℕ → ℕ → ℕ → List ℤ → Type 0
    LeastKeys north south reserve row xs = AreLeastKeys V rows cols aspect radius north south reserve row xs

    pub cores_start : (row reserve : ℕ) (xs rs : List ℤ) → xs ≡ rs → IsKeyRow V rows cols row rs → IsChord aspect radius cols 0 reserve → LeastKeys 0 0 reserve row xs
    cores_start row reserve xs rs e r c = subst (LeastKeys 0 0 reserve row) (sym e) (record {
      full = r.full;
      each = λ col k. subst (IsLeastKey V (InCore 0 0 reserve row col)) (sym (r.each col k)) (core_start row col reserve r.inside k c);
    })

    pub cores_north : (north south reserve row n : ℕ) (xs zs rs ys : List ℤ) → zs ≡ xs → IsKeyRow V rows cols n rs → n ≡ row - (north + 1) → north + 1 ≤ row → row < rows → IsChord aspect radius cols (north + 1) reserve →
        length ys ≡ length zs → ((k : ℕ) → k < length zs → at ys k ≡ better Least (at zs k) (at rs k)) → LeastKeys north south reserve row xs → LeastKeys (north + 1) south reserve row ys
    cores_north north south reserve row n xs zs rs ys e r en le inside c full each h =
        let full' : length ys ≡ cols = full ∙ ap length e ∙ h.full in
        let each' : (k : ℕ) → k < length xs → at ys k ≡ better Least (at xs k) (at rs k) = subst (λ ws. (k : ℕ) → k < length ws → at ys k ≡ better Least (at ws k) (at rs k)) e each in
        record {
          full = full';
          each = λ col k. subst (IsLeastKey V (InCore (north + 1) south reserve row col)) (sym (each' col (omega (arith, k, h.full))))
              (core_north north south reserve row col (at xs col) (at rs col) le inside k c (r.each col k ∙ ap (λ i. V i col) en) (h.each col k));
        }

    pub cores_no_north : (north south reserve row : ℕ) (xs : List ℤ) → row ≤ north → LeastKeys north south reserve row xs → LeastKeys (north + 1) south reserve row xs
    cores_no_north north south reserve row xs le h = record { full = h.full; each = λ col k. core_no_north north south reserve row col (at xs col) le (h.each col k) }

    pub cores_south : (north south reserve row n : ℕ) (xs zs rs ys : List ℤ) → zs ≡ xs → IsKeyRow V rows cols n rs → n ≡ row + (south + 1) → IsChord aspect radius cols (south + 1) reserve →
        length ys ≡ length zs → ((k : ℕ) → k < length zs → at ys k ≡ better Least (at zs k) (at rs k)) → LeastKeys north south reserve row xs → LeastKeys north (south + 1) reserve row ys
    cores_south north south reserve row n xs zs rs ys e r en c full each h =
        let full' : length ys ≡ cols = full ∙ ap length e ∙ h.full in
        let each' : (k : ℕ) → k < length xs → at ys k ≡ better Least (at xs k) (at rs k) = subst (λ ws. (k : ℕ) → k < length ws → at ys k ≡ better Least (at ws k) (at rs k)) e each in
        let inside : row + (south + 1) < rows = subst (λ i. i < rows) en r.inside in
        record {
          full = full';
          each = λ col k. subst (IsLeastKey V (InCore north (south + 1) reserve row col)) (sym (each' col (omega (arith, k, h.full))))
              (core_south north south reserve row col (at xs col) (at rs col) inside k c (r.each col k ∙ ap (λ i. V i col) en) (h.each col k));
        }

    pub cores_no_south : (north south reserve row : ℕ) (xs : List ℤ) → rows ≤ row + (south + 1) → LeastKeys north south reserve row xs → LeastKeys north (south + 1) reserve row xs
    cores_no_south north south reserve row xs le h = record { full = h.full; each = λ col k. core_no_south north south reserve row col (at xs col) le (h.each col k) }

    -- the column east of one, itself at the edge
    east_of : (xs : List ℤ) (k : ℕ) → k < length xs → (east : ℕ) × (abs_diff east k ≤ 1) × (east < length xs) × (k + 1 < length xs → east ≡ k + 1) × (get_or xs (k + 1) (at xs k) ≡ at xs east)
    east_of xs k h = ⊎_elim
        (λ last. (k, omega arith, h, (λ g. absurd (omega (arith, g, last))), beyond xs k (at xs k) last))
        (λ more. (k + 1, omega arith, omega (arith, more), (λ g. refl), within xs (k + 1) (at xs k) more))
        (le_or (length xs) (k + 1))
      where
        beyond : (xs : List ℤ) (k : ℕ) (d : ℤ) → length xs ≤ k + 1 → get_or xs (k + 1) d ≡ d
        beyond xs k d h = grind (arith, common_steps)

        within : (xs : List ℤ) (k : ℕ) (d : ℤ) → k + 1 ≤ length xs → get_or xs k d ≡ get_or xs k (pos 0)
        within xs k d h = grind (arith, common_steps)

    pub cores_widen : (north south reserve row away : ℕ) (xs zs ys : List ℤ) → zs ≡ xs → north ≤ away → south ≤ away → reserve + 1 < cols → near aspect radius away (reserve + 1) ≡ true →
        length ys ≡ length zs → ((k : ℕ) → k < length zs → at ys k ≡ least_beside zs k) → LeastKeys north south (reserve + 1) row xs → LeastKeys north south reserve row ys
    cores_widen north south reserve row away xs zs ys e le le' below is full each h =
        let full' : length ys ≡ cols = full ∙ ap length e ∙ h.full in
        let each' : (k : ℕ) → k < length xs → at ys k ≡ least_beside xs k = subst (λ ws. (k : ℕ) → k < length ws → at ys k ≡ least_beside ws k) e each in
        record {
          full = full';
          each = λ col k.
              let inside : col < length xs = omega (arith, k, h.full) in
              let east = east_of xs col inside in
              let value : at ys col ≡ better Least (better Least (at xs (col - 1)) (at xs col)) (at xs east.0) = each' col inside ∙ ap (better Least (better Least (at xs (col - 1)) (at xs col))) east.4 in
              subst (IsLeastKey V (InCore north south reserve row col)) (sym value)
              (core_widen north south reserve row col (col - 1) east.0 away (at xs (col - 1)) (at xs col) (at xs east.0) le le' below is k refl east.1 (λ g. east.3 (omega (arith, g, h.full)))
              (h.each (col - 1) (omega (arith, k))) (h.each col k) (h.each east.0 (omega (arith, east.2, h.full))));
        }
