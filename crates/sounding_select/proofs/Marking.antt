-- Lemmas on marking.
use Rattle.std.proofs.Common.{◌≡◌, ℕ, ◌+◌, ◌*◌, ◌<◌, ◌≤◌, ◌⊎◌, ⊎_elim, ◌↔◌, List, [], ◌∷◌, ◌++◌, ℤ, Bool, false, ◌||◌, ◌&&◌, nat_eq, nat_le, nat_lt, length, take, drop, sym, ◌∙◌, ap₂, subst, arith, mul-le-mul}
use Rattle.std.proofs.lemmas.Bool.Decides.{nat_tests}
use Rattle.std.proofs.lemmas.Grind.{common_steps}
use Rattle.std.specs.Int.{abs_diff}
use Rattle.depth_grid.specs.declared.node.NodeId.{NodeId}
use Rattle.depth_grid.specs.declared.disc.Radii.{Radii}
use Rattle.depth_rounding.specs.Bands.{band_of}
use Rattle.shoal_buffer.specs.Charted.{ChartedView}
use Rattle.sounding_select.specs.Selection.{covers, charted_depth, radius_of}
use Rattle.sounding_select.specs.Marks.{marked_at, disc_has, AreWidths}
use Rattle.sounding_select.proofs.Covering.{is_covered, any_more}

-- a slice of a whole vector written back
pub written_back : (n : ℕ) (new old : List Bool) → length new ≡ n → take n (new ++ drop (length new) old) ≡ new
written_back n new old e = grind (arith, common_steps)

row_cases : (i row : ℕ) → (i ≡ row) ⊎ (i + 1 ≤ row) ⊎ (row + 1 ≤ i)
row_cases i row = grind arith

-- the places of a run are the nodes of one row between two columns
pub run_in_row : (row cols first end i j d width : ℕ) → j < cols → end ≤ cols → (d < width) ↔ ((first ≤ j) × (j < end)) →
    (nat_le (row * cols + first) (i * cols + j) && nat_lt (i * cols + j) (row * cols + end)) ≡ (nat_eq i row && nat_lt d width)
run_in_row row cols first end i j d width inside ends exact = ⊎_elim
    (λ same. subst (λ r. (nat_le (row * cols + first) (r * cols + j) && nat_lt (r * cols + j) (row * cols + end)) ≡ (nat_eq r row && nat_lt d width)) (sym same)
    (here (row * cols) row first end j d width exact))
    (⊎_elim
    (λ above. let p : (i + 1) * cols ≤ row * cols = mul-le-mul above (omega arith) in before (row * cols) (i * cols) i row first end j d width (omega (arith, p, inside)) above)
    (λ below. let p : (row + 1) * cols ≤ i * cols = mul-le-mul below (omega arith) in behind (row * cols) (i * cols) i row first end j d width (omega (arith, p, ends)) below))
    (row_cases i row)
  where
    here : (p row first end j d width : ℕ) → (d < width) ↔ ((first ≤ j) × (j < end)) → (nat_le (p + first) (p + j) && nat_lt (p + j) (p + end)) ≡ (nat_eq row row && nat_lt d width)
    here p row first end j d width exact = let f = exact.0 in let g = exact.1 in grind (arith, nat_tests, f, g)

    before : (p q i row first end j d width : ℕ) → q + j < p → i + 1 ≤ row → (nat_le (p + first) (q + j) && nat_lt (q + j) (p + end)) ≡ (nat_eq i row && nat_lt d width)
    before p q i row first end j d width h k = grind (arith, nat_tests)

    behind : (p q i row first end j d width : ℕ) → p + end ≤ q → row + 1 ≤ i → (nat_le (p + first) (q + j) && nat_lt (q + j) (p + end)) ≡ (nat_eq i row && nat_lt d width)
    behind p q i row first end j d width h k = grind (arith, nat_tests)

-- the nodes of so many rows and columns are marked that the chosen ones cover
pub record AreMarked (v : ChartedView) (levels : List ℤ) (radii : Radii) (rows cols : ℕ) (marks : List Bool) (chosen : List NodeId) : Type 0 where
  pub each : (q : NodeId) → q.row < rows → q.col < cols → marked_at marks cols q.row q.col ≡ is_covered v levels radii q chosen

module _ (v : ChartedView) (levels : List ℤ) (radii : Radii) (rows cols : ℕ) where
  pub marked_none : (marks : List Bool) → ((i j : ℕ) → marked_at marks cols i j ≡ false) → AreMarked v levels radii rows cols marks []
  marked_none marks none = record { each = λ q h k. none q.row q.col }

  pub marked_more : (old new : List Bool) (chosen : List NodeId) (p : NodeId) (widths : List ℕ) → p.row < rows → p.col < cols →
      AreWidths radii.aspect (radius_of radii (band_of levels (charted_depth v p))) rows cols widths →
      ((i j : ℕ) → i < rows → j < cols → marked_at new cols i j ≡ (marked_at old cols i j || disc_has widths (abs_diff i p.row) (abs_diff j p.col))) →
      AreMarked v levels radii rows cols old chosen → AreMarked v levels radii rows cols new (chosen ++ p ∷ [])
  marked_more old new chosen p widths row col w more m = record {
    each = λ q h k.
        more q.row q.col h k
        ∙ (ap₂ (λ a b. a || b) (m.each q h k) (sym (w.exact (abs_diff q.row p.row) (abs_diff q.col p.col) (omega (arith, row, h)) (omega (arith, col, k))))
        ∙ sym (any_more (λ x. covers v levels radii x q) chosen p));
  }
