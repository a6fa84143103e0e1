use Rattle.std.proofs.Common.{◌≡◌, ◌∙◌, ◌+◌, ◌++◌, ◌∷◌, ◌||◌, [], ◌<◌, List, Bool, length, get_or, sym, ap, subst, arith}
use Rattle.std.specs.Prelude.{map}
use Rattle.std.specs.Int.{abs_diff}
use Rattle.depth_rounding.specs.Views.{levels_view}
use Rattle.depth_rounding.specs.Bands.{band_of}
use Rattle.shoal_buffer.specs.Views.{charted_view}
use Rattle.sounding_select.specs.Candidates.{node_of, told_charted}
use Rattle.sounding_select.specs.Selection.{charted_depth, radius_of}
use Rattle.sounding_select.specs.Marks.{AreWidths, marked_at, disc_has}
use Rattle.sounding_select.specs.declared.discs.Disc.{Disc}
use Rattle.sounding_select.proofs.Order.{no_candidate}
use Rattle.sounding_select.proofs.Selecting.{IsChosen}
use Rattle.sounding_select.proofs.Marking.{AreMarked, marked_more}
use Rattle.sounding_select.proofs.Steps.{step_covered, step_free, depth_is, steps_all}
use Rattle.sounding_select.proofs.selection.soundings.Goals as goal
use Rattle.sounding_select.proofs.selection.soundings.Goals.{then-not-has+in_ok-push, else-not-has}

pub loop-candidate-preserved : goal.loop-candidate-preserved
loop-candidate-preserved c =
    let v = charted_view c.args.ch.now in
    let levels = levels_view c.args.levels.now in
    let radii = c.args.radii.now in
    let ks = c.args.candidates.now in
    let all = c.requires.all in
    let up = c.requires.sorted in
    let i = c.loop-candidate.candidate-index in
    let inside = c.loop-candidate-test.true in
    let node = c.node-node.result in
    let rows = c.rows-rows.result in
    let cols = c.cols-cols.result in
    let inv = c.loop-candidate.invariant in
    let old = c.loop-candidate.chosen.items in
    let k = all.found.each i no_candidate inside in
    let at_row : node.row ≡ (node_of (get_or ks i no_candidate)).row = ap (λ p. p.row) c.node-node.ensures in
    let at_col : node.col ≡ (node_of (get_or ks i no_candidate)).col = ap (λ p. p.col) c.node-node.ensures in
    let all_rows : rows ≡ length v.grid.ys = c.rows-rows.ensures ∙ ap (λ g. length g.ys) c.grid.ensures in
    let all_cols : cols ≡ length v.grid.xs = c.cols-cols.ensures ∙ ap (λ g. length g.xs) c.grid-2.ensures in
    let row_in : node.row < rows = omega (arith, k.row_in, at_row, all_rows) in
    let col_in : node.col < cols = omega (arith, k.col_in, at_col, all_cols) in
    let told : c.has.result ≡ marked_at c.loop-candidate.marks.marked.items cols node.row node.col = subst (λ n. c.has.result ≡ marked_at c.loop-candidate.marks.marked.items n node.row node.col) inv.cols c.has.ensures in
    let covered = told ∙ inv.marked.each node row_in col_in in
    elim c.if-not-has.branch [
      | then-not-has+in_ok-push w ↦
          let items : c.if-not-has.chosen.items ≡ old ++ node ∷ [] = ap (λ z. z.items) w.chosen-is ∙ w.in_ok-push.ensures.items in
          let depth : charted_depth v node ≡ told_charted (get_or ks i no_candidate) = depth_is v levels radii ks all.found.each up i inside node c.node-node.ensures old inv.chosen in
          let widths : AreWidths radii.aspect (radius_of radii (band_of levels (charted_depth v node))) rows cols w.index.result.now.widths.items =
          subst (λ b. AreWidths radii.aspect (radius_of radii b) rows cols w.index.result.now.widths.items) (w.band.ensures.value ∙ ap (band_of levels) (sym depth))
          (subst (λ (x : Disc). AreWidths radii.aspect (radius_of radii w.band.result) rows cols x.widths.items) (sym w.index.ensures)
          (c.in_ok-discs.ensures.each w.band.result w.index.result.now (omega (arith, w.band.ensures.within)))) in
          record {
            chosen = subst (IsChosen v levels radii (map node_of ks) (i + 1)) (sym items) (step_free v levels radii ks all.found.each up i inside node c.node-node.ensures old inv.chosen (sym covered ∙ w.if-not-has.true));
            rows = ap (λ z. z.rows) w.marks-is ∙ (w.mark_disc.ensures.rows ∙ inv.rows);
            cols = ap (λ z. z.cols) w.marks-is ∙ (w.mark_disc.ensures.cols ∙ inv.cols);
            marked = subst (AreMarked v levels radii rows cols c.if-not-has.marks.marked.items) (sym items) (subst (λ (m : List Bool). AreMarked v levels radii rows cols m (old ++ node ∷ [])) (sym (ap (λ z. z.marked.items) w.marks-is))
                (marked_more v levels radii rows cols c.loop-candidate.marks.marked.items w.mark_disc.new.self.marked.items old node w.index.result.now.widths.items row_in col_in widths
                (λ p q h k. let new = w.mark_disc.new.self.marked.items in subst (λ n. marked_at new n p q ≡ (marked_at c.loop-candidate.marks.marked.items n p q || disc_has w.index.result.now.widths.items (abs_diff p node.row) (abs_diff q node.col))) inv.cols
                (w.mark_disc.ensures.marked p q (omega (arith, h, inv.rows)) (omega (arith, k, inv.cols))))
                inv.marked));
          }
      | else-not-has w ↦
          let items : c.if-not-has.chosen.items ≡ old = ap (λ z. z.items) w.chosen-is in
          record {
            chosen = subst (IsChosen v levels radii (map node_of ks) (i + 1)) (sym items) (step_covered v levels radii ks all.found.each up i inside node c.node-node.ensures old inv.chosen (sym covered ∙ w.if-not-has.false));
            rows = ap (λ z. z.rows) w.marks-is ∙ inv.rows;
            cols = ap (λ z. z.cols) w.marks-is ∙ inv.cols;
            marked = subst (AreMarked v levels radii rows cols c.if-not-has.marks.marked.items) (sym items) (subst (λ (m : List Bool). AreMarked v levels radii rows cols m old) (sym (ap (λ z. z.marked.items) w.marks-is)) inv.marked);
          }
    ]

pub returns : goal.returns
returns c =
    let v = charted_view c.args.ch.now in
    let ends : c.loop-candidate.candidate-index ≡ length c.args.candidates.now = omega arith in
    steps_all v (levels_view c.args.levels.now) c.args.radii.now c.args.candidates.now c.requires.all.found.each c.requires.sorted c.requires.all c.loop-candidate.chosen.items c.loop-candidate.candidate-index ends c.loop-candidate.invariant.chosen
