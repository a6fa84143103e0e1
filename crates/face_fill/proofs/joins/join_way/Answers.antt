use Rattle.std.proofs.Common.{⊎_elim, sym, subst, arith}
use Rattle.std.proofs.lemmas.Bool.{cases_eq}
use Rattle.disjoint_sets.specs.Views.{parents_of}
use Rattle.face_fill.specs.Joins.{AreRowMet}
use Rattle.face_fill.specs.TallyView.{link_of}
use Rattle.face_fill.proofs.Joining.{grows_on, met_on}
use Rattle.face_fill.proofs.joins.join_way.Goals as goal

pub loop-row-preserved : goal.loop-row-preserved
loop-row-preserved c =
    let p = c.args.table.now in
    let old = parents_of c.loop-row.sets in
    let new = parents_of c.join_row.new.sets in
    record {
      grows = grows_on p (parents_of c.args.sets.now) old new c.loop-row.invariant.grows c.join_row.ensures.grows;
      met = λ i l m. ⊎_elim
          (λ e. subst (λ i. AreRowMet p new c.args.way i c.args.cols) (sym e) c.join_row.ensures.met)
          (λ d. λ j w x. met_on p old new (link_of c.args.way i j) c.join_row.ensures.grows (c.loop-row.invariant.met i l (omega (arith, m, d)) j w x))
          (cases_eq i c.loop-row.row);
    }
