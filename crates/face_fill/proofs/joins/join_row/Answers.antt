use Rattle.std.proofs.Common.{⊎_elim, sym, subst, arith}
use Rattle.std.proofs.lemmas.Bool.{cases_eq}
use Rattle.disjoint_sets.specs.Views.{parents_of}
use Rattle.face_fill.specs.Joins.{AreMet}
use Rattle.face_fill.specs.TallyView.{link_of}
use Rattle.face_fill.proofs.Joining.{grows_on, met_on}
use Rattle.face_fill.proofs.joins.join_row.Goals as goal

pub loop-col-preserved : goal.loop-col-preserved
loop-col-preserved c =
    let p = c.args.table.now in
    let old = parents_of c.loop-col.sets in
    let new = parents_of c.join_link.new.sets in
    record {
      grows = grows_on p (parents_of c.args.sets.now) old new c.loop-col.invariant.grows c.join_link.ensures.grows;
      met = λ j l m. ⊎_elim
          (λ e. subst (λ j. AreMet p new (link_of c.args.way c.args.row j)) (sym e) c.join_link.ensures.met)
          (λ d. met_on p old new (link_of c.args.way c.args.row j) c.join_link.ensures.grows (c.loop-col.invariant.met j l (omega (arith, m, d))))
          (cases_eq j c.loop-col.col);
    }
