use Rattle.std.proofs.Common.{◌∙◌, sym, ap}
use Rattle.chart_query.proofs.Toggling.{no_side, one_toggled}
use Rattle.chart_query.proofs.owners.toggle_passing.Goals as goal
use Rattle.chart_query.proofs.owners.toggle_passing.Goals.{then-passes_east+in_ok-toggle, else-passes_east}

pub loop-side-preserved : goal.loop-side-preserved
loop-side-preserved c =
    elim c.if-passes_east.branch [
      | then-passes_east+in_ok-toggle w ↦
          (let r = one_toggled c.args.p c.args.owners.now.items c.loop-side.owners.items c.if-passes_east.owners.items c.args.sides.now c.loop-side.side-index no_side _ c.loop-side-test.true c.loop-side.invariant.rising c.loop-side.invariant.toggled (sym w.if-passes_east.true ∙ c.passes_east.ensures) (ap (λ v. v.items) w.owners-is ∙ w.in_ok-toggle.ensures) in
          record { rising = r.0; toggled = r.1 })
      | else-passes_east w ↦
          (let r = one_toggled c.args.p c.args.owners.now.items c.loop-side.owners.items c.if-passes_east.owners.items c.args.sides.now c.loop-side.side-index no_side _ c.loop-side-test.true c.loop-side.invariant.rising c.loop-side.invariant.toggled (sym w.if-passes_east.false ∙ c.passes_east.ensures) (ap (λ v. v.items) w.owners-is) in
          record { rising = r.0; toggled = r.1 })
    ]
