use Rattle.std.proofs.Common.{◌≡◌, ◌+◌, ◌*◌, ◌<◌, ◌∙◌, length, sym, ap, subst, rules}
use Rattle.depth_grid.specs.declared.node.NodeId.{NodeId}
use Rattle.shoal_buffer.specs.Views.{charted_view}
use Rattle.sounding_select.specs.Candidates.{AreFound}
use Rattle.sounding_select.proofs.Finding.{found_same, found_more}
use Rattle.sounding_select.proofs.candidates.add_row.Goals as goal
use Rattle.sounding_select.proofs.candidates.add_row.Goals.{in-Some+in_ok-push, in_default}

pub loop-col-preserved : goal.loop-col-preserved
loop-col-preserved c =
    let v = charted_view c.args.ch.now in
    let node : NodeId = record { row = c.args.row; col = c.loop-col.col } in
    let next = c.args.row * length v.grid.xs + (c.loop-col.col + 1) in
    let col_in : c.loop-col.col < length v.grid.xs = search rules in
    let old = c.loop-col.found.items in
    elim c.match-candidate_at.branch [
      | in-Some+in_ok-push w ↦
          subst (AreFound v next) (sym (ap (λ f. f.items) w.found-is ∙ w.in_ok-push.ensures.items))
          (found_more v old node col_in w.in-Some.candidate c.requires.row w.in-Some.ensures c.loop-col.invariant)
      | in_default w ↦
          subst (AreFound v next) (sym (ap (λ f. f.items) w.found-is))
          (found_same v old node col_in w.in_default.ensures c.loop-col.invariant)
    ]
