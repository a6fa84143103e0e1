use Rattle.std.proofs.Common.{◌∙◌, sym, ap, ltb, refl, take}
use Rattle.std.proofs.lemmas.List.{take_all}
use Rattle.chart_model.proofs.Finding.{flat_more}
use Rattle.chart_model.proofs.Parity.{none_set, some_set, all_even}
use Rattle.chart_model.specs.Numbers.{connected_numbers}
use Rattle.chart_model.specs.Closed.{ends, is_odd_in, pointer_ends}
use Rattle.chart_model.specs.Marks.{marks, set_marks}
use Rattle.chart_model.specs.declared.records.Connected.{Connected}
use Rattle.std.proofs.lemmas.Bool.{OnFalse_from}
use Rattle.chart_model.proofs.closed.do_not_close.Goals as goal

pub loop-pointer-init : goal.loop-pointer-init
loop-pointer-init c = (c.requires.even, sym (ap set_marks c.requires.even ∙ none_set (connected_numbers c.args.parts.now)))

pub loop-pointer-preserved : goal.loop-pointer-preserved
loop-pointer-preserved c = (
  c.mark_pointer-count.ensures.marked (ends c.args.parts.now (take c.loop-pointer.pointer-index c.args.pointers.now)) c.loop-pointer.invariant.0 ∙ ap (marks c.args.parts.now) (sym (flat_more (pointer_ends c.args.parts.now) c.args.pointers.now c.loop-pointer.pointer-index (record { rcnm = 0; rcid = 0; ornt = 0; usag = 0; mask = 0 }) c.loop-pointer-test.true)),
  c.mark_pointer-count.ensures.counted,
)

pub returns-clause-open : goal.returns-clause-open
returns-clause-open c =
    let all = take_all c.loop-pointer.pointer-index c.args.pointers.now c.loop-pointer-test.false in
    ap (ltb 0) (c.loop-pointer.invariant.1 ∙ ap set_marks (c.loop-pointer.invariant.0 ∙ ap (λ ps. marks c.args.parts.now (ends c.args.parts.now ps)) all))
    ∙ some_set (λ (k : Connected). is_odd_in (ends c.args.parts.now c.args.pointers.now) k.rcid) (λ (k : Connected). k.rcid) (is_odd_in (ends c.args.parts.now c.args.pointers.now)) c.args.parts.now.connected (λ x. refl)

pub returns-clause-even : goal.returns-clause-even
returns-clause-even c = OnFalse_from _ _ (λ e. c.loop-pointer.invariant.0 ∙ all_even (is_odd_in (ends c.args.parts.now (take c.loop-pointer.pointer-index c.args.pointers.now))) (connected_numbers c.args.parts.now) (sym (ap (ltb 0) (c.loop-pointer.invariant.1 ∙ ap set_marks c.loop-pointer.invariant.0)) ∙ e))
