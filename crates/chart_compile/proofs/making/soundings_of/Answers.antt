use Rattle.std.proofs.Common.{◌≡◌, ◌≤◌, ◌^◌, All, Global, Vec, arith, length, subst, sym}
use Rattle.std.proofs.lemmas.Result.{IfOk-weaker}
use Rattle.chart_compile.proofs.Sounded.{few_nodes, few_records, selected_inside}
use Rattle.chart_model.specs.declared.records.Isolated.{Isolated}
use Rattle.built_parts.specs.Nodes.{IsNodeIn, isolated_records}
use Rattle.depth_rounding.specs.Views.{levels_view}
use Rattle.shoal_buffer.specs.Views.{charted_view}
use Rattle.chart_compile.proofs.making.soundings_of.Goals as goal

pub chosen_of-requires-clause-aspect : goal.chosen_of-requires-clause-aspect
chosen_of-requires-clause-aspect c = omega (arith, c.args.sheet.now.one_aspect, c.args.sheet.now.is_sheet.aspect.1)

pub isolated_of-requires-clause-inside : goal.isolated_of-requires-clause-inside
isolated_of-requires-clause-inside c =
    let v = charted_view c.args.ch.now in
    subst (All (IsNodeIn v)) (sym c.deref.ensures.value) (selected_inside v (levels_view c.args.sheet.now.levels) c.args.sheet.now.radii c.in_ok-chosen.chosen.items c.in_ok-chosen.ensures.selection)

pub returns-clause-few : goal.returns-clause-few
returns-clause-few c =
    let v = charted_view c.args.ch.now in
    let g = c.args.ch.now.grid.now in
    let chosen = c.in_ok-chosen.chosen.items in
    let nodes = few_nodes (length chosen) (length v.grid.ys) (length v.grid.xs) c.in_ok-chosen.ensures.few g.rows.few g.columns.few in
    let records = few_records v chosen nodes in
    IfOk-weaker c.isolated_of.result (λ (list : Vec Isolated Global). list.items ≡ isolated_records v c.deref.result.now) (λ (list : Vec Isolated Global). length list.items ≤ 2 ^ 20)
    (λ (list : Vec Isolated Global) (e : list.items ≡ isolated_records v c.deref.result.now). rw (e, c.deref.ensures.value) records) c.isolated_of.ensures
