use Rattle.std.proofs.Common.{ap, subst, ◌∙◌, rules, FitsSigned, w32}
use Rattle.std.proofs.lemmas.Int.{to_z-of_z}
use Rattle.mesh_definitions.specs.Ground.{IsGround}
use Rattle.mesh_definitions.specs.declared.Class.TheVariants.{Band}
use Rattle.depth_rounding.specs.Views.{levels_view}
use Rattle.shoal_buffer.specs.Views.{charted_view}
use Rattle.tri_mesh.specs.Cells.{block_in}
use Rattle.tri_mesh.specs.Fields.{field_in}
use Rattle.tri_mesh.specs.Views.{blocks_view}
use Rattle.tri_mesh.specs.declared.kinds.Ground.TheVariants.{Inside}
use Rattle.chart_ground.proofs.Charted.{some_charted}
use Rattle.chart_ground.proofs.Known.{band_of_ground}
use Rattle.chart_ground.proofs.Told.{IsTold, told_outside, told_line, told_unsurveyed, told_band}
use Rattle.chart_ground.proofs.ground.answer_at.Goals as goal

pub range_of-shoaler-requires-clause-some : goal.range_of-shoaler-requires-clause-some
range_of-shoaler-requires-clause-some c =
    let is = c.in-Inside-Band.is ∙ ap Inside c.in-Inside-Band.field-0-is in
    let real : IsGround (field_in c.args.ch.now c.args.levels.now) c.args.p (Band c.in-Inside-Band.band) = c.class_at.ensures.inside _ is in
    some_charted (charted_view c.args.ch.now) (levels_view c.args.levels.now) real.tri (band_of_ground _ _ _ real).0

pub range_of-shoaler-requires-clause-known : goal.range_of-shoaler-requires-clause-known
range_of-shoaler-requires-clause-known c =
    let is = c.in-Inside-Band.is ∙ ap Inside c.in-Inside-Band.field-0-is in
    let real : IsGround (field_in c.args.ch.now c.args.levels.now) c.args.p (Band c.in-Inside-Band.band) = c.class_at.ensures.inside _ is in
    (band_of_ground _ _ _ real).1

pub returns-in-Outside : goal.returns-in-Outside
returns-in-Outside c =
    let block = block_in (blocks_view c.args.blocks.now) in
    let told : IsTold (charted_view c.args.ch.now) (levels_view c.args.levels.now) block c.args.p c.class_at.result = record { outside = c.class_at.ensures.outside; line = c.class_at.ensures.line; inside = c.class_at.ensures.inside } in
    told_outside _ _ _ _ (subst (IsTold _ _ _ _) c.in-Outside.is told)

pub returns-in-Line : goal.returns-in-Line
returns-in-Line c =
    let block = block_in (blocks_view c.args.blocks.now) in
    let told : IsTold (charted_view c.args.ch.now) (levels_view c.args.levels.now) block c.args.p c.class_at.result = record { outside = c.class_at.ensures.outside; line = c.class_at.ensures.line; inside = c.class_at.ensures.inside } in
    told_line _ _ _ _ (subst (IsTold _ _ _ _) c.in-Line.is told)

pub returns-in-Inside-Unsurveyed : goal.returns-in-Inside-Unsurveyed
returns-in-Inside-Unsurveyed c =
    let block = block_in (blocks_view c.args.blocks.now) in
    let told : IsTold (charted_view c.args.ch.now) (levels_view c.args.levels.now) block c.args.p c.class_at.result = record { outside = c.class_at.ensures.outside; line = c.class_at.ensures.line; inside = c.class_at.ensures.inside } in
    told_unsurveyed _ _ _ _ (subst (IsTold _ _ _ _) (c.in-Inside-Unsurveyed.is ∙ ap Inside c.in-Inside-Unsurveyed.field-0-is) told)

pub returns-in-Inside-Band : goal.returns-in-Inside-Band
returns-in-Inside-Band c =
    let block = block_in (blocks_view c.args.blocks.now) in
    let told : IsTold (charted_view c.args.ch.now) (levels_view c.args.levels.now) block c.args.p c.class_at.result = record { outside = c.class_at.ensures.outside; line = c.class_at.ensures.line; inside = c.class_at.ensures.inside } in
    let low_fits : FitsSigned w32 c.range_of-shoaler.result.0 = search rules in
    let high_fits : FitsSigned w32 c.range_of-shoaler.result.1 = search rules in
    simp to_z-of_z (told_band _ _ _ _ c.in-Inside-Band.band _ _ (subst (IsTold _ _ _ _) (c.in-Inside-Band.is ∙ ap Inside c.in-Inside-Band.field-0-is) told) c.range_of-shoaler.ensures)
