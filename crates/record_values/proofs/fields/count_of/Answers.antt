use Rattle.std.proofs.Common.{take, length-take, arith}
use Rattle.record_values.proofs.FieldSteps.{bodies_few}
use Rattle.record_values.proofs.fields.count_of.Goals as goal

pub overflow_add-count : goal.overflow_add-count
overflow_add-count c =
    omega (arith, bodies_few c.args.tag (take c.loop-field.field-index c.args.fields.now), length-take c.loop-field.field-index c.args.fields.now, c.loop-field.invariant, c.loop-field-test.true, c.loop-field.auto.field-index-end)
