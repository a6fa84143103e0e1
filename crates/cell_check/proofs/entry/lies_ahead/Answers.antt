use Rattle.std.proofs.Common.{sym, ap₂, ◌∙◌}
use Rattle.cell_check.specs.Joints.{in_order_above, in_order_below}
use Rattle.cell_check.proofs.Aheads.{is_ahead}
use Rattle.cell_check.proofs.entry.lies_ahead.Goals as goal

pub returns-then-is_in_order_below : goal.returns-then-is_in_order_below
returns-then-is_in_order_below c above = is_ahead c.sweeps_of_strips.ensures.lower c.sweeps_of_strips.ensures.upper c.sweeps_of_strips.ensures.back c.sweeps_of_strips.ensures.holds c.args.s c.args.t
    (ap₂ in_order_below (sym c.from_below-s.ensures) (sym c.from_below-t.ensures) ∙ sym c.is_in_order_below.ensures ∙ c.if-is_in_order_below.true)
    (ap₂ in_order_above (sym c.from_below-s.ensures) (sym c.from_below-t.ensures) ∙ sym c.is_in_order_above.ensures ∙ above)
