use Rattle.face_fill.proofs.Classed.{classed_more}
use Rattle.face_fill.proofs.class_bound.class_numbers.Goals as goal

pub loop-item-preserved : goal.loop-item-preserved
loop-item-preserved c = classed_more c.args.table.now c.loop-item.item c.class_number.result c.loop-item.numbers.items c.push.new.self.items c.loop-item.invariant c.class_number.ensures.value c.class_number.ensures.few c.in_ok-push.ensures.items
