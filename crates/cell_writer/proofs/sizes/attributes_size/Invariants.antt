use Rattle.std.proofs.Common.{◌≡◌, ◌+◌, ◌-◌, ◌^◌, length, take}
use Rattle.std.specs.Prelude.{min}
use Rattle.std.specs.List.{sum_by}
use Rattle.chart_model.specs.declared.records.Attribute.{Attribute}
use Rattle.cell_writer.proofs.sizes.attributes_size.Given as goal

abbrev pub invariant-loop-attribute : goal.invariant-loop-attribute
invariant-loop-attribute l = l.total ≡ min (15 + sum_by (λ (a : Attribute). length a.text + 3) (take l.attribute-index l.attributes)) (2 ^ 64 - 1)
