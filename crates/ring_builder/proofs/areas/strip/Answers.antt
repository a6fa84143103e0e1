use Rattle.std.proofs.Common.{◌∙◌, ap₂, ◌*ℤ◌}
use Rattle.ring_builder.proofs.Products.{product_fits, product_is, product_small}
use Rattle.ring_builder.proofs.areas.strip.Goals as goal

pub overflow_mul-result : goal.overflow_mul-result
overflow_mul-result c = product_fits c.width-across.result c.height-up.result c.width-across.ensures.small c.height-up.ensures.small

pub returns-clause-value : goal.returns-clause-value
returns-clause-value c =
    product_is c.width-across.result c.height-up.result c.width-across.ensures.small c.height-up.ensures.small ∙ ap₂ ◌*ℤ◌ c.width-across.ensures.value c.height-up.ensures.value

pub returns-clause-small : goal.returns-clause-small
returns-clause-small c = product_small c.width-across.result c.height-up.result c.width-across.ensures.small c.height-up.ensures.small
