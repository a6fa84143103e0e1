use Rattle.chart_model.proofs.Wholeness.{connected_once}
use Rattle.chart_model.proofs.model.checked.Goals as goal

pub unclosed-requires-clause-once : goal.unclosed-requires-clause-once
unclosed-requires-clause-once c = connected_once c.args.parts.now c.in_ok-indexes.ensures.once
