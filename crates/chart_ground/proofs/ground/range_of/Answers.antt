use Rattle.chart_ground.proofs.ground.range_of.Goals as goal

pub unreachable-requires : goal.unreachable-requires
unreachable-requires c = c.in-None.ensures.exact c.requires.some.0 c.requires.some.1
