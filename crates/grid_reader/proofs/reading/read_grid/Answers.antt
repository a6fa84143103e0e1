use Rattle.std.proofs.Common.{drop}
use Rattle.depth_grid.specs.Views.{grid_view}
use Rattle.grid_reader.specs.Words.{words}
use Rattle.grid_reader.proofs.StandsLaws.{header_fault_stands, given_stands, given_none}
use Rattle.grid_reader.proofs.reading.read_grid.Goals as goal

pub returns-in-Ok-clause-stands : goal.returns-in-Ok-clause-stands
returns-in-Ok-clause-stands c =
    given_stands grid_view c.args.positive c.args.text.now c.in-Ok.header.found (words c.in-Ok.header.end (drop c.in-Ok.header.end c.args.text.now)) c.in-Ok.ensures.found c.in-Ok.ensures.values c.grid_from.result c.grid_from.ensures.gives

pub returns-in-Ok-clause-none : goal.returns-in-Ok-clause-none
returns-in-Ok-clause-none c =
    given_none grid_view c.args.positive c.args.text.now c.in-Ok.header.found (words c.in-Ok.header.end (drop c.in-Ok.header.end c.args.text.now)) c.in-Ok.ensures.found c.in-Ok.ensures.values c.grid_from.result c.grid_from.ensures.gives

pub returns-in-Err-clause-none : goal.returns-in-Err-clause-none
returns-in-Err-clause-none c = λ n. header_fault_stands c.args.positive c.args.text.now c.in-Err.fault c.in-Err.ensures.fault
