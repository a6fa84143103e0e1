-- The code's words and inputs as the definitions see them.
use Rattle.depth_grid.specs.Views.{grid_view}
use Rattle.rule_sheet.specs.Views.{sheet_view}
use Rattle.chart_cli.specs.Words.{Node, Sources, Origin, Revision, sources, overview, sample, Command, node, ground, ask, check, make, revise}
use Rattle.chart_cli.specs.Reads.{InputsView, RevisedView}
use Rattle.chart_cli.specs.declared.inputs.Inputs.{Inputs}
use Rattle.chart_cli.specs.declared.words.CommandWords.{CommandWords}
use Rattle.chart_cli.specs.declared.words.CommandWords.TheVariants as words
use Rattle.chart_cli.specs.declared.words.NodeWords.{NodeWords}
use Rattle.chart_cli.specs.declared.words.OriginWords.{OriginWords}
use Rattle.chart_cli.specs.declared.words.OriginWords.TheVariants as origin
use Rattle.chart_cli.specs.declared.revisions.Revised.{Revised}
use Rattle.chart_cli.specs.declared.words.RevisionWords.{RevisionWords}
use Rattle.chart_cli.specs.declared.words.SourceWords.{SourceWords}

abbrev pub node_view : NodeWords → Node
node_view w = record { grid = w.grid.now; row = w.row; col = w.col }

abbrev pub sources_view : SourceWords → Sources
sources_view w = record { grid = w.grid.now; sheet = w.sheet.now }

abbrev pub origin_view : OriginWords → Origin
origin_view (origin.Sources w) = sources (sources_view w)
origin_view (origin.Overview w factor) = overview (sources_view w) factor.number
origin_view (origin.Sample n) = sample n

abbrev pub revision_view : RevisionWords → Revision
revision_view w = record { base = w.base.now; update = w.update.now }

abbrev pub command_view : CommandWords → Command
command_view (words.Node w) = node (node_view w)
command_view (words.Ground w p) = ground (sources_view w) p
command_view (words.Ask cell question) = ask cell.now question
command_view (words.Check cell) = check cell.now
command_view (words.Make w cell) = make (origin_view w) cell.now
command_view (words.Revise w cell) = revise (revision_view w) cell.now

abbrev pub revised_view : Revised → RevisedView
revised_view r = record { chart = r.chart; records = r.records }

abbrev pub inputs_view : Inputs → InputsView
inputs_view i = record { grid = grid_view i.grid; sheet = sheet_view i.sheet }
