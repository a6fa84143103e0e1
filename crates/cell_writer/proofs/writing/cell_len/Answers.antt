use Rattle.std.proofs.Common.{◌∙◌, ap}
use Rattle.std.specs.Option.{unwrap_or}
use Rattle.cell_writer.specs.Sizes.{size_of}
use Rattle.cell_writer.proofs.Lengths.{whole_length}
use Rattle.cell_writer.proofs.writing.cell_len.Goals as goal

pub returns : goal.returns
returns c = c.unwrap_or.ensures ∙ ap (λ size. unwrap_or size 0) (c.cell_size.ensures ∙ ap size_of c.parts.ensures.same ∙ whole_length c.args.chart.now c.requires)
