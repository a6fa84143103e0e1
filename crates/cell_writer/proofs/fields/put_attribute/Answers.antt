use Rattle.cell_writer.proofs.Texts.{is_text_from}
use Rattle.cell_writer.proofs.Values.{on_ok}
use Rattle.cell_writer.proofs.fields.put_attribute.Goals as goal

pub push_attribute-requires : goal.push_attribute-requires
push_attribute-requires c = rw c.as_slice.ensures (is_text_from _ c.requires)

pub returns-clause-fits : goal.returns-clause-fits
returns-clause-fits c = on_ok c.push_attribute.result (c.word_law.ensures, (is_text_from _ c.requires, tt))
