use Rattle.mesh_lines_laws.proofs.Apart.{fields_keep_lines}
use Rattle.mesh_lines_laws.proofs.Outline.{fields_keep_outline}
use Rattle.mesh_lines_laws.proofs.mesh_lines.Goals as goal

pub returns : goal.returns
returns c = record { lines = fields_keep_lines; outline = fields_keep_outline }
