use Rattle.mesh_lines_laws.proofs.ChordsApart.{chords_apart, chords_nest}
use Rattle.mesh_lines_laws.proofs.chords_are_apart.Goals as goal

pub returns : goal.returns
returns c = record { nested = chords_nest; apart = chords_apart chords_nest }
