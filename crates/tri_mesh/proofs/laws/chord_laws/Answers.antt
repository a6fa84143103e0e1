use Rattle.tri_mesh.proofs.Deep.{parted}
use Rattle.tri_mesh.proofs.laws.chord_laws.Goals as goal

pub returns : goal.returns
returns c = λ f t k n h in_rows in_cols above most there.
    parted c.line_sides.ensures.back c.line_sides.ensures.round c.chord_sides.ensures.first_leg c.chord_sides.ensures.second_leg c.triangle_pieces.ensures.other_end f h k t.row t.col in_rows in_cols t.upper n above most there
