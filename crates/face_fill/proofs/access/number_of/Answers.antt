use Rattle.std.proofs.Common.{◌≡◌, ◌-◌, ap₂, ◌∙◌, arith}
use Rattle.face_fill.specs.Items.{tri_of}
use Rattle.face_fill.specs.Legs.{has_it}
use Rattle.tri_mesh.specs.Cells.{cells}
use Rattle.tri_mesh.specs.TriNumbers.{tri_place}
use Rattle.face_fill.proofs.access.number_of.Goals as goal

pub tri_number-requires-clause-inside : goal.tri_number-requires-clause-inside
tri_number-requires-clause-inside c = has_it (cells c.args.rows c.args.cols) c.args.tri.row c.args.tri.col (record { north = omega arith; south = omega (arith, c.requires.row); west = omega arith; east = omega (arith, c.requires.col) })

pub returns : goal.returns
returns c =
    let row : c.args.tri.row - 0 ≡ c.args.tri.row = omega arith in
    let col : c.args.tri.col - 0 ≡ c.args.tri.col = omega arith in
    c.tri_number.ensures ∙ ap₂ (λ i j. tri_place c.args.cols (tri_of i j c.args.tri.upper)) row col
