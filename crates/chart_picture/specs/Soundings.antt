-- Soundings as numbers in metres.
use Rattle.std.specs.Prelude.{codes, ℕ, ◌+◌, ◌*◌, ◌/◌, ◌%◌, cond, eqb, ℤ, pos, unsigned_abs, int_lt, List, [], ◌++◌, flat_map, decimal}
use Rattle.chart_model.specs.Tally.{soundings_of}
use Rattle.chart_model.specs.declared.records.Isolated.{Isolated}
use Rattle.chart_model.specs.declared.records.Sounding.{Sounding}
use Rattle.chart_picture.specs.Frames.{right_of, down_of}
use Rattle.chart_picture.specs.declared.frame.Frame.{Frame}

-- tenths of a metre stand lowered behind the metres, where there are any
unfoldable pub tenths_text : ℕ → ℕ → List ℕ
tenths_text mm tenths = cond (eqb tenths 0) [] (codes "<tspan class=\"d\" dy=\"" ++ (decimal (mm * 6 / 10) ++ (codes "\">" ++ (decimal tenths ++ codes "</tspan>"))))

-- a drying height is underlined
unfoldable pub number_style : ℤ → List ℕ
number_style dm = cond (int_lt dm (pos 0)) (codes "<text class=\"u\" x=\"") (codes "<text x=\"")

-- a number stands in the middle of its place
unfoldable pub metres_text : Frame → Sounding → List ℕ
metres_text f s = decimal (right_of f s.at.x) ++ (codes "\" y=\"" ++ (decimal (down_of f s.at.y + f.mm * 7 / 10) ++ (codes "\">" ++ decimal (unsigned_abs s.depth / 10))))

unfoldable pub sounding_text : Frame → Sounding → List ℕ
sounding_text f s = number_style s.depth ++ (metres_text f s ++ (tenths_text f.mm (unsigned_abs s.depth % 10) ++ codes "</text>\n"))

unfoldable pub node_text : Frame → Isolated → List ℕ
node_text f n = flat_map (sounding_text f) (soundings_of n)
