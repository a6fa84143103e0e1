-- What is said of a point by a grid and a sheet.
use Rattle.std.specs.Prelude.{codes, ℕ, List, ◌++◌}
use Rattle.chart_ground.specs.declared.answer.GroundAt.TheVariants.{Outside, Edge, Depth, Unsurveyed}
use Rattle.chart_ground.specs.declared.answer.GroundAt.{GroundAt}
use Rattle.exact_num.specs.Printed.{decimetres}

-- the line of what lies at a point: a depth area with its range in metres, an unsurveyed area, or a place that is in no area
abbrev pub ground_line : GroundAt → List ℕ
ground_line Outside = codes "outside\n"
ground_line Edge = codes "edge\n"
ground_line (Depth shoaler deeper) = codes "DEPARE " ++ (decimetres shoaler ++ (codes " " ++ (decimetres deeper ++ codes "\n")))
ground_line Unsurveyed = codes "UNSARE\n"
