-- What faces and edges of the code show, taken together.
use Rattle.std.specs.Prelude.{ℤ, List}
use Rattle.boundary_arcs.specs.Views.{arcs_view}
use Rattle.boundary_arcs.specs.declared.arc.Arc.{Arc}
use Rattle.chart_compile.specs.declared.topology.Topology.{Topology}
use Rattle.depth_rounding.specs.Views.{levels_view}
use Rattle.face_fill.specs.Numbered.{FacesView}
use Rattle.face_fill.specs.Views.{faces_view}

-- the faces, and the edges between them
abbrev pub faces_in : Topology → FacesView
faces_in t = faces_view t.faces.now

abbrev pub arcs_in : Topology → List Arc
arcs_in t = (arcs_view t.arcs.now).arcs

-- the levels between the faces' bands
abbrev pub levels_in : Topology → List ℤ
levels_in t = levels_view t.levels.now
