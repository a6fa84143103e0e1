-- What edges of the code show.
use Rattle.boundary_arcs.specs.Edges.{ArcsView}
use Rattle.boundary_arcs.specs.declared.all_arcs.Arcs.{Arcs}

abbrev pub arcs_view : Arcs → ArcsView
arcs_view s = record { nodes = s.nodes.items; arcs = s.arcs.items; faces = s.faces }
