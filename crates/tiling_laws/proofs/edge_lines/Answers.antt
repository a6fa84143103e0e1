use Rattle.tiling_laws.proofs.Lines.{line_on_edge, edge_on_line, area_on_edge, edges_have_segments}
use Rattle.tiling_laws.proofs.Sides.{traces_part}
use Rattle.tiling_laws.proofs.edge_lines.Goals as goal
use Rattle.plane_laws.proofs.Members.{is_in}

pub returns : goal.returns
returns c = record {
  some = edges_have_segments;
  lines = λ m traces k edges p. (edge_on_line c.line_sides.ensures.on_turned m traces k p edges, line_on_edge c.line_sides.ensures.on_turned m traces k p edges);
  areas = area_on_edge c.line_sides.ensures.on_turned;
  differ = λ m traces h trace s i j. traces_part m traces h trace s (is_in traces trace i) (is_in trace s j);
}
