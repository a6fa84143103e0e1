use Rattle.mesh_definitions.specs.Mesh.{all_cells}
use Rattle.mesh_ground_laws.proofs.fields_are_sound.Goals as goal

pub returns : goal.returns
returns c = record {
  sound = λ f block h. record {
    counts = record {
      pieces = c.piece_laws.ensures.once f (all_cells f) block;
      counts = c.piece_counts.ensures.from_zero f block h;
      within_coverage = c.outline_counts.ensures.within f block h;
      beyond_coverage = c.outline_counts.ensures.beyond f block h;
      lines_inside = c.line_places.ensures.inside f block h;
      counted = c.ground_laws.ensures.counted f block h;
      one_class = c.ground_laws.ensures.one_class f block h;
    };
    nodes = c.mesh_nodes.ensures.nodes f block h;
    lines = c.mesh_lines.ensures.lines f block h;
    outline = c.mesh_lines.ensures.outline f block h;
  };
}
