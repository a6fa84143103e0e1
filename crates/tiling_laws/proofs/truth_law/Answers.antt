use Rattle.mesh_definitions.specs.Field.{field_of}
use Rattle.tiling_laws.proofs.Whole.{field_of_grid, whole}
use Rattle.tiling_laws.proofs.truth_law.Goals as goal
use Rattle.tiling_laws.specs.Truth.{TruthFromMesh}

pub returns : goal.returns
returns c =
    let from_mesh : TruthFromMesh = whole c.edge_lines.ensures.some c.edge_lines.ensures.lines c.tiling_law.ensures c.depth_laws.ensures.kinds c.depth_laws.ensures.soundings c.depth_laws.ensures.areas c.sound_edges.ensures.once c.sound_edges.ensures.parting in
    record {
      from_mesh = from_mesh;
      fields = field_of_grid;
      from_fields = λ sound g s k grid sheet is. from_mesh g s k sheet is (sound (field_of is.view s.levels) is.block (field_of_grid g s is.view grid sheet is.generalised));
    }
