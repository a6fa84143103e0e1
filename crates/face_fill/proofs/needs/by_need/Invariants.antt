use Rattle.std.proofs.Common.{◌≡◌, ◌+◌, ◌-◌, ◌*◌, ◌≤◌, length}
use Rattle.mesh_definitions.specs.Mesh.{all_cells}
use Rattle.tri_mesh.specs.Cells.{all_of}
use Rattle.tri_mesh.specs.Fields.{field_in}
use Rattle.tri_mesh.specs.Views.{blocks_view}
use Rattle.face_fill.proofs.Halving.{AreCutUpTo}
use Rattle.face_fill.proofs.needs.by_need.Given as goal

abbrev pub invariant-loop-block : goal.invariant-loop-block
invariant-loop-block l = record {
  all : all_of (blocks_view l.blocks) ≡ all_cells (field_in l.ch l.levels);
  number : l.count ≡ length (blocks_view l.blocks).rects;
  few : l.count ≤ 1048576;
  below : l.block ≤ l.count;
  cut : AreCutUpTo (field_in l.ch l.levels) (blocks_view l.blocks).rects l.block;
}

abbrev pub decreases-loop-block : goal.decreases-loop-block
decreases-loop-block l = 2 * (1048576 - l.count) + (l.count - l.block)
