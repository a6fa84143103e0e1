use Rattle.std.proofs.Common.{◌≡◌, ℕ, ◌<◌, None, length, get_or}
use Rattle.mesh_definitions.specs.Field.{node_band}
use Rattle.face_fill.specs.Corners.{node_at}
use Rattle.tri_mesh.specs.Fields.{field_in}
use Rattle.face_fill.proofs.band_table.bands_of.Given as goal

abbrev pub invariant-loop-place : goal.invariant-loop-place
invariant-loop-place l = record {
  full : length l.bands.items ≡ l.place;
  each : (k : ℕ) → k < l.place → get_or l.bands.items k None ≡ node_band (field_in l.ch l.levels) (node_at l.rect k);
}
