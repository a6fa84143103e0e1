use Rattle.std.proofs.Common.{◌≡◌, ℕ, ◌<◌, None, length, get_or}
use Rattle.mesh_definitions.specs.Field.{node_band}
use Rattle.face_fill.specs.BandTableView.{field_by}
use Rattle.face_fill.specs.Corners.{node_at}
use Rattle.face_fill.proofs.band_table.bands_within.Given as goal

abbrev pub invariant-loop-place : goal.invariant-loop-place
invariant-loop-place l = record {
  full : length l.bands.items ≡ l.place;
  each : (k : ℕ) → k < l.place → get_or l.bands.items k None ≡ node_band (field_by l.all) (node_at l.rect k);
}
