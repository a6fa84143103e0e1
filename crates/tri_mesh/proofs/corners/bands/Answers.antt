use Rattle.std.proofs.Common.{sym, ◌∙◌}
use Rattle.tri_mesh.specs.Fields.{field_in}
use Rattle.mesh_definitions.specs.Field.{Field}
use Rattle.tri_mesh.proofs.Bands.{band_known, are_bands}
use Rattle.tri_mesh.proofs.corners.bands.Goals as goal

pub returns-clause-bands : goal.returns-clause-bands
returns-clause-bands c =
    let f : Field = field_in c.args.ch.now c.args.levels.now in
    let at = c.corners_of-at.result in
    are_bands f c.args.tri at (record { first = c.in-Some.first; second = c.in-Some-band_of.second; third = c.in-Some-band_of-2.third }) c.corners_of-at.ensures
    (band_known f at.first c.in-Some.first (sym c.band_of.ensures.value ∙ c.in-Some.is))
    (band_known f at.second c.in-Some-band_of.second (sym c.band_of-2.ensures.value ∙ c.in-Some-band_of.is))
    (band_known f at.third c.in-Some-band_of-2.third (sym c.band_of-3.ensures.value ∙ c.in-Some-band_of-2.is))
    c.in-Some.ensures.small c.in-Some-band_of.ensures.small c.in-Some-band_of-2.ensures.small
