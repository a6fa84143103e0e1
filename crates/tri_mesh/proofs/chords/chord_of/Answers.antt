use Rattle.std.proofs.Common.{ap₂, sym, ◌∙◌, arith}
use Rattle.mesh_definitions.specs.Field.{Field}
use Rattle.plane_geom.specs.declared.Seg.{Seg}
use Rattle.tri_mesh.specs.Fields.{field_in}
use Rattle.tri_mesh.specs.Triangles.{AreBands}
use Rattle.tri_mesh.proofs.Walking.{legs_known}
use Rattle.tri_mesh.proofs.chords.chord_of.Goals as goal

pub crossing_on-requires-clause-u_band : goal.crossing_on-requires-clause-u_band
crossing_on-requires-clause-u_band c =
    let h : AreBands (field_in c.args.ch.now c.args.levels.now) c.args.tri c.args.bands = c.requires.bands in
    let legs = legs_known (field_in c.args.ch.now c.args.levels.now) c.args.tri c.args.k c.corners_of-at.result c.args.bands c.leaving-back.result c.entering-deeper.result c.corners_of-at.ensures h c.leaving-back.ensures c.entering-deeper.ensures (omega (arith, h.least, c.requires.above)) (omega (arith, h.greatest, c.requires.most)) in
    legs.back_up.band

pub crossing_on-requires-clause-v_band : goal.crossing_on-requires-clause-v_band
crossing_on-requires-clause-v_band c =
    let h : AreBands (field_in c.args.ch.now c.args.levels.now) c.args.tri c.args.bands = c.requires.bands in
    let legs = legs_known (field_in c.args.ch.now c.args.levels.now) c.args.tri c.args.k c.corners_of-at.result c.args.bands c.leaving-back.result c.entering-deeper.result c.corners_of-at.ensures h c.leaving-back.ensures c.entering-deeper.ensures (omega (arith, h.least, c.requires.above)) (omega (arith, h.greatest, c.requires.most)) in
    legs.back_up.below

pub crossing_on-requires-2-clause-u_band : goal.crossing_on-requires-2-clause-u_band
crossing_on-requires-2-clause-u_band c =
    let h : AreBands (field_in c.args.ch.now c.args.levels.now) c.args.tri c.args.bands = c.requires.bands in
    let legs = legs_known (field_in c.args.ch.now c.args.levels.now) c.args.tri c.args.k c.corners_of-at.result c.args.bands c.leaving-back.result c.entering-deeper.result c.corners_of-at.ensures h c.leaving-back.ensures c.entering-deeper.ensures (omega (arith, h.least, c.requires.above)) (omega (arith, h.greatest, c.requires.most)) in
    legs.deeper_up.band

pub crossing_on-requires-2-clause-v_band : goal.crossing_on-requires-2-clause-v_band
crossing_on-requires-2-clause-v_band c =
    let h : AreBands (field_in c.args.ch.now c.args.levels.now) c.args.tri c.args.bands = c.requires.bands in
    let legs = legs_known (field_in c.args.ch.now c.args.levels.now) c.args.tri c.args.k c.corners_of-at.result c.args.bands c.leaving-back.result c.entering-deeper.result c.corners_of-at.ensures h c.leaving-back.ensures c.entering-deeper.ensures (omega (arith, h.least, c.requires.above)) (omega (arith, h.greatest, c.requires.most)) in
    legs.deeper_up.below

pub returns : goal.returns
returns c =
    let f : Field = field_in c.args.ch.now c.args.levels.now in
    let h : AreBands f c.args.tri c.args.bands = c.requires.bands in
    let legs = legs_known f c.args.tri c.args.k c.corners_of-at.result c.args.bands c.leaving-back.result c.entering-deeper.result c.corners_of-at.ensures h c.leaving-back.ensures c.entering-deeper.ensures (omega (arith, h.least, c.requires.above)) (omega (arith, h.greatest, c.requires.most)) in
    ap₂ (λ i j. let s : Seg = record { a = i; b = j } in s) (c.crossing_on.ensures ∙ sym legs.a) (c.crossing_on-2.ensures ∙ sym legs.b)
