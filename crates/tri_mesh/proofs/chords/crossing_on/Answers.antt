use Rattle.std.proofs.Common.{◌≡◌, ◌-◌, w32, FitsSigned, to_z, of_z, ap, ap₂, ◌∙◌, arith, rules}
use Rattle.std.specs.Prelude.{slice_index}
use Rattle.std.proofs.lemmas.Int.{to_z-of_z}
use Rattle.mesh_definitions.specs.Field.{Field}
use Rattle.plane_geom.specs.declared.Point.{Point}
use Rattle.depth_grid.specs.Grid.{place}
use Rattle.tri_mesh.specs.Legs.{along_line}
use Rattle.tri_mesh.specs.Fields.{field_in}
use Rattle.tri_mesh.proofs.Chording.{slot_at, slot_below, point_on}
use Rattle.tri_mesh.proofs.chords.crossing_on.Goals as goal

pub along-requires-2-clause-within : goal.along-requires-2-clause-within
along-requires-2-clause-within c =
    let f : Field = field_in c.args.ch.now c.args.levels.now in
    let l = c.args.leg in
    let s = c.slots_between in
    let at = slot_at f l.u l.v l.band c.args.k s.result s.new.into c.requires.u_data c.requires.v_data c.requires.u_band c.requires.above c.requires.v_band s.ensures.count s.ensures.each in
    let r = slot_below f l.u l.v l.band c.args.k c.args.levels.now.are_levels.few s.ensures.several c.requires.u_band c.requires.above c.requires.v_band in
    let e = c.steps_of_line-steps.ensures.value in
    omega (arith, at, r, e)

pub returns : goal.returns
returns c =
    let f : Field = field_in c.args.ch.now c.args.levels.now in
    let l = c.args.leg in
    let s = c.slots_between in
    let at = slot_at f l.u l.v l.band c.args.k s.result s.new.into c.requires.u_data c.requires.v_data c.requires.u_band c.requires.above c.requires.v_band s.ensures.count s.ensures.each in
    let x_fits : FitsSigned w32 c.along.result = search rules in
    let y_fits : FitsSigned w32 c.along-2.result = search rules in
    let x_same : to_z w32 (of_z w32 c.along.result) ≡ c.along.result = simp to_z-of_z in
    let y_same : to_z w32 (of_z w32 c.along-2.result) ≡ c.along-2.result = simp to_z-of_z in
    let g = c.grid-grid.ensures in
    let slot = slice_index s.new.into (c.args.k - l.band - 1) in
    let steps = c.steps_of_line-steps.result in
    let f1 : FitsSigned w32 c.x.result = search rules in
    let f2 : FitsSigned w32 c.x-2.result = search rules in
    let f3 : FitsSigned w32 c.y.result = search rules in
    let f4 : FitsSigned w32 c.y-2.result = search rules in
    let raw_x : c.along.result ≡ along_line (record { from = c.x.result; to = c.x-2.result; steps = steps }) slot = simp to_z-of_z at c.along.ensures in
    let raw_y : c.along-2.result ≡ along_line (record { from = c.y.result; to = c.y-2.result; steps = steps }) slot = simp to_z-of_z at c.along-2.ensures in
    let on_x = raw_x ∙ ap₂ (λ i j. along_line (record { from = i; to = j; steps = steps }) slot) (c.x.ensures ∙ ap (λ v. place v.xs l.u.col) g) (c.x-2.ensures ∙ ap (λ v. place v.xs l.v.col) g) in
    let on_y = raw_y ∙ ap₂ (λ i j. along_line (record { from = i; to = j; steps = steps }) slot) (c.y.ensures ∙ ap (λ v. place v.ys l.u.row) g) (c.y-2.ensures ∙ ap (λ v. place v.ys l.v.row) g) in
    ap₂ (λ i j. let p : Point = record { x = i; y = j } in p) x_same y_same
    ∙ point_on f l.u l.v l.band c.args.k c.steps_of_line-steps.result (slice_index s.new.into (c.args.k - l.band - 1)) c.along.result c.along-2.result
    c.steps_of_line-steps.ensures.value at c.requires.u_band c.requires.above c.requires.v_band on_x on_y
