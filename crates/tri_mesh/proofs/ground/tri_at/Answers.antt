use Rattle.std.proofs.Common.{◌+◌, ℤ, pos, ◌≤ℤ◌, ◌<ℤ◌, ap, ap₂, subst, ◌∙◌, rules}
use Rattle.mesh_definitions.specs.Field.{Field, field_of}
use Rattle.plane_geom.specs.Geom.{cross_of}
use Rattle.shoal_buffer.specs.Views.{charted_view}
use Rattle.tri_mesh.specs.Legs.{spot}
use Rattle.tri_mesh.proofs.Signs.{InCell, in_upper, in_lower}
use Rattle.tri_mesh.proofs.ground.tri_at.Goals as goal

pub returns-then-cross-ge0-clause-has : goal.returns-then-cross-ge0-clause-has
returns-then-cross-ge0-clause-has c = λ levels.
    let v = charted_view c.args.ch.now in
    let f : Field = field_of v levels in
    let cell : InCell f c.args.row c.args.col c.args.p = record { west = c.requires.west; east = c.requires.east; north = c.requires.north; south = c.requires.south } in
    let known : pos 0 ≤ℤ c.cross.result = search rules in
    let south_west = c.place_of-south_west.ensures ∙ ap (λ g. spot g (record { row = c.args.row + 1; col = c.args.col })) c.grid-grid.ensures in
    let north_east = c.place_of-north_east.ensures ∙ ap (λ g. spot g (record { row = c.args.row; col = c.args.col + 1 })) c.grid-grid.ensures in
    let same = c.cross.ensures ∙ ap₂ (λ a b. cross_of a b c.args.p) south_west north_east in
    let side : pos 0 ≤ℤ cross_of (spot v.grid (record { row = c.args.row + 1; col = c.args.col })) (spot v.grid (record { row = c.args.row; col = c.args.col + 1 })) c.args.p = subst (λ (z : ℤ). pos 0 ≤ℤ z) same known in
    in_upper f c.args.row c.args.col c.args.p cell c.line_sides.ensures.back side

pub returns-else-cross-ge0-clause-has : goal.returns-else-cross-ge0-clause-has
returns-else-cross-ge0-clause-has c = λ levels.
    let v = charted_view c.args.ch.now in
    let f : Field = field_of v levels in
    let cell : InCell f c.args.row c.args.col c.args.p = record { west = c.requires.west; east = c.requires.east; north = c.requires.north; south = c.requires.south } in
    let known : c.cross.result <ℤ pos 0 = search rules in
    let south_west = c.place_of-south_west.ensures ∙ ap (λ g. spot g (record { row = c.args.row + 1; col = c.args.col })) c.grid-grid.ensures in
    let north_east = c.place_of-north_east.ensures ∙ ap (λ g. spot g (record { row = c.args.row; col = c.args.col + 1 })) c.grid-grid.ensures in
    let same = c.cross.ensures ∙ ap₂ (λ a b. cross_of a b c.args.p) south_west north_east in
    let side : cross_of (spot v.grid (record { row = c.args.row + 1; col = c.args.col })) (spot v.grid (record { row = c.args.row; col = c.args.col + 1 })) c.args.p <ℤ pos 0 = subst (λ (z : ℤ). z <ℤ pos 0) same known in
    in_lower f c.args.row c.args.col c.args.p cell side
