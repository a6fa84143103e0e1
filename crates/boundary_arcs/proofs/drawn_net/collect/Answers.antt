use Rattle.std.proofs.Common.{◌≡◌, ℕ, ◌-◌, ◌≤◌, ◌++◌, List, length, sym, ap, subst, ◌∙◌, arith}
use Rattle.boundary_arcs.specs.Collecting.{chords_drawn, way_drawn}
use Rattle.boundary_arcs.specs.Nets.{AreLinesOf}
use Rattle.boundary_arcs.specs.declared.net.Drawn.{Drawn}
use Rattle.boundary_arcs.specs.declared.net.Net.{Net}
use Rattle.boundary_arcs.proofs.Adding.{adds_then, stands_for}
use Rattle.boundary_arcs.proofs.Whole.{whole_drawn}
use Rattle.boundary_arcs.proofs.drawn_net.collect.Goals as goal
use Rattle.mesh_definitions.specs.Faces.{borders}
use Rattle.mesh_definitions.specs.Field.{Field}
use Rattle.mesh_definitions.specs.Mesh.{all_cells}
use Rattle.mesh_definitions.specs.Pieces.{Mesh, whole_mesh}
use Rattle.mesh_definitions.specs.declared.Way.TheVariants.{Across, Down, Slant}
use Rattle.face_fill.specs.Views.{faces_view}
use Rattle.plane_laws.specs.Borders.{HasPieces}
use Rattle.tri_mesh.specs.Cells.{block_in}
use Rattle.tri_mesh.specs.Fields.{field_in}
use Rattle.tri_mesh.specs.Views.{blocks_view}

pub returns : goal.returns
returns c =
    let f : Field = field_in c.args.ch.now c.args.levels.now in
    let v = faces_view c.args.faces.now in
    let block : ℕ → ℕ → ℕ = block_in (blocks_view c.args.blocks.now) in
    let m : Mesh = whole_mesh f block in
    let rows = c.rows-rows.result in
    let cols = c.cols-cols.result in
    let all_rows : f.rows ≡ rows = sym (c.rows-rows.ensures ∙ ap (λ g. length g.ys) c.grid.ensures) in
    let all_cols : f.cols ≡ cols = sym (c.cols-cols.ensures ∙ ap (λ g. length g.xs) c.grid-2.ensures) in
    let some_rows : 1 ≤ rows = omega (arith, c.requires.faces.rows, all_rows) in
    let some_cols : 1 ≤ cols = omega (arith, c.requires.faces.cols, all_cols) in
    let once : HasPieces (borders m) m.pieces = c.piece_laws.ensures.once f (all_cells f) block in
    let order = whole_drawn f v block c.face_laws.ensures.apart once c.requires.faces.faces rows cols all_rows all_cols some_rows some_cols in
    let empty : Net = record { points = c.new.result; lines = c.new-2.result } in
    let across : List Drawn = way_drawn f v Across rows (cols - 1) in
    let down : List Drawn = way_drawn f v Down (rows - 1) cols in
    let slant : List Drawn = way_drawn f v Slant (rows - 1) (cols - 1) in
    let chords : List Drawn = chords_drawn f v (rows - 1) (cols - 1) in
    let two = adds_then 22063125 22063125 empty c.add_way.new.net c.add_way-2.new.net across down c.in_ok-add_way.ensures c.in_ok-add_way-2.ensures in
    let three = adds_then 44126250 22063125 empty c.add_way-2.new.net c.add_way-3.new.net (across ++ down) slant two c.in_ok-add_way-3.ensures in
    let all = adds_then 66189375 41943040 empty c.add_way-3.new.net c.add_chords.new.net ((across ++ down) ++ slant) chords three c.in_ok-add_chords.ensures in
    let stands = stands_for 108132415 empty c.add_chords.new.net (((across ++ down) ++ slant) ++ chords) c.new.ensures.len c.new-2.ensures.items (omega arith) all in
    subst (AreLinesOf c.add_chords.new.net.points.keys c.add_chords.new.net.lines.items) (sym order) stands
