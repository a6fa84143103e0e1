use Rattle.std.proofs.Common.{◌≡◌, ℕ, ◌*◌, true, false, List, subst, arith}
use Rattle.std.specs.List.{range_with_len, flat_map}
use Rattle.boundary_arcs.specs.Collecting.{Adds, HasRoom, cell_drawn, tri_at, tri_drawn}
use Rattle.boundary_arcs.specs.declared.net.Drawn.{Drawn}
use Rattle.boundary_arcs.proofs.Adding.{adds_none, adds_then, adds_within, room_after}
use Rattle.boundary_arcs.proofs.Spans.{adds_next}
use Rattle.boundary_arcs.proofs.chord_lines.add_cells.Goals as goal
use Rattle.mesh_definitions.specs.Field.{Field}
use Rattle.face_fill.specs.Views.{faces_view}
use Rattle.tri_mesh.specs.Fields.{field_in}

pub loop-col-init : goal.loop-col-init
loop-col-init c = adds_none c.args.net.now

pub add_tri-requires-clause-room : goal.add_tri-requires-clause-room
add_tri-requires-clause-room c =
    room_after (40 * c.loop-col.col) 20 40960 c.args.net.now c.loop-col.net _ (omega (arith, c.loop-col-test.true, c.requires.few)) c.requires.room c.loop-col.invariant

pub add_tri-requires-in-loop-col-clause-room : goal.add_tri-requires-in-loop-col-clause-room
add_tri-requires-in-loop-col-clause-room c =
    let before : HasRoom 40 c.loop-col.net = room_after (40 * c.loop-col.col) 40 40960 c.args.net.now c.loop-col.net _ (omega (arith, c.loop-col-test.true, c.requires.few)) c.requires.room c.loop-col.invariant in
    room_after 20 20 40 c.loop-col.net c.add_tri.new.net _ (omega arith) before c.in_ok-add_tri.ensures

pub loop-col-preserved : goal.loop-col-preserved
loop-col-preserved c =
    let f : Field = field_in c.args.ch.now c.args.levels.now in
    let v = faces_view c.args.faces.now in
    let row = c.args.row in
    let col = c.loop-col.col in
    let both : Adds 40 c.loop-col.net c.add_tri-in-loop-col.new.net (cell_drawn f v row col) =
    adds_then 20 20 c.loop-col.net c.add_tri.new.net c.add_tri-in-loop-col.new.net (tri_drawn f v (tri_at row col true)) (tri_drawn f v (tri_at row col false)) c.in_ok-add_tri.ensures c.in_ok-add_tri-2.ensures in
    adds_next 40 col c.args.net.now c.loop-col.net c.add_tri-in-loop-col.new.net (cell_drawn f v row) c.loop-col.invariant both

pub returns : goal.returns
returns c =
    let f : Field = field_in c.args.ch.now c.args.levels.now in
    let v = faces_view c.args.faces.now in
    let g : ℕ → List Drawn = cell_drawn f v c.args.row in
    let all : c.loop-col.col ≡ c.args.cols = omega (arith, c.loop-col-test.false, c.loop-col.auto.col-end) in
    let listed = subst (λ n. Adds (40 * c.loop-col.col) c.args.net.now c.loop-col.net (flat_map g (range_with_len 0 n))) all c.loop-col.invariant in
    adds_within (40 * c.loop-col.col) 40960 c.args.net.now c.loop-col.net _ (omega (arith, all, c.requires.few)) listed
