use Rattle.std.proofs.Common.{◌≡◌, ℕ, ◌*◌, List, subst, arith}
use Rattle.std.specs.List.{range_with_len, flat_map}
use Rattle.boundary_arcs.specs.Collecting.{Adds, cells_drawn}
use Rattle.boundary_arcs.specs.declared.net.Drawn.{Drawn}
use Rattle.boundary_arcs.proofs.Adding.{adds_none, adds_within, room_after}
use Rattle.boundary_arcs.proofs.Spans.{adds_next}
use Rattle.boundary_arcs.proofs.chord_lines.add_chords.Goals as goal
use Rattle.mesh_definitions.specs.Field.{Field}
use Rattle.face_fill.specs.Views.{faces_view}
use Rattle.tri_mesh.specs.Fields.{field_in}

pub loop-row-init : goal.loop-row-init
loop-row-init c = adds_none c.args.net.now

pub add_cells-requires-clause-room : goal.add_cells-requires-clause-room
add_cells-requires-clause-room c =
    room_after (40960 * c.loop-row.row) 40960 41943040 c.args.net.now c.loop-row.net _ (omega (arith, c.loop-row-test.true, c.requires.few_rows)) c.requires.room c.loop-row.invariant

pub loop-row-preserved : goal.loop-row-preserved
loop-row-preserved c =
    let f : Field = field_in c.args.ch.now c.args.levels.now in
    let v = faces_view c.args.faces.now in
    adds_next 40960 c.loop-row.row c.args.net.now c.loop-row.net c.add_cells.new.net (cells_drawn f v c.args.cols) c.loop-row.invariant c.in_ok-add_cells.ensures

pub returns : goal.returns
returns c =
    let f : Field = field_in c.args.ch.now c.args.levels.now in
    let v = faces_view c.args.faces.now in
    let g : ℕ → List Drawn = cells_drawn f v c.args.cols in
    let all : c.loop-row.row ≡ c.args.rows = omega (arith, c.loop-row-test.false, c.loop-row.auto.row-end) in
    let listed = subst (λ n. Adds (40960 * c.loop-row.row) c.args.net.now c.loop-row.net (flat_map g (range_with_len 0 n))) all c.loop-row.invariant in
    adds_within (40960 * c.loop-row.row) 41943040 c.args.net.now c.loop-row.net _ (omega (arith, all, c.requires.few_rows)) listed
