use Rattle.std.proofs.Common.{◌≡◌, ℕ, ◌*◌, List, subst, arith}
use Rattle.std.specs.List.{range_with_len, flat_map}
use Rattle.boundary_arcs.specs.Collecting.{Adds, link_at, link_drawn}
use Rattle.boundary_arcs.specs.declared.net.Drawn.{Drawn}
use Rattle.boundary_arcs.proofs.Adding.{adds_none, adds_within, room_after}
use Rattle.boundary_arcs.proofs.Spans.{adds_next}
use Rattle.boundary_arcs.proofs.link_parts.add_row.Goals as goal
use Rattle.mesh_definitions.specs.Field.{Field}
use Rattle.face_fill.specs.Views.{faces_view}
use Rattle.tri_mesh.specs.Fields.{field_in}

pub loop-col-init : goal.loop-col-init
loop-col-init c = adds_none c.args.net.now

pub add_link-requires-clause-room : goal.add_link-requires-clause-room
add_link-requires-clause-room c =
    room_after (21 * c.loop-col.col) 21 21525 c.args.net.now c.loop-col.net _ (omega (arith, c.loop-col-test.true, c.requires.few)) c.requires.room c.loop-col.invariant

pub loop-col-preserved : goal.loop-col-preserved
loop-col-preserved c =
    let f : Field = field_in c.args.ch.now c.args.levels.now in
    let v = faces_view c.args.faces.now in
    adds_next 21 c.loop-col.col c.args.net.now c.loop-col.net c.add_link.new.net (λ j. link_drawn f v (link_at c.args.way c.args.row j)) c.loop-col.invariant c.in_ok-add_link.ensures

pub returns : goal.returns
returns c =
    let f : Field = field_in c.args.ch.now c.args.levels.now in
    let v = faces_view c.args.faces.now in
    let g : ℕ → List Drawn = λ j. link_drawn f v (link_at c.args.way c.args.row j) in
    let all : c.loop-col.col ≡ c.args.cols = omega (arith, c.loop-col-test.false, c.loop-col.auto.col-end) in
    let listed = subst (λ n. Adds (21 * c.loop-col.col) c.args.net.now c.loop-col.net (flat_map g (range_with_len 0 n))) all c.loop-col.invariant in
    adds_within (21 * c.loop-col.col) 21525 c.args.net.now c.loop-col.net _ (omega (arith, all, c.requires.few)) listed
