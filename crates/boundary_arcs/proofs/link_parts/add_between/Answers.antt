use Rattle.std.proofs.Common.{◌≡◌, ℕ, ◌+◌, ◌≤◌, true, false, List, length, sym, ap, subst, ◌∙◌, arith}
use Rattle.std.specs.Prelude.{option_map}
use Rattle.std.specs.List.{range_with_len, flat_map}
use Rattle.boundary_arcs.specs.Collecting.{Adds, beside_of, if_drawn, part_seen}
use Rattle.boundary_arcs.specs.declared.net.Drawn.{Drawn}
use Rattle.boundary_arcs.proofs.Adding.{adds_none, adds_within, room_after}
use Rattle.boundary_arcs.proofs.Sides.{beside_is_in, has_places, part_as_coded, parts_small}
use Rattle.boundary_arcs.proofs.Spans.{adds_part}
use Rattle.boundary_arcs.proofs.link_parts.add_between.Goals as goal
use Rattle.mesh_definitions.specs.Field.{Field}
use Rattle.face_fill.specs.Views.{faces_view}
use Rattle.tri_mesh.specs.Fields.{field_in}

pub loop-i-init : goal.loop-i-init
loop-i-init c = adds_none c.args.net.now

pub with_pieces-left-requires : goal.with_pieces-left-requires
with_pieces-left-requires c = beside_is_in (field_in c.args.ch.now c.args.levels.now) c.args.link false c.args.left c.requires.left

pub with_pieces-right-requires : goal.with_pieces-right-requires
with_pieces-right-requires c = beside_is_in (field_in c.args.ch.now c.args.levels.now) c.args.link true c.args.right c.requires.right

pub overflow_add-band : goal.overflow_add-band
overflow_add-band c =
    let f : Field = field_in c.args.ch.now c.args.levels.now in
    let p = c.parts-parts.ensures in
    let small = parts_small f c.args.link c.parts-parts.result.first c.parts-parts.result.count p.exact p.some in
    let few : length f.levels ≤ 20 = c.args.levels.now.are_levels.few in
    omega (arith, small, few, c.loop-i-test.true)

pub face_beside-left_face-requires : goal.face_beside-left_face-requires
face_beside-left_face-requires c =
    let f : Field = field_in c.args.ch.now c.args.levels.now in
    let s = c.parts-parts.result.first in
    has_places f (faces_view c.args.faces.now) c.requires.fits c.args.link s c.parts-parts.result.count (s + c.loop-i.i) c.parts-parts.ensures.exact (omega arith) (omega (arith, c.loop-i-test.true)) false c.with_pieces-left.result (c.with_pieces-left.ensures ∙ ap (option_map (beside_of f)) c.requires.left)

pub face_beside-right_face-requires : goal.face_beside-right_face-requires
face_beside-right_face-requires c =
    let f : Field = field_in c.args.ch.now c.args.levels.now in
    let s = c.parts-parts.result.first in
    has_places f (faces_view c.args.faces.now) c.requires.fits c.args.link s c.parts-parts.result.count (s + c.loop-i.i) c.parts-parts.ensures.exact (omega arith) (omega (arith, c.loop-i-test.true)) true c.with_pieces-right.result (c.with_pieces-right.ensures ∙ ap (option_map (beside_of f)) c.requires.right)

pub add_part-requires-clause-room : goal.add_part-requires-clause-room
add_part-requires-clause-room c =
    room_after c.loop-i.i 1 21 c.args.net.now c.loop-i.net _ (omega (arith, c.loop-i-test.true, c.parts-parts.ensures.few)) c.requires.room c.loop-i.invariant

pub loop-i-preserved : goal.loop-i-preserved
loop-i-preserved c =
    let f : Field = field_in c.args.ch.now c.args.levels.now in
    let v = faces_view c.args.faces.now in
    let l = c.args.link in
    let s = c.parts-parts.result.first in
    let i = c.loop-i.i in
    let old = c.loop-i.net in
    let new = c.add_part.new.net in
    let seen = part_as_coded f v l (s + i) c.with_pieces-left.result c.with_pieces-right.result c.face_beside-left_face.result c.face_beside-right_face.result (c.with_pieces-left.ensures ∙ ap (option_map (beside_of f)) c.requires.left) (c.with_pieces-right.ensures ∙ ap (option_map (beside_of f)) c.requires.right) c.face_beside-left_face.ensures c.face_beside-right_face.ensures in
    let more : Adds 1 old new (if_drawn (part_seen f v l (s + i))) = subst (λ d. Adds 1 old new (if_drawn d)) seen c.in_ok-add_part.ensures in
    adds_part i 1 c.args.net.now old new (λ b. if_drawn (part_seen f v l b)) s i c.loop-i.invariant more

pub returns : goal.returns
returns c =
    let f : Field = field_in c.args.ch.now c.args.levels.now in
    let v = faces_view c.args.faces.now in
    let l = c.args.link in
    let p = c.parts-parts.result in
    let g : ℕ → List Drawn = λ b. if_drawn (part_seen f v l b) in
    let all : c.loop-i.i ≡ p.count = omega (arith, c.loop-i-test.false, c.loop-i.auto.i-end) in
    let listed = subst (λ n. Adds c.loop-i.i c.args.net.now c.loop-i.net (flat_map g (range_with_len p.first n))) all c.loop-i.invariant in
    let parts = subst (λ bs. Adds c.loop-i.i c.args.net.now c.loop-i.net (flat_map g bs)) (sym c.parts-parts.ensures.exact) listed in
    adds_within c.loop-i.i 21 c.args.net.now c.loop-i.net _ (omega (arith, all, c.parts-parts.ensures.few)) parts
