use Rattle.std.proofs.Common.{◌≡◌, ℕ, ◌+◌, ◌-◌, List, [], ◌∷◌, sym, subst, ◌∙◌, arith}
use Rattle.std.specs.List.{range_with_len, flat_map}
use Rattle.boundary_arcs.specs.Collecting.{Adds, chord_seen}
use Rattle.boundary_arcs.specs.declared.net.Drawn.{Drawn}
use Rattle.boundary_arcs.proofs.Adding.{adds_none, adds_within, room_after}
use Rattle.boundary_arcs.proofs.Chording.{chords_one_by_one, knows_levels, no_chord}
use Rattle.boundary_arcs.proofs.Spans.{adds_part}
use Rattle.boundary_arcs.proofs.chord_lines.add_tri.Goals as goal
use Rattle.mesh_definitions.specs.Field.{Field}
use Rattle.face_fill.specs.Views.{faces_view}
use Rattle.tri_mesh.specs.Fields.{field_in}

pub loop-i-init : goal.loop-i-init
loop-i-init c = adds_none c.args.net.now

pub add_chord-requires-clause-first : goal.add_chord-requires-clause-first
add_chord-requires-clause-first c =
    let f : Field = field_in c.args.ch.now c.args.levels.now in
    let p = c.pieces-pieces.ensures in
    (knows_levels f c.args.tri c.pieces-pieces.result p.surveyed p.first p.exact).is_first

pub add_chord-requires-clause-crosses : goal.add_chord-requires-clause-crosses
add_chord-requires-clause-crosses c =
    let f : Field = field_in c.args.ch.now c.args.levels.now in
    let p = c.pieces-pieces.ensures in
    (knows_levels f c.args.tri c.pieces-pieces.result p.surveyed p.first p.exact).each c.loop-i.i c.loop-i-test.true

pub add_chord-requires-clause-room : goal.add_chord-requires-clause-room
add_chord-requires-clause-room c =
    room_after c.loop-i.i 1 20 c.args.net.now c.loop-i.net _ (omega (arith, c.loop-i-test.true, c.pieces-pieces.ensures.few)) c.requires.room c.loop-i.invariant

pub loop-i-preserved : goal.loop-i-preserved
loop-i-preserved c =
    let f : Field = field_in c.args.ch.now c.args.levels.now in
    let v = faces_view c.args.faces.now in
    adds_part c.loop-i.i 1 c.args.net.now c.loop-i.net c.add_chord.new.net (λ k. chord_seen f v c.args.tri k ∷ []) (c.pieces-pieces.result.first + 1) c.loop-i.i c.loop-i.invariant c.in_ok-add_chord.ensures

pub returns : goal.returns
returns c =
    let f : Field = field_in c.args.ch.now c.args.levels.now in
    let v = faces_view c.args.faces.now in
    let t = c.args.tri in
    let p = c.pieces-pieces.ensures in
    let first = c.pieces-pieces.result.first in
    let count = c.pieces-pieces.result.count in
    let knows = knows_levels f t c.pieces-pieces.result p.surveyed p.first p.exact in
    let g : ℕ → List Drawn = λ k. chord_seen f v t k ∷ [] in
    let all : c.loop-i.i ≡ count - 1 = omega (arith, c.loop-i-test.false, c.loop-i.auto.i-end) in
    let listed = subst (λ n. Adds c.loop-i.i c.args.net.now c.loop-i.net (flat_map g (range_with_len (first + 1) n))) all c.loop-i.invariant in
    let drawn = subst (Adds c.loop-i.i c.args.net.now c.loop-i.net) (chords_one_by_one f v t first count knows.levels) listed in
    adds_within c.loop-i.i 20 c.args.net.now c.loop-i.net _ (omega (arith, all, p.few)) drawn

pub returns-then-piece_count-eq1 : goal.returns-then-piece_count-eq1
returns-then-piece_count-eq1 c =
    let net = c.args.net.now in
    let rows = c.requires.fits.rows in
    let cols = c.requires.fits.cols in
    let one = sym c.piece_count.ensures ∙ c.if-piece_count-eq1.true in
    let nothing = no_chord (field_in c.args.ch.now c.args.levels.now) (faces_view c.args.faces.now) c.args.tri c.requires.fits (omega (arith, rows, c.requires.row)) (omega (arith, cols, c.requires.col)) one in
    subst (Adds 20 net net) (sym nothing) (adds_within 0 20 net net [] (omega arith) (adds_none net))
