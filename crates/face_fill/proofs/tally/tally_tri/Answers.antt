use Rattle.std.proofs.Common.{◌≡◌, ◌+◌, ◌-◌, ◌≤◌, false, cond, [], Some, length, map, refl, sym, ap, ◌∙◌, subst, arith}
use Rattle.std.specs.List.{range_with_len}
use Rattle.mesh_definitions.specs.Field.{Field}
use Rattle.mesh_definitions.specs.Mesh.{surveyed}
use Rattle.mesh_definitions.specs.Pieces.{least_band, greatest_band, piece_at, span}
use Rattle.mesh_definitions.specs.declared.Sub.TheVariants.{Chord}
use Rattle.face_fill.specs.BandTableView.{field_by}
use Rattle.face_fill.specs.Items.{piece_by}
use Rattle.face_fill.specs.Listed.{InMesh}
use Rattle.face_fill.specs.TallyView.{mesh_by, number_by, chords_of, AreNumbers}
use Rattle.face_fill.proofs.Adding.{adds_one, adds_none, adds_same, map_more, band_piece, no_chords}
use Rattle.face_fill.proofs.Known.{ends_known, ends_unknown}
use Rattle.face_fill.proofs.tally.tally_tri.Goals as goal

pub returns-then-is_whole : goal.returns-then-is_whole
returns-then-is_whole c =
    let p = c.args.table.now in
    let t = c.args.tri in
    adds_same (mesh_by p) (number_by p c.args.numbers.now) [] (chords_of p t) c.args.tally.now c.args.tally.now
    (sym (ap (map (Chord t)) (no_chords (field_by p.nodes) t (c.if-is_whole.ensures refl)))) (adds_none (mesh_by p) (number_by p c.args.numbers.now) c.args.tally.now)

pub returns-in_default : goal.returns-in_default
returns-in_default c =
    let p = c.args.table.now in
    let f : Field = field_by p.nodes in
    let t = c.args.tri in
    let s : surveyed f t ≡ false = ends_unknown f t (sym c.ends.ensures ∙ c.in_default.is) in
    adds_same (mesh_by p) (number_by p c.args.numbers.now) [] (chords_of p t) c.args.tally.now c.args.tally.now
    (ap (λ b. map (Chord t) (cond b (span (least_band f t + 1) (greatest_band f t)) [])) (sym s)) (adds_none (mesh_by p) (number_by p c.args.numbers.now) c.args.tally.now)

pub face_at-deep-requires-clause-piece : goal.face_at-deep-requires-clause-piece
face_at-deep-requires-clause-piece c =
    let p = c.args.table.now in
    let f : Field = field_by p.nodes in
    let e = ends_known f c.args.tri c.in-Some.ends (sym c.ends.ensures ∙ c.in-Some.is) in
    let low : least_band f c.args.tri ≤ c.in-Some.ends.least + 1 + c.loop-k.k = omega (arith, e.1) in
    let high : c.in-Some.ends.least + 1 + c.loop-k.k ≤ greatest_band f c.args.tri = omega (arith, e.2) in
    subst (λ t. InMesh f p.nodes.rect (piece_at f (c.in-Some.ends.least + 1 + c.loop-k.k) t)) (sym c.seat-seat.ensures.tri) (band_piece f p.nodes.rect c.args.tri (c.in-Some.ends.least + 1 + c.loop-k.k) c.requires.inside e.0 low high)

pub face_at-shoal-requires-clause-piece : goal.face_at-shoal-requires-clause-piece
face_at-shoal-requires-clause-piece c =
    let p = c.args.table.now in
    let f : Field = field_by p.nodes in
    let e = ends_known f c.args.tri c.in-Some.ends (sym c.ends.ensures ∙ c.in-Some.is) in
    let low : least_band f c.args.tri ≤ c.in-Some.ends.least + 1 + c.loop-k.k - 1 = omega (arith, e.1) in
    let high : c.in-Some.ends.least + 1 + c.loop-k.k - 1 ≤ greatest_band f c.args.tri = omega (arith, e.2) in
    subst (λ t. InMesh f p.nodes.rect (piece_at f (c.in-Some.ends.least + 1 + c.loop-k.k - 1) t)) (sym c.seat-seat.ensures.tri) (band_piece f p.nodes.rect c.args.tri (c.in-Some.ends.least + 1 + c.loop-k.k - 1) c.requires.inside e.0 low high)

pub tally_one-requires-clause-right : goal.tally_one-requires-clause-right
tally_one-requires-clause-right c = c.face_at-deep.ensures.known (length c.loop-k.tally.counts.items) (subst (AreNumbers c.args.table.now c.args.numbers.now) (sym c.loop-k.invariant.full) c.requires.numbers)

pub tally_one-requires-clause-left : goal.tally_one-requires-clause-left
tally_one-requires-clause-left c = c.face_at-shoal.ensures.known (length c.loop-k.tally.counts.items) (subst (AreNumbers c.args.table.now c.args.numbers.now) (sym c.loop-k.invariant.full) c.requires.numbers)

pub loop-k-preserved : goal.loop-k-preserved
loop-k-preserved c =
    let p = c.args.table.now in
    let f : Field = field_by p.nodes in
    let t = c.args.tri in
    let m = mesh_by p in
    let number = number_by p c.args.numbers.now in
    let e = ends_known f t c.in-Some.ends (sym c.ends.ensures ∙ c.in-Some.is) in
    let first = c.in-Some.ends.least + 1 in
    let level = first + c.loop-k.k in
    let deep : c.face_at-deep.result ≡ number (piece_by t level) = c.face_at-deep.ensures.value ∙ (ap (λ t. number (piece_at f level t)) c.seat-seat.ensures.tri ∙ ap (λ b. number (piece_by t (cond b level 0))) e.0) in
    let shoal : c.face_at-shoal.result ≡ number (piece_by t (level - 1)) = c.face_at-shoal.ensures.value ∙ (ap (λ t. number (piece_at f (level - 1) t)) c.seat-seat.ensures.tri ∙ ap (λ b. number (piece_by t (cond b (level - 1) 0))) e.0) in
    map_more m number (Chord t) first c.loop-k.k level (c.loop-k.k + 1) c.args.tally.now c.loop-k.tally c.tally_one.new.tally c.loop-k.invariant
    (adds_one m number (Chord t level) (Some c.face_at-deep.result) (Some c.face_at-shoal.result) c.loop-k.tally c.tally_one.new.tally c.tally_one.ensures (ap Some deep) (ap Some shoal))
    refl refl

pub returns : goal.returns
returns c =
    let p = c.args.table.now in
    let f : Field = field_by p.nodes in
    let t = c.args.tri in
    let e = ends_known f t c.in-Some.ends (sym c.ends.ensures ∙ c.in-Some.is) in
    let first : c.in-Some.ends.least + 1 ≡ least_band f t + 1 = omega (arith, e.1) in
    let n : c.loop-k.k ≡ greatest_band f t + 1 - (least_band f t + 1) = omega (arith, e.1, e.2) in
    adds_same (mesh_by p) (number_by p c.args.numbers.now) (map (Chord t) (range_with_len (c.in-Some.ends.least + 1) c.loop-k.k)) (chords_of p t) c.args.tally.now c.loop-k.tally
    (ap (λ a. map (Chord t) (range_with_len a c.loop-k.k)) first ∙ (ap (λ n. map (Chord t) (range_with_len (least_band f t + 1) n)) n ∙ ap (λ b. map (Chord t) (cond b (span (least_band f t + 1) (greatest_band f t)) [])) (sym e.0))) c.loop-k.invariant
