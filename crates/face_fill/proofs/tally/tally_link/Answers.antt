use Rattle.std.proofs.Common.{◌≡◌, ℕ, ◌+◌, ◌-◌, ◌<◌, true, false, length, map, refl, sym, ap, ◌∙◌, subst, arith}
use Rattle.std.specs.Prelude.{Contains, option_map}
use Rattle.std.specs.List.{range_with_len}
use Rattle.mesh_definitions.specs.Field.{Field}
use Rattle.mesh_definitions.specs.Mesh.{Walk}
use Rattle.mesh_definitions.specs.Pieces.{part_bands, piece_at}
use Rattle.mesh_definitions.specs.declared.Sub.TheVariants.{Part}
use Rattle.face_fill.specs.Listed.{InMesh}
use Rattle.face_fill.specs.Listing.{in_range}
use Rattle.face_fill.specs.BandTableView.{field_by}
use Rattle.face_fill.specs.TallyView.{mesh_by, number_by, parts_of, AreNumbers}
use Rattle.face_fill.proofs.Adding.{adds_one, adds_same, map_more, part_piece, of_seat, run_counts_nothing, weaker, option_map_map}
use Rattle.face_fill.proofs.tally.tally_link.Goals as goal

pub face_beside-on_right-requires-clause-piece : goal.face_beside-on_right-requires-clause-piece
face_beside-on_right-requires-clause-piece c =
    let p = c.args.table.now in
    let f : Field = field_by p.nodes in
    let w : Walk = record { link = c.args.link; forward = true } in
    let there : Contains (part_bands f c.args.link) c.loop-band.band = subst (λ bs. Contains bs c.loop-band.band) (sym c.bands_of-first.ensures.parts) (in_range c.bands_of-first.result.0 c.bands_of-first.result.1 c.loop-band.band (omega arith) (omega arith)) in
    of_seat (λ t. InMesh f p.nodes.rect (piece_at f c.loop-band.band t)) c.seat_beside-right.result c.tri_beside-right.result c.seat_beside-right.ensures.tri
    (part_piece f p.nodes.rect w c.loop-band.band c.tri_beside-right.result c.tri_beside-right.ensures.value there)

pub face_beside-on_left-requires-clause-piece : goal.face_beside-on_left-requires-clause-piece
face_beside-on_left-requires-clause-piece c =
    let p = c.args.table.now in
    let f : Field = field_by p.nodes in
    let w : Walk = record { link = c.args.link; forward = false } in
    let there : Contains (part_bands f c.args.link) c.loop-band.band = subst (λ bs. Contains bs c.loop-band.band) (sym c.bands_of-first.ensures.parts) (in_range c.bands_of-first.result.0 c.bands_of-first.result.1 c.loop-band.band (omega arith) (omega arith)) in
    of_seat (λ t. InMesh f p.nodes.rect (piece_at f c.loop-band.band t)) c.seat_beside-left.result c.tri_beside-left.result c.seat_beside-left.ensures.tri
    (part_piece f p.nodes.rect w c.loop-band.band c.tri_beside-left.result c.tri_beside-left.ensures.value there)

pub tally_one-requires-clause-right : goal.tally_one-requires-clause-right
tally_one-requires-clause-right c =
    let p = c.args.table.now in
    let ns = c.args.numbers.now in
    let n = length c.loop-band.tally.counts.items in
    weaker (λ k. (count : ℕ) → AreNumbers p ns count → k < count) (λ k. k < n) c.face_beside-on_right.result
    (λ k h. h n (subst (AreNumbers p ns) (sym c.loop-band.invariant.full) c.requires.numbers)) c.face_beside-on_right.ensures.known

pub tally_one-requires-clause-left : goal.tally_one-requires-clause-left
tally_one-requires-clause-left c =
    let p = c.args.table.now in
    let ns = c.args.numbers.now in
    let n = length c.loop-band.tally.counts.items in
    weaker (λ k. (count : ℕ) → AreNumbers p ns count → k < count) (λ k. k < n) c.face_beside-on_left.result
    (λ k h. h n (subst (AreNumbers p ns) (sym c.loop-band.invariant.full) c.requires.numbers)) c.face_beside-on_left.ensures.known

pub loop-band-preserved : goal.loop-band-preserved
loop-band-preserved c =
    let p = c.args.table.now in
    let f : Field = field_by p.nodes in
    let m = mesh_by p in
    let number = number_by p c.args.numbers.now in
    let b = c.loop-band.band in
    let first = c.bands_of-first.result.0 in
    let right = c.face_beside-on_right.ensures.value ∙ (ap (option_map (λ t. number (piece_at f b t))) c.seat_beside-right.ensures.tri ∙ option_map_map number (piece_at f b) c.tri_beside-right.result ∙ ap (λ o. option_map number (option_map (piece_at f b) o)) c.tri_beside-right.ensures.value) in
    let left = c.face_beside-on_left.ensures.value ∙ (ap (option_map (λ t. number (piece_at f b t))) c.seat_beside-left.ensures.tri ∙ option_map_map number (piece_at f b) c.tri_beside-left.result ∙ ap (λ o. option_map number (option_map (piece_at f b) o)) c.tri_beside-left.ensures.value) in
    map_more m number (Part c.args.link) first (b - first) b (b + 1 - first) c.args.tally.now c.loop-band.tally c.tally_one.new.tally c.loop-band.invariant
    (adds_one m number (Part c.args.link b) c.face_beside-on_right.result c.face_beside-on_left.result c.loop-band.tally c.tally_one.new.tally c.tally_one.ensures right left)
    (omega arith) (omega arith)

pub returns : goal.returns
returns c =
    let p = c.args.table.now in
    let first = c.bands_of-first.result.0 in
    let n : c.loop-band.band - first ≡ c.bands_of-first.result.1 = omega arith in
    adds_same (mesh_by p) (number_by p c.args.numbers.now) (map (Part c.args.link) (range_with_len first (c.loop-band.band - first))) (parts_of p c.args.link) c.args.tally.now c.loop-band.tally
    (ap (map (Part c.args.link)) (ap (range_with_len first) n ∙ sym c.bands_of-first.ensures.parts)) c.loop-band.invariant

pub returns-then-lies_in_run : goal.returns-then-lies_in_run
returns-then-lies_in_run c =
    run_counts_nothing c.args.table.now c.args.numbers.now c.args.link c.tri_beside-right.result c.tri_beside-left.result c.tri_beside-right.ensures.value c.tri_beside-left.ensures.value (c.if-lies_in_run.ensures refl) c.args.tally.now
