use Rattle.std.proofs.Common.{◌≡◌, ◌+◌, ◌-◌, Bool, false, true, sym, ap, ◌∙◌, arith}
use Rattle.std.specs.Prelude.{not}
use Rattle.mesh_definitions.specs.Field.{Field}
use Rattle.mesh_definitions.specs.Mesh.{surveyed}
use Rattle.mesh_definitions.specs.Pieces.{least_band, piece_at}
use Rattle.mesh_definitions.specs.declared.Rect.{Rect}
use Rattle.face_fill.specs.BandTableView.{field_by}
use Rattle.face_fill.specs.Ends.{count_surveyed}
use Rattle.face_fill.specs.PieceTableView.{block_by}
use Rattle.face_fill.specs.Places.{item_in}
use Rattle.face_fill.proofs.Facing.{item_surveyed, item_unsurveyed, low_surveyed}
use Rattle.face_fill.proofs.tables.PieceTable.item_at.Goals as goal

-- what is told of the opposite of a truth value
turned : (a b : Bool) → not a ≡ b → a ≡ not b
turned true b e = ap not e
turned false b e = ap not e

pub returns-then-not-seat-clause-value : goal.returns-then-not-seat-clause-value
returns-then-not-seat-clause-value c =
    let p = c.args.self.now in
    let f : Field = field_by p.nodes in
    let r : Rect = p.nodes.rect in
    let s = c.args.seat in
    let q = c.requires.seat in
    let t : surveyed f s.tri ≡ false = sym q.surveyed ∙ turned s.surveyed true c.if-not-seat.true in
    let item = item_unsurveyed f r p.items.starts.items s.tri c.args.band t in
    q.start ∙ sym item

pub returns-then-not-seat-clause-inside : goal.returns-then-not-seat-clause-inside
returns-then-not-seat-clause-inside c =
    let p = c.args.self.now in
    let f : Field = field_by p.nodes in
    let r : Rect = p.nodes.rect in
    let s = c.args.seat in
    let q = c.requires.seat in
    let t : surveyed f s.tri ≡ false = sym q.surveyed ∙ turned s.surveyed true c.if-not-seat.true in
    let item = item_unsurveyed f r p.items.starts.items s.tri c.args.band t in
    omega (arith, q.start, item, item_in f r (block_by p.blocks) p.items.starts.items p.items.counts.items p.items.owners.items c.requires.whole.items (piece_at f c.args.band s.tri) c.requires.piece)

pub overflow_sub-result : goal.overflow_sub-result
overflow_sub-result c =
    let p = c.args.self.now in
    let f : Field = field_by p.nodes in
    let r : Rect = p.nodes.rect in
    let s = c.args.seat in
    let q = c.requires.seat in
    let t : surveyed f s.tri ≡ true = sym q.surveyed ∙ turned s.surveyed false c.if-not-seat.false in
    let least : s.first ≡ least_band f s.tri = q.first ∙ (count_surveyed f s.tri t).0 in
    let item = item_surveyed f r p.items.starts.items s.tri c.args.band t s.first least in
    omega (arith, least, low_surveyed f r p.items.starts.items s.tri c.args.band t c.requires.piece)

pub overflow_add-result : goal.overflow_add-result
overflow_add-result c =
    let p = c.args.self.now in
    let f : Field = field_by p.nodes in
    let r : Rect = p.nodes.rect in
    let s = c.args.seat in
    let q = c.requires.seat in
    let t : surveyed f s.tri ≡ true = sym q.surveyed ∙ turned s.surveyed false c.if-not-seat.false in
    let least : s.first ≡ least_band f s.tri = q.first ∙ (count_surveyed f s.tri t).0 in
    let item = item_surveyed f r p.items.starts.items s.tri c.args.band t s.first least in
    omega (arith, q.start, item, item_in f r (block_by p.blocks) p.items.starts.items p.items.counts.items p.items.owners.items c.requires.whole.items (piece_at f c.args.band s.tri) c.requires.piece, c.requires.whole.few)

pub returns-clause-value : goal.returns-clause-value
returns-clause-value c =
    let p = c.args.self.now in
    let f : Field = field_by p.nodes in
    let r : Rect = p.nodes.rect in
    let s = c.args.seat in
    let q = c.requires.seat in
    let t : surveyed f s.tri ≡ true = sym q.surveyed ∙ turned s.surveyed false c.if-not-seat.false in
    let least : s.first ≡ least_band f s.tri = q.first ∙ (count_surveyed f s.tri t).0 in
    let item = item_surveyed f r p.items.starts.items s.tri c.args.band t s.first least in
    ap (λ n. n + (c.args.band - s.first)) q.start ∙ sym item

pub returns-clause-inside : goal.returns-clause-inside
returns-clause-inside c =
    let p = c.args.self.now in
    let f : Field = field_by p.nodes in
    let r : Rect = p.nodes.rect in
    let s = c.args.seat in
    let q = c.requires.seat in
    let t : surveyed f s.tri ≡ true = sym q.surveyed ∙ turned s.surveyed false c.if-not-seat.false in
    let least : s.first ≡ least_band f s.tri = q.first ∙ (count_surveyed f s.tri t).0 in
    let item = item_surveyed f r p.items.starts.items s.tri c.args.band t s.first least in
    omega (arith, q.start, item, item_in f r (block_by p.blocks) p.items.starts.items p.items.counts.items p.items.owners.items c.requires.whole.items (piece_at f c.args.band s.tri) c.requires.piece)
