use Rattle.std.proofs.Common.{◌≡◌, ℕ, length, get_or, sym, ap, ◌∙◌, arith}
use Rattle.std.specs.Prelude.{nat_eq, IsTrue}
use Rattle.std.proofs.lemmas.Bool.Decides.{nat_tests}
use Rattle.std.proofs.lemmas.List.{get_or_read}
use Rattle.mesh_definitions.specs.Field.{Field}
use Rattle.mesh_definitions.specs.Pieces.{pieces_of}
use Rattle.mesh_definitions.specs.declared.Rect.{Rect}
use Rattle.mesh_definitions.specs.declared.Tri.{Tri}
use Rattle.face_fill.specs.BandTableView.{field_by}
use Rattle.face_fill.specs.PieceTableView.{block_by}
use Rattle.face_fill.specs.Places.{counts_count, place_below}
use Rattle.tri_mesh.specs.TriNumbers.{place_in}
use Rattle.face_fill.proofs.Facing.{item_alone}
use Rattle.face_fill.proofs.tables.PieceTable.share_an_item.Goals as goal

pub index-requires : goal.index-requires
index-requires c =
    let s = c.args.self.now in
    omega (arith, c.tri_number-one.ensures, place_below s.nodes.rect c.args.a c.requires.a, c.requires.whole.items.each_start, s.items.starts.ok.0)

pub index-requires-2 : goal.index-requires-2
index-requires-2 c =
    let s = c.args.self.now in
    omega (arith, c.tri_number-two.ensures, place_below s.nodes.rect c.args.b c.requires.b, c.requires.whole.items.each_start, s.items.starts.ok.0)

pub index-requires-3 : goal.index-requires-3
index-requires-3 c =
    let s = c.args.self.now in
    omega (arith, c.tri_number-one.ensures, place_below s.nodes.rect c.args.a c.requires.a, c.requires.whole.items.each_count, s.items.counts.ok.0)

pub index-requires-4 : goal.index-requires-4
index-requires-4 c =
    let s = c.args.self.now in
    omega (arith, c.tri_number-two.ensures, place_below s.nodes.rect c.args.b c.requires.b, c.requires.whole.items.each_count, s.items.counts.ok.0)

is_one : (n : ℕ) → IsTrue (nat_eq n 1) → n ≡ 1
is_one n e = grind (arith, nat_tests)

pub returns : goal.returns
returns c = λ small p q m n at_a at_b.
    let s = c.args.self.now in
    let f : Field = field_by s.nodes in
    let r : Rect = s.nodes.rect in
    let h = c.requires.whole.items in
    let la = place_below r c.args.a c.requires.a in
    let lb = place_below r c.args.b c.requires.b in
    let start_a : c.index.result.now ≡ get_or s.items.starts.items (place_in r c.args.a) 0 = get_or_read s.items.starts.items c.tri_number-one.result c.index.result.now (omega (arith, c.tri_number-one.ensures, la, h.each_start)) c.index.ensures 0 ∙ ap (λ k. get_or s.items.starts.items k 0) c.tri_number-one.ensures in
    let start_b : c.index-2.result.now ≡ get_or s.items.starts.items (place_in r c.args.b) 0 = get_or_read s.items.starts.items c.tri_number-two.result c.index-2.result.now (omega (arith, c.tri_number-two.ensures, lb, h.each_start)) c.index-2.ensures 0 ∙ ap (λ k. get_or s.items.starts.items k 0) c.tri_number-two.ensures in
    let count_a : c.index-3.result.now ≡ get_or s.items.counts.items (place_in r c.args.a) 0 = get_or_read s.items.counts.items c.tri_number-one.result c.index-3.result.now (omega (arith, c.tri_number-one.ensures, la, h.each_count)) c.index-3.ensures 0 ∙ ap (λ k. get_or s.items.counts.items k 0) c.tri_number-one.ensures in
    let count_b : c.index-4.result.now ≡ get_or s.items.counts.items (place_in r c.args.b) 0 = get_or_read s.items.counts.items c.tri_number-two.result c.index-4.result.now (omega (arith, c.tri_number-two.ensures, lb, h.each_count)) c.index-4.ensures 0 ∙ ap (λ k. get_or s.items.counts.items k 0) c.tri_number-two.ensures in
    let one_a : length (pieces_of f c.args.a) ≡ 1 = sym (counts_count f r (block_by s.blocks) s.items.starts.items s.items.counts.items s.items.owners.items h c.args.a c.requires.a) ∙ (sym count_a ∙ c.if-index-ne1.false) in
    let one_b : length (pieces_of f c.args.b) ≡ 1 = sym (counts_count f r (block_by s.blocks) s.items.starts.items s.items.counts.items s.items.owners.items h c.args.b c.requires.b) ∙ (sym count_b ∙ is_one c.index-4.result.now small) in
    let item_p = item_alone f r s.items.starts.items p m (ap (λ (t : Tri). length (pieces_of f t)) at_a ∙ one_a) ∙ ap (λ (t : Tri). get_or s.items.starts.items (place_in r t) 0) at_a in
    let item_q = item_alone f r s.items.starts.items q n (ap (λ (t : Tri). length (pieces_of f t)) at_b ∙ one_b) ∙ ap (λ (t : Tri). get_or s.items.starts.items (place_in r t) 0) at_b in
    item_p ∙ (sym start_a ∙ (c.if-index.false ∙ (start_b ∙ sym item_q)))
