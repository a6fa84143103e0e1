use Rattle.std.proofs.Common.{◌≡◌, ℕ, get_or, sym, ap, ◌∙◌, arith}
use Rattle.std.specs.Prelude.{nat_eq, IsTrue}
use Rattle.std.proofs.lemmas.Bool.Decides.{nat_tests}
use Rattle.std.proofs.lemmas.List.{get_or_read}
use Rattle.mesh_definitions.specs.Field.{Field}
use Rattle.mesh_definitions.specs.declared.Rect.{Rect}
use Rattle.face_fill.specs.BandTableView.{field_by}
use Rattle.face_fill.specs.PieceTableView.{block_by}
use Rattle.face_fill.specs.Places.{counts_count, place_below}
use Rattle.tri_mesh.specs.TriNumbers.{place_in}
use Rattle.face_fill.proofs.tables.PieceTable.is_whole.Goals as goal

pub index-requires : goal.index-requires
index-requires c =
    let p = c.args.self.now in
    omega (arith, c.tri_number.ensures, place_below p.nodes.rect c.args.tri c.requires.inside, c.requires.whole.items.each_count, p.items.counts.ok.0)

-- a number that is told to be one is
is_one : (n : ℕ) → IsTrue (nat_eq n 1) → n ≡ 1
is_one n e = grind (arith, nat_tests)

pub returns : goal.returns
returns c = λ small.
    let p = c.args.self.now in
    let f : Field = field_by p.nodes in
    let r : Rect = p.nodes.rect in
    let h = c.requires.whole.items in
    let l = place_below r c.args.tri c.requires.inside in
    let count : c.index.result.now ≡ get_or p.items.counts.items (place_in r c.args.tri) 0 = get_or_read p.items.counts.items c.tri_number.result c.index.result.now (omega (arith, c.tri_number.ensures, l, h.each_count)) c.index.ensures 0 ∙ ap (λ k. get_or p.items.counts.items k 0) c.tri_number.ensures in
    sym (counts_count f r (block_by p.blocks) p.items.starts.items p.items.counts.items p.items.owners.items h c.args.tri c.requires.inside) ∙ (sym count ∙ is_one c.index.result.now small)
