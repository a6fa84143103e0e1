use Rattle.std.proofs.Common.{◌≡◌, ℕ, ◌<◌, ◌≤◌, [], length, get_or, refl, sym, ap, ◌∙◌, subst, arith}
use Rattle.std.proofs.lemmas.Bool.Decides.{nat_tests}
use Rattle.std.proofs.lemmas.Grind.{common_steps}
use Rattle.std.specs.Prelude.{IsTrue, nat_le, Contains}
use Rattle.mesh_definitions.specs.Blocks.{alone}
use Rattle.mesh_definitions.specs.Field.{Field}
use Rattle.mesh_definitions.specs.Pieces.{mesh_of}
use Rattle.mesh_definitions.specs.declared.Piece.{Piece}
use Rattle.mesh_definitions.specs.declared.Rect.{Rect}
use Rattle.mesh_definitions.specs.declared.Class.{Class}
use Rattle.face_fill.specs.Beside.{same_kind}
use Rattle.face_fill.specs.Classed.{AreClassed, number_of_class}
use Rattle.face_fill.specs.Listed.{of_list}
use Rattle.face_fill.specs.BandTableView.{field_by}
use Rattle.face_fill.specs.Items.{item_of, piece_of}
use Rattle.face_fill.specs.PieceTableView.{block_by, item_count}
use Rattle.face_fill.specs.Places.{item_in, piece_joined}
use Rattle.face_fill.specs.Tallies.{IsTally}
use Rattle.face_fill.specs.TallyView.{mesh_by, number_by}
use Rattle.face_fill.specs.declared.tables.Tally.{Tally}
use Rattle.face_fill.proofs.Classed.{need_small}
use Rattle.face_fill.proofs.Needed.{nothing_counted}
use Rattle.face_fill.proofs.class_bound.is_small.Goals as goal

bounded : (n : ℕ) → IsTrue (nat_le n 12000) → n ≤ 12000
bounded n h = grind (arith, nat_tests)

pub returns : goal.returns
returns c = λ small n need.
    (let p = c.args.table.now in
    let f : Field = field_by p.nodes in
    let r : Rect = p.nodes.rect in
    let whole = c.requires.whole in
    let ns = c.deref.result.now in
    let number : Piece → ℕ = number_by p ns in
    let begun : Tally = record { counts = c.in_ok-counts.counts; outline = 0 } in
    let ended : Tally = c.tally_all.new.tally in
    let classed : AreClassed p (item_count p) ns = subst (AreClassed p (item_count p)) (sym c.deref.ensures.value) c.in_ok-numbers.ensures in
    let zero : (k : ℕ) → k < length begun.counts.items → get_or begun.counts.items k 0 ≡ 0 = λ k l. grind (arith, common_steps) in
    let count : length ended.counts.items ≡ 22 = c.tally_all.ensures.full ∙ grind (arith, common_steps) in
    let one : mesh_by p ≡ alone f r = ap (mesh_of f r) c.requires.one in
    let tally : IsTally (alone f r) number (alone f r).subs ended = subst (λ m. IsTally m number m.subs ended) one (c.tally_all.ensures.grows [] (nothing_counted (mesh_by p) number begun refl zero)) in
    let item : (q : Piece) → Contains (alone f r).pieces q → item_of f r p.items.starts.items q < item_count p = λ q d. item_in f r (block_by p.blocks) p.items.starts.items p.items.counts.items p.items.owners.items whole.items q (of_list f r (λ i j. 0) q d) in
    let back : (q : Piece) → Contains (alone f r).pieces q → (alone f r).class (piece_of f r p.items.starts.items p.items.owners.items (item_of f r p.items.starts.items q)) ≡ (alone f r).class q = λ q d.
    sym (ap (λ (x : Class × ℕ). x.0) (same_kind (mesh_by p) q (piece_of f r p.items.starts.items p.items.owners.items (item_of f r p.items.starts.items q)) (piece_joined f r (block_by p.blocks) p.items.starts.items p.items.counts.items p.items.owners.items whole.items q (of_list f r (λ i j. 0) q d)))) in
    let most : c.greatest.result ≤ 12000 = omega (arith, bounded c.from.result small, c.from.ensures) in
    need_small f r number ended n
    (record {
      classed = λ q d. classed.each (item_of f r p.items.starts.items q) (item q d) ∙ ap number_of_class (back q d);
      below = λ q d. omega (arith, classed.few (item_of f r p.items.starts.items q) (item q d), count);
      tally = tally;
    })
    (omega (arith, c.greatest.ensures.outline, most))
    (λ k l. omega (arith, c.greatest.ensures.counts k l, most))
    need)
