use Rattle.std.proofs.Common.{◌≡◌, ℕ, ◌<◌, [], length, get_or, refl, sym, ◌∙◌, subst, arith}
use Rattle.std.proofs.lemmas.Grind.{common_steps}
use Rattle.mesh_definitions.specs.Faces.{IsGapless}
use Rattle.mesh_definitions.specs.Field.{Field}
use Rattle.mesh_definitions.specs.declared.Piece.{Piece}
use Rattle.mesh_definitions.specs.declared.Rect.{Rect}
use Rattle.face_fill.specs.BandTableView.{field_by}
use Rattle.face_fill.specs.Joins.{AreItemNumbers}
use Rattle.face_fill.specs.PieceTableView.{block_by}
use Rattle.face_fill.specs.TallyView.{mesh_by, number_by}
use Rattle.face_fill.specs.declared.tables.Tally.{Tally}
use Rattle.face_fill.proofs.Few.{subs_few}
use Rattle.face_fill.proofs.Needed.{AreCounted, IsGreatest, IsOne, nothing_counted, need_is}
use Rattle.face_fill.proofs.Numbering.{numbers_faces, gapless}
use Rattle.face_fill.proofs.needs.need_of.Goals as goal

pub returns : goal.returns
returns c =
    let p = c.args.table in
    let f : Field = field_by p.nodes in
    let r : Rect = p.nodes.rect in
    let block = block_by p.blocks in
    let ns = c.deref.result.now in
    let whole = c.requires.whole in
    let inside = whole.nodes.inside in
    let number : Piece → ℕ = number_by p ns in
    let begun : Tally = record { counts = c.in_ok-counts.counts; outline = 0 } in
    let ended : Tally = c.tally_all.new.tally in
    let parts : AreItemNumbers p ns c.in_ok-found.found.count = subst (λ ns. AreItemNumbers p ns c.in_ok-found.found.count) (sym c.deref.ensures.value) c.in_ok-found.ensures in
    let zero : (k : ℕ) → k < length begun.counts.items → get_or begun.counts.items k 0 ≡ 0 = λ k l. grind (arith, common_steps) in
    let count : length ended.counts.items ≡ c.in_ok-found.found.count = c.tally_all.ensures.full ∙ grind (arith, common_steps) in
    let counted : AreCounted f r block number ended = record {
      faces = numbers_faces f r block p.items.starts.items p.items.counts.items p.items.owners.items whole.items ns c.in_ok-found.found.count parts;
      gapless = subst (IsGapless (mesh_by p) number) (sym count) (gapless f r block p.items.starts.items p.items.counts.items p.items.owners.items whole.items ns c.in_ok-found.found.count parts);
      tally = c.tally_all.ensures.grows [] (nothing_counted (mesh_by p) number begun refl zero);
      few = subs_few f whole.nodes.few_levels r block (omega (arith, inside.south, whole.nodes.few_rows, inside.some_rows)) (omega (arith, inside.east, whole.nodes.few_cols, inside.some_cols));
    } in
    let best : IsGreatest ended c.from.result = record { outline = omega (arith, c.from.ensures, c.greatest.ensures.outline); counts = λ k l. omega (arith, c.from.ensures, c.greatest.ensures.counts k l); one = subst (λ n. IsOne ended n) (sym c.from.ensures) c.greatest.ensures.one } in
    need_is f r block number ended c.from.result counted c.requires.one best
