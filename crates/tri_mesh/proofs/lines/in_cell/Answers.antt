use Rattle.std.proofs.Common.{ℕ, true, false, refl}
use Rattle.mesh_definitions.specs.Field.{Field}
use Rattle.tri_mesh.specs.Cells.{block_in}
use Rattle.tri_mesh.specs.Fields.{field_in}
use Rattle.tri_mesh.specs.Lines.CellDraws.{ByLink, ByChord}
use Rattle.tri_mesh.specs.Views.{blocks_view}
use Rattle.tri_mesh.proofs.Drawing.{not_by, last_chord}
use Rattle.tri_mesh.proofs.lines.in_cell.Goals as goal

pub returns-then-on_links : goal.returns-then-on_links
returns-then-on_links c = (λ _. ByLink (c.on_links.ensures.0 c.if-on_links.true), λ _. refl)

pub returns-then-on_chord : goal.returns-then-on_chord
returns-then-on_chord c = (λ _. ByChord true (c.on_chord.ensures.0 c.if-on_chord.true), λ _. refl)

pub returns : goal.returns
returns c =
    let f : Field = field_in c.args.ch.now c.args.levels.now in
    let block : ℕ → ℕ → ℕ = block_in (blocks_view c.args.blocks.now) in (
      λ t. ByChord false (c.on_chord-2.ensures.0 t),
      λ d. c.on_chord-2.ensures.1 (last_chord f block c.args.p c.args.row c.args.col d (not_by c.on_links.result c.if-on_links.false c.on_links.ensures.1) (not_by c.on_chord.result c.if-on_chord.false c.on_chord.ensures.1)),
    )
