use Rattle.std.proofs.Common.{ℕ, refl, sym, subst}
use Rattle.mesh_definitions.specs.Field.{Field}
use Rattle.tri_mesh.specs.Cells.{block_in}
use Rattle.tri_mesh.specs.Fields.{field_in}
use Rattle.tri_mesh.specs.Lines.{DrawnAt}
use Rattle.tri_mesh.specs.Views.{blocks_view}
use Rattle.tri_mesh.proofs.Drawing.{first_link, second_link, third_link, fourth_link, fifth_link, not_link, last_link}
use Rattle.tri_mesh.proofs.lines.on_links.Goals as goal

pub returns-then-on_link : goal.returns-then-on_link
returns-then-on_link c = (λ _. first_link (field_in c.args.ch.now c.args.levels.now) (block_in (blocks_view c.args.blocks.now)) c.args.p c.across.result c.args.row c.args.col c.across.ensures (c.on_link.ensures.0 c.if-on_link.true), λ _. refl)

pub returns-then-on_link-2 : goal.returns-then-on_link-2
returns-then-on_link-2 c = (λ _. second_link (field_in c.args.ch.now c.args.levels.now) (block_in (blocks_view c.args.blocks.now)) c.args.p c.down.result c.args.row c.args.col c.down.ensures (c.on_link-2.ensures.0 c.if-on_link-2.true), λ _. refl)

pub returns-then-on_link-3 : goal.returns-then-on_link-3
returns-then-on_link-3 c = (λ _. third_link (field_in c.args.ch.now c.args.levels.now) (block_in (blocks_view c.args.blocks.now)) c.args.p c.slant.result c.args.row c.args.col c.slant.ensures (c.on_link-3.ensures.0 c.if-on_link-3.true), λ _. refl)

pub returns-then-on_link-4 : goal.returns-then-on_link-4
returns-then-on_link-4 c = (λ _. fourth_link (field_in c.args.ch.now c.args.levels.now) (block_in (blocks_view c.args.blocks.now)) c.args.p c.across-2.result c.args.row c.args.col c.across-2.ensures (c.on_link-4.ensures.0 c.if-on_link-4.true), λ _. refl)

pub returns : goal.returns
returns c =
    let f : Field = field_in c.args.ch.now c.args.levels.now in
    let block : ℕ → ℕ → ℕ = block_in (blocks_view c.args.blocks.now) in
    let p = c.args.p in (
      λ t. fifth_link f block p c.down-2.result c.args.row c.args.col c.down-2.ensures (c.on_link-5.ensures.0 t),
      λ d. c.on_link-5.ensures.1 (subst (DrawnAt f block p) (sym c.down-2.ensures) (last_link f block p c.args.row c.args.col d
          (not_link f block p c.across.result _ c.on_link.result c.across.ensures c.if-on_link.false c.on_link.ensures.1)
          (not_link f block p c.down.result _ c.on_link-2.result c.down.ensures c.if-on_link-2.false c.on_link-2.ensures.1)
          (not_link f block p c.slant.result _ c.on_link-3.result c.slant.ensures c.if-on_link-3.false c.on_link-3.ensures.1)
          (not_link f block p c.across-2.result _ c.on_link-4.result c.across-2.ensures c.if-on_link-4.false c.on_link-4.ensures.1))),
    )
