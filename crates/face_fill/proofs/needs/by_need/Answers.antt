use Rattle.std.proofs.Common.{◌≡◌, ◌-◌, ◌<◌, [], ◌∷◌, length, ap, ap₂, ◌∙◌, subst, arith}
use Rattle.mesh_definitions.specs.Blocks.{IsCut}
use Rattle.mesh_definitions.specs.Field.{Field}
use Rattle.mesh_definitions.specs.Mesh.{all_cells}
use Rattle.mesh_definitions.specs.declared.Rect.{Rect}
use Rattle.depth_grid.specs.Grid.{GridView}
use Rattle.tri_mesh.specs.Cells.{cells, rect_of}
use Rattle.tri_mesh.specs.Fields.{field_in}
use Rattle.tri_mesh.specs.Views.{blocks_view}
use Rattle.face_fill.specs.BandTableView.{field_by}
use Rattle.face_fill.proofs.Halving.{cut_length, cut_more, one_reached}
use Rattle.face_fill.proofs.needs.by_need.Goals as goal

pub loop-block-init : goal.loop-block-init
loop-block-init c =
    let f : Field = field_in c.args.ch.now c.args.levels.now in
    let rows : c.rows.result - 1 ≡ f.rows - 1 = ap (λ n. n - 1) (c.rows.ensures ∙ ap (λ (v : GridView). length v.ys) c.grid-grid.ensures) in
    let cols : c.cols.result - 1 ≡ f.cols - 1 = ap (λ n. n - 1) (c.cols.ensures ∙ ap (λ (v : GridView). length v.xs) c.grid-grid.ensures) in
    let whole : cells (c.rows.result - 1) (c.cols.result - 1) ≡ all_cells f = ap₂ cells rows cols in
    record {
      all = c.in_ok-blocks.ensures.all ∙ whole;
      number = c.count-count.ensures.value;
      few = c.count-count.ensures.few;
      below = omega arith;
      cut = one_reached f c.in_ok-blocks.blocks.rects.items (c.in_ok-blocks.ensures.one ∙ ap (λ (r : Rect). r ∷ []) whole);
    }

pub loop-block-preserved-then-branch : goal.loop-block-preserved-then-branch
loop-block-preserved-then-branch c =
    let f : Field = field_in c.args.ch.now c.args.levels.now in
    let old = blocks_view c.loop-block.blocks in
    let known : c.loop-block.block < length old.rects = omega (arith, c.loop-block-test.true, c.loop-block.invariant.number) in
    let cut : IsCut f (rect_of old c.loop-block.block) = subst (λ g. IsCut g (rect_of old c.loop-block.block)) c.in_ok-all.ensures.field (subst (IsCut (field_by c.in_ok-all.all)) c.rect-in-loop-block.ensures (c.in_ok-is_cut.ensures.0 c.if-branch.true)) in
    let length_is = cut_length f old.rects c.halve.new.self.rects.items c.loop-block.block known c.in_ok-halve.ensures.cut in
    record {
      all = c.halve.ensures.all ∙ c.loop-block.invariant.all;
      number = c.count-count-then-branch.ensures.value;
      few = c.count-count-then-branch.ensures.few;
      below = omega (arith, c.count-count-then-branch.ensures.value, length_is, known);
      cut = cut_more f old.rects c.halve.new.self.rects.items c.loop-block.block known c.in_ok-halve.ensures.cut c.loop-block.invariant.cut cut;
    }
