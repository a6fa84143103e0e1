use Rattle.std.proofs.Common.{◌≡◌, ◌-◌, ◌*◌, length, sym, ap, ◌∙◌, subst, arith}
use Rattle.mesh_definitions.specs.declared.Rect.{Rect}
use Rattle.face_fill.specs.BandTableView.{field_by}
use Rattle.face_fill.specs.Items.{AreItems}
use Rattle.face_fill.specs.PieceTableView.{block_by}
use Rattle.face_fill.specs.Runs.{AreListed}
use Rattle.face_fill.proofs.Runs.{none_listed}
use Rattle.face_fill.proofs.piece_table.list_items.Goals as goal

pub loop-row-init : goal.loop-row-init
loop-row-init c =
    let n = c.args.nodes.now in
    let r : Rect = n.rect in
    let z : r.row - r.row ≡ 0 = omega arith in
    let none : 2 * (0 * r.cols) ≡ 0 = omega arith in
    let zero : 0 ≡ 2 * ((r.row - r.row) * r.cols) = sym (ap (λ k. 2 * (k * r.cols)) z ∙ none) in
    let starts = c.in_ok-with_capacity.field-0.items in
    let counts = c.in_ok-with_capacity-2.field-0.items in
    subst (λ k. AreItems (field_by n) r (block_by c.args.blocks) k starts counts c.new.result.items) zero
    (none_listed (field_by n) r (block_by c.args.blocks) starts counts c.new.result.items (ap length c.in_ok-with_capacity.ensures.items) (ap length c.in_ok-with_capacity-2.ensures.items) (ap length c.new.ensures.items))

pub returns : goal.returns
returns c =
    let n = c.args.nodes.now in
    let r : Rect = n.rect in
    let rows : c.loop-row.row - r.row ≡ r.rows = omega (arith, c.loop-row-test.false, c.loop-row.auto.row-end) in
    subst (λ k. AreListed (field_by n) r (block_by c.args.blocks) k c.loop-row.items) (ap (λ k. 2 * (k * r.cols)) rows) c.loop-row.invariant
