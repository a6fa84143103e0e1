use Rattle.std.proofs.Common.{◌≡◌, ◌-◌, length, ap, ap₂, ◌∙◌, subst, arith}
use Rattle.mesh_definitions.specs.Field.{Field}
use Rattle.mesh_definitions.specs.declared.Rect.{Rect}
use Rattle.depth_grid.specs.Grid.{GridView}
use Rattle.face_fill.specs.Filled.{AreKinds}
use Rattle.face_fill.specs.BandTableView.{field_by}
use Rattle.face_fill.specs.declared.tables.BandTable.{BandTable}
use Rattle.face_fill.specs.Numbered.{AreSound, view_of}
use Rattle.face_fill.specs.PieceTableView.{block_by}
use Rattle.face_fill.proofs.Whole.{are_sound, are_faces_of}
use Rattle.tri_mesh.specs.Cells.{block_in, cells}
use Rattle.tri_mesh.specs.Fields.{field_in}
use Rattle.tri_mesh.specs.Views.{blocks_view}
use Rattle.face_fill.proofs.face_numbers.fill.Goals as goal

pub invariant_of-result : goal.invariant_of-result
invariant_of-result c =
    let p = c.in_ok-table.table in
    let f : Field = field_by p.nodes in
    let r : Rect = p.nodes.rect in
    let numbers = c.in_ok-found.found.numbers.items in
    let whole = c.in_ok-table.ensures.whole in
    let kinds : AreKinds f r (block_by p.blocks) p.items.starts.items p.items.owners.items numbers c.in_ok-found.found.count (length p.items.owners.items) c.in_ok-kinds.kinds.classes.items c.in_ok-kinds.kinds.blocks.items =
    subst (λ ns. AreKinds f r (block_by p.blocks) p.items.starts.items p.items.owners.items ns c.in_ok-found.found.count (length p.items.owners.items) c.in_ok-kinds.kinds.classes.items c.in_ok-kinds.kinds.blocks.items) c.deref.ensures.value c.in_ok-kinds.ensures in
    let inside = whole.nodes.inside in
    record {
      sound = subst (λ (r : Rect). AreSound (view_of r.rows r.cols p.items.starts.items p.items.counts.items numbers c.in_ok-kinds.kinds.classes.items c.in_ok-kinds.kinds.blocks.items)) (ap (λ (n : BandTable). n.rect) c.in_ok-table.ensures.nodes ∙ c.in_ok-nodes.ensures.rect)
          (are_sound f r (block_by p.blocks) p.items.starts.items p.items.counts.items p.items.owners.items numbers c.in_ok-kinds.kinds.classes.items c.in_ok-kinds.kinds.blocks.items c.in_ok-found.found.count
          (omega (arith, inside.south, whole.nodes.few_rows, inside.some_rows)) (omega (arith, inside.east, whole.nodes.few_cols, inside.some_cols)) whole.few whole.items c.in_ok-found.ensures kinds);
    }

pub returns : goal.returns
returns c =
    let p = c.in_ok-table.table in
    let f : Field = field_by p.nodes in
    let g : Field = field_in c.args.ch.now c.args.levels.now in
    let r : Rect = p.nodes.rect in
    let numbers = c.in_ok-found.found.numbers.items in
    let whole = c.in_ok-table.ensures.whole in
    let kinds : AreKinds f r (block_by p.blocks) p.items.starts.items p.items.owners.items numbers c.in_ok-found.found.count (length p.items.owners.items) c.in_ok-kinds.kinds.classes.items c.in_ok-kinds.kinds.blocks.items =
    subst (λ ns. AreKinds f r (block_by p.blocks) p.items.starts.items p.items.owners.items ns c.in_ok-found.found.count (length p.items.owners.items) c.in_ok-kinds.kinds.classes.items c.in_ok-kinds.kinds.blocks.items) c.deref.ensures.value c.in_ok-kinds.ensures in
    let rows : c.rows.result - 1 ≡ g.rows - 1 = ap (λ n. n - 1) (c.rows.ensures ∙ ap (λ (v : GridView). length v.ys) c.grid-grid.ensures) in
    let cols : c.cols.result - 1 ≡ g.cols - 1 = ap (λ n. n - 1) (c.cols.ensures ∙ ap (λ (v : GridView). length v.xs) c.grid-grid.ensures) in
    are_faces_of f g r (block_by p.blocks) (block_in (blocks_view c.args.blocks.now)) p.items.starts.items p.items.counts.items p.items.owners.items numbers c.in_ok-kinds.kinds.classes.items c.in_ok-kinds.kinds.blocks.items c.in_ok-found.found.count (c.rows.result - 1) (c.cols.result - 1)
    (record { items = whole.items; parts = c.in_ok-found.ensures; kinds = kinds })
    (ap field_by c.in_ok-table.ensures.nodes ∙ c.in_ok-nodes.ensures.field)
    ((ap (λ (n : BandTable). n.rect) c.in_ok-table.ensures.nodes ∙ c.in_ok-nodes.ensures.rect) ∙ ap₂ cells rows cols)
    (ap block_by c.in_ok-table.ensures.blocks)
    (c.args.ch.now.grid.now.rows.several) (c.args.ch.now.grid.now.columns.several)
    rows cols
