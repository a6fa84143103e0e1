use Rattle.std.proofs.Common.{◌≡◌, ℕ, ◌-◌, Bool, true, false, [], length, refl, sym, ap, ap₂, subst, ◌∙◌, arith}
use Rattle.std.specs.Prelude.{Option}
use Rattle.boundary_arcs.specs.Collecting.{Adds, walk_along}
use Rattle.boundary_arcs.proofs.Adding.{adds_none, adds_within}
use Rattle.boundary_arcs.proofs.Sides.{beside_has_pieces, nothing_within_face}
use Rattle.boundary_arcs.proofs.link_parts.add_link.Goals as goal
use Rattle.mesh_definitions.specs.Field.{Field}
use Rattle.mesh_definitions.specs.Mesh.{all_cells, right_tri}
use Rattle.mesh_definitions.specs.declared.Link.{Link}
use Rattle.mesh_definitions.specs.declared.Tri.{Tri}
use Rattle.depth_grid.specs.Grid.{GridView}
use Rattle.face_fill.specs.Views.{faces_view}
use Rattle.tri_mesh.specs.Cells.{cells}
use Rattle.tri_mesh.specs.Fields.{field_in}

-- a triangle beside a link, by the numbers of rows and columns that the grid tells
on_side : (f : Field) (g : GridView) (h : GridView) (l : Link) (forward : Bool) (o : Option Tri) (rows cols : ℕ) → length h.ys ≡ f.rows → length h.xs ≡ f.cols
    → o ≡ right_tri (cells (rows - 1) (cols - 1)) (walk_along l forward) → rows ≡ length g.ys → cols ≡ length g.xs → g ≡ h → o ≡ right_tri (all_cells f) (walk_along l forward)
on_side f g h l forward o rows cols some_rows some_cols e r c same =
    e ∙ ap₂ (λ m n. right_tri (cells (m - 1) (n - 1)) (walk_along l forward)) (r ∙ (ap (λ (k : GridView). length k.ys) same ∙ some_rows)) (c ∙ (ap (λ (k : GridView). length k.xs) same ∙ some_cols))

pub is_one_face-requires-clause-left : goal.is_one_face-requires-clause-left
is_one_face-requires-clause-left c =
    let f : Field = field_in c.args.ch.now c.args.levels.now in
    let left = c.tri_beside-left in
    let on_left = on_side f _ _ c.args.link false left.result c.rows-rows.result c.cols-cols.result refl refl left.ensures.value c.rows-rows.ensures c.cols-cols.ensures c.grid-grid.ensures in
    beside_has_pieces f (faces_view c.args.faces.now) c.requires.fits c.args.link false left.result on_left

pub is_one_face-requires-clause-right : goal.is_one_face-requires-clause-right
is_one_face-requires-clause-right c =
    let f : Field = field_in c.args.ch.now c.args.levels.now in
    let right = c.tri_beside-right in
    let on_right = on_side f _ _ c.args.link true right.result c.rows-rows.result c.cols-cols.result refl refl right.ensures.value c.rows-rows.ensures c.cols-cols.ensures c.grid-grid.ensures in
    beside_has_pieces f (faces_view c.args.faces.now) c.requires.fits c.args.link true right.result on_right

pub returns-then-is_one_face : goal.returns-then-is_one_face
returns-then-is_one_face c =
    let f : Field = field_in c.args.ch.now c.args.levels.now in
    let net = c.args.net.now in
    let left = c.tri_beside-left in
    let right = c.tri_beside-right in
    let on_left = on_side f _ _ c.args.link false left.result c.rows-rows.result c.cols-cols.result refl refl left.ensures.value c.rows-rows.ensures c.cols-cols.ensures c.grid-grid.ensures in
    let on_right = on_side f _ _ c.args.link true right.result c.rows-rows.result c.cols-cols.result refl refl right.ensures.value c.rows-rows.ensures c.cols-cols.ensures c.grid-grid.ensures in
    let nothing = nothing_within_face f (faces_view c.args.faces.now) c.requires.fits c.args.link left.result right.result on_left on_right (c.is_one_face.ensures c.if-is_one_face.true) in
    subst (Adds 21 net net) (sym nothing) (adds_within 0 21 net net [] (omega arith) (adds_none net))

pub add_between-requires-clause-left : goal.add_between-requires-clause-left
add_between-requires-clause-left c =
    let left = c.tri_beside-left in
    on_side (field_in c.args.ch.now c.args.levels.now) _ _ c.args.link false left.result c.rows-rows.result c.cols-cols.result refl refl left.ensures.value c.rows-rows.ensures c.cols-cols.ensures c.grid-grid.ensures

pub add_between-requires-clause-right : goal.add_between-requires-clause-right
add_between-requires-clause-right c =
    let right = c.tri_beside-right in
    on_side (field_in c.args.ch.now c.args.levels.now) _ _ c.args.link true right.result c.rows-rows.result c.cols-cols.result refl refl right.ensures.value c.rows-rows.ensures c.cols-cols.ensures c.grid-grid.ensures
