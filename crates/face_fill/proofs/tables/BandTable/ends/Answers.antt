use Rattle.std.proofs.Common.{◌≡◌, ◌+◌, sym, ap, ◌∙◌}
use Rattle.mesh_definitions.specs.Field.{Field, node_band}
use Rattle.face_fill.specs.Corners.{node_of, ends_of_three, ends_of}
use Rattle.face_fill.specs.BandTableView.{field_by}
use Rattle.face_fill.specs.Items.{tri_of}
use Rattle.face_fill.proofs.Known.{upper_ends, lower_ends}
use Rattle.face_fill.proofs.tables.BandTable.ends.Goals as goal

pub returns-then-tri : goal.returns-then-tri
returns-then-tri c =
    let f : Field = field_by c.args.self.now in
    let i = c.args.tri.row in
    let k = c.args.tri.col in
    let e : c.ends_of_three.result ≡ ends_of_three (node_band f (node_of i k)) (node_band f (node_of i (k + 1))) (node_band f (node_of (i + 1) k)) =
    c.ends_of_three.ensures ∙ (ap (λ a. ends_of_three a c.band-north_east.result c.band-south_west.result) c.band.ensures
    ∙ (ap (λ b. ends_of_three (node_band f (node_of i k)) b c.band-south_west.result) c.band-north_east.ensures
    ∙ ap (λ s. ends_of_three (node_band f (node_of i k)) (node_band f (node_of i (k + 1))) s) c.band-south_west.ensures)) in
    e ∙ (upper_ends f i k ∙ ap (λ u. ends_of f (tri_of i k u)) (sym c.if-tri.true))

pub returns-else-tri : goal.returns-else-tri
returns-else-tri c =
    let f : Field = field_by c.args.self.now in
    let i = c.args.tri.row in
    let k = c.args.tri.col in
    let e : c.ends_of_three-else-tri.result ≡ ends_of_three (node_band f (node_of (i + 1) k)) (node_band f (node_of i (k + 1))) (node_band f (node_of (i + 1) (k + 1))) =
    c.ends_of_three-else-tri.ensures ∙ (ap (λ a. ends_of_three a c.band-north_east.result c.band-else-tri.result) c.band-south_west.ensures
    ∙ (ap (λ b. ends_of_three (node_band f (node_of (i + 1) k)) b c.band-else-tri.result) c.band-north_east.ensures
    ∙ ap (λ s. ends_of_three (node_band f (node_of (i + 1) k)) (node_band f (node_of i (k + 1))) s) c.band-else-tri.ensures)) in
    e ∙ (lower_ends f i k ∙ ap (λ u. ends_of f (tri_of i k u)) (sym c.if-tri.false))
