use Rattle.std.proofs.Common.{length, sym, subst}
use Rattle.std.specs.Prelude.{All}
use Rattle.std.proofs.lemmas.Result.{IfOk-weaker}
use Rattle.boundary_arcs.specs.ChainEdges.{HasFacesBelow, AreArcsOfNet}
use Rattle.boundary_arcs.specs.Edges.{AreArcsOf}
use Rattle.boundary_arcs.proofs.Running.{edges_of_mesh}
use Rattle.boundary_arcs.proofs.Standing.{is_net, sides_below}
use Rattle.chains.specs.Nets.{IsNet}
use Rattle.mesh_definitions.specs.Mesh.{all_cells}
use Rattle.mesh_definitions.specs.Pieces.{whole_mesh}
use Rattle.face_fill.specs.Numbered.{face_in}
use Rattle.face_fill.specs.Views.{faces_view}
use Rattle.tri_mesh.specs.Cells.{block_in}
use Rattle.tri_mesh.specs.Fields.{field_in}
use Rattle.tri_mesh.specs.Views.{blocks_view}
use Rattle.boundary_arcs.proofs.grid_edges.arcs.Goals as goal

pub assemble-requires-clause-net : goal.assemble-requires-clause-net
assemble-requires-clause-net c =
    let f = field_in c.args.ch.now c.args.levels.now in
    let block = block_in (blocks_view c.args.blocks.now) in
    let v = faces_view c.args.faces.now in
    let net = c.in_ok-net.net in
    is_net (whole_mesh f block) (face_in f v) net.points.keys net.lines.items c.in_ok-net.ensures (c.piece_laws.ensures.once f (all_cells f) block) c.requires.faces.faces (c.piece_laws.ensures.closed f (all_cells f) block) c.face_laws.ensures.balance c.face_laws.ensures.apart

pub assemble-requires-clause-sides : goal.assemble-requires-clause-sides
assemble-requires-clause-sides c =
    let f = field_in c.args.ch.now c.args.levels.now in
    let block = block_in (blocks_view c.args.blocks.now) in
    let v = faces_view c.args.faces.now in
    let net = c.in_ok-net.net in
    subst (λ n. All (HasFacesBelow n) net.lines.items) (sym c.count.ensures.value)
    (sides_below (whole_mesh f block) (face_in f v) net.points.keys net.lines.items c.in_ok-net.ensures (c.piece_laws.ensures.once f (all_cells f) block) c.requires.faces.faces (length v.classes) c.requires.faces.gapless)

pub returns-clause-edges : goal.returns-clause-edges
returns-clause-edges c =
    let f = field_in c.args.ch.now c.args.levels.now in
    let block = block_in (blocks_view c.args.blocks.now) in
    let v = faces_view c.args.faces.now in
    let net = c.in_ok-net.net in
    let s = c.in_ok-net.ensures in
    let is : IsNet net.lines.items (length net.points.keys) = is_net (whole_mesh f block) (face_in f v) net.points.keys net.lines.items s (c.piece_laws.ensures.once f (all_cells f) block) c.requires.faces.faces (c.piece_laws.ensures.closed f (all_cells f) block) c.face_laws.ensures.balance c.face_laws.ensures.apart in
    IfOk-weaker c.assemble.result (λ a. AreArcsOfNet net.points.keys net.lines.items a.arcs.items) (λ a. AreArcsOf (whole_mesh f block) (face_in f v) a.arcs.items) (λ a h. edges_of_mesh (whole_mesh f block) (face_in f v) net.points.keys net.lines.items s is a.arcs.items h) c.assemble.ensures.arcs
