use Rattle.std.proofs.Common.{arith}
use Rattle.face_fill.specs.BandTableView.{field_by}
use Rattle.face_fill.proofs.Runs.{few_triangles}
use Rattle.face_fill.proofs.piece_table.list_pieces.Goals as goal

pub returns-clause-whole : goal.returns-clause-whole
returns-clause-whole c =
    let n = c.args.nodes in
    let few = few_triangles (field_by n) n.rect n.bands.items c.requires.nodes in
    let items = c.in_ok-items.ensures in
    record {
      nodes = c.requires.nodes;
      blocks = c.requires.fit;
      items = items;
      few = omega (arith, items.few, few);
    }
