use Rattle.std.proofs.Common.{◌+◌, ◌-◌, ◌*◌, None, ◌∙◌, arith}
use Rattle.std.proofs.lemmas.List.{get_or_read}
use Rattle.face_fill.specs.BandTableView.{field_by}
use Rattle.face_fill.proofs.Known.{node_below, node_there}
use Rattle.face_fill.proofs.tables.BandTable.band.Goals as goal

pub index-requires : goal.index-requires
index-requires c =
    let s = c.args.self.now in
    let l = node_below (field_by s) s.rect s.bands.items c.requires.nodes c.args.row c.args.col c.requires.north c.requires.south c.requires.west c.requires.east in
    omega (arith, l, s.bands.ok.0)

pub returns : goal.returns
returns c =
    let s = c.args.self.now in
    get_or_read s.bands.items ((c.args.row - s.rect.row) * (s.rect.cols + 1) + (c.args.col - s.rect.col)) c.index.result.now
    (node_below (field_by s) s.rect s.bands.items c.requires.nodes c.args.row c.args.col c.requires.north c.requires.south c.requires.west c.requires.east)
    c.index.ensures None
    ∙ node_there (field_by s) s.rect s.bands.items c.requires.nodes c.args.row c.args.col c.requires.north c.requires.south c.requires.west c.requires.east
