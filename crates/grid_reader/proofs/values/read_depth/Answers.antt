use Rattle.std.proofs.Common.{sym, ap, ◌∙◌}
use Rattle.grid_reader.specs.Values.{depth_from}
use Rattle.grid_reader.proofs.ShortWords.{mark_is}
use Rattle.grid_reader.proofs.values.read_depth.Goals as goal

pub returns-in-Some-short_depth : goal.returns-in-Some-short_depth
returns-in-Some-short_depth c =
    let s = c.in-Some.ensures in
    c.in-Some-short_depth.ensures c.args.nodata.now s.number c.requires s.value
    ∙ ap (depth_from c.args.sense c.args.nodata.now c.args.at) (sym (mark_is c.args.word.now s.number s.read))
