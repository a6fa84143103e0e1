use Rattle.std.proofs.Common.{List, [], ◌∷◌, codes, map}
use Rattle.cell_writer.specs.Layout.{edge_parts, groups, some_groups, id, vector, end_values, point_values}
use Rattle.cell_writer.proofs.Adding.{then, three}
use Rattle.cell_writer.proofs.Made.{edge_made}
use Rattle.cell_writer.proofs.vector.write_edge.Goals as goal
use Rattle.iso8211_codec.specs.Reading.{Part}
use Rattle.s57_records.specs.Fields.{sg2d, vrpt}

pub write-requires : goal.write-requires
write-requires c =
    let e = c.args.edge.now in
    let front : List Part = id c.args.place ∷ vector 130 e.rcid e.rver ∷ groups (codes "VRPT") vrpt (end_values 1 e.first ∷ end_values 2 e.last ∷ []) ∷ [] in
    let inner : List Part = some_groups (codes "SG2D") sg2d (map point_values e.inner) in
    let last = rw c.as_slice.ensures at c.in_ok-add_points.ensures.adds in
    record { parts = edge_parts c.args.place c.args.edge.now; holds = then front inner (three _ _ _ c.in_ok-begin.ensures c.in_ok-add_vector.ensures.adds c.in_ok-add_ends.ensures.adds) last; made = edge_made c.args.place c.args.edge.now c.requires }

pub returns-clause-items : goal.returns-clause-items
returns-clause-items c =
    let e = c.args.edge.now in
    let front : List Part = id c.args.place ∷ vector 130 e.rcid e.rver ∷ groups (codes "VRPT") vrpt (end_values 1 e.first ∷ end_values 2 e.last ∷ []) ∷ [] in
    let inner : List Part = some_groups (codes "SG2D") sg2d (map point_values e.inner) in
    let last = rw c.as_slice.ensures at c.in_ok-add_points.ensures.adds in
    c.write.ensures.items (edge_parts c.args.place c.args.edge.now) (then front inner (three _ _ _ c.in_ok-begin.ensures c.in_ok-add_vector.ensures.adds c.in_ok-add_ends.ensures.adds) last)
