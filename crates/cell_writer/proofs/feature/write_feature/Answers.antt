use Rattle.std.proofs.Common.{List, [], ◌∷◌, ◌++◌, codes, map}
use Rattle.cell_writer.specs.Layout.{feature_parts, field, some_groups, id, attribute_values, pointer_values, frid_of, foid_of}
use Rattle.cell_writer.proofs.Adding.{then, three}
use Rattle.cell_writer.proofs.Made.{feature_made}
use Rattle.cell_writer.proofs.feature.write_feature.Goals as goal
use Rattle.iso8211_codec.specs.Reading.{Part}
use Rattle.s57_records.specs.Fields.{attribute, foid, frid, fspt}

pub write-requires : goal.write-requires
write-requires c =
    let f = c.args.feature.now in
    let front : List Part = id c.args.place ∷ field (codes "FRID") frid (frid_of f) ∷ field (codes "FOID") foid (foid_of f) ∷ [] in
    let attributes : List Part = some_groups (codes "ATTF") attribute (map attribute_values f.attributes) in
    let pointers : List Part = some_groups (codes "FSPT") fspt (map pointer_values f.pointers) in
    let next = rw c.as_slice.ensures at c.in_ok-add_attributes.ensures.adds in
    let last = rw c.as_slice-2.ensures at c.in_ok-add_pointers.ensures.adds in
    record { parts = feature_parts c.args.place c.args.feature.now; holds = then (front ++ attributes) pointers (then front attributes (three _ _ _ c.in_ok-begin.ensures c.in_ok-add_frid.ensures.adds c.in_ok-add_foid.ensures.adds) next) last; made = feature_made c.args.place c.args.feature.now c.requires.short }

pub returns-clause-items : goal.returns-clause-items
returns-clause-items c =
    let f = c.args.feature.now in
    let front : List Part = id c.args.place ∷ field (codes "FRID") frid (frid_of f) ∷ field (codes "FOID") foid (foid_of f) ∷ [] in
    let attributes : List Part = some_groups (codes "ATTF") attribute (map attribute_values f.attributes) in
    let pointers : List Part = some_groups (codes "FSPT") fspt (map pointer_values f.pointers) in
    let next = rw c.as_slice.ensures at c.in_ok-add_attributes.ensures.adds in
    let last = rw c.as_slice-2.ensures at c.in_ok-add_pointers.ensures.adds in
    c.write.ensures.items (feature_parts c.args.place c.args.feature.now) (then (front ++ attributes) pointers (then front attributes (three _ _ _ c.in_ok-begin.ensures c.in_ok-add_frid.ensures.adds c.in_ok-add_foid.ensures.adds) next) last)
