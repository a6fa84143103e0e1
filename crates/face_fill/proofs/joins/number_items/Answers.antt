use Rattle.std.proofs.Common.{◌≡◌, length, ◌∙◌, arith}
use Rattle.disjoint_sets.specs.Views.{parents_of}
use Rattle.face_fill.specs.PieceTableView.{item_count}
use Rattle.face_fill.specs.TallyView.{link_of}
use Rattle.mesh_definitions.specs.declared.Way.TheVariants.{Across, Down}
use Rattle.face_fill.proofs.Joining.{met_on, sets_number, singles_joined}
use Rattle.face_fill.proofs.joins.number_items.Goals as goal

pub returns : goal.returns
returns c =
    let p = c.args.table.now in
    let begun = parents_of c.in_ok-sets.sets in
    let one = parents_of c.join_way.new.sets in
    let two = parents_of c.join_way-2.new.sets in
    let three = parents_of c.join_way-3.new.sets in
    let full : length begun ≡ item_count p = omega (arith, c.in_ok-sets.ensures.size, c.len.ensures, p.items.owners.ok.0) in
    let g = c.join_way.ensures.grows in
    let h = c.join_way-2.ensures.grows in
    let k = c.join_way-3.ensures.grows in
    sets_number p three c.into_numbers.result.numbers.items c.into_numbers.result.count c.requires
    (k.each ∙ (h.each ∙ (g.each ∙ full)))
    (k.joined (h.joined (g.joined (singles_joined p begun c.in_ok-sets.ensures.apart))))
    (λ i n s j w e. met_on p two three (link_of Across i j) k (met_on p one two (link_of Across i j) h (c.join_way.ensures.met i n s j w e)))
    (λ i n s j w e. met_on p two three (link_of Down i j) k (c.join_way-2.ensures.met i n s j w e))
    c.join_way-3.ensures.met
    c.into_numbers.ensures
