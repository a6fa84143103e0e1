use Rattle.std.proofs.Common.{◌≡◌, true, false, Some, sym, ◌∙◌}
use Rattle.mesh_definitions.specs.Cuts.{falls}
use Rattle.mesh_definitions.specs.Field.{Field, node_band}
use Rattle.depth_rounding.specs.Views.{levels_view}
use Rattle.tri_mesh.specs.Fields.{field_in}
use Rattle.tri_mesh.proofs.Parting.{part_back, part_ahead}
use Rattle.tri_mesh.proofs.links.part.Goals as goal

pub returns-then-is_deeper : goal.returns-then-is_deeper
returns-then-is_deeper c =
    let f : Field = field_in c.args.ch.now c.args.levels.now in
    let e = c.ends_of.result in
    let at_a : node_band f e.a ≡ Some c.in-Some-Some.a_band = sym c.band_of.ensures.value ∙ c.in-Some-Some.is-0 in
    let at_b : node_band f e.b ≡ Some c.in-Some-Some.b_band = sym c.band_of-2.ensures.value ∙ c.in-Some-Some.is-1 in
    let deeper : falls f e.a e.b ≡ true = sym (c.is_deeper.ensures (levels_view c.args.levels.now)) ∙ c.if-is_deeper.true in
    part_back f c.args.link c.args.band e.a e.b _ _ c.ends_of.ensures.a c.ends_of.ensures.b at_a at_b c.part_up-up.result deeper c.part_up-up.ensures

pub returns-else-is_deeper : goal.returns-else-is_deeper
returns-else-is_deeper c =
    let f : Field = field_in c.args.ch.now c.args.levels.now in
    let e = c.ends_of.result in
    let at_a : node_band f e.a ≡ Some c.in-Some-Some.a_band = sym c.band_of.ensures.value ∙ c.in-Some-Some.is-0 in
    let at_b : node_band f e.b ≡ Some c.in-Some-Some.b_band = sym c.band_of-2.ensures.value ∙ c.in-Some-Some.is-1 in
    let deeper : falls f e.a e.b ≡ false = sym (c.is_deeper.ensures (levels_view c.args.levels.now)) ∙ c.if-is_deeper.false in
    part_ahead f c.args.link c.args.band e.a e.b _ _ c.ends_of.ensures.a c.ends_of.ensures.b at_a at_b c.part_up.result deeper c.part_up.ensures
