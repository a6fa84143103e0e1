use Rattle.std.proofs.Common.{◌≡◌, ◌∙◌, ◌≤◌, ◌^◌, All, Global, Vec, ap, arith, length, map, subst, subst₂, sym}
use Rattle.std.proofs.lemmas.List.{length-map}
use Rattle.boundary_arcs.specs.Views.{arcs_view}
use Rattle.ring_builder.proofs.Bordering.{bordering_known}
use Rattle.ring_builder.proofs.Building.{balanced_parts, few_parts, one_set_more, parts_are, rings_are}
use Rattle.ring_builder.proofs.Meshes.{bound_sets, sets_have_exteriors}
use Rattle.ring_builder.proofs.sets.set_rings.Goals as goal
use Rattle.ring_builder.specs.Lists.{AreCut, IsPart}
use Rattle.ring_builder.specs.Parts.{bordering, hop_of, numbers}
use Rattle.ring_builder.specs.Rings.{HasRings}
use Rattle.ring_builder.specs.declared.ring.Part.{Part}
use Rattle.ring_builder.specs.declared.ring.Ring.{Ring}
use Rattle.ring_cutter.specs.Rings.{IsBalanced}

-- the parts that are cut are those that border the set
these : (c : goal.After-hops-1) → c.deref.result.now ≡ bordering (arcs_view c.args.arcs.now).arcs (numbers c.args.owners.now) c.loop-parts.parts-index
these c =
    parts_are (λ (v : Vec Part Global). v.items) (arcs_view c.args.arcs.now).arcs (numbers c.args.owners.now) c.args.sets c.in_ok-lists.lists.items c.deref-parts-items.result.now c.loop-parts.parts-index c.parts-item.result c.deref.result.now
    c.in_ok-lists.ensures c.deref-parts-items.ensures.value c.loop-parts-test.true c.parts-item.is c.deref.ensures.value

pub cut_parts-requires-clause-known : goal.cut_parts-requires-clause-known
cut_parts-requires-clause-known c =
    let arcs = (arcs_view c.args.arcs.now).arcs in
    subst (All (IsPart arcs)) (sym (these c)) (bordering_known arcs (numbers c.args.owners.now) c.loop-parts.parts-index)

pub cut_parts-requires-clause-few : goal.cut_parts-requires-clause-few
cut_parts-requires-clause-few c =
    let v = arcs_view c.args.arcs.now in
    subst (λ z. length z ≤ 2 ^ 27) (sym (these c)) (few_parts v.nodes v.arcs v.faces c.args.arcs.now.agree (numbers c.args.owners.now) c.loop-parts.parts-index)

pub cut_parts-requires-clause-balanced : goal.cut_parts-requires-clause-balanced
cut_parts-requires-clause-balanced c =
    let v = arcs_view c.args.arcs.now in
    subst₂ (λ z n. IsBalanced (map (hop_of v.arcs) z) n) (sym (these c)) (sym c.loop-parts.invariant.wide) (balanced_parts v.nodes v.arcs v.faces c.args.arcs.now.agree (numbers c.args.owners.now) c.loop-parts.parts-index)

pub loop-parts-preserved : goal.loop-parts-preserved
loop-parts-preserved c =
    let v = arcs_view c.args.arcs.now in
    let owner = numbers c.args.owners.now in
    let i = c.loop-parts.parts-index in
    let made = c.in_ok-cut_parts.field-0 in
    let these =
    parts_are (λ (v : Vec Part Global). v.items) v.arcs owner c.args.sets c.in_ok-lists.lists.items c.deref-parts-items.result.now i c.parts-item.result c.deref.result.now
    c.in_ok-lists.ensures c.deref-parts-items.ensures.value c.loop-parts-test.true c.parts-item.is c.deref.ensures.value in
    record {
      rings = one_set_more (λ (v : Vec Ring Global). v.items) v.arcs owner i c.loop-parts.all.items c.push.new.self.items made c.in_ok-push.ensures.items c.loop-parts.invariant.rings
          (rings_are v.nodes v.arcs v.faces c.args.arcs.now.agree owner i made.items (subst (λ z. AreCut v.arcs z made.items) these c.in_ok-cut_parts.ensures.rings));
      wide = c.in_ok-cut_parts.ensures.kept ∙ c.loop-parts.invariant.wide;
    }

-- the rings of all sets are made
all_made : (c : goal.After-drop-lists-2) → HasRings (arcs_view c.args.arcs.now).arcs (numbers c.args.owners.now) c.args.sets (map (λ (v : Vec Ring Global). v.items) c.loop-parts.all.items)
all_made c =
    let v = arcs_view c.args.arcs.now in
    let owner = numbers c.args.owners.now in
    let all = map (λ (v : Vec Ring Global). v.items) c.loop-parts.all.items in
    let same = ap length c.deref-parts-items.ensures.value in
    let wide = c.in_ok-lists.ensures.wide in
    let end : c.loop-parts.parts-index ≡ c.args.sets = omega (arith, c.loop-parts-test.false, c.loop-parts.auto.parts-index-end, same, wide, length-map c.in_ok-lists.lists.items (λ (v : Vec Part Global). v.items)) in
    subst (λ n. HasRings v.arcs owner n all) end c.loop-parts.invariant.rings

pub returns-clause-boundaries : goal.returns-clause-boundaries
returns-clause-boundaries c =
    let v = arcs_view c.args.arcs.now in
    bound_sets c.face_laws.ensures.apart v.arcs (numbers c.args.owners.now) c.args.sets (map (λ (v : Vec Ring Global). v.items) c.loop-parts.all.items) (all_made c)

pub returns-clause-exterior : goal.returns-clause-exterior
returns-clause-exterior c =
    let v = arcs_view c.args.arcs.now in
    sets_have_exteriors c.exterior_rings.ensures.rings c.face_laws.ensures.apart v.arcs (numbers c.args.owners.now) c.args.sets (map (λ (v : Vec Ring Global). v.items) c.loop-parts.all.items) (all_made c)
