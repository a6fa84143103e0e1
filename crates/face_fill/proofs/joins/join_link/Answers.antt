use Rattle.std.proofs.Common.{⊎_elim, true, false, refl, sym, ap, ap₂, ◌∙◌, subst, arith}
use Rattle.std.specs.Prelude.{Contains}
use Rattle.std.proofs.lemmas.Bool.{cases_eq}
use Rattle.disjoint_sets.specs.Sets.{AreJoined}
use Rattle.disjoint_sets.specs.Views.{parents_of}
use Rattle.mesh_definitions.specs.Field.{Field}
use Rattle.mesh_definitions.specs.Pieces.{part_bands, piece_at}
use Rattle.face_fill.specs.BandTableView.{field_by}
use Rattle.face_fill.specs.Items.{alike}
use Rattle.face_fill.specs.Listed.{InMesh}
use Rattle.face_fill.specs.PieceTableView.{block_by}
use Rattle.face_fill.specs.Joins.{AreMetAt, item_by}
use Rattle.face_fill.specs.Listing.{in_range, of_range}
use Rattle.face_fill.proofs.Joining.{HasSides, grows_by, grows_on, met_at, met_shared, met_unlike, side_cell, side_piece, sides_joined}
use Rattle.face_fill.proofs.joins.join_link.Goals as goal

pub returns-then-share_an_item-clause-met : goal.returns-then-share_an_item-clause-met
returns-then-share_an_item-clause-met c =
    let p = c.args.table.now in
    let sides : HasSides p c.args.link c.in-Some.right c.in-Some-tri_beside.left = record { right = sym c.tri_beside.ensures.value ∙ c.in-Some.is; left = sym c.tri_beside-2.ensures.value ∙ c.in-Some-tri_beside.is } in
    met_shared p c.args.link c.in-Some.right c.in-Some-tri_beside.left sides c.requires.whole (parents_of c.args.sets.now) c.args.sets.now.sound c.requires.full (c.if-share_an_item.ensures refl)

pub seat-left-requires-clause-inside : goal.seat-left-requires-clause-inside
seat-left-requires-clause-inside c = side_cell c.args.table.now c.args.link false c.in-Some-tri_beside.left (sym c.tri_beside-2.ensures.value ∙ c.in-Some-tri_beside.is)

pub returns-then-not-are_alike-clause-met : goal.returns-then-not-are_alike-clause-met
returns-then-not-are_alike-clause-met c =
    let p = c.args.table.now in
    let sides : HasSides p c.args.link c.in-Some.right c.in-Some-tri_beside.left = record { right = sym c.tri_beside.ensures.value ∙ c.in-Some.is; left = sym c.tri_beside-2.ensures.value ∙ c.in-Some-tri_beside.is } in
    met_unlike p c.args.link c.in-Some.right c.in-Some-tri_beside.left sides (parents_of c.args.sets.now) (sym (c.are_alike.ensures ∙ ap₂ (alike (field_by p.nodes) (block_by p.blocks)) c.seat-right.ensures.tri c.seat-left.ensures.tri) ∙ c.if-not-are_alike.true)

pub item_at-requires-clause-piece : goal.item_at-requires-clause-piece
item_at-requires-clause-piece c =
    let p = c.args.table.now in
    let there : Contains (part_bands (field_by p.nodes) c.args.link) c.loop-band.band = subst (λ bs. Contains bs c.loop-band.band) (sym c.bands_of-first.ensures.parts) (in_range c.bands_of-first.result.0 c.bands_of-first.result.1 c.loop-band.band (omega arith) (omega arith)) in
    subst (λ t. InMesh (field_by p.nodes) p.nodes.rect (piece_at (field_by p.nodes) c.loop-band.band t)) (sym c.seat-right.ensures.tri) (side_piece p c.args.link true c.in-Some.right c.loop-band.band (sym c.tri_beside.ensures.value ∙ c.in-Some.is) there)

pub item_at-requires-in-loop-band-clause-piece : goal.item_at-requires-in-loop-band-clause-piece
item_at-requires-in-loop-band-clause-piece c =
    let p = c.args.table.now in
    let there : Contains (part_bands (field_by p.nodes) c.args.link) c.loop-band.band = subst (λ bs. Contains bs c.loop-band.band) (sym c.bands_of-first.ensures.parts) (in_range c.bands_of-first.result.0 c.bands_of-first.result.1 c.loop-band.band (omega arith) (omega arith)) in
    subst (λ t. InMesh (field_by p.nodes) p.nodes.rect (piece_at (field_by p.nodes) c.loop-band.band t)) (sym c.seat-left.ensures.tri) (side_piece p c.args.link false c.in-Some-tri_beside.left c.loop-band.band (sym c.tri_beside-2.ensures.value ∙ c.in-Some-tri_beside.is) there)

pub loop-band-preserved : goal.loop-band-preserved
loop-band-preserved c =
    let p = c.args.table.now in
    let f : Field = field_by p.nodes in
    let t = c.in-Some.right in
    let u = c.in-Some-tri_beside.left in
    let l = c.args.link in
    let band = c.loop-band.band in
    let old = parents_of c.loop-band.sets in
    let new = parents_of c.join.new.self in
    let sides : HasSides p l t u = record { right = sym c.tri_beside.ensures.value ∙ c.in-Some.is; left = sym c.tri_beside-2.ensures.value ∙ c.in-Some-tri_beside.is } in
    let there : Contains (part_bands f l) band = subst (λ bs. Contains bs band) (sym c.bands_of-first.ensures.parts) (in_range c.bands_of-first.result.0 c.bands_of-first.result.1 band (omega arith) (omega arith)) in
    let joined : AreJoined old new (item_by p (piece_at f band t)) (item_by p (piece_at f band u)) = subst (λ b. AreJoined old new (item_by p (piece_at f band t)) b) (c.item_at-in-loop-band.ensures.value ∙ ap (λ t. item_by p (piece_at f band t)) c.seat-left.ensures.tri) (subst (λ a. AreJoined old new a c.item_at-in-loop-band.result) (c.item_at.ensures.value ∙ ap (λ t. item_by p (piece_at f band t)) c.seat-right.ensures.tri) c.join.ensures.joined) in
    let step = grows_by p old new (item_by p (piece_at f band t)) (item_by p (piece_at f band u)) c.join.ensures.size joined
    (sides_joined p l t u sides c.requires.whole (sym (c.are_alike.ensures ∙ ap₂ (alike f (block_by p.blocks)) c.seat-right.ensures.tri c.seat-left.ensures.tri) ∙ c.if-not-are_alike.false) band there) in
    record {
      grows = grows_on p (parents_of c.args.sets.now) old new c.loop-band.invariant.grows step;
      met = λ b low high. ⊎_elim
          (λ e. subst (AreMetAt p new l) (sym e) (met_at p l t u sides new band (λ k. joined.joins)))
          (λ d. λ x y e g k. step.keeps (item_by p (piece_at f b x)) (item_by p (piece_at f b y)) (c.loop-band.invariant.met b low (omega (arith, high, d)) x y e g k))
          (cases_eq b band);
    }

pub returns-clause-met : goal.returns-clause-met
returns-clause-met c = λ b there.
    let r = of_range c.bands_of-first.result.0 c.bands_of-first.result.1 b (subst (λ bs. Contains bs b) c.bands_of-first.ensures.parts there) in
    c.loop-band.invariant.met b r.0 (omega (arith, r.1, c.loop-band-test.false))
