use Rattle.std.proofs.Common.{◌+◌, ◌/◌, ◌<◌, ◌∙◌, [], ◌∷◌, length, get_or, drop, refl, sym, ap, subst, arith, rules, w32}
use Rattle.std.proofs.lemmas.Int.{to_z-of_z}
use Rattle.std.proofs.lemmas.List.Elements.{All-head}
use Rattle.std.specs.Int.RustNames.{FitsSigned}
use Rattle.std.specs.List.{list_any}
use Rattle.chart_query.proofs.Answering.{off_edge, on_edge, placed}
use Rattle.chart_query.proofs.Looking.{Tells, tells, walk_begins, walk_goes_on, walk_meets, Walks, way_done, way_more}
use Rattle.chart_query.specs.Buckets.{HasBucket}
use Rattle.chart_query.specs.Owners.{toggled_by}
use Rattle.chart_query.specs.Sides.{is_on_side}
use Rattle.chart_query.specs.Split.{way_nodes}
use Rattle.chart_query.specs.declared.answer.Place.TheVariants.{Edge}
use Rattle.chart_query.proofs.location.Locator.at.Goals as goal

pub bucket-requires : goal.bucket-requires
bucket-requires c =
    let fits : FitsSigned w32 c.args.p.y = search rules in
    let ends = c.self.inside.buckets.ends.items in
    let sides = c.self.inside.buckets.sides.items in
    let bases = c.self.inside.split.bases.items in
    let all = way_nodes bases c.strip_of-strip.result in
    let told : Tells c.args.self.now c.args.p bases c.self.inside.split.heights ends sides c.strip_of-strip.result = tells c.self.inside.chart.now c.args.self.now c.args.p c.self.inside.heights.items c.deref.result.now bases c.self.inside.split.heights ends sides c.strip_of-strip.result _ c.self.view_is c.deref.ensures.value c.strip_of-strip.ensures (to_z-of_z w32 c.args.p.y fits) c.self.invariant in
    told.top

pub overflow_add-self-inside : goal.overflow_add-self-inside
overflow_add-self-inside c =
    let fits : FitsSigned w32 c.args.p.y = search rules in
    let ends = c.self.inside.buckets.ends.items in
    let sides = c.self.inside.buckets.sides.items in
    let bases = c.self.inside.split.bases.items in
    let all = way_nodes bases c.strip_of-strip.result in
    let told : Tells c.args.self.now c.args.p bases c.self.inside.split.heights ends sides c.strip_of-strip.result = tells c.self.inside.chart.now c.args.self.now c.args.p c.self.inside.heights.items c.deref.result.now bases c.self.inside.split.heights ends sides c.strip_of-strip.result _ c.self.view_is c.deref.ensures.value c.strip_of-strip.ensures (to_z-of_z w32 c.args.p.y fits) c.self.invariant in
    let last : c.self.inside.split.heights + c.strip_of-strip.result < length ends = told.top.last in
    omega (arith, last, c.self.inside.buckets.ends.ok, c.self.inside.buckets.ends.small)

pub returns-then-is_on_some-clause-computed : goal.returns-then-is_on_some-clause-computed
returns-then-is_on_some-clause-computed c =
    let fits : FitsSigned w32 c.args.p.y = search rules in
    let ends = c.self.inside.buckets.ends.items in
    let sides = c.self.inside.buckets.sides.items in
    let bases = c.self.inside.split.bases.items in
    let all = way_nodes bases c.strip_of-strip.result in
    let told : Tells c.args.self.now c.args.p bases c.self.inside.split.heights ends sides c.strip_of-strip.result = tells c.self.inside.chart.now c.args.self.now c.args.p c.self.inside.heights.items c.deref.result.now bases c.self.inside.split.heights ends sides c.strip_of-strip.result _ c.self.view_is c.deref.ensures.value c.strip_of-strip.ensures (to_z-of_z w32 c.args.p.y fits) c.self.invariant in
    on_edge c.args.self.now c.args.p Edge (told.on_top (ap (list_any (is_on_side c.args.p)) (sym c.bucket.ensures) ∙ sym c.is_on_some.ensures ∙ c.if-is_on_some.true)) refl

pub returns-then-is_on_some-clause-place : goal.returns-then-is_on_some-clause-place
returns-then-is_on_some-clause-place c = placed c.args.self.now c.args.p Edge (returns-then-is_on_some-clause-computed c)

pub loop-base-init : goal.loop-base-init
loop-base-init c =
    let fits : FitsSigned w32 c.args.p.y = search rules in
    let ends = c.self.inside.buckets.ends.items in
    let sides = c.self.inside.buckets.sides.items in
    let bases = c.self.inside.split.bases.items in
    let all = way_nodes bases c.strip_of-strip.result in
    let told : Tells c.args.self.now c.args.p bases c.self.inside.split.heights ends sides c.strip_of-strip.result = tells c.self.inside.chart.now c.args.self.now c.args.p c.self.inside.heights.items c.deref.result.now bases c.self.inside.split.heights ends sides c.strip_of-strip.result _ c.self.view_is c.deref.ensures.value c.strip_of-strip.ensures (to_z-of_z w32 c.args.p.y fits) c.self.invariant in
    walk_begins c.args.p ends sides all c.new-inside.result.items c.new-inside.ensures.items told.way

pub bucket-sides-requires : goal.bucket-sides-requires
bucket-sides-requires c =
    let ends = c.self.inside.buckets.ends.items in
    let sides = c.self.inside.buckets.sides.items in
    let bases = c.self.inside.split.bases.items in
    let all = way_nodes bases c.strip_of-strip.result in
    let left = way_nodes (drop (c.loop-base.base-index + 1) bases) (c.loop-base.node / 2) in
    let here = get_or c.deref-base-items.result.now c.loop-base.base-index 0 + c.loop-base.node in
    let walk : Walks c.args.p ends sides all (here ∷ left) c.loop-base.inside.items = subst (λ t. Walks c.args.p ends sides all t c.loop-base.inside.items) (way_more bases c.deref-base-items.result.now c.loop-base.base-index c.loop-base.node c.deref-base-items.ensures.value c.loop-base-test.true) c.loop-base.invariant in
    All-head (HasBucket ends sides) here left walk.there

pub overflow_add-base : goal.overflow_add-base
overflow_add-base c =
    let ends = c.self.inside.buckets.ends.items in
    let sides = c.self.inside.buckets.sides.items in
    let bases = c.self.inside.split.bases.items in
    let all = way_nodes bases c.strip_of-strip.result in
    let left = way_nodes (drop (c.loop-base.base-index + 1) bases) (c.loop-base.node / 2) in
    let here = get_or c.deref-base-items.result.now c.loop-base.base-index 0 + c.loop-base.node in
    let walk : Walks c.args.p ends sides all (here ∷ left) c.loop-base.inside.items = subst (λ t. Walks c.args.p ends sides all t c.loop-base.inside.items) (way_more bases c.deref-base-items.result.now c.loop-base.base-index c.loop-base.node c.deref-base-items.ensures.value c.loop-base-test.true) c.loop-base.invariant in
    let last : here < length ends = (All-head (HasBucket ends sides) here left walk.there).last in
    omega (arith, last, c.self.inside.buckets.ends.ok, c.self.inside.buckets.ends.small)

pub returns-then-is_on_some-2-clause-computed : goal.returns-then-is_on_some-2-clause-computed
returns-then-is_on_some-2-clause-computed c =
    let fits : FitsSigned w32 c.args.p.y = search rules in
    let ends = c.self.inside.buckets.ends.items in
    let sides = c.self.inside.buckets.sides.items in
    let bases = c.self.inside.split.bases.items in
    let all = way_nodes bases c.strip_of-strip.result in
    let told : Tells c.args.self.now c.args.p bases c.self.inside.split.heights ends sides c.strip_of-strip.result = tells c.self.inside.chart.now c.args.self.now c.args.p c.self.inside.heights.items c.deref.result.now bases c.self.inside.split.heights ends sides c.strip_of-strip.result _ c.self.view_is c.deref.ensures.value c.strip_of-strip.ensures (to_z-of_z w32 c.args.p.y fits) c.self.invariant in
    let left = way_nodes (drop (c.loop-base.base-index + 1) bases) (c.loop-base.node / 2) in
    let here = get_or c.deref-base-items.result.now c.loop-base.base-index 0 + c.loop-base.node in
    let walk : Walks c.args.p ends sides all (here ∷ left) c.loop-base.inside.items = subst (λ t. Walks c.args.p ends sides all t c.loop-base.inside.items) (way_more bases c.deref-base-items.result.now c.loop-base.base-index c.loop-base.node c.deref-base-items.ensures.value c.loop-base-test.true) c.loop-base.invariant in
    on_edge c.args.self.now c.args.p Edge (told.on_way (walk_meets c.args.p ends sides all here left c.loop-base.inside.items walk (ap (list_any (is_on_side c.args.p)) (sym c.bucket-sides.ensures) ∙ sym c.is_on_some-in-loop-base.ensures ∙ c.if-is_on_some-2.true))) refl

pub returns-then-is_on_some-2-clause-place : goal.returns-then-is_on_some-2-clause-place
returns-then-is_on_some-2-clause-place c = placed c.args.self.now c.args.p Edge (returns-then-is_on_some-2-clause-computed c)

pub loop-base-preserved : goal.loop-base-preserved
loop-base-preserved c =
    let ends = c.self.inside.buckets.ends.items in
    let sides = c.self.inside.buckets.sides.items in
    let bases = c.self.inside.split.bases.items in
    let all = way_nodes bases c.strip_of-strip.result in
    let left = way_nodes (drop (c.loop-base.base-index + 1) bases) (c.loop-base.node / 2) in
    let here = get_or c.deref-base-items.result.now c.loop-base.base-index 0 + c.loop-base.node in
    let walk : Walks c.args.p ends sides all (here ∷ left) c.loop-base.inside.items = subst (λ t. Walks c.args.p ends sides all t c.loop-base.inside.items) (way_more bases c.deref-base-items.result.now c.loop-base.base-index c.loop-base.node c.deref-base-items.ensures.value c.loop-base-test.true) c.loop-base.invariant in
    walk_goes_on c.args.p ends sides all here left c.loop-base.inside.items _ walk
    (ap (list_any (is_on_side c.args.p)) (sym c.bucket-sides.ensures) ∙ sym c.is_on_some-in-loop-base.ensures ∙ c.if-is_on_some-2.false)
    (c.in_ok-toggle_passing.ensures.toggled ∙ ap (toggled_by c.args.p c.loop-base.inside.items) c.bucket-sides.ensures)

pub returns-clause-computed : goal.returns-clause-computed
returns-clause-computed c =
    let fits : FitsSigned w32 c.args.p.y = search rules in
    let ends = c.self.inside.buckets.ends.items in
    let sides = c.self.inside.buckets.sides.items in
    let bases = c.self.inside.split.bases.items in
    let all = way_nodes bases c.strip_of-strip.result in
    let told : Tells c.args.self.now c.args.p bases c.self.inside.split.heights ends sides c.strip_of-strip.result = tells c.self.inside.chart.now c.args.self.now c.args.p c.self.inside.heights.items c.deref.result.now bases c.self.inside.split.heights ends sides c.strip_of-strip.result _ c.self.view_is c.deref.ensures.value c.strip_of-strip.ensures (to_z-of_z w32 c.args.p.y fits) c.self.invariant in
    let walk : Walks c.args.p ends sides all [] c.loop-base.inside.items = subst (λ t. Walks c.args.p ends sides all t c.loop-base.inside.items) (way_done bases c.deref-base-items.result.now c.loop-base.base-index c.loop-base.node c.deref-base-items.ensures.value (omega arith)) c.loop-base.invariant in
    off_edge c.args.self.now c.args.p c.off_edges.result c.loop-base.inside.items
    (told.on_none (ap (list_any (is_on_side c.args.p)) (sym c.bucket.ensures) ∙ sym c.is_on_some.ensures ∙ c.if-is_on_some.false) (sym walk.on))
    c.off_edges.ensures (told.found c.loop-base.inside.items walk)

pub returns-clause-place : goal.returns-clause-place
returns-clause-place c = placed c.args.self.now c.args.p c.off_edges.result (returns-clause-computed c)
