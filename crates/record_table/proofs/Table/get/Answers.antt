use Rattle.std.proofs.Common.{◌<◌, ◌∙◌, length, sym, arith}
use Rattle.std.specs.Prelude.{None}
use Rattle.std.proofs.lemmas.List.{get_or_read}
use Rattle.record_table.specs.Slots.{place_of}
use Rattle.record_table.proofs.Leading.{leads_inside, finds_nothing, finds_record}
use Rattle.record_table.proofs.Table.get.Goals as goal

pub returns-in_default : goal.returns-in_default
returns-in_default g c =
    rw (← c.self.view_is)
    (sym (finds_nothing g.X.Numbered.number c.self.inside.slots.items (place_of c.self.inside.places) c.self.invariant c.args.number (sym c.in_default.ensures.value)))

pub index-requires : goal.index-requires
index-requires g c =
    let below : c.in-Some.place.now < length c.self.inside.slots.items =
    leads_inside g.X.Numbered.number c.self.inside.slots.items (place_of c.self.inside.places) c.self.invariant c.args.number c.in-Some.place.now (sym c.in-Some.ensures.value) in
    omega (arith, c.self.inside.slots.ok.0)

pub returns : goal.returns
returns g c =
    let below : c.in-Some.place.now < length c.self.inside.slots.items =
    leads_inside g.X.Numbered.number c.self.inside.slots.items (place_of c.self.inside.places) c.self.invariant c.args.number c.in-Some.place.now (sym c.in-Some.ensures.value) in
    let read = get_or_read c.self.inside.slots.items c.in-Some.place.now c.index.result.now below c.index.ensures None in
    rw (← c.self.view_is)
    (c.as_ref.ensures.value ∙ read
    ∙ sym (finds_record g.X.Numbered.number c.self.inside.slots.items (place_of c.self.inside.places) c.self.invariant c.args.number c.in-Some.place.now (sym c.in-Some.ensures.value)))
