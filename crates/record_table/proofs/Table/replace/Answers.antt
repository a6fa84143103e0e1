use Rattle.std.proofs.Common.{◌≡◌, ◌<◌, ◌∙◌, ap, length, sym, arith}
use Rattle.std.specs.Prelude.{Some, None}
use Rattle.record_table.specs.Slots.{place_of}
use Rattle.record_table.proofs.Leading.{leads_inside, leads_replaced, replaces_nothing, replaces_record}
use Rattle.record_table.proofs.Table.replace.Goals as goal

pub returns-in_default : goal.returns-in_default
returns-in_default g c =
    let none : place_of c.self.inside.places (g.X.Numbered.number c.args.item) ≡ None = ap (place_of c.self.inside.places) (sym c.number.ensures) ∙ sym c.in_default.ensures.value in
    rw (← c.self.view_is)
    (replaces_nothing g.X.Numbered.number c.self.inside.slots.items (place_of c.self.inside.places) c.self.invariant c.args.item none)

pub index_mut-requires : goal.index_mut-requires
index_mut-requires g c =
    let is : place_of c.self.inside.places (g.X.Numbered.number c.args.item) ≡ Some c.in-Some.place.now = ap (place_of c.self.inside.places) (sym c.number.ensures) ∙ sym c.in-Some.ensures.value in
    let below : c.in-Some.place.now < length c.self.inside.slots.items =
    leads_inside g.X.Numbered.number c.self.inside.slots.items (place_of c.self.inside.places) c.self.invariant (g.X.Numbered.number c.args.item) c.in-Some.place.now is in
    omega (arith, c.self.inside.slots.ok.0)

pub invariant_of-self : goal.invariant_of-self
invariant_of-self g c =
    let is : place_of c.self.inside.places (g.X.Numbered.number c.args.item) ≡ Some c.in-Some.place.now = ap (place_of c.self.inside.places) (sym c.number.ensures) ∙ sym c.in-Some.ensures.value in
    leads_replaced g.X.Numbered.number c.self.inside.slots.items (place_of c.self.inside.places) c.self.invariant c.args.item c.in-Some.place.now is

pub returns : goal.returns
returns g c =
    let is : place_of c.self.inside.places (g.X.Numbered.number c.args.item) ≡ Some c.in-Some.place.now = ap (place_of c.self.inside.places) (sym c.number.ensures) ∙ sym c.in-Some.ensures.value in
    rw (← c.self.view_is)
    (replaces_record g.X.Numbered.number c.self.inside.slots.items (place_of c.self.inside.places) c.self.invariant c.args.item c.in-Some.place.now is)
