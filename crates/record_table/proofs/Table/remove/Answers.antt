use Rattle.std.proofs.Common.{◌<◌, length, sym, arith}
use Rattle.record_table.specs.Slots.{place_of}
use Rattle.record_table.proofs.Leading.{leads_inside, leads_removed, removes_nothing, removes_record}
use Rattle.record_table.proofs.Table.remove.Goals as goal

pub returns-in_default : goal.returns-in_default
returns-in_default g c =
    rw (← c.self.view_is)
    (removes_nothing g.X.Numbered.number c.self.inside.slots.items (place_of c.self.inside.places) c.self.invariant c.args.number (sym c.in_default.ensures.value))

pub index_mut-requires : goal.index_mut-requires
index_mut-requires g c =
    let below : c.in-Some.place < length c.self.inside.slots.items =
    leads_inside g.X.Numbered.number c.self.inside.slots.items (place_of c.self.inside.places) c.self.invariant c.args.number c.in-Some.place (sym c.in-Some.ensures.value) in
    omega (arith, c.self.inside.slots.ok.0)

pub invariant_of-self-2 : goal.invariant_of-self-2
invariant_of-self-2 g c =
    leads_removed g.X.Numbered.number c.self.inside.slots.items (place_of c.self.inside.places) c.self.invariant (place_of c.remove.new.self) c.args.number c.in-Some.place (sym c.in-Some.ensures.value) c.remove.ensures.updates.0

pub returns : goal.returns
returns g c =
    rw (← c.self.view_is)
    (removes_record g.X.Numbered.number c.self.inside.slots.items (place_of c.self.inside.places) c.self.invariant c.args.number c.in-Some.place (sym c.in-Some.ensures.value))
